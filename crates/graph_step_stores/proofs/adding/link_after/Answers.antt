-- `graph_step_stores::adding::link_after` meets its contract: its stores are the plan's.
use Rattle.def_words.specs.Words.{applied}
use Rattle.graph_step_stores.proofs.adding.link_after.Goals as goal

pub returns-clause-stores : goal.returns-clause-stores
unfolding applied
returns-clause-stores c =
    λ h.
    rw (
      c.count_place.ensures h,
      c.append_arc.ensures,
      c.put_job.ensures,
    )
