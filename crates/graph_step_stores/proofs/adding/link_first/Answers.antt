-- `graph_step_stores::adding::link_first` meets its contract: its stores are the plan's.
use Rattle.def_words.specs.Words.{applied}
use Rattle.graph_step_stores.proofs.adding.link_first.Goals as goal

pub returns-clause-stores : goal.returns-clause-stores
unfolding applied
returns-clause-stores c =
    λ h.
    rw (
      c.count_place.ensures h,
      c.new_arc.ensures,
      c.put_only_arc.ensures,
    )
