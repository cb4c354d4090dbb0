-- `graph_step_stores::finishing::notify` meets its contract: its stores are the plan's.
use Rattle.def_words.specs.Words.{applied}
use Rattle.graph_step_stores.proofs.finishing.notify.Goals as goal

pub returns-clause-stores : goal.returns-clause-stores
unfolding applied
returns-clause-stores c =
    rw (
      c.arcs_from.ensures,
      c.put_count.ensures,
      ← c.worker_word-note.ensures,
    )
