-- `graph_step_stores::adding::settle` meets its contract: its stores are the plan's.
use Rattle.def_words.specs.Words.{applied}
use Rattle.graph_step_stores.proofs.adding.settle.Goals as goal

pub returns-clause-stores : goal.returns-clause-stores
unfolding applied
returns-clause-stores c =
    rw (
      c.idle_worker.ensures,
      c.put_count.ensures,
      ← c.worker_word-note.ensures,
    )
