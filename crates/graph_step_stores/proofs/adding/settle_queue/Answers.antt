-- `graph_step_stores::adding::settle_queue` meets its contract: its stores are the plan's.
use Rattle.def_words.specs.Words.{applied}
use Rattle.graph_step_stores.proofs.adding.settle_queue.Goals as goal

pub returns-clause-stores : goal.returns-clause-stores
unfolding applied
returns-clause-stores c =
    λ h.
    rw (
      c.idle_worker.ensures,
      c.put_seat.ensures h,
      c.put_count.ensures,
      ← c.worker_word-note.ensures,
    )
