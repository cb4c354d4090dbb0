-- `graph_step_stores::finishing::notify_queue` meets its contract: its stores are the plan's.
use Rattle.def_words.specs.Words.{applied}
use Rattle.graph_step_stores.proofs.finishing.notify_queue.Goals as goal

pub returns-clause-stores : goal.returns-clause-stores
unfolding applied
returns-clause-stores c =
    λ h.
    rw (
      c.arcs_from.ensures,
      c.put_seat.ensures h,
      c.put_count.ensures,
      ← c.worker_word-note.ensures,
    )
