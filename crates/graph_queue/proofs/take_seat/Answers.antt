-- `graph_queue::take_seat` meets its contract: its stores are the definition's, and the counter is a word.
use native.Mathlib.Omega.{arith}
use Rattle.def_words.specs.Index.{take_seat}
use Rattle.graph_queue.proofs.take_seat.Goals as goal

pub returns : goal.returns
unfolding take_seat
returns c =
    λ h.
    rw (
      c.put_header.ensures,
      c.put_queue-3.ensures,
      c.put_queue-2.ensures,
      c.put_queue.ensures,
      c.shift_up.ensures,
      c.queue_word-moved.ensures,
      c.sum.ensures (let k = rw (← c.header-taken.ensures) at h in omega arith),
      c.header-taken.ensures,
    )
