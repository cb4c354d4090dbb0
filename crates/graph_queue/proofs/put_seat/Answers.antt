-- `graph_queue::put_seat` meets its contract: its stores are the definition's, and the counter is a word.
use native.Mathlib.Omega.{arith}
use Rattle.def_words.specs.Index.{put_seat}
use Rattle.graph_queue.proofs.put_seat.Goals as goal

pub returns : goal.returns
unfolding put_seat
returns c =
    λ h.
    rw (
      c.put_header.ensures,
      c.shift_down.ensures,
      c.put_queue.ensures,
      c.sum.ensures (omega arith),
    )
