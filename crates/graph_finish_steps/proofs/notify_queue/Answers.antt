-- `graph_finish_steps::notify_queue` meets its contract: each way through the code is a case of the definition.
use Rattle.def_words.specs.Words.{with_seat}
use Rattle.graph_finish_steps.proofs.notify_queue.Goals as goal

pub returns-in-Seated : goal.returns-in-Seated
unfolding with_seat
returns-in-Seated c =
    λ arcs buckets workers.
    rw (
      ← c.seat_for-seating.ensures arcs buckets workers,
      c.in-Seated.is,
    )

pub returns-in-Unseated : goal.returns-in-Unseated
unfolding with_seat
returns-in-Unseated c =
    λ arcs buckets workers.
    rw (
      ← c.seat_for-seating.ensures arcs buckets workers,
      c.in-Unseated.is,
    )
