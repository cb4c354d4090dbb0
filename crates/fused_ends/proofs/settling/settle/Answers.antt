-- `settle` meets its contract: each way through the code is a case of the definition; a cell is below
-- the number of jobs, so that the counter is a word.
use native.Mathlib.Omega.{arith}
use Rattle.thm_counters_fit.specs.Seats.{seated_below}
use Rattle.fused_ends.proofs.settling.settle.Goals as goal

pub returns : goal.returns
returns c =
    λ arcs buckets workers w held stopped.
    let g = c.ranges in
    let e = c.in-Seated.is in
    let r = c.seat_for.ensures arcs buckets workers in
    let h = seated_below _ _ _ r e in
    rw (
      c.in_ok-linked.was,
      ← c.saturating_sub-left.ensures,
      c.if-not-settles.false,
      ← r,
      e,
      c.put_seat.ensures (omega (arith, h, g)),
      c.put_count-2.ensures,
    )
