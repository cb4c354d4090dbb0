-- `tell` meets its contract: each plan's stores are the definition's, and a queued job's cell is below
-- the number of jobs, so that the counter is a word.
use native.Mathlib.Omega.{arith}
use Rattle.fused_notices.proofs.Laws.{seat_below}
use Rattle.fused_notices.proofs.notices.tell.Goals as goal

pub returns-in-NotifyQueue : goal.returns-in-NotifyQueue
returns-in-NotifyQueue c =
    λ buckets workers w next.
    let p = c.plan_notify in
    let e = c.in-NotifyQueue.is in
    let g = c.ranges in
    let h = seat_below _ _ _ _ (p.ensures buckets workers) e in
    rw (
      ← p.ensures,
      e,
      c.put_count-in-NotifyQueue.ensures,
      c.put_seat.ensures (omega (arith, h, g)),
    )
