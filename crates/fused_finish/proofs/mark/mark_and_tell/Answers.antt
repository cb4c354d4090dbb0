-- `mark_and_tell` meets its contract: the mark, and then the notices or the end; any other plan is a
-- refusal.
use borrow.Author.Tests.{eq-eqb, ne_eqb}
use Rattle.def_fused.specs.FusedFinish.{mark_in}
use Rattle.fused_finish.proofs.Halts.{halts}
use Rattle.fused_finish.proofs.mark.mark_and_tell.Goals as goal

pub returns-then-first : goal.returns-then-first
unfolding mark_in
returns-then-first c =
    λ h buckets.
    rw (
      ← c.plan_mark.ensures,
      c.in-Mark.is,
      eq-eqb _ _ c.if-first.true,
      c.put_outcome.ensures,
      c.put_bare_worker-then-first.ensures,
    )

pub returns : goal.returns
unfolding mark_in
returns c =
    λ h buckets.
    rw (
      ← c.plan_mark.ensures,
      c.in-Mark.is,
      ne_eqb _ _ c.if-first.false,
      c.close.ensures,
      c.notices-ending.ensures,
      c.put_outcome.ensures,
    )

pub returns-in_default : goal.returns-in_default
returns-in_default c =
    λ h buckets.
    let a = c.args in
    rw (
      ← c.plan_mark.ensures,
      c.put_bare_worker.ensures,
      h,
    )
    (halts c.plan_mark.result c.in_default.not-Mark a.sizes _ a.worker a.note)
