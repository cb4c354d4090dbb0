-- `notices` meets its contract: the notices that are left make the whole.
use mathlib.Core.Path.{◌∙◌}
use Prim.Native.Nat.{◌+◌, ◌-◌}
use native.Mathlib.Omega.{arith}
use borrow.Author.Tests.{eq-eqb, ne_eqb}
use Rattle.def_fused.specs.FusedFinish.{notify_in}
use Rattle.fused_notices.proofs.Laws.{notify_one, notify_none}
use Rattle.fused_notices.proofs.notices.notices.Goals as goal

pub returns-in_default : goal.returns-in_default
returns-in_default c =
    λ buckets workers w.
    let l = c.loop in
    let a = c.args in
    let left = a.sizes.arcs - (l.counter + 1) in
    let f = c.tell.ensures buckets workers w (notify_in left a.sizes w a.note) in
    rw c.in_default.is at f
    ∙ notify_one _ _ _ _ _ left (a.sizes.arcs - l.counter) (omega arith)
    ∙ l.invariant.2 buckets workers w

pub returns-then-next : goal.returns-then-next
returns-then-next c =
    λ buckets workers w.
    let l = c.loop in
    let a = c.args in
    let left = a.sizes.arcs - (l.counter + 1) in
    let f = c.tell.ensures buckets workers w (notify_in left a.sizes w a.note) in
    rw (c.in-Some.is, eq-eqb _ _ c.if-next.true) at f
    ∙ notify_one _ _ _ _ _ left (a.sizes.arcs - l.counter) (omega arith)
    ∙ l.invariant.2 buckets workers w

pub loop-preserved : goal.loop-preserved
loop-preserved c =
    let a = c.args in
    let l = c.loop in
    let left = a.sizes.arcs - (l.counter + 1) in (
      c.tell.auto.jobs ∙ l.invariant.0,
      c.tell.auto.queue ∙ l.invariant.1,
      λ buckets workers w.
          let f = c.tell.ensures buckets workers w (notify_in left a.sizes w a.note) in
          rw (c.in-Some.is, ne_eqb _ _ c.if-next.false) at f
          ∙ notify_one _ _ _ _ _ left (a.sizes.arcs - l.counter) (omega arith)
          ∙ l.invariant.2 buckets workers w,
    )

pub returns : goal.returns
returns c =
    λ buckets workers w.
    let l = c.loop in
    notify_none _ _ _ _ _ (c.args.sizes.arcs - l.counter) (omega arith) ∙ l.invariant.2 buckets workers w
