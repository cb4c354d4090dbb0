-- `print_hand_outs` prints the hand-outs of a row. The loop's invariant: those that are left, printed after those made,
-- make the whole.
use Prim.Native.Nat.{suc, ◌-◌}
use mathlib.Core.Path.{◌≡◌, ◌∙◌}
use native.Mathlib.Omega.{arith}
use native.Mathlib.Numerals.{add-one}
use borrow.Author.Tests.{lt-leb, le-leb}
use Rattle.day_end.proofs.print.Lines.{print_first, print_none, none_held}
use Rattle.day_end.proofs.print.print_hand_outs.Goals as goal

pub loop-i-preserved : goal.loop-i-preserved
loop-i-preserved c =
    let l = c.loop-i in
    let a = c.args in
    let k : a.count - l.i ≡ suc (a.count - suc l.i) = omega (arith, c.loop-i-test.true) in
    let s = print_first a.limit _ _ (a.count - suc l.i) l.i a.row.now c.handed_line-offset.ensures in
    rw (add-one l.i) (s ∙ rw k at l.invariant)

pub returns-then-row-count : goal.returns-then-row-count
returns-then-row-count c = rw (lt-leb _ _ c.if-row-count.true, none_held)

pub returns : goal.returns
returns c =
    let l = c.loop-i in
    let k : c.args.count - l.i ≡ 0 = omega (arith, c.loop-i-test.false) in
    rw (le-leb _ _ c.if-row-count.false) (rw (k, print_none) at l.invariant)
