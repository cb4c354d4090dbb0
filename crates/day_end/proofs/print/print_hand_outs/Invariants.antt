-- `print_hand_outs` prints the hand-outs of a row. The loop's invariant: those that are left, printed after those made,
-- make the whole.
use Prim.Native.Nat.{◌-◌}
use mathlib.Core.Path.{◌≡◌}
use Rattle.day_text.specs.Page.{page}
use Rattle.day_end.proofs.print.Lines.{rest}
use Rattle.day_end.proofs.print.print_hand_outs.Given as goal

abbrev pub invariant-loop-i : goal.invariant-loop-i
invariant-loop-i l =
    rest l.limit (page l.offset l.out) (l.count - l.i) l.i l.row ≡ rest l.limit (page l.at l.initial.out) l.count 0 l.row
