-- `left_line` prints the last line.
use native.Mathlib.Omega.{arith}
use Rattle.day_text.proofs.Laws.{moved_on, printed}
use Rattle.day_text.proofs.left_line.Goals as goal

pub emit_last-requires : goal.emit_last-requires
emit_last-requires c = omega (arith, moved_on _ _ _ _ c.emit_text-last.ensures)

pub returns : goal.returns
returns c =
    printed _ _ _ _ _ _ c.if-at-gt-MOST_OFFSET.false c.emit_text-last.ensures
    c.emit_last.ensures
