-- `broken_line` prints the line of a sheet that cannot be read.
use native.Mathlib.Omega.{arith}
use Rattle.day_text.proofs.Laws.{moved_on, printed}
use Rattle.day_text.proofs.broken_line.Goals as goal

pub emit_two-requires : goal.emit_two-requires
emit_two-requires c = omega (arith, moved_on _ _ _ _ c.emit_text-next.ensures)

pub returns : goal.returns
returns c =
    printed _ _ _ _ _ _ c.if-at-gt-MOST_OFFSET.false c.emit_text-next.ensures
    c.emit_two.ensures
