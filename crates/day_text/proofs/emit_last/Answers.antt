-- `emit_last` prints a number that ends a line.
use native.Mathlib.Omega.{arith}
use Rattle.day_text.proofs.Laws.{next, numbered}
use Rattle.day_text.proofs.emit_last.Goals as goal

pub emit-requires : goal.emit-requires
emit-requires c = omega (arith, numbered _ _ _ _ c.emit_number-next.ensures)

pub returns : goal.returns
returns c =
    next _ _ _ _ _ _ c.emit_number-next.ensures
    c.emit.ensures
