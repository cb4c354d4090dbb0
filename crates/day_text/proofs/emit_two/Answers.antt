-- `emit_two` prints two numbers that end a line.
use mathlib.Core.List.{append_assoc}
use native.Mathlib.Omega.{arith}
use Rattle.day_text.proofs.Laws.{next, numbered, moved_on}
use Rattle.day_text.proofs.emit_two.Goals as goal

pub emit-last-requires : goal.emit-last-requires
emit-last-requires c = omega (arith, numbered _ _ _ _ c.emit_number-next.ensures)

pub emit_last-requires : goal.emit_last-requires
emit_last-requires c =
    omega (
      arith,
      numbered _ _ _ _ c.emit_number-next.ensures,
      moved_on _ _ _ _ c.emit-last.ensures,
    )

pub returns : goal.returns
returns c =
    rw append_assoc
    (next _ _ _ _ _ _
    c.emit_number-next.ensures
    (next _ _ _ _ _ _ c.emit-last.ensures
    c.emit_last.ensures))
