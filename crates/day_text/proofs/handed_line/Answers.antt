-- `handed_line` prints a middle line.
use mathlib.Core.List.{append_assoc}
use native.Mathlib.Omega.{arith}
use Rattle.day_text.proofs.Laws.{next, numbered, moved_on, printed}
use Rattle.day_text.proofs.handed_line.Goals as goal

pub emit-last-requires : goal.emit-last-requires
emit-last-requires c =
    omega (arith, numbered _ _ _ _ c.emit_number-next.ensures)

pub emit_two-requires : goal.emit_two-requires
emit_two-requires c =
    omega (
      arith,
      numbered _ _ _ _ c.emit_number-next.ensures,
      moved_on _ _ _ _ c.emit-last.ensures,
    )

pub returns : goal.returns
returns c =
    rw append_assoc (printed _ _ _ _ _ _ c.if-at-gt-MOST_OFFSET.false c.emit_number-next.ensures
    (next _ _ _ _ _ _ c.emit-last.ensures c.emit_two.ensures))
