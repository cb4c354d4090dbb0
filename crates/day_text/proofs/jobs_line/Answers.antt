-- `jobs_line` prints the first line.
use mathlib.Core.List.{append_assoc}
use native.Mathlib.Omega.{arith}
use Rattle.day_text.proofs.Laws.{next, numbered, moved_on, printed}
use Rattle.day_text.proofs.jobs_line.Goals as goal

pub emit_number-second-requires : goal.emit_number-second-requires
emit_number-second-requires c =
    omega (arith, moved_on _ _ _ _ c.emit_text-first.ensures)

pub emit_text-last-requires : goal.emit_text-last-requires
emit_text-last-requires c =
    omega (
      arith,
      moved_on _ _ _ _ c.emit_text-first.ensures,
      numbered _ _ _ _ c.emit_number-second.ensures,
    )

pub emit_last-requires : goal.emit_last-requires
emit_last-requires c =
    omega (
      arith,
      moved_on _ _ _ _
          c.emit_text-first.ensures,
      numbered _ _ _ _ c.emit_number-second.ensures,
      moved_on _ _ _ _ c.emit_text-last.ensures,
    )

pub returns : goal.returns
returns c =
    simp append_assoc (printed _ _ _ _ _ _ c.if-at-gt-MOST_OFFSET.false c.emit_text-first.ensures
    (next _ _ _ _ _ _ c.emit_number-second.ensures
    (next _ _ _ _ _ _ c.emit_text-last.ensures c.emit_last.ensures)))
