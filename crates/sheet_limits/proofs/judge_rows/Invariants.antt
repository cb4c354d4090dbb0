-- `judge_rows` finds the first entry with a fault, or the bytes of the sheet. The loop's invariant: the fault of the
-- rows left is the sheet's, and the sum with their bytes is the sheet's size; a row's entry takes no more bytes than
-- the row, so the sum fits.
use Prim.Native.Nat.{◌+◌, ◌*◌, ◌≤◌}
use mathlib.Core.Path.{◌≡◌}
use lib.ListN.{length}
use Rattle.def_sheets.specs.Write.{entries_from, sheet_fault}
use Rattle.thm_sheets.specs.SheetOffset.{sheet_so_far}
use Rattle.sheet_limits.proofs.Rows.{rest, rest_bytes, row_bytes}
use Rattle.sheet_limits.proofs.judge_rows.Given as goal

abbrev pub invariant-loop-entry : goal.invariant-loop-entry
invariant-loop-entry l =
    (l.sum ≤ row_bytes * l.entry)
    × (sheet_fault l.entry (rest l.rows l.entry l.n) ≡ sheet_fault 0 (entries_from l.rows 0 l.n))
    × (l.sum + length (rest_bytes l.rows l.entry l.n) ≡ length (sheet_so_far l.rows l.n))
