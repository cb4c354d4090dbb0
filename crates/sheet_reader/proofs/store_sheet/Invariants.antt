-- `store_sheet` stores the rows of a sheet. The loop's invariant is `Left`: the rows that are left make the whole.
use Rattle.std.proofs.Common.{◌-◌, length}
use Rattle.sheet_reader.proofs.Rows.{Left}
use Rattle.sheet_reader.proofs.store_sheet.Given as goal

abbrev pub invariant-loop-scanned : goal.invariant-loop-scanned
invariant-loop-scanned l = Left l.s l.initial.rows l.rows l.at l.from

abbrev pub decreases-loop-scanned : goal.decreases-loop-scanned
decreases-loop-scanned l = length l.s - l.at
