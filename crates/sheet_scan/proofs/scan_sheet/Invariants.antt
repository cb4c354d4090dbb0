-- `scan_sheet` counts the entries of a sheet. The loop's invariant: the entries counted and those that are left make
-- the whole.
use Prim.Native.Nat.{◌≤◌, ◌-◌}
use mathlib.Core.Path.{◌≡◌}
use lib.ListN.{length}
use Rattle.def_sheets.specs.Decode.{decode_sheet, scan_sheet}
use Rattle.sheet_scan.proofs.Sheets.{rest, counted}
use Rattle.sheet_scan.proofs.scan_sheet.Given as goal

abbrev pub invariant-loop-scanned : goal.invariant-loop-scanned
invariant-loop-scanned l =
    (l.at ≤ length l.s) × (l.entries ≤ l.at) × (counted l.entries (scan_sheet (rest l.s l.at)) ≡ scan_sheet (decode_sheet l.s))

abbrev pub decreases-loop-scanned : goal.decreases-loop-scanned
decreases-loop-scanned l = length l.s - l.at
