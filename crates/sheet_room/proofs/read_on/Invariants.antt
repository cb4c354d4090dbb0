-- `read_on` reads the rest of a sheet. The loop's invariant: from each entry on the answer is the same.
use Rattle.std.proofs.Common.{◌≡◌, ◌-◌, length}
use Rattle.sheet_scan.proofs.Sheets.{rest}
use Rattle.sheet_room.specs.Verdicts.{readable}
use Rattle.sheet_room.proofs.read_on.Given as goal

abbrev pub invariant-loop-scanned : goal.invariant-loop-scanned
invariant-loop-scanned l = readable (rest l.sheet l.at) ≡ readable (rest l.sheet l.from)

abbrev pub decreases-loop-scanned : goal.decreases-loop-scanned
decreases-loop-scanned l = length l.sheet - l.at
