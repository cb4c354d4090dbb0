-- `room` answers what a sheet that can be read comes to. The loop's invariant is `Left`: after the accepted entries,
-- those that are left come to what the sheet does.
use Rattle.std.proofs.Common.{◌-◌, length}
use Rattle.sheet_room.proofs.Left.{Left}
use Rattle.sheet_room.proofs.room.Given as goal

abbrev pub invariant-loop-scanned : goal.invariant-loop-scanned
invariant-loop-scanned l = Left l.sheet l.names l.list l.arcs l.at

abbrev pub decreases-loop-scanned : goal.decreases-loop-scanned
decreases-loop-scanned l = length l.sheet - l.at
