-- `read_on` reads the rest of a sheet. The loop's invariant: from each entry on the answer is the same.
use Rattle.std.proofs.Common.{arith}
use Rattle.std.proofs.lemmas.Result.{err_from_is_err_and}
use Rattle.entry_scan.proofs.Entries.{scan_job, scan_end, scan_refused}
use Rattle.sheet_scan.proofs.Sheets.{rest_on}
use Rattle.sheet_room.proofs.Rooms.{rest_is, readable_before}
use Rattle.sheet_room.proofs.read_on.Goals as goal

pub loop-scanned-smaller : goal.loop-scanned-smaller
loop-scanned-smaller c = omega (arith, scan_job c.in_ok-scanned.ensures c.in-Some.is)

pub loop-scanned-preserved : goal.loop-scanned-preserved
loop-scanned-preserved c =
    let e = scan_job c.in_ok-scanned.ensures c.in-Some.is in
    let k = c.loop-scanned.invariant in
    rw (rest_on, e.entry, readable_before) at k

pub returns : goal.returns
returns c =
    let k = c.loop-scanned.invariant in
    rw (rest_on, scan_end _ _ c.in_ok-scanned.ensures c.in_default.is, rest_is) at k

pub returns-in_err-scanned : goal.returns-in_err-scanned
returns-in_err-scanned c =
    let k = c.loop-scanned.invariant in
    let p = err_from_is_err_and c.from_residual.result c.from_residual.ensures.1 in
    rw (p.1, p.2) (rw (rest_on, scan_refused _ _ c.in_err-scanned.ensures, rest_is) at k)
