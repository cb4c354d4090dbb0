-- `scan_sheet` counts the entries of a sheet. The loop's invariant: the entries counted and those that are left make
-- the whole.
use Rattle.std.proofs.Common.{rules, arith, add-zero}
use Rattle.std.proofs.lemmas.Result.{err_from_is_err_and}
use Rattle.sheet_scan.proofs.Sheets.{rest_start, rest_on, counted_none, counted_more}
use Rattle.entry_scan.proofs.Entries.{scan_job, scan_end, scan_refused}
use Rattle.sheet_scan.proofs.scan_sheet.Goals as goal

pub loop-scanned-init : goal.loop-scanned-init
loop-scanned-init c = (search rules, search rules, rw (rest_start, counted_none))

pub loop-scanned-smaller : goal.loop-scanned-smaller
loop-scanned-smaller c = omega (arith, scan_job c.in_ok-scanned.ensures c.in-Some.is)

pub loop-scanned-preserved : goal.loop-scanned-preserved
loop-scanned-preserved c =
    let e = scan_job c.in_ok-scanned.ensures c.in-Some.is in
    let k = c.loop-scanned.invariant.2 in
    (e.reach.within, omega arith, rw (rest_on, e.entry, counted_more) at k)

pub returns : goal.returns
returns c =
    let k = c.loop-scanned.invariant.2 in
    rw (rest_on, scan_end _ _ c.in_ok-scanned.ensures c.in_default.is, add-zero) at k

pub returns-in_err-scanned : goal.returns-in_err-scanned
returns-in_err-scanned c =
    let k = c.loop-scanned.invariant.2 in
    let p = err_from_is_err_and c.from_residual.result c.from_residual.ensures.1 in
    rw (p.1, p.2) (rw (rest_on, scan_refused _ _ c.in_err-scanned.ensures) at k)
