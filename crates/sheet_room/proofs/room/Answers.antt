-- `room` answers what a sheet that can be read comes to. The loop's invariant is `Left`: after the accepted entries,
-- those that are left come to what the sheet does.
use Rattle.std.proofs.Common.{refl, ◌∙◌, sym, arith, length-take-le}
use Rattle.std.proofs.lemmas.Result.{err_from_is_err_and}
use Rattle.def_numbers.specs.Numbers.{name_bytes}
use Rattle.entry_scan.proofs.Entries.{scan_job, scan_end, scan_refused}
use Rattle.sheet_room.proofs.Judged.{prefix_stored, length_stored}
use Rattle.sheet_room.proofs.Left.{left_start, left_none, left_broken, left_unreadable, left_room, left_refused, left_more}
use Rattle.sheet_room.proofs.Rooms.{rest_is}
use Rattle.sheet_room.proofs.room.Goals as goal

pub loop-scanned-init : goal.loop-scanned-init
loop-scanned-init c = rw c.new-names.ensures (left_start _ _ refl)

pub returns : goal.returns
returns c =
    rw c.len-jobs.ensures.count
    (left_none c.loop-scanned.invariant (scan_end _ _ c.in_ok-scanned.ensures c.in_default.is))

pub returns-in_err-scanned : goal.returns-in_err-scanned
returns-in_err-scanned c =
    let p = err_from_is_err_and c.from_residual.result c.from_residual.ensures.1 in
    rw (p.1, p.2) (left_broken c.loop-scanned.invariant (scan_refused _ _ c.in_err-scanned.ensures))

pub slice_bounds-list-end : goal.slice_bounds-list-end
slice_bounds-list-end c =
    omega (arith, (scan_job c.in_ok-scanned.ensures c.in-Some.is).reach.most, c.loop-scanned.invariant.places)

pub slice_bounds-store_names-end : goal.slice_bounds-store_names-end
slice_bounds-store_names-end c =
    let h = (scan_job c.in_ok-scanned.ensures c.in-Some.is).reach.most in
    sym (length-take-le _ _ (omega (arith, h, c.loop-scanned.invariant.places)))

pub store_names-requires : goal.store_names-requires
store_names-requires c =
    let e = scan_job c.in_ok-scanned.ensures c.in-Some.is in
    let k = length-take-le c.in-Some.scanned.numbers.count c.loop-scanned.list
    (omega (arith, e.reach.most, c.loop-scanned.invariant.places)) in
    rw k e.reach.names

pub returns-in_err-read_on : goal.returns-in_err-read_on
returns-in_err-read_on c =
    let p = err_from_is_err_and c.from_residual-in_err-read_on.result c.from_residual-in_err-read_on.ensures.1 in
    let e = scan_job c.in_ok-scanned.ensures c.in-Some.is in
    rw (p.1, p.2) (left_unreadable c.loop-scanned.invariant e (rw rest_is (sym c.in_err-read_on.ensures)))

pub returns-in-Err : goal.returns-in-Err
returns-in-Err c =
    let l = c.loop-scanned.invariant in
    let e = scan_job c.in_ok-scanned.ensures c.in-Some.is in
    let k = length-take-le c.in-Some.scanned.numbers.count c.loop-scanned.list (omega (arith, e.reach.most, l.places)) in
    rw c.len.ensures.count
    (left_refused l e _ _ (rw c.store_names.ensures (prefix_stored name_bytes _ _ _ _ k _)) c.judge.ensures c.in-Err.is
    (rw rest_is (sym c.in_ok-read_on.ensures)))

pub enter-requires : goal.enter-requires
enter-requires c =
    let l = c.loop-scanned.invariant in
    let e = scan_job c.in_ok-scanned.ensures c.in-Some.is in
    let k = length-take-le c.in-Some.scanned.numbers.count c.loop-scanned.list (omega (arith, e.reach.most, l.places)) in
    (left_room l e _ _ (rw c.store_names.ensures (prefix_stored name_bytes _ _ _ _ k _)) c.judge.ensures c.in_default-judge.is).0

pub overflow_add-arcs : goal.overflow_add-arcs
overflow_add-arcs c =
    omega (arith, (scan_job c.in_ok-scanned.ensures c.in-Some.is).reach.most, c.loop-scanned.invariant.few)

pub loop-scanned-smaller : goal.loop-scanned-smaller
loop-scanned-smaller c = omega (arith, scan_job c.in_ok-scanned.ensures c.in-Some.is)

pub loop-scanned-preserved : goal.loop-scanned-preserved
loop-scanned-preserved c =
    let l = c.loop-scanned.invariant in
    let e = scan_job c.in_ok-scanned.ensures c.in-Some.is in
    let k = length-take-le c.in-Some.scanned.numbers.count c.loop-scanned.list (omega (arith, e.reach.most, l.places)) in
    rw (c.enter.ensures, c.store_names.ensures)
    (left_more l e _ _ (prefix_stored name_bytes _ _ _ _ k _) (rw c.store_names.ensures at c.judge.ensures)
    (length_stored name_bytes _ _ _ _ k _ (omega (arith, e.reach.most, l.places)) ∙ l.places) c.in_default-judge.is)
