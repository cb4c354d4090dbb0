-- `store_sheet` stores the rows of a sheet. The loop's invariant is `Left`: the rows that are left make the whole.
use Rattle.std.proofs.Common.{arith}
use Rattle.sheet_reader.proofs.Rows.{row_words, left_start, left_room, left_more, left_none, left_sound}
use Rattle.def_sheets.proofs.NumberLaws.{length_names_at}
use Rattle.entry_scan.proofs.Entries.{scan_job, scan_end}
use Rattle.sheet_reader.proofs.store_sheet.Goals as goal

pub loop-scanned-init : goal.loop-scanned-init
loop-scanned-init c = left_start _ _ _ c.requires.0 c.requires.1

pub slice_bounds-row-end : goal.slice_bounds-row-end
slice_bounds-row-end c =
    let l = c.loop-scanned.invariant in
    let e = scan_job (left_sound l c.scan_again.ensures) c.in-Some.is in left_room l e.entry

pub store_row-requires : goal.store_row-requires
store_row-requires c =
    let l = c.loop-scanned.invariant in
    let e = scan_job (left_sound l c.scan_again.ensures) c.in-Some.is in
    record { names = (e.reach.most, e.reach.names); words = row_words _ _ (left_room l e.entry) }

pub loop-scanned-smaller : goal.loop-scanned-smaller
loop-scanned-smaller c =
    omega (arith, scan_job (left_sound c.loop-scanned.invariant c.scan_again.ensures) c.in-Some.is)

pub loop-scanned-preserved : goal.loop-scanned-preserved
loop-scanned-preserved c =
    let l = c.loop-scanned.invariant in
    let e = scan_job (left_sound l c.scan_again.ensures) c.in-Some.is in
    left_more l e.entry (rw length_names_at e.reach.most) (rw length_names_at (rw length_names_at at c.store_row.ensures))

pub returns : goal.returns
returns c =
    let l = c.loop-scanned.invariant in
    left_none l (scan_end _ _ (left_sound l c.scan_again.ensures) c.in_default.is) c.requires.0 c.requires.1
