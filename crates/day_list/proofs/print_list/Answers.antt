-- `print_list` prints what the day list prints, or that the sheet is broken.
use mathlib.Core.Path.{sym, ◌∙◌}
use borrow.Author.Tests.{le-leb, lt-leb}
use lib.ListN.{length}
use Rattle.def_numbers.specs.Numbers.{most_day_sheet}
use Rattle.def_sheets.specs.Decode.{decode_sheet}
use Rattle.def_day_lines.specs.Day.{day_text}
use Rattle.day_list.proofs.Days.{whole_day, whole_scanned, broken_scanned}
use Rattle.day_list.proofs.print_list.Goals as goal

pub returns-then-sheet-gt-MOST_DAY_SHEET : goal.returns-then-sheet-gt-MOST_DAY_SHEET
unfolding day_text
returns-then-sheet-gt-MOST_DAY_SHEET c =
    let a = c.args in
    rw (lt-leb (length a.sheet.now) most_day_sheet c.if-sheet-gt-MOST_DAY_SHEET.true)
    c.broken_line.ensures

pub returns-in-Ok : goal.returns-in-Ok
unfolding day_text
returns-in-Ok c =
    let a = c.args in
    let q = c.requires in
    let w = whole_scanned (decode_sheet a.sheet.now) _
    (sym c.scan_sheet.ensures
    ∙ c.in-Ok.is) in
    let h = c.if-sheet-gt-MOST_DAY_SHEET.false in
    rw (le-leb (length a.sheet.now) most_day_sheet h, w)
    (whole_day a.workers q.0 q.1 a.limit a.out.now a.sheet.now _ _ w h
    c.print_day.ensures)

pub returns-in-Err : goal.returns-in-Err
unfolding day_text
returns-in-Err c =
    let a = c.args in
    let w = broken_scanned (decode_sheet a.sheet.now) _
    (sym c.scan_sheet.ensures
    ∙ c.in-Err.is) in
    rw (
      le-leb (length a.sheet.now) most_day_sheet
          c.if-sheet-gt-MOST_DAY_SHEET.false,
      w,
    )
    c.broken_line-in-Err.ensures
