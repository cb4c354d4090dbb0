-- `write_sheet` answers and leaves what `write_sheet` says, for all rows and every output.
use Prim.Native.Nat.{ℕ, ◌/◌}
use mathlib.Core.List.{List}
use Rattle.std.specs.Prelude.{Ok}
use Rattle.sheet_limits.specs.Judge.{sheet_judged}
use mathlib.Core.Path.{◌≡◌, sym, ◌∙◌}
use native.Mathlib.Nat.{zero-add}
use native.Mathlib.Omega.{arith}
use lib.ListN.{length, length-map}
use borrow.Author.Tests.{eq-eqb, ne_eqb, le-leb, lt-leb}
use Rattle.def_numbers.specs.Numbers.{entry_words}
use Rattle.def_sheets.specs.Write.{SheetFault, sheet_fault, write_sheet, job_of, entries_of}
use Rattle.def_sheets.proofs.CodeLaws.{length_entries_from}
use Rattle.sheet_limits.proofs.Judging.{sheet_refused, sheet_takes}
use Rattle.thm_sheets.specs.SheetOffset.{sheet_so_far}
use Rattle.sheet_writer.proofs.write_sheet.Goals as goal

-- what the judgement says of a sheet that takes so many bytes
takes_at : (rows : List ℕ) (bytes : ℕ) → sheet_judged (entries_of rows) ≡ Ok bytes
    → (sheet_fault 0 (entries_of rows) ≡ SheetFault.none)
    × (length (sheet_so_far rows (length rows / entry_words)) ≡ bytes)
takes_at rows bytes e = sheet_takes (entries_of rows) bytes e

pub returns-then-rows-ne0 : goal.returns-then-rows-ne0
unfolding write_sheet
returns-then-rows-ne0 c = rw (ne_eqb _ _ c.if-rows-ne0.true)

pub returns-in-Err : goal.returns-in-Err
unfolding write_sheet
returns-in-Err c =
    let rows = c.args.rows.now in
    let h = sym c.judge_sheet.ensures ∙ c.in-Err.is in
    let f = sheet_refused (entries_of rows) _ _ h in
    rw (eq-eqb _ _ c.if-rows-ne0.false, f)

pub returns-then-out-bytes : goal.returns-then-out-bytes
unfolding write_sheet
returns-then-out-bytes c =
    let a = c.args in
    let rows = a.rows.now in
    let t = takes_at rows _ (sym c.judge_sheet.ensures ∙ c.in-Ok.is) in
    let short = lt-leb (length (sheet_so_far rows (length rows / entry_words))) (length a.out.now) (omega arith) in
    rw (eq-eqb _ _ c.if-rows-ne0.false, t.0, short)

pub put_rows-bytes-requires : goal.put_rows-bytes-requires
put_rows-bytes-requires c =
    let t = takes_at c.args.rows.now _ (sym c.judge_sheet.ensures ∙ c.in-Ok.is) in
    (omega arith, t.0, omega arith)

pub returns : goal.returns
unfolding write_sheet
returns c =
    let a = c.args in
    let rows = a.rows.now in
    let t = takes_at rows _ (sym c.judge_sheet.ensures ∙ c.in-Ok.is) in
    let f = c.put_rows-bytes.ensures in
    let k = length-map (entries_of rows) job_of ∙ length_entries_from rows 0 (length rows / entry_words) in
    let fits = le-leb (length (sheet_so_far rows (length rows / entry_words))) (length a.out.now) (omega arith) in
    rw (
      eq-eqb _ _ c.if-rows-ne0.false,
      t.0,
      fits,
      k,
      f.stored,
      f.past,
      zero-add,
    )
