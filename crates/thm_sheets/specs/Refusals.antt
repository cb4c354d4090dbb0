-- A refusal changes nothing: the output of a refused writing and the rows of a refused reading are as they were
-- (docs/RULES.md, "Turned-away calls", numbers 1 and 12 to 15).
use Rattle.std.specs.Prelude.{ℕ, ◌+◌, ◌*◌, ◌%◌, ◌≡◌, refl, List, map, length, leb, eqb}
use Rattle.def_numbers.specs.Numbers.{entry_words}
use Rattle.def_basics.specs.Laws.{never}
use Rattle.def_sheets.specs.Job.{Job, encode, encode_sheet}
use Rattle.def_sheets.specs.Decode.{Sheet, jobs, broken, SheetRows, read_sheet}
use Rattle.def_sheets.specs.Write.{job_of, Fault, fault_of, Written, write_judged, write_entry, entries_of}
use Rattle.def_sheets.specs.Write.{SheetFault, sheet_fault, SheetWritten, write_sheet_judged, write_sheet}
use Rattle.def_sheets.specs.Choice.{picked}
use Rattle.def_sheets.specs.declared.Entry.{Entry}
use Rattle.def_sheets.specs.declared.Wrote.{Wrote}
use Rattle.std.specs.Prelude.{Ok, Err}
use Rattle.def_sheets.specs.Decode.{SheetRead, refusal}
use Rattle.def_sheets.specs.declared.SheetWrote.{SheetWrote}

pub entry_refused : (e : Entry) (out : List ℕ) (start c a : ℕ) → (write_entry e out start).answer ≡ Wrote.Refused c a
    → (write_entry e out start).out ≡ out
unfolding write_entry
entry_refused e out start c a h = by_fault (fault_of e) h
  where
    Kept : Written → Type 0
    Kept w = w.answer ≡ Wrote.Refused c a → w.out ≡ out

    by_fault : (f : Fault) → Kept (write_judged f (job_of e) out start)
    by_fault (Fault.at offset) = λ h'. refl
    by_fault Fault.none = picked Kept (leb (start + length (encode (job_of e))) (length out)) _ _ (λ h'. never (cc))
        (λ h'. refl)

pub sheet_refused : (rows out : List ℕ) (c i a : ℕ) → (write_sheet rows out).answer ≡ SheetWrote.Refused c i a
    → (write_sheet rows out).out ≡ out
unfolding write_sheet
sheet_refused rows out c i a h =
    picked Kept (eqb (length rows % entry_words) 0) _ _ (by_fault (sheet_fault 0 (entries_of rows))) (λ h'. refl) h
  where
    Kept : SheetWritten → Type 0
    Kept w = w.answer ≡ SheetWrote.Refused c i a → w.out ≡ out

    js : List Job
    js = map job_of (entries_of rows)

    by_fault : (f : SheetFault) → Kept (write_sheet_judged f js out)
    by_fault (SheetFault.at k offset) = λ h'. refl
    by_fault SheetFault.none = picked Kept (leb (length (encode_sheet js)) (length out)) _ _ (λ h'. never (cc))
        (λ h'. refl)

pub rows_refused : (sheet : Sheet) (rows : List ℕ) (c a : ℕ) → (read_sheet sheet rows).answer ≡ Err (refusal c a)
    → (read_sheet sheet rows).rows ≡ rows
rows_refused (broken n at) rows c a h = refl
rows_refused (jobs js) rows c a h =
    picked Kept (leb (entry_words * length js) (length rows)) _ _ (λ h'. never (cc)) (λ h'. refl) h
  where
    Kept : SheetRows → Type 0
    Kept r = r.answer ≡ Err (refusal c a) → r.rows ≡ rows
