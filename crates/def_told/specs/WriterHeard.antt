-- What a host hears of a sheet that is written, by the fields of the structs and the numerals of include/taskgraph.h:
-- where the entry ends, how many entries and bytes were written, or which field was refused, are read off them, so no
-- two are told alike. Follows docs/SHEETS.md and numbers 1, 14 and 15 of docs/RULES.md, "Turned-away calls".
-- (proofs/Wrong/WriterHeard.antt has tellings that lose something.)
use Rattle.std.specs.Prelude.{◌≡◌, refl, List, map, ℕ, ◌+◌, ◌%◌, eqb, leb, length}
use Rattle.std.proofs.Common.{ap, ◌∙◌, eqb-true}
use Rattle.std.proofs.lemmas.Bool.{eqb-false}
use Rattle.def_numbers.specs.Numbers.{entry_words}
use Rattle.def_basics.specs.Base.{pick}
use Rattle.def_basics.specs.Laws.{pick_by}
use Rattle.def_sheets.specs.Job.{Job, encode, encode_sheet}
use Rattle.def_sheets.specs.Write.{job_of, Fault, fault_of, Written, write_judged, write_entry, entries_of, SheetFault}
use Rattle.def_sheets.specs.Write.{sheet_fault, write_sheet_judged, write_sheet}
use Rattle.def_sheets.specs.Write as writing
use Rattle.def_sheets.specs.declared.Entry.{Entry}
use Rattle.def_sheets.specs.declared.Wrote.{Wrote}
use Rattle.def_sheets.specs.declared.Wrote.TheVariants.{Done, Refused}
use Rattle.def_sheets.specs.declared.SheetWrote.{SheetWrote}
use Rattle.def_told.specs.Writer.{entry_written, sheet_written}
use Rattle.def_told.specs.declared.EntryWritten.{EntryWritten}
use Rattle.def_told.specs.declared.SheetWritten.{SheetWritten}

-- AN ENTRY

-- "number 0: `at` is the offset past the entry"; any other refuses, with the offset of the field
abbrev pub heard_entry : EntryWritten → Wrote
heard_entry r = pick (eqb r.number 0) (Done r.at) (Refused r.number r.at)

-- how an entry can be written: it is, or a field is off its limits, or there is no room, and then "`at` is 0"
pub data Writes : Wrote → Type 0 where
  done : {next : ℕ} → Writes (Done next)
  by_14 : {field : ℕ} → Writes (Refused 14 field)
  by_15 : Writes (Refused 15 0)

-- any telling of how an entry was written is to be heard so
pub record EntriesHeard (told : Wrote → EntryWritten) : Type 0 where
  pub heard_as_told : (x : Wrote) → Writes x → heard_entry (told x) ≡ x
  pub silent : (x : Wrote) → Writes x → (told x).number ≡ 15 → (told x).at ≡ 0

-- what C is told is heard,
entry_heard : (x : Wrote) → Writes x → heard_entry (entry_written x) ≡ x
entry_heard x done = refl
entry_heard x by_14 = refl
entry_heard x by_15 = refl

entry_silent : (x : Wrote) → Writes x → (entry_written x).number ≡ 15 → (entry_written x).at ≡ 0
entry_silent x done e = absurd (eqb-false 0 15 refl e)
entry_silent x by_14 e = absurd (eqb-false 14 15 refl e)
entry_silent x by_15 e = refl

pub entries_heard : EntriesHeard entry_written
entries_heard = record { heard_as_told = entry_heard; silent = entry_silent }

-- no other telling is heard so,
entry_back : (r : EntryWritten) → r ≡ entry_written (heard_entry r)
entry_back r =
    pick_by (λ y. r ≡ entry_written y) (eqb r.number 0)
    (λ e. let number = eqb-true r.number 0 e in λ i. record { number = number i; at = r.at })
    (λ e. refl)

pub entries_told_one_way : (told : Wrote → EntryWritten) → EntriesHeard told → (x : Wrote) → Writes x
    → told x ≡ entry_written x
entries_told_one_way told h x t = entry_back (told x) ∙ ap entry_written (h.heard_as_told x t)

-- and no entry is written otherwise
pub how_written : (e : Entry) (out : List ℕ) (start : ℕ) → Writes (write_entry e out start).answer
unfolding write_entry
how_written e out start = go (fault_of e)
  where
    go : (f : Fault) → Writes (write_judged f (job_of e) out start).answer
    go (Fault.at offset) = by_14
    go Fault.none =
        pick_by (λ (r : Written). Writes r.answer) (leb (start + length (encode (job_of e))) (length out))
        (λ h. done) (λ h. by_15)

-- A SHEET

-- "number 0: `entry` entries were written, in `at` bytes"; any other refuses, with the entry and the offset of its
-- field
abbrev pub heard_sheet : SheetWritten → SheetWrote
heard_sheet r =
    pick (eqb r.number 0) (SheetWrote.Done r.entry r.at) (SheetWrote.Refused r.number r.entry r.at)

-- how a sheet can be written: it is, or a field of an entry is off its limits, or the rows are cut, or there is no
-- room, and then "entry and `at` are 0"
pub data WritesAll : SheetWrote → Type 0 where
  done : {entries bytes : ℕ} → WritesAll (SheetWrote.Done entries bytes)
  by_1 : WritesAll (SheetWrote.Refused 1 0 0)
  by_14 : {entry field : ℕ} → WritesAll (SheetWrote.Refused 14 entry field)
  by_15 : WritesAll (SheetWrote.Refused 15 0 0)

pub record SilentSheet (r : SheetWritten) : Type 0 where
  pub by_1 : r.number ≡ 1 → (r.entry ≡ 0) × (r.at ≡ 0)
  pub by_15 : r.number ≡ 15 → (r.entry ≡ 0) × (r.at ≡ 0)

-- any telling of how a sheet was written is to be heard so
pub record SheetsHeard (told : SheetWrote → SheetWritten) : Type 0 where
  pub heard_as_told : (x : SheetWrote) → WritesAll x → heard_sheet (told x) ≡ x
  pub silent : (x : SheetWrote) → WritesAll x → SilentSheet (told x)

-- what C is told is heard,
sheet_heard : (x : SheetWrote) → WritesAll x → heard_sheet (sheet_written x) ≡ x
sheet_heard x WritesAll.done = refl
sheet_heard x WritesAll.by_1 = refl
sheet_heard x WritesAll.by_14 = refl
sheet_heard x WritesAll.by_15 = refl

sheet_silent : (x : SheetWrote) → WritesAll x → SilentSheet (sheet_written x)
sheet_silent x WritesAll.done = record {
  by_1 = λ e. absurd (eqb-false 0 1 refl e);
  by_15 = λ e. absurd (eqb-false 0 15 refl e);
}
sheet_silent x WritesAll.by_1 = record { by_1 = λ e. (refl, refl); by_15 = λ e. absurd (eqb-false 1 15 refl e) }
sheet_silent x WritesAll.by_14 = record {
  by_1 = λ e. absurd (eqb-false 14 1 refl e);
  by_15 = λ e. absurd (eqb-false 14 15 refl e);
}
sheet_silent x WritesAll.by_15 = record { by_1 = λ e. absurd (eqb-false 15 1 refl e); by_15 = λ e. (refl, refl) }

pub sheets_heard : SheetsHeard sheet_written
sheets_heard = record { heard_as_told = sheet_heard; silent = sheet_silent }

-- no other telling is heard so,
sheet_back : (r : SheetWritten) → r ≡ sheet_written (heard_sheet r)
sheet_back r =
    pick_by (λ y. r ≡ sheet_written y) (eqb r.number 0)
    (λ e. let number = eqb-true r.number 0 e in λ i. record { number = number i; entry = r.entry; at = r.at })
    (λ e. refl)

pub sheets_told_one_way : (told : SheetWrote → SheetWritten) → SheetsHeard told → (x : SheetWrote) → WritesAll x
    → told x ≡ sheet_written x
sheets_told_one_way told h x t = sheet_back (told x) ∙ ap sheet_written (h.heard_as_told x t)

-- and no sheet is written otherwise
pub how_all_written : (rows out : List ℕ) → WritesAll (write_sheet rows out).answer
unfolding write_sheet
how_all_written rows out =
    pick_by (λ (r : writing.SheetWritten). WritesAll r.answer) (eqb (length rows % entry_words) 0)
    (λ e. go (sheet_fault 0 (entries_of rows)) (map job_of (entries_of rows))) (λ e. WritesAll.by_1)
  where
    go : (f : SheetFault) (js : List Job) → WritesAll (write_sheet_judged f js out).answer
    go (SheetFault.at k offset) js = WritesAll.by_14
    go SheetFault.none js =
        pick_by (λ (r : writing.SheetWritten). WritesAll r.answer) (leb (length (encode_sheet js)) (length out))
        (λ e. WritesAll.done) (λ e. WritesAll.by_15)
