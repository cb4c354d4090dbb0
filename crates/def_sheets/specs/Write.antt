-- What writing answers and leaves in the output, for every entry and every output (docs/NUMBERS.md, 14 and 15).
use Rattle.std.specs.Prelude.{ℕ, zero, suc, ◌+◌, ◌*◌, ◌/◌, ◌%◌, List, [], ◌∷◌, map, length, get_or, take, drop, leb, eqb}
use Rattle.std.proofs.lemmas.List.Edits.{sets}
use Rattle.def_numbers.specs.Numbers.{most_names, most_class, most_grower, name_bytes, count_bytes, class_bytes, wrong_value}
use Rattle.def_numbers.specs.Numbers.{no_room, entry_words, wrong_size}
use Rattle.def_basics.specs.Base.{pick}
use Rattle.def_sheets.specs.Job.{Job, bit_of, encode, encode_sheet}
use Rattle.def_sheets.specs.declared.Entry.{Entry}
use Rattle.def_sheets.specs.declared.Wrote.{Wrote}
use Rattle.def_sheets.specs.declared.SheetWrote.{SheetWrote}

-- the job that an entry of the code stands for: names past the count are ignored
abbrev pub job_of : Entry → Job
job_of e =
    record { name = e.name; list = take e.count e.names; class = e.class; grower = e.grower }

-- bytes of a list of n names: none, or a count and the names
abbrev pub list_bytes : ℕ → ℕ
list_bytes zero = 0
list_bytes (suc n) = count_bytes + name_bytes * suc n

-- where the list, the class and the grower stand, from the entry's start
abbrev pub list_offset : ℕ
list_offset = 1 + name_bytes

abbrev pub class_offset : Entry → ℕ
class_offset e = list_offset + list_bytes e.count

abbrev pub grower_offset : Entry → ℕ
grower_offset e = class_offset e + class_bytes * bit_of e.class

-- the offset of the first field off its limits, or none
pub data Fault : Type 0 where
  at : ℕ → Fault
  none : Fault

unfoldable pub fault_of : Entry → Fault
fault_of e =
    pick (leb e.count most_names)
    (pick (leb e.class most_class)
    (pick (leb e.grower most_grower) none (at (grower_offset e)))
    (at (class_offset e)))
    (at list_offset)

-- the answer, and the output afterwards
pub record Written : Type 0 where
  pub answer : Wrote
  pub out : List ℕ

abbrev pub written : Wrote → List ℕ → Written
written a o = record { answer = a; out = o }

-- "On writing 14 comes before 15"; a refusal leaves the output as it was
abbrev pub write_judged : Fault → Job → List ℕ → ℕ → Written
write_judged (at offset) j out start = written (Wrote.Refused wrong_value offset) out
write_judged none j out start =
    pick (leb (start + length (encode j)) (length out))
    (written (Wrote.Done (start + length (encode j))) (sets out start (encode j)))
    (written (Wrote.Refused no_room 0) out)

unfoldable pub write_entry : Entry → List ℕ → ℕ → Written
write_entry e out start = write_judged (fault_of e) (job_of e) out start

-- WHOLE SHEETS, from rows of words

-- the entry in row i
abbrev pub entry_at : List ℕ → ℕ → Entry
entry_at rows i =
    record {
      name = get_or rows (entry_words * i) 0;
      count = get_or rows (entry_words * i + 1) 0;
      class = get_or rows (entry_words * i + 2) 0;
      grower = get_or rows (entry_words * i + 3) 0;
      names = take most_names (drop (entry_words * i + 4) rows);
    }

-- n entries from row i on
unfoldable pub entries_from : List ℕ → ℕ → ℕ → List Entry
entries_from rows i zero = []
entries_from rows i (suc n) = entry_at rows i ∷ entries_from rows (i + 1) n

abbrev pub entries_of : List ℕ → List Entry
entries_of rows = entries_from rows 0 (length rows / entry_words)

-- the first entry with a fault, by its number, and the fault's offset
pub data SheetFault : Type 0 where
  at : ℕ → ℕ → SheetFault
  none : SheetFault

abbrev pub or_else : ℕ → Fault → SheetFault → SheetFault
or_else i (Fault.at offset) rest = at i offset
or_else i Fault.none rest = rest

unfoldable pub sheet_fault : ℕ → List Entry → SheetFault
sheet_fault i [] = none
sheet_fault i (e ∷ es) = or_else i (fault_of e) (sheet_fault (i + 1) es)

pub record SheetWritten : Type 0 where
  pub answer : SheetWrote
  pub out : List ℕ

abbrev pub sheet_written : SheetWrote → List ℕ → SheetWritten
sheet_written a o = record { answer = a; out = o }

abbrev pub write_sheet_judged : SheetFault → List Job → List ℕ → SheetWritten
write_sheet_judged (at i offset) js out = sheet_written (SheetWrote.Refused wrong_value i offset) out
write_sheet_judged none js out =
    pick (leb (length (encode_sheet js)) (length out))
    (sheet_written (SheetWrote.Done (length js) (length (encode_sheet js))) (sets out 0 (encode_sheet js)))
    (sheet_written (SheetWrote.Refused no_room 0 0) out)

-- 1, where the last row is cut; then 14 at any entry, which comes before 15
unfoldable pub write_sheet : List ℕ → List ℕ → SheetWritten
write_sheet rows out =
    pick (eqb (length rows % entry_words) 0)
    (write_sheet_judged (sheet_fault 0 (entries_of rows)) (map job_of (entries_of rows)) out)
    (sheet_written (SheetWrote.Refused wrong_size 0 0) out)
