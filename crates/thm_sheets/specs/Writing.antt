-- What writing leaves of entries and rows, said of ANY writer by numerals (docs/RULES.md, "Job sheets" and the rows 1,
-- 14 and 15 of "Turned-away calls"; docs/SHEETS.md, "Writing"). The bytes of an entry are those of Reading.antt.
use Rattle.std.specs.Prelude.{ℕ, zero, suc, ◌+◌, ◌*◌, ◌/◌, ◌%◌, ◌≤◌, ◌<◌, ◌≡◌, ◌≢◌, List, [], ◌++◌, length, get_or, take, drop}
use Rattle.def_sheets.specs.Write.{Written, SheetWritten}
use Rattle.def_sheets.specs.Reading.{spelling}
use Rattle.def_sheets.specs.declared.Entry.{Entry}
use Rattle.def_sheets.specs.declared.Wrote.{Wrote}
use Rattle.def_sheets.specs.declared.SheetWrote.{SheetWrote}

-- the bytes that a list of so many names takes, and those of a class: none, if it is left out
abbrev pub list_takes : ℕ → ℕ
list_takes zero = 0
list_takes (suc n) = 1 + 4 * suc n

abbrev pub class_takes : ℕ → ℕ
class_takes zero = 0
class_takes (suc c) = 1

-- "on writing, a list over 32, a class over 15, a grower over 65,535", the offset "that of the first such field, from
-- the entry's start"
pub data WrongField (e : Entry) : ℕ → Type 0 where
  list : 32 < e.count → WrongField e 5
  class : e.count ≤ 32 → 15 < e.class → WrongField e (5 + list_takes e.count)
  grower : e.count ≤ 32 → e.class ≤ 15 → 65535 < e.grower
      → WrongField e (5 + list_takes e.count + class_takes e.class)

pub record Within (e : Entry) : Type 0 where
  pub count : e.count ≤ 32
  pub class : e.class ≤ 15
  pub grower : e.grower ≤ 65535

-- the bytes of an entry: names past its count are ignored
abbrev pub bytes_for : Entry → List ℕ
bytes_for e =
    spelling (record { name = e.name; list = take e.count e.names; class = e.class; grower = e.grower })

-- AN ENTRY: "On writing 14 comes before 15", 15 has no offset, and "output unchanged" by either; else the entry's bytes
-- stand there, and those before and behind are as they were
pub record WritesExactly (write : Entry → List ℕ → ℕ → Written) (e : Entry) (out : List ℕ) (at : ℕ) : Type 0 where
  pub wrong : (offset : ℕ) → WrongField e offset
      → write e out at ≡ record { answer = Wrote.Refused 14 offset; out = out }
  pub no_room_lem : Within e → length out < at + length (bytes_for e)
      → write e out at ≡ record { answer = Wrote.Refused 15 0; out = out }
  pub whole : Within e → at + length (bytes_for e) ≤ length out
      → write e out at
      ≡ record {
        answer = Wrote.Done (at + length (bytes_for e));
        out = take at out ++ (bytes_for e ++ drop (at + length (bytes_for e)) out);
      }

-- the entry in row i of 36 words each
abbrev pub entry_in : List ℕ → ℕ → Entry
entry_in rows i =
    record {
      name = get_or rows (36 * i) 0;
      count = get_or rows (36 * i + 1) 0;
      class = get_or rows (36 * i + 2) 0;
      grower = get_or rows (36 * i + 3) 0;
      names = take 32 (drop (36 * i + 4) rows);
    }

-- the bytes of n entries from row i on, "with nothing between"
unfoldable pub bytes_for_rows : List ℕ → ℕ → ℕ → List ℕ
bytes_for_rows rows i zero = []
bytes_for_rows rows i (suc n) = bytes_for (entry_in rows i) ++ bytes_for_rows rows (i + 1) n

abbrev pub bytes_for_all : List ℕ → List ℕ
bytes_for_all rows = bytes_for_rows rows 0 (length rows / 36)

-- A SHEET: 1 for words that are no whole number of rows, then 14 with the number and the offset of the first entry with
-- a wrong field, then 15, which has neither; a refusal leaves the output as it was
pub record WritesSheetExactly (write : List ℕ → List ℕ → SheetWritten) (rows out : List ℕ) : Type 0 where
  pub cut : length rows % 36 ≢ 0 → write rows out ≡ record { answer = SheetWrote.Refused 1 0 0; out = out }
  pub wrong : (i offset : ℕ) → length rows % 36 ≡ 0 → i < length rows / 36
      → ((k : ℕ) → k < i → Within (entry_in rows k))
      → WrongField (entry_in rows i) offset
      → write rows out ≡ record { answer = SheetWrote.Refused 14 i offset; out = out }
  pub no_room_lem : length rows % 36 ≡ 0 → ((k : ℕ) → k < length rows / 36 → Within (entry_in rows k))
      → length out < length (bytes_for_all rows)
      → write rows out ≡ record { answer = SheetWrote.Refused 15 0 0; out = out }
  pub whole : length rows % 36 ≡ 0 → ((k : ℕ) → k < length rows / 36 → Within (entry_in rows k))
      → length (bytes_for_all rows) ≤ length out
      → write rows out
      ≡ record {
        answer = SheetWrote.Done (length rows / 36) (length (bytes_for_all rows));
        out = bytes_for_all rows ++ drop (length (bytes_for_all rows)) out;
      }
