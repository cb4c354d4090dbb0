-- What the bytes of a sheet mean, said of ANY reader (docs/RULES.md, "Job sheets" and the rows 12 to 15 of "Turned-away
-- calls"; docs/SHEETS.md, "Reading"). Bytes, bits, offsets and numbers stand here by their numerals, and nothing is
-- taken from the definitions of reading and writing but the types of what is answered.
use Rattle.std.specs.Prelude.{ℕ, zero, suc, ◌+◌, ◌*◌, ◌-◌, ◌/◌, ◌%◌, ◌≤◌, ◌<◌, ◌≡◌, ◌↔◌, List, [], ◌∷◌, ◌++◌, length, get_or, drop, replicate}
use Rattle.def_sheets.specs.Job.{Job, Below}
use Rattle.def_sheets.specs.Decode.{Decoded, job, end, refused, Sheet, jobs, broken, SheetRows}
use Rattle.def_sheets.specs.declared.Entry.{Entry}
use Rattle.def_sheets.specs.declared.Read.{Read}
use Rattle.def_sheets.specs.declared.Reading.{Reading}
use Rattle.std.specs.Prelude.{Ok, Err}
use Rattle.def_sheets.specs.Decode.{SheetRead, refusal}

-- A JOB'S SPELLING

-- "name, 4 bytes, least byte first"
abbrev pub name_spelling : ℕ → List ℕ
name_spelling x = x % 256 ∷ x / 256 % 256 ∷ x / 65536 % 256 ∷ x / 16777216 % 256 ∷ []

unfoldable pub names_spelling : List ℕ → List ℕ
names_spelling [] = []
names_spelling (x ∷ xs) = name_spelling x ++ names_spelling xs

-- "prerequisites, a count byte 1 to 32, then names"; a field left out has no byte
abbrev pub list_spelling : List ℕ → List ℕ
list_spelling [] = []
list_spelling (x ∷ xs) = length (x ∷ xs) ∷ names_spelling (x ∷ xs)

-- "class, a byte 1 to 15"
abbrev pub class_spelling : ℕ → List ℕ
class_spelling zero = []
class_spelling (suc c) = suc c ∷ []

-- "grower, 2 bytes, least first, 1 to 65,535"
abbrev pub grower_spelling : ℕ → List ℕ
grower_spelling zero = []
grower_spelling (suc g) = suc g % 256 ∷ suc g / 256 ∷ []

-- bits 1, 2 and 3 of the map stand for the fields that follow
abbrev pub list_bit : List ℕ → ℕ
list_bit [] = 0
list_bit (x ∷ xs) = 2

abbrev pub class_bit : ℕ → ℕ
class_bit zero = 0
class_bit (suc c) = 4

abbrev pub grower_bit : ℕ → ℕ
grower_bit zero = 0
grower_bit (suc g) = 8

-- "An entry opens with a map byte", whose bit 0 stands; "Only fields whose bit stands follow, in that order"
unfoldable pub spelling : Job → List ℕ
spelling j =
    (1 + list_bit j.list + class_bit j.class + grower_bit j.grower)
    ∷ (name_spelling j.name
    ++ (list_spelling j.list ++ (class_spelling j.class ++ grower_spelling j.grower)))

-- the jobs that have one: names of 32 bits, "The list of at most 32 names", "class 0 to 15" and "grower 0 to 65,535"
pub record Fits (j : Job) : Type 0 where
  pub name : j.name < 4294967296
  pub names : Below 4294967296 j.list
  pub count : length j.list ≤ 32
  pub class : j.class ≤ 15
  pub grower : j.grower ≤ 65535

-- the job j is spelt from an offset of the sheet on, up to the offset n
pub record SpeltAt (s : List ℕ) (at : ℕ) (j : Job) (n : ℕ) : Type 0 where
  pub fits : Fits j
  pub bytes : drop at s ≡ spelling j ++ drop n s
  pub ends : n ≡ at + length (spelling j)

-- THE FAULTS OF AN ENTRY, the first one first

abbrev pub byte_at : List ℕ → ℕ → ℕ
byte_at s i = get_or s i 0

-- an entry starts there, bit 0 of its map stands and bits 4 to 7 are clear: the name is looked for at the next byte
pub record UpToName (s : List ℕ) (at : ℕ) : Type 0 where
  pub starts : at < length s
  pub named : byte_at s at % 2 ≡ 1
  pub known : byte_at s at < 16

-- and the name is whole: the list, if its bit stands, is looked for at the entry's byte 5
pub record UpToList (s : List ℕ) (at : ℕ) : Type 0 where
  pub map : UpToName s at
  pub whole : at + 5 ≤ length s

-- and the list is left out, or it is whole with a count of 1 to 32: the class is looked for at the offset c
pub data UpToClass (s : List ℕ) (at c : ℕ) : Type 0 where
  left_out : UpToList s at → byte_at s at / 2 % 2 ≡ 0 → c ≡ at + 5 → UpToClass s at c
  read : UpToList s at → byte_at s at / 2 % 2 ≡ 1 → at + 6 ≤ length s → 1 ≤ byte_at s (at + 5) → byte_at s (at + 5) ≤ 32
      → at + 6 + 4 * byte_at s (at + 5) ≤ length s
      → c ≡ at + 6 + 4 * byte_at s (at + 5)
      → UpToClass s at c

-- and the class is left out, or it is 1 to 15: the grower is looked for at the offset g
pub data UpToGrower (s : List ℕ) (at g : ℕ) : Type 0 where
  left_out : UpToClass s at g → byte_at s at / 4 % 2 ≡ 0 → UpToGrower s at g
  read : {c : ℕ} → UpToClass s at c → byte_at s at / 4 % 2 ≡ 1 → c + 1 ≤ length s → 1 ≤ byte_at s c → byte_at s c ≤ 15
      → g ≡ c + 1
      → UpToGrower s at g

-- the entry at an offset is refused by a number with an offset, which runs from the sheet's start as the entry's does.
-- "For each field a cut (12) is noticed before a wrong value (14); a list's count is judged before its names are looked
-- for"; a list is one field, which starts at its count; "a written 0 is refused"
pub data Faulty (s : List ℕ) (at : ℕ) : ℕ → ℕ → Type 0 where
  name_bit_clear : at < length s → byte_at s at % 2 ≡ 0 → Faulty s at 13 at
  unknown_bit : at < length s → 16 ≤ byte_at s at → Faulty s at 13 at
  name_cut : UpToName s at → length s < at + 5 → Faulty s at 12 (at + 1)
  count_cut : UpToList s at → byte_at s at / 2 % 2 ≡ 1 → length s < at + 6 → Faulty s at 12 (at + 5)
  count_zero : UpToList s at → byte_at s at / 2 % 2 ≡ 1 → at + 6 ≤ length s → byte_at s (at + 5) ≡ 0
      → Faulty s at 14 (at + 5)
  count_over : UpToList s at → byte_at s at / 2 % 2 ≡ 1 → at + 6 ≤ length s → 32 < byte_at s (at + 5)
      → Faulty s at 14 (at + 5)
  names_cut : UpToList s at → byte_at s at / 2 % 2 ≡ 1 → at + 6 ≤ length s → 1 ≤ byte_at s (at + 5)
      → byte_at s (at + 5) ≤ 32
      → length s < at + 6 + 4 * byte_at s (at + 5)
      → Faulty s at 12 (at + 5)
  class_cut : {c : ℕ} → UpToClass s at c → byte_at s at / 4 % 2 ≡ 1 → length s < c + 1 → Faulty s at 12 c
  class_zero : {c : ℕ} → UpToClass s at c → byte_at s at / 4 % 2 ≡ 1 → c + 1 ≤ length s → byte_at s c ≡ 0
      → Faulty s at 14 c
  class_over : {c : ℕ} → UpToClass s at c → byte_at s at / 4 % 2 ≡ 1 → c + 1 ≤ length s → 15 < byte_at s c
      → Faulty s at 14 c
  grower_cut : {g : ℕ} → UpToGrower s at g → byte_at s at / 8 % 2 ≡ 1 → length s < g + 2 → Faulty s at 12 g
  grower_zero : {g : ℕ} → UpToGrower s at g → byte_at s at / 8 % 2 ≡ 1 → g + 2 ≤ length s → byte_at s g ≡ 0
      → byte_at s (g + 1) ≡ 0
      → Faulty s at 14 g

-- ONE ENTRY: its job, the end of the sheet, or its first fault; each exactly where it is so
pub record ReadsExactly (read : List ℕ → ℕ → Decoded) (s : List ℕ) (at : ℕ) : Type 0 where
  pub past : read s at ≡ end ↔ length s ≤ at
  pub spelt : (j : Job) (n : ℕ) → read s at ≡ job j n ↔ SpeltAt s at j n
  pub faulty : (number offset : ℕ) → read s at ≡ refused number offset ↔ Faulty s at number offset

-- "nothing handed out for that entry": every number of the struct beside a refusal is 0
abbrev pub nothing_in : Entry
nothing_in = record { name = 0; count = 0; class = 0; grower = 0; names = replicate 32 0 }

-- "names past the count are kept as 0"
abbrev pub thirty_two : List ℕ → List ℕ
thirty_two xs = xs ++ replicate (32 - length xs) 0

-- the same with the entry beside it, as the code hands it out
pub record HandsOutExactly (read : List ℕ → ℕ → Reading) (s : List ℕ) (at : ℕ) : Type 0 where
  pub past : length s ≤ at → read s at ≡ record { answer = Read.End; entry = nothing_in }
  pub spelt : (j : Job) (n : ℕ) → SpeltAt s at j n
      → read s at
      ≡ record {
        answer = Read.Job n;
        entry = record {
          name = j.name;
          count = length j.list;
          class = j.class;
          grower = j.grower;
          names = thirty_two j.list;
        };
      }
  pub faulty : (number offset : ℕ) → Faulty s at number offset
      → read s at ≡ record { answer = Read.Refused number offset; entry = nothing_in }

-- A SHEET

-- from an offset on, the jobs are spelt one after the other, "with nothing between", up to the sheet's end
pub data ReadsFrom (s : List ℕ) : ℕ → List Job → Type 0 where
  none : {at : ℕ} → at ≡ length s → ReadsFrom s at []
  more : {at n : ℕ} {j : Job} {js : List Job} → SpeltAt s at j n → ReadsFrom s n js → ReadsFrom s at (j ∷ js)

-- from an offset on, jobs are spelt one after the other up to an entry with a fault, whose number and offset these are
pub data BrokenFrom (s : List ℕ) (number offset : ℕ) : ℕ → Type 0 where
  here : {at : ℕ} → Faulty s at number offset → BrokenFrom s number offset at
  later : {at n : ℕ} {j : Job} → SpeltAt s at j n → BrokenFrom s number offset n → BrokenFrom s number offset at

-- the jobs of a sheet are those spelt from its start to its end ("The empty sheet has no jobs"), and it is broken by
-- the first fault of its first faulty entry
pub record SheetReadsExactly (read : List ℕ → Sheet) (s : List ℕ) : Type 0 where
  pub whole : (js : List Job) → read s ≡ jobs js ↔ ReadsFrom s 0 js
  pub faulty : (number offset : ℕ) → read s ≡ broken number offset ↔ BrokenFrom s number offset 0

-- how many entries it has, as the code answers it
pub record ScansExactly (scan : List ℕ → SheetRead) (s : List ℕ) : Type 0 where
  pub whole : (js : List Job) → ReadsFrom s 0 js → scan s ≡ Ok (length js)
  pub faulty : (number offset : ℕ) → BrokenFrom s number offset 0 → scan s ≡ Err (refusal number offset)

-- the 36 words of an entry: name, count, class, grower and 32 names
abbrev pub row_for : Job → List ℕ
row_for j = j.name ∷ length j.list ∷ j.class ∷ j.grower ∷ thirty_two j.list

unfoldable pub rows_for : List Job → List ℕ
rows_for [] = []
rows_for (j ∷ js) = row_for j ++ rows_for js

-- reading into lent rows: the sheet's own refusal first, then 15 where the rows have fewer than 36 words an entry, and
-- neither changes a word; else the entries fill the front, and every word behind them is as it was
pub record RowsReadExactly (read : List ℕ → List ℕ → SheetRows) (s lent : List ℕ) : Type 0 where
  pub faulty : (number offset : ℕ) → BrokenFrom s number offset 0
      → read s lent ≡ record { answer = Err (refusal number offset); rows = lent }
  pub no_room_lem : (js : List Job) → ReadsFrom s 0 js → length lent < 36 * length js
      → read s lent ≡ record { answer = Err (refusal 15 0); rows = lent }
  pub whole : (js : List Job) → ReadsFrom s 0 js → 36 * length js ≤ length lent
      → read s lent ≡ record { answer = Ok (length js); rows = rows_for js ++ drop (36 * length js) lent }
