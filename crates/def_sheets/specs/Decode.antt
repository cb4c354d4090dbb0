-- What reading answers at every offset of every input (docs/SHEETS.md and numbers 12 to 14).
use Rattle.std.specs.Prelude.{ℕ, zero, suc, ◌+◌, ◌*◌, ◌-◌, ◌/◌, ◌%◌, List, [], ◌∷◌, ◌++◌, ◌&&◌, length, get_or, replicate, ltb, leb, eqb}
use Rattle.std.specs.Prelude.{Option, Some, None, Result, Ok, Err}
use Rattle.std.proofs.lemmas.List.Edits.{sets}
use Rattle.def_numbers.specs.Numbers.{most_names, most_class, most_grower, name_bytes, count_bytes, class_bytes, grower_bytes}
use Rattle.def_numbers.specs.Numbers.{cut}
use Rattle.def_numbers.specs.Numbers.{wrong_map, wrong_value, no_room, entry_words}
use Rattle.def_basics.specs.Base.{pick}
use Rattle.def_sheets.specs.Number.{number_at}
use Rattle.def_sheets.specs.Job.{Job}
use Rattle.def_sheets.specs.declared.Entry.{Entry}
use Rattle.def_sheets.specs.declared.Refusal.{Refusal}
use Rattle.def_sheets.specs.declared.Scanned.{Scanned}
use Rattle.def_sheets.specs.declared.Read.{Read}
use Rattle.def_sheets.specs.declared.Reading.{Reading}

-- a refusal by its number, with the offset of the field
abbrev pub refusal : ℕ → ℕ → Refusal
refusal number at = record { number = number; at = at }

-- a field that was read, with the offset past it, or its refusal
abbrev pub Field : Type 0
Field = Result (ℕ × ℕ) Refusal

-- the map byte: 13 if bit 0 is clear or one of bits 4 to 7 is set
unfoldable pub map_at : List ℕ → ℕ → Field
map_at s at =
    pick (ltb (get_or s at 0) 16 && eqb (get_or s at 0 % 2) 1) (Ok (get_or s at 0, at + 1)) (Err (refusal wrong_map at))

-- a name of w bytes
unfoldable pub name_at : ℕ → List ℕ → ℕ → Field
name_at w s at = pick (leb (at + w) (length s)) (Ok (number_at w s at, at + w)) (Err (refusal cut at))

-- a number of w bytes from 1 to most: "a cut (12) is noticed before a wrong value (14)", "a written 0 is refused"
unfoldable pub limited_at : ℕ → ℕ → List ℕ → ℕ → Field
limited_at w most s at =
    pick (leb (at + w) (length s))
    (pick (leb 1 (number_at w s at) && leb (number_at w s at) most) (Ok (number_at w s at, at + w))
    (Err (refusal wrong_value at)))
    (Err (refusal cut at))

abbrev pub then : Field → (ℕ → ℕ → Field) → Field
then (Ok (v, n)) k = k v n
then (Err e) k = Err e

-- a list: "a list's count is judged before its names are looked for"; a cut is at the field, which starts with the
-- count
unfoldable pub list_at : ℕ → List ℕ → ℕ → Field
list_at w s at =
    then (limited_at count_bytes most_names s at) λ count next.
    pick (leb (next + w * count) (length s)) (Ok (count, next + w * count)) (Err (refusal cut at))

-- a field whose bit is clear is left out and means 0
abbrev pub if_bit : ℕ → ℕ → Field → Field
if_bit bit at field = pick (eqb bit 0) (Ok (0, at)) field

-- n names of w bytes from an offset on
unfoldable pub names_at : ℕ → List ℕ → ℕ → ℕ → List ℕ
names_at w s at zero = []
names_at w s at (suc n) = number_at w s at ∷ names_at w s (at + w) n

-- what stands at an offset: a job with the offset past it, the end of the sheet, or a refusal with its offset
pub data Decoded : Type 0 where
  job : Job → ℕ → Decoded
  end : Decoded
  refused : ℕ → ℕ → Decoded

abbrev pub then_decoded : Field → (ℕ → ℕ → Decoded) → Decoded
then_decoded (Ok (v, n)) k = k v n
then_decoded (Err e) k = refused e.number e.at

unfoldable pub decode : List ℕ → ℕ → Decoded
decode s at =
    pick (ltb at (length s))
    (then_decoded (map_at s at) λ map n₀.
    then_decoded (name_at name_bytes s n₀) λ name n₁.
    then_decoded (if_bit (map / 2 % 2) n₁ (list_at name_bytes s n₁)) λ count n₂.
    then_decoded (if_bit (map / 4 % 2) n₂ (limited_at class_bytes most_class s n₂)) λ class n₃.
    then_decoded (if_bit (map / 8 % 2) n₃ (limited_at grower_bytes most_grower s n₃)) λ grower n₄.
    job (record { name = name; list = names_at name_bytes s (n₁ + count_bytes) count; class = class; grower = grower }) n₄)
    end

-- a whole sheet: the jobs in order, or the first refusal
pub data Sheet : Type 0 where
  jobs : List Job → Sheet
  broken : ℕ → ℕ → Sheet

abbrev pub before : Job → Sheet → Sheet
before j (jobs js) = jobs (j ∷ js)
before j (broken c a) = broken c a

abbrev pub onward : Decoded → (ℕ → Sheet) → Sheet
onward (job j n) rest = before j (rest n)
onward end rest = jobs []
onward (refused c a) rest = broken c a

-- from an offset on, at most k entries: an entry takes a byte or more, so with k bytes left none is missed
unfoldable pub decode_from : ℕ → List ℕ → ℕ → Sheet
decode_from zero s at = jobs []
decode_from (suc k) s at = onward (decode s at) (decode_from k s)

unfoldable pub decode_sheet : List ℕ → Sheet
decode_sheet s = decode_from (length s) s 0

-- THE ANSWERS OF THE CODE: the number and values of docs/RULES.md for each case

-- "names past the count are kept as 0"
abbrev pub padded : List ℕ → List ℕ
padded xs = xs ++ replicate (most_names - length xs) 0

abbrev pub entry_of : Job → Entry
entry_of j =
    record { name = j.name; count = length j.list; class = j.class; grower = j.grower; names = padded j.list }

abbrev pub blank : Entry
blank = record { name = 0; count = 0; class = 0; grower = 0; names = replicate most_names 0 }

-- an entry that was scanned: its numbers without its list's names, and the offset past it
abbrev pub scanned : (name count class grower next : ℕ) → Scanned
scanned name count class grower next =
    record { numbers = record { name = name; count = count; class = class; grower = grower }; next = next }

abbrev pub scan_of : Decoded → Result (Option Scanned) Refusal
scan_of (job j n) = Ok (Some (scanned j.name (length j.list) j.class j.grower n))
scan_of end = Ok None
scan_of (refused c a) = Err (refusal c a)

-- "nothing handed out for that entry": the entry beside a refusal is blank
abbrev pub reading_of : Decoded → Reading
reading_of (job j n) = record { answer = Read.Job n; entry = entry_of j }
reading_of end = record { answer = Read.End; entry = blank }
reading_of (refused c a) = record { answer = Read.Refused c a; entry = blank }

-- an entry as a row of words
abbrev pub row_of : Job → List ℕ
row_of j = j.name ∷ length j.list ∷ j.class ∷ j.grower ∷ padded j.list

unfoldable pub rows_of : List Job → List ℕ
rows_of [] = []
rows_of (j ∷ js) = row_of j ++ rows_of js

-- how reading a whole sheet ended: with so many entries, or with the first refusal
abbrev pub SheetRead : Type 0
SheetRead = Result ℕ Refusal

abbrev pub scan_sheet : Sheet → SheetRead
scan_sheet (jobs js) = Ok (length js)
scan_sheet (broken c a) = Err (refusal c a)

-- the answer, and the lent rows afterwards
pub record SheetRows : Type 0 where
  pub answer : SheetRead
  pub rows : List ℕ

abbrev pub sheet_rows : SheetRead → List ℕ → SheetRows
sheet_rows a r = record { answer = a; rows = r }

-- a sheet's own refusal comes first, then 15 where the rows are too few; a refusal leaves the rows as they were
abbrev pub read_sheet : Sheet → List ℕ → SheetRows
read_sheet (jobs js) rows =
    pick (leb (entry_words * length js) (length rows))
    (sheet_rows (Ok (length js)) (sets rows 0 (rows_of js)))
    (sheet_rows (Err (refusal no_room 0)) rows)
read_sheet (broken c a) rows = sheet_rows (Err (refusal c a)) rows
