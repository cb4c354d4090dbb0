-- Readers and writers that go wrong in one point of docs/RULES.md's "Job sheets" and "Turned-away calls", each refuted
-- by one sheet, entry or row: what Reading.antt and Writing.antt shut out.
use Rattle.std.specs.Prelude.{ℕ, zero, suc, ◌+◌, ◌*◌, ◌-◌, ◌/◌, ◌%◌, ◌≡◌, refl, Bool, true, ◌&&◌, List, [], ◌∷◌, ◌++◌, length, get_or, take, drop, replicate, ltb, leb, eqb}
use Rattle.std.proofs.Common.{ap, arith, ltb-true}
use Rattle.def_basics.specs.Base.{pick}
use Rattle.def_sheets.specs.Number.{number_at, spelt}
use Rattle.def_sheets.specs.Job.{map_byte, encode, encode_sheet}
use Rattle.def_sheets.specs.Decode.{map_at, name_at, limited_at, then, list_at, if_bit, names_at, Decoded, job, end}
use Rattle.def_sheets.specs.Decode.{scan_sheet, refused, then_decoded, decode, Sheet, jobs, broken, before}
use Rattle.def_sheets.specs.Decode.{decode_from, decode_sheet, reading_of, rows_of, SheetRows, sheet_rows, read_sheet}
use Rattle.def_sheets.specs.Write.{fault_of, job_of, Written, written, write_entry, SheetWritten, sheet_written}
use Rattle.def_sheets.specs.Write.{write_sheet, entries_from, sheet_fault, entry_at}
use Rattle.def_sheets.specs.Choice.{both}
use Rattle.def_sheets.proofs.NumberLaws.{Bytes}
use Rattle.def_sheets.specs.Reading.{ReadsExactly, HandsOutExactly, SheetReadsExactly, RowsReadExactly}
use Rattle.def_sheets.specs.Reading.{ScansExactly}
use Rattle.def_sheets.proofs.ReadingLaws.{reads_exactly, one_reader, hands_out_exactly, one_hand}
use Rattle.def_sheets.proofs.SheetReading.{sheet_reads_exactly, one_sheet_reader, rows_exactly, one_row_reader}
use Rattle.def_sheets.proofs.SheetReading.{scans_exactly, one_scanner}
use Rattle.thm_sheets.specs.Writing.{WritesExactly, WritesSheetExactly}
use Rattle.thm_sheets.specs.WritingLaws.{writes_exactly, one_writer, writes_sheet_exactly, one_sheet_writer}
use Rattle.def_sheets.specs.declared.Entry.{Entry}
use Rattle.def_sheets.specs.Decode.{Field}
use Rattle.def_sheets.specs.declared.Reading.{Reading}
use Rattle.std.specs.Prelude.{Ok, Err}
use Rattle.def_sheets.specs.Decode.{SheetRead, refusal}
use Rattle.def_sheets.specs.declared.Wrote.{Wrote}
use Rattle.def_sheets.specs.declared.SheetWrote.{SheetWrote}

-- WRONG FIELDS: a reader of an entry by what it does at each field

abbrev Field-of : Type 0
Field-of = List ℕ → ℕ → Field

abbrev reader_by : Field-of → Field-of → Field-of → Field-of → Field-of → List ℕ → ℕ → Decoded
reader_by map_field name_field list_field class_field grower_field s at =
    pick (ltb at (length s))
    (then_decoded (map_field s at) λ map n₀.
    then_decoded (name_field s n₀) λ name n₁.
    then_decoded (if_bit (map / 2 % 2) n₁ (list_field s n₁)) λ count n₂.
    then_decoded (if_bit (map / 4 % 2) n₂ (class_field s n₂)) λ class n₃.
    then_decoded (if_bit (map / 8 % 2) n₃ (grower_field s n₃)) λ grower n₄.
    job (record { name = name; list = names_at 4 s (n₁ + 1) count; class = class; grower = grower }) n₄)
    end

abbrev name_right : Field-of
name_right = name_at 4

abbrev list_right : Field-of
list_right = list_at 4

abbrev class_right : Field-of
class_right = limited_at 1 15

abbrev grower_right : Field-of
grower_right = limited_at 2 65535

-- a grower of 0 is refused by 99
abbrev by99 : Field → Field
by99 (Ok (v, n)) = Ok (v, n)
by99 (Err e) = Err (refusal (pick (eqb e.number 14) 99 e.number) e.at)

abbrev zero_grower_by99 : List ℕ → ℕ → Decoded
zero_grower_by99 = reader_by map_at name_right list_right class_right (λ s at. by99 (grower_right s at))

-- every field past the name is refused a byte further on
abbrev late : Field → Field
late (Ok (v, n)) = Ok (v, n)
late (Err e) = Err (refusal e.number (e.at + 1))

abbrev late_offsets : List ℕ → ℕ → Decoded
late_offsets =
    reader_by map_at name_right (λ s at. late (list_right s at)) (λ s at. late (class_right s at))
    (λ s at. late (grower_right s at))

-- the value of a grower is judged before its bytes are counted: 14 before 12
abbrev judges_a_cut_grower : List ℕ → ℕ → Decoded
judges_a_cut_grower =
    reader_by map_at name_right list_right class_right λ s at.
    pick (leb 1 (number_at 2 s at))
    (pick (leb (at + 2) (length s)) (Ok (number_at 2 s at, at + 2)) (Err (refusal 12 at)))
    (Err (refusal 14 at))

-- names are looked for before the count is judged
abbrev names_before_the_count : List ℕ → ℕ → Decoded
names_before_the_count =
    reader_by map_at name_right
    (λ s at. pick (leb (at + 1 + 4 * number_at 1 s at) (length s)) (list_right s at) (Err (refusal 12 at)))
    class_right grower_right

-- a cut list is told at the name that is cut, not at the field, which starts at the count
abbrev at_the_cut_name : List ℕ → ℕ → Decoded
at_the_cut_name =
    reader_by map_at name_right
    (λ s at. then (limited_at 1 32 s at) λ count next.
    pick (leb (next + 4 * count) (length s)) (Ok (count, next + 4 * count))
    (Err (refusal 12 (next + 4 * ((length s - next) / 4)))))
    class_right grower_right

-- a class of 16 is read
abbrev class16 : List ℕ → ℕ → Decoded
class16 = reader_by map_at name_right list_right (limited_at 1 16) grower_right

-- a written count of 0 is read as an empty list
abbrev zero_count : List ℕ → ℕ → Decoded
zero_count =
    reader_by map_at name_right (λ s at. pick (eqb (get_or s at 1) 0) (Ok (0, at + 1)) (list_right s at)) class_right
    grower_right

-- bit 4 of the map is passed over
abbrev bit4 : List ℕ → ℕ → Decoded
bit4 =
    reader_by
    (λ s at. pick (ltb (get_or s at 0) 32 && eqb (get_or s at 0 % 2) 1) (Ok (get_or s at 0, at + 1)) (Err (refusal 13 at)))
    name_right list_right class_right grower_right

-- WRONG ANSWERS

-- offsets run from the entry's start
abbrev from_the_entry : ℕ → Decoded → Decoded
from_the_entry at (job j n) = job j n
from_the_entry at end = end
from_the_entry at (refused c a) = refused c (a - at)

-- 12 and 13 are exchanged
abbrev exchange : Decoded → Decoded
exchange (job j n) = job j n
exchange end = end
exchange (refused c a) = refused (pick (eqb c 12) 13 (pick (eqb c 13) 12 c)) a

-- the end of the sheet is a cut entry
abbrev end_is_cut : ℕ → Decoded → Decoded
end_is_cut at (job j n) = job j n
end_is_cut at end = refused 12 at
end_is_cut at (refused c a) = refused c a

-- every offset is past the sheet
abbrev always_the_end : List ℕ → ℕ → Decoded
always_the_end s at = end

-- a list of bytes, by a test that computes
abbrev bytes_only : List ℕ → Bool
bytes_only [] = true
bytes_only (x ∷ xs) = ltb x 256 && bytes_only xs

all_bytes : (s : List ℕ) → bytes_only s ≡ true → Bytes s
unfolding Bytes
all_bytes [] h i = omega arith
all_bytes (x ∷ xs) h zero = ltb-true x 256 (both (ltb x 256) _ h).0
all_bytes (x ∷ xs) h (suc i) = all_bytes xs (both (ltb x 256) _ h).1 i

abbrev Wrong : (List ℕ → ℕ → Decoded) → Type 0
Wrong read = ((s : List ℕ) (at : ℕ) → Bytes s → ReadsExactly read s at) → ⊥

-- a reader is refuted by an entry of which it answers another number or offset than the right one
refute : (read : List ℕ → ℕ → Decoded) (s : List ℕ) (at : ℕ) → bytes_only s ≡ true → (value : Decoded → ℕ)
    → (value (read s at) ≡ value (decode s at) → ⊥)
    → Wrong read
refute read s at b value differs k =
    let all = all_bytes s b in
    differs (ap value (one_reader read decode s at (k s at all) (reads_exactly s all at)))

-- 0 for a job and 1 for the end
abbrev number : Decoded → ℕ
number (job j n) = 0
number end = 1
number (refused c a) = c

abbrev offset : Decoded → ℕ
offset (job j n) = 0
offset end = 0
offset (refused c a) = a

-- what was answered, and what is right
abbrev Is : ℕ → ℕ → Type 0
Is found right = found ≡ right

pub fields_are_refuted : Wrong zero_grower_by99 × Wrong late_offsets × Wrong judges_a_cut_grower × Wrong names_before_the_count
    × Wrong at_the_cut_name
    × Wrong class16
    × Wrong zero_count
    × Wrong bit4
unfolding decode map_at name_at list_at limited_at number_at names_at
fields_are_refuted = (
  refute zero_grower_by99 (9 ∷ 7 ∷ 0 ∷ 0 ∷ 0 ∷ 0 ∷ 0 ∷ []) 0 refl number (λ (q : Is 99 14). omega arith),
  refute late_offsets (5 ∷ 7 ∷ 0 ∷ 0 ∷ 0 ∷ []) 0 refl offset (λ (q : Is 6 5). omega arith),
  refute judges_a_cut_grower (9 ∷ 7 ∷ 0 ∷ 0 ∷ 0 ∷ 0 ∷ []) 0 refl number (λ (q : Is 14 12). omega arith),
  refute names_before_the_count (3 ∷ 7 ∷ 0 ∷ 0 ∷ 0 ∷ 33 ∷ []) 0 refl number (λ (q : Is 12 14). omega arith),
  refute at_the_cut_name (3 ∷ 7 ∷ 0 ∷ 0 ∷ 0 ∷ 2 ∷ 1 ∷ 0 ∷ 0 ∷ 0 ∷ 2 ∷ []) 0 refl offset (λ (q : Is 10 5). omega arith),
  refute class16 (5 ∷ 7 ∷ 0 ∷ 0 ∷ 0 ∷ 16 ∷ []) 0 refl number (λ (q : Is 0 14). omega arith),
  refute zero_count (3 ∷ 7 ∷ 0 ∷ 0 ∷ 0 ∷ 0 ∷ []) 0 refl number (λ (q : Is 0 14). omega arith),
  refute bit4 (17 ∷ 7 ∷ 0 ∷ 0 ∷ 0 ∷ []) 0 refl number (λ (q : Is 0 13). omega arith),
)

-- the second entry starts at byte 5
pub answers_are_refuted : Wrong (λ s at. from_the_entry at (decode s at)) × Wrong (λ s at. exchange (decode s at))
    × Wrong (λ s at. end_is_cut at (decode s at))
    × Wrong always_the_end
unfolding decode map_at name_at list_at limited_at number_at names_at
answers_are_refuted = (
  refute _ (1 ∷ 7 ∷ 0 ∷ 0 ∷ 0 ∷ 1 ∷ []) 5 refl offset (λ (q : Is 1 6). omega arith),
  refute _ (1 ∷ []) 0 refl number (λ (q : Is 13 12). omega arith),
  refute _ [] 0 refl number (λ (q : Is 12 1). omega arith),
  refute always_the_end (1 ∷ 7 ∷ 0 ∷ 0 ∷ 0 ∷ []) 0 refl number (λ (q : Is 1 0). omega arith),
)

-- WRONG ENTRIES BESIDE THE ANSWER

-- the name of a refused entry is handed out
abbrev hands_the_name : List ℕ → ℕ → Reading
hands_the_name s at =
    record {
      answer = (reading_of (decode s at)).answer;
      entry = record {
        name = number_at 4 s (at + 1);
        count = (reading_of (decode s at)).entry.count;
        class = (reading_of (decode s at)).entry.class;
        grower = (reading_of (decode s at)).entry.grower;
        names = (reading_of (decode s at)).entry.names;
      };
    }

-- names past the count are 9
abbrev nines_past_the_count : List ℕ → ℕ → Reading
nines_past_the_count s at =
    record {
      answer = (reading_of (decode s at)).answer;
      entry = record {
        name = (reading_of (decode s at)).entry.name;
        count = (reading_of (decode s at)).entry.count;
        class = (reading_of (decode s at)).entry.class;
        grower = (reading_of (decode s at)).entry.grower;
        names = take (reading_of (decode s at)).entry.count (reading_of (decode s at)).entry.names
            ++ replicate (32 - (reading_of (decode s at)).entry.count) 9;
      };
    }

abbrev WrongHand : (List ℕ → ℕ → Reading) → Type 0
WrongHand read = ((s : List ℕ) (at : ℕ) → Bytes s → HandsOutExactly read s at) → ⊥

refute_hand : (read : List ℕ → ℕ → Reading) (s : List ℕ) (at : ℕ) → bytes_only s ≡ true → (value : Reading → ℕ)
    → (value (read s at) ≡ value (reading_of (decode s at)) → ⊥)
    → WrongHand read
refute_hand read s at b value differs k =
    let all = all_bytes s b in
    differs (ap value (one_hand read _ s all at (k s at all) (hands_out_exactly s at)))

pub entries_are_refuted : WrongHand hands_the_name × WrongHand nines_past_the_count
unfolding decode map_at name_at list_at limited_at number_at names_at
entries_are_refuted = (
  refute_hand hands_the_name (5 ∷ 7 ∷ 0 ∷ 0 ∷ 0 ∷ 16 ∷ []) 0 refl (λ r. r.entry.name) (λ (q : Is 7 0). omega arith),
  refute_hand nines_past_the_count (1 ∷ 7 ∷ 0 ∷ 0 ∷ 0 ∷ []) 0 refl (λ r. get_or r.entry.names 0 0)
      (λ (q : Is 9 0). omega arith),
)

-- WRONG SHEETS

-- a refusal's offset runs from its entry's start
abbrev on_from_the_entry : ℕ → Decoded → (ℕ → Sheet) → Sheet
on_from_the_entry at (job j n) rest = before j (rest n)
on_from_the_entry at end rest = jobs []
on_from_the_entry at (refused c a) rest = broken c (a - at)

abbrev sheet_from_the_entry : ℕ → List ℕ → ℕ → Sheet
sheet_from_the_entry zero s at = jobs []
sheet_from_the_entry (suc k) s at = on_from_the_entry at (decode s at) (sheet_from_the_entry k s)

-- it stops at the first fault and serves the jobs before it
abbrev on_serving : Decoded → (ℕ → Sheet) → Sheet
on_serving (job j n) rest = before j (rest n)
on_serving end rest = jobs []
on_serving (refused c a) rest = jobs []

abbrev serves_the_earlier : ℕ → List ℕ → ℕ → Sheet
serves_the_earlier zero s at = jobs []
serves_the_earlier (suc k) s at = on_serving (decode s at) (serves_the_earlier k s)

-- it passes over a byte between entries
abbrev on_passing : Decoded → (ℕ → Sheet) → Sheet
on_passing (job j n) rest = before j (rest (n + 1))
on_passing end rest = jobs []
on_passing (refused c a) rest = broken c a

abbrev passes_a_byte : ℕ → List ℕ → ℕ → Sheet
passes_a_byte zero s at = jobs []
passes_a_byte (suc k) s at = on_passing (decode s at) (passes_a_byte k s)

-- it reads the first entry alone
abbrev first_alone : List ℕ → Sheet
first_alone s = decode_from 1 s 0

abbrev WrongSheet : (List ℕ → Sheet) → Type 0
WrongSheet read = ((s : List ℕ) → Bytes s → SheetReadsExactly read s) → ⊥

refute_sheet : (read : List ℕ → Sheet) (s : List ℕ) → bytes_only s ≡ true → (value : Sheet → ℕ)
    → (value (read s) ≡ value (decode_sheet s) → ⊥)
    → WrongSheet read
refute_sheet read s b value differs k =
    let all = all_bytes s b in
    differs (ap value (one_sheet_reader read decode_sheet s (k s all) (sheet_reads_exactly s all)))

-- the offset of a refusal, or how many jobs there are
abbrev told : Sheet → ℕ
told (jobs js) = length js
told (broken c a) = a

pub sheets_are_refuted : WrongSheet (λ s. sheet_from_the_entry (length s) s 0)
    × WrongSheet (λ s. serves_the_earlier (length s) s 0)
    × WrongSheet (λ s. passes_a_byte (length s) s 0)
    × WrongSheet first_alone
unfolding decode_sheet decode_from decode map_at name_at list_at limited_at number_at names_at
sheets_are_refuted = (
  refute_sheet _ (1 ∷ 7 ∷ 0 ∷ 0 ∷ 0 ∷ 5 ∷ 8 ∷ 0 ∷ 0 ∷ 0 ∷ 0 ∷ []) refl told (λ (q : Is 5 10). omega arith),
  refute_sheet _ (1 ∷ 7 ∷ 0 ∷ 0 ∷ 0 ∷ 2 ∷ []) refl told (λ (q : Is 1 5). omega arith),
  refute_sheet _ (1 ∷ 7 ∷ 0 ∷ 0 ∷ 0 ∷ 1 ∷ 8 ∷ 0 ∷ 0 ∷ 0 ∷ []) refl told (λ (q : Is 6 2). omega arith),
  refute_sheet _ (1 ∷ 7 ∷ 0 ∷ 0 ∷ 0 ∷ 1 ∷ 8 ∷ 0 ∷ 0 ∷ 0 ∷ []) refl told (λ (q : Is 1 2). omega arith),
)

-- WRONG SCANS

-- every five bytes are an entry
abbrev counts_fives : List ℕ → SheetRead
counts_fives s = Ok (length s / 5)

-- the entries before a fault are counted
abbrev counts_the_earlier : List ℕ → SheetRead
counts_the_earlier s = scan_sheet (serves_the_earlier (length s) s 0)

-- a whole sheet is told to have no entries
abbrev no_entries : Sheet → SheetRead
no_entries (jobs js) = Ok 0
no_entries (broken c a) = Err (refusal c a)

abbrev counts_none : List ℕ → SheetRead
counts_none s = no_entries (decode_sheet s)

abbrev WrongScan : (List ℕ → SheetRead) → Type 0
WrongScan scan = ((s : List ℕ) → Bytes s → ScansExactly scan s) → ⊥

abbrev answered : SheetRead → ℕ
answered (Ok n) = n
answered (Err e) = 100 * e.number + e.at

refute_scan : (scan : List ℕ → SheetRead) (s : List ℕ) → bytes_only s ≡ true
    → (answered (scan s) ≡ answered (scan_sheet (decode_sheet s)) → ⊥)
    → WrongScan scan
refute_scan scan s b differs k =
    let all = all_bytes s b in
    differs (ap answered (one_scanner scan _ s all (k s all) (scans_exactly s)))

pub scans_are_refuted : WrongScan counts_fives × WrongScan counts_the_earlier × WrongScan counts_none
unfolding decode_sheet decode_from decode map_at name_at list_at limited_at number_at names_at
scans_are_refuted = (
  refute_scan counts_fives (5 ∷ 7 ∷ 0 ∷ 0 ∷ 0 ∷ []) refl (λ (q : Is 1 1205). omega arith),
  refute_scan counts_the_earlier (1 ∷ 7 ∷ 0 ∷ 0 ∷ 0 ∷ 1 ∷ []) refl (λ (q : Is 1 1206). omega arith),
  refute_scan counts_none (1 ∷ 7 ∷ 0 ∷ 0 ∷ 0 ∷ []) refl (λ (q : Is 0 1). omega arith),
)

-- WRONG ROWS

-- 15 comes before the sheet's own refusal
abbrev room_first : List ℕ → List ℕ → SheetRows
room_first s lent =
    pick (leb 36 (length lent)) (read_sheet (decode_sheet s) lent) (sheet_rows (Err (refusal 15 0)) lent)

-- 15 has the offset of the first entry without room
abbrev fifteen_at : SheetRead → SheetRead
fifteen_at (Ok n) = Ok n
fifteen_at (Err e) = Err (refusal e.number (pick (eqb e.number 15) 5 e.at))

abbrev offset_of15 : List ℕ → List ℕ → SheetRows
offset_of15 s lent =
    sheet_rows (fifteen_at (read_sheet (decode_sheet s) lent).answer) (read_sheet (decode_sheet s) lent).rows

-- as many entries as there is room for are stored before 15 is answered
abbrev stored : Sheet → List ℕ → List ℕ
stored (jobs js) lent = take (length lent) (rows_of js ++ drop (36 * length js) lent)
stored (broken c a) lent = lent

abbrev stores_then_refuses : List ℕ → List ℕ → SheetRows
stores_then_refuses s lent = sheet_rows (read_sheet (decode_sheet s) lent).answer (stored (decode_sheet s) lent)

-- the rows behind the entries are cleared
abbrev cleared : Sheet → List ℕ → List ℕ
cleared (jobs js) lent = rows_of js ++ replicate (length lent - 36 * length js) 0
cleared (broken c a) lent = lent

abbrev clears_behind : List ℕ → List ℕ → SheetRows
clears_behind s lent = sheet_rows (read_sheet (decode_sheet s) lent).answer (cleared (decode_sheet s) lent)

-- the rows are filled rightly, and told to be one more
abbrev one_more : SheetRead → SheetRead
one_more (Ok n) = Ok (n + 1)
one_more (Err e) = Err e

abbrev tells_one_more : List ℕ → List ℕ → SheetRows
tells_one_more s lent =
    sheet_rows (one_more (read_sheet (decode_sheet s) lent).answer) (read_sheet (decode_sheet s) lent).rows

-- 15 for every whole sheet, however long the rows are
abbrev no_room_ever : Sheet → List ℕ → SheetRows
no_room_ever (jobs js) lent = sheet_rows (Err (refusal 15 0)) lent
no_room_ever (broken c a) lent = sheet_rows (Err (refusal c a)) lent

-- a broken sheet clears the rows
abbrev clears_where_broken : Sheet → List ℕ → SheetRows
clears_where_broken (jobs js) lent = read_sheet (jobs js) lent
clears_where_broken (broken c a) lent = sheet_rows (Err (refusal c a)) (replicate (length lent) 0)

abbrev WrongRows : (List ℕ → List ℕ → SheetRows) → Type 0
WrongRows read = ((s lent : List ℕ) → Bytes s → RowsReadExactly read s lent) → ⊥

refute_rows : (read : List ℕ → List ℕ → SheetRows) (s lent : List ℕ) → bytes_only s ≡ true → (value : SheetRows → ℕ)
    → (value (read s lent) ≡ value (read_sheet (decode_sheet s) lent) → ⊥)
    → WrongRows read
refute_rows read s lent b value differs k =
    let all = all_bytes s b in
    differs (ap value (one_row_reader read _ s lent all (k s lent all) (rows_exactly s lent)))

pub rows_are_refuted : WrongRows room_first × WrongRows offset_of15 × WrongRows stores_then_refuses × WrongRows clears_behind
    × WrongRows tells_one_more
    × WrongRows (λ s lent. no_room_ever (decode_sheet s) lent)
    × WrongRows (λ s lent. clears_where_broken (decode_sheet s) lent)
unfolding decode_sheet decode_from decode map_at name_at list_at limited_at number_at names_at rows_of
rows_are_refuted = (
  refute_rows room_first (2 ∷ []) [] refl (λ r. answered r.answer) (λ (q : Is 1500 1300). omega arith),
  refute_rows offset_of15 (1 ∷ 7 ∷ 0 ∷ 0 ∷ 0 ∷ []) [] refl (λ r. answered r.answer)
      (λ (q : Is 1505 1500). omega arith),
  refute_rows stores_then_refuses (1 ∷ 7 ∷ 0 ∷ 0 ∷ 0 ∷ []) (9 ∷ []) refl (λ r. get_or r.rows 0 0)
      (λ (q : Is 7 9). omega arith),
  refute_rows clears_behind [] (9 ∷ []) refl (λ r. get_or r.rows 0 0) (λ (q : Is 0 9). omega arith),
  refute_rows tells_one_more [] [] refl (λ r. answered r.answer) (λ (q : Is 1 0). omega arith),
  refute_rows _ [] [] refl (λ r. answered r.answer) (λ (q : Is 1500 0). omega arith),
  refute_rows _ (2 ∷ []) (9 ∷ []) refl (λ r. get_or r.rows 0 0) (λ (q : Is 0 9). omega arith),
)

-- WRONG WRITERS

-- 15 comes before 14
abbrev room_before14 : Entry → List ℕ → ℕ → Written
room_before14 e out at =
    pick (leb (at + length (encode (job_of e))) (length out)) (write_entry e out at) (written (Wrote.Refused 15 0) out)

-- a refusal's offset runs from the output's start, as on reading
abbrev from_the_output : ℕ → Wrote → Wrote
from_the_output at (Wrote.Done n) = Wrote.Done n
from_the_output at (Wrote.Refused c a) = Wrote.Refused c (at + a)

abbrev offsets_onward : Entry → List ℕ → ℕ → Written
offsets_onward e out at = written (from_the_output at (write_entry e out at).answer) (write_entry e out at).out

-- no entry is ever written: 15
abbrev never_writes : Entry → List ℕ → ℕ → Written
never_writes e out at = written (Wrote.Refused 15 0) out

abbrev WrongWriter : (Entry → List ℕ → ℕ → Written) → Type 0
WrongWriter write = ((e : Entry) (out : List ℕ) (at : ℕ) → WritesExactly write e out at) → ⊥

refute_writer : (write : Entry → List ℕ → ℕ → Written) (e : Entry) (out : List ℕ) (at : ℕ) (value : Written → ℕ)
    → (value (write e out at) ≡ value (write_entry e out at) → ⊥)
    → WrongWriter write
refute_writer write e out at value differs k =
    differs (ap value (one_writer write write_entry e out at (k e out at) (writes_exactly e out at)))

abbrev ended : Wrote → ℕ
ended (Wrote.Done n) = n
ended (Wrote.Refused c a) = 100 * c + a

abbrev class16_entry : Entry
class16_entry = record { name = 7; count = 0; class = 16; grower = 0; names = replicate 32 0 }

abbrev bare_entry : Entry
bare_entry = record { name = 7; count = 0; class = 0; grower = 0; names = replicate 32 0 }

pub writers_are_refuted : WrongWriter room_before14 × WrongWriter offsets_onward × WrongWriter never_writes
unfolding write_entry fault_of encode spelt map_byte
writers_are_refuted = (
  refute_writer room_before14 class16_entry [] 0 (λ w. ended w.answer) (λ (q : Is 1500 1405). omega arith),
  refute_writer offsets_onward bare_entry [] 3 (λ w. ended w.answer) (λ (q : Is 1503 1500). omega arith),
  refute_writer never_writes bare_entry (replicate 5 0) 0 (λ w. ended w.answer) (λ (q : Is 1500 5). omega arith),
)

-- WRONG WRITERS OF SHEETS

-- 14 does not say which entry
abbrev forgets_the_entry : SheetWrote → SheetWrote
forgets_the_entry (SheetWrote.Done n bytes) = SheetWrote.Done n bytes
forgets_the_entry (SheetWrote.Refused c i a) = SheetWrote.Refused c 0 a

-- its offset runs from the output's start: the second entry stands behind five bytes
abbrev from_the_sheet : SheetWrote → SheetWrote
from_the_sheet (SheetWrote.Done n bytes) = SheetWrote.Done n bytes
from_the_sheet (SheetWrote.Refused c i a) = SheetWrote.Refused c i (5 * i + a)

abbrev telling : (SheetWrote → SheetWrote) → List ℕ → List ℕ → SheetWritten
telling change rows out = sheet_written (change (write_sheet rows out).answer) (write_sheet rows out).out

-- the entries before the wrong one are left in the output
abbrev leaves_the_earlier : List ℕ → List ℕ → SheetWritten
leaves_the_earlier rows out =
    sheet_written (write_sheet rows out).answer (take (length out) (encode (job_of (entry_at rows 0)) ++ drop 5 out))

abbrev WrongSheetWriter : (List ℕ → List ℕ → SheetWritten) → Type 0
WrongSheetWriter write = ((rows out : List ℕ) → WritesSheetExactly write rows out) → ⊥

refute_sheet_writer : (write : List ℕ → List ℕ → SheetWritten) (rows out : List ℕ) (value : SheetWritten → ℕ)
    → (value (write rows out) ≡ value (write_sheet rows out) → ⊥)
    → WrongSheetWriter write
refute_sheet_writer write rows out value differs k =
    differs (ap value (one_sheet_writer write write_sheet rows out (k rows out) (writes_sheet_exactly rows out)))

abbrev sheet_ended : SheetWrote → ℕ
sheet_ended (SheetWrote.Done n bytes) = n
sheet_ended (SheetWrote.Refused c i a) = 10000 * c + 100 * i + a

-- a row that can be written, and one with class 16
abbrev two_rows : List ℕ
two_rows = 7 ∷ 0 ∷ 0 ∷ 0 ∷ (replicate 32 0 ++ (8 ∷ 0 ∷ 16 ∷ 0 ∷ replicate 32 0))

pub sheet_writers_are_refuted : WrongSheetWriter (telling forgets_the_entry) × WrongSheetWriter (telling from_the_sheet)
    × WrongSheetWriter leaves_the_earlier
unfolding write_sheet entries_from sheet_fault fault_of encode_sheet encode spelt map_byte
sheet_writers_are_refuted = (
  refute_sheet_writer _ two_rows [] (λ w. sheet_ended w.answer) (λ (q : Is 140005 140105). omega arith),
  refute_sheet_writer _ two_rows [] (λ w. sheet_ended w.answer) (λ (q : Is 140110 140105). omega arith),
  refute_sheet_writer _ two_rows (9 ∷ []) (λ w. get_or w.out 0 0) (λ (q : Is 1 9). omega arith),
)
