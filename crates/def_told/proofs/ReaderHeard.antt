-- What a host hears of a sheet that is read, by the fields of the structs and the numerals of include/taskgraph.h: what
-- stands at an offset, and how many entries a sheet has, are read off them, so no two are told alike, and a field that
-- says nothing is 0. Follows docs/SHEETS.md and numbers 12 to 15 of docs/RULES.md, "Turned-away calls".
-- (Wrong/ReaderHeard.antt has tellings that lose something.)
use Rattle.std.specs.Prelude.{◌≡◌, refl, ◌≢◌, false, ◌&&◌, List, [], ◌∷◌, ◌++◌, ℕ, zero, suc, ◌+◌, ◌*◌, ◌-◌, ◌/◌, ◌%◌, ◌≤◌, eqb, leb, ltb, length, get_or, take, drop, replicate}
use Rattle.std.proofs.Common.{sym, ap, ◌∙◌, arith, length-append, take-append-drop, length-take-le, eqb-true}
use Rattle.std.proofs.Math.Option.{Option, none, some}
use Rattle.std.proofs.lemmas.Bool.{eqb-false}
use Rattle.def_numbers.specs.Numbers.{most_names, most_class, most_grower, name_bytes, count_bytes, class_bytes, grower_bytes}
use Rattle.def_numbers.specs.Numbers.{entry_words, cut}
use Rattle.def_basics.specs.Base.{pick}
use Rattle.def_basics.specs.Laws.{never, pick_by}
use Rattle.def_sheets.specs.Number.{number_at}
use Rattle.def_sheets.specs.Job.{Job}
use Rattle.def_sheets.specs.Decode.{Decoded, job, end, refused, decode, Sheet, jobs, broken, decode_from, decode_sheet}
use Rattle.def_sheets.specs.Decode.{onward, before, entry_of, blank, scan_sheet, read_sheet, SheetRows}
use Rattle.def_sheets.specs.Decode.{then_decoded, map_at, name_at, limited_at, list_at, if_bit, then}
use Rattle.def_sheets.proofs.CodeLaws.{entry_bounds}
use Rattle.def_sheets.specs.declared.Entry.{Entry}
use Rattle.def_sheets.specs.Decode.{Field}
use Rattle.std.specs.Prelude.{Ok, Err}
use Rattle.def_sheets.specs.Decode.{SheetRead, refusal}
use Rattle.def_told.specs.Reader.{entry_read, sheet_read}
use Rattle.def_told.specs.declared.EntryRead.{EntryRead}
use Rattle.def_told.specs.declared.SheetScanned.{SheetScanned}

-- AN ENTRY

-- "A job: its name, the first `count` of `names` as its prerequisites, its class and its grower."
abbrev pub heard_job : Entry → Job
heard_job e =
    record { name = e.name; list = take e.count e.names; class = e.class; grower = e.grower }

-- "number 0, found 1: the entry, and `at` is the offset past it. number 0, found 0: the sheet ends". Any other number
-- refuses, with the offset of the field
abbrev pub heard_entry : EntryRead → Option Decoded
heard_entry r =
    pick (eqb r.found 0) (some (pick (eqb r.number 0) end (refused r.number r.at)))
    (pick (eqb r.found 1) (pick (eqb r.number 0) (some (job (heard_job r.entry) r.at)) none) none)

-- all 36 words of an entry are 0
pub record Blank (e : Entry) : Type 0 where
  pub name : e.name ≡ 0
  pub count : e.count ≡ 0
  pub class : e.class ≡ 0
  pub grower : e.grower ≡ 0
  pub names : e.names ≡ replicate 32 0

-- "On reading, names past the count are 0": a count of at most 32, and 32 names
pub record Tidy (e : Entry) : Type 0 where
  pub count : e.count ≤ 32
  pub names : length e.names ≡ 32
  pub past : drop e.count e.names ≡ replicate (32 - e.count) 0

-- "Without an entry found, all of `entry` is 0", and at the end `at` "repeats" the offset asked
pub record SilentEntry (asked : ℕ) (r : EntryRead) : Type 0 where
  pub not_found : r.found ≢ 1 → Blank r.entry
  pub at_the_end : r.found ≢ 1 → r.number ≡ 0 → r.at ≡ asked
  pub found : r.found ≡ 1 → Tidy r.entry

-- any telling of a job as an entry is to be heard so
pub record JobsHeard (told : Job → Entry) : Type 0 where
  pub heard_as_told : (j : Job) → length j.list ≤ 32 → heard_job (told j) ≡ j
  pub tidy : (j : Job) → length j.list ≤ 32 → Tidy (told j)

-- what can stand at an offset: a job of at most 32 names, the end, or a field that is refused by 12, 13 or 14
pub data Stands : Decoded → Type 0 where
  a_job : {j : Job} {next : ℕ} → length j.list ≤ 32 → Stands (job j next)
  the_end : Stands end
  by_12 : {field : ℕ} → Stands (refused 12 field)
  by_13 : {field : ℕ} → Stands (refused 13 field)
  by_14 : {field : ℕ} → Stands (refused 14 field)

-- any telling of what stands at an offset is to be heard so
pub record EntriesHeard (told : ℕ → Decoded → EntryRead) : Type 0 where
  pub heard_as_told : (asked : ℕ) (x : Decoded) → Stands x → heard_entry (told asked x) ≡ some x
  pub silent : (asked : ℕ) (x : Decoded) → Stands x → SilentEntry asked (told asked x)

-- ---- what C is told is heard
front : (xs ys : List ℕ) → take (length xs) (xs ++ ys) ≡ xs
front [] ys = refl
front (x ∷ xs) ys = ap (λ (l : List ℕ). x ∷ l) (front xs ys)

past : (xs ys : List ℕ) → drop (length xs) (xs ++ ys) ≡ ys
past [] ys = refl
past (x ∷ xs) ys = past xs ys

length_zeros : (n : ℕ) → length {A = ℕ} (replicate n 0) ≡ n
length_zeros zero = refl
length_zeros (suc n) = ap suc (length_zeros n)

job_heard : (j : Job) → heard_job (entry_of j) ≡ j
job_heard j =
    let e = front j.list (replicate (32 - length j.list) 0) in
    λ i. record { name = j.name; list = e i; class = j.class; grower = j.grower }

entry_heard : (asked : ℕ) (x : Decoded) → Stands x → heard_entry (entry_read asked x) ≡ some x
entry_heard asked x (a_job {j} {next} l) = ap (λ (k : Job). some (job k next)) (job_heard j)
entry_heard asked x the_end = refl
entry_heard asked x by_12 = refl
entry_heard asked x by_13 = refl
entry_heard asked x by_14 = refl

blank_entry : Blank blank
blank_entry = record { name = refl; count = refl; class = refl; grower = refl; names = refl }

tidy_entry : (j : Job) → length j.list ≤ 32 → Tidy (entry_of j)
tidy_entry j l = record {
  count = l;
  names = simp (length-append, length_zeros) (omega arith);
  past = past j.list (replicate (32 - length j.list) 0);
}

pub jobs_heard : JobsHeard entry_of
jobs_heard = record { heard_as_told = λ j l. job_heard j; tidy = tidy_entry }

entry_silent : (asked : ℕ) (x : Decoded) → Stands x → SilentEntry asked (entry_read asked x)
entry_silent asked x (a_job {j} {next} l) = record {
  not_found = λ n. absurd (n refl);
  at_the_end = λ n. absurd (n refl);
  found = λ e. tidy_entry j l;
}
entry_silent asked x the_end = record {
  not_found = λ n. blank_entry;
  at_the_end = λ n e. refl;
  found = λ e. never e;
}
entry_silent asked x by_12 = record {
  not_found = λ n. blank_entry;
  at_the_end = λ n e. absurd (eqb-false 12 0 refl e);
  found = λ e. never e;
}
entry_silent asked x by_13 = record {
  not_found = λ n. blank_entry;
  at_the_end = λ n e. absurd (eqb-false 13 0 refl e);
  found = λ e. never e;
}
entry_silent asked x by_14 = record {
  not_found = λ n. blank_entry;
  at_the_end = λ n e. absurd (eqb-false 14 0 refl e);
  found = λ e. never e;
}

pub entries_heard : EntriesHeard entry_read
entries_heard = record { heard_as_told = entry_heard; silent = entry_silent }

-- ---- and no other telling is heard so
entry_back : (e : Entry) → Tidy e → e ≡ entry_of (heard_job e)
entry_back e t =
    let c : length (take e.count e.names) ≡ e.count =
    length-take-le e.count e.names (omega (arith, t.count, t.names)) in
    let n : take e.count e.names ++ replicate (32 - length (take e.count e.names)) 0 ≡ e.names =
    rw (c, ← t.past) (take-append-drop e.count e.names) in
    λ i. record { name = e.name; count = sym c i; class = e.class; grower = e.grower; names = sym n i }

pub jobs_told_one_way : (told : Job → Entry) → JobsHeard told → (j : Job) → length j.list ≤ 32 → told j ≡ entry_of j
jobs_told_one_way told h j l = entry_back (told j) (h.tidy j l) ∙ ap entry_of (h.heard_as_told j l)

blank_back : (e : Entry) → Blank e → e ≡ blank
blank_back e b = λ i. record {
  name = b.name i;
  count = b.count i;
  class = b.class i;
  grower = b.grower i;
  names = b.names i;
}

module _ (asked : ℕ) (r : EntryRead) (q : SilentEntry asked r) (x : Decoded) where
  abbrev From : Option Decoded → Type 0
  From o = o ≡ some x → r ≡ entry_read asked x

  is : (y : Decoded) → r ≡ entry_read asked y → From (some y)
  is y e h = let z : y ≡ x = cc in rw (← z) e

  nothing : From none
  nothing h = never (cc)

  entry_heard_back : From (heard_entry r)
  entry_heard_back =
      pick_by From (eqb r.found 0)
      (λ z.
      let found = eqb-true r.found 0 z in
      let none_found : r.found ≢ 1 = rw found (eqb-false 0 1 refl) in
      let empty = blank_back r.entry (q.not_found none_found) in
      pick_by (λ y. From (some y)) (eqb r.number 0)
      (λ e.
      let number = eqb-true r.number 0 e in
      let at = q.at_the_end none_found number in
      is end (λ i. record { number = number i; found = found i; at = at i; entry = empty i }))
      (λ e. is (refused r.number r.at)
      (λ i. record { number = r.number; found = found i; at = r.at; entry = empty i }))) λ n.
      pick_by From (eqb r.found 1)
      (λ z.
      let found = eqb-true r.found 1 z in
      let entry = entry_back r.entry (q.found found) in
      pick_by From (eqb r.number 0)
      (λ e.
      let number = eqb-true r.number 0 e in
      is (job (heard_job r.entry) r.at)
      (λ i. record { number = number i; found = found i; at = r.at; entry = entry i })) λ n.
      nothing) λ n.
      nothing

pub entries_told_one_way : (told : ℕ → Decoded → EntryRead) → EntriesHeard told → (asked : ℕ) (x : Decoded) → Stands x
    → told asked x ≡ entry_read asked x
entries_told_one_way told h asked x t =
    entry_heard_back asked (told asked x) (h.silent asked x t) x (h.heard_as_told asked x t)

-- ---- and nothing else than that stands at an offset: a field is got, or refused by one of these numbers
data Judged : Field → Type 0 where
  got : {v n : ℕ} → Judged (Ok (v, n))
  by_12 : {a : ℕ} → Judged (Err (refusal 12 a))
  by_13 : {a : ℕ} → Judged (Err (refusal 13 a))
  by_14 : {a : ℕ} → Judged (Err (refusal 14 a))

data Ended : Decoded → Type 0 where
  a_job : {j : Job} {n : ℕ} → Ended (job j n)
  the_end : Ended end
  by_12 : {a : ℕ} → Ended (refused 12 a)
  by_13 : {a : ℕ} → Ended (refused 13 a)
  by_14 : {a : ℕ} → Ended (refused 14 a)

map_judged : (s : List ℕ) (at : ℕ) → Judged (map_at s at)
unfolding map_at
map_judged s at =
    pick_by Judged (ltb (get_or s at 0) 16 && eqb (get_or s at 0 % 2) 1) (λ e. got) (λ e. Judged.by_13)

name_judged : (w : ℕ) (s : List ℕ) (at : ℕ) → Judged (name_at w s at)
unfolding name_at
name_judged w s at = pick_by Judged (leb (at + w) (length s)) (λ e. got) (λ e. Judged.by_12)

limited_judged : (w most : ℕ) (s : List ℕ) (at : ℕ) → Judged (limited_at w most s at)
unfolding limited_at
limited_judged w most s at =
    pick_by Judged (leb (at + w) (length s))
    (λ e. pick_by Judged (leb 1 (number_at w s at) && leb (number_at w s at) most) (λ f. got) (λ f. Judged.by_14))
    (λ e. Judged.by_12)

list_judged : (w : ℕ) (s : List ℕ) (at : ℕ) → Judged (list_at w s at)
unfolding list_at
list_judged w s at = go (limited_at count_bytes most_names s at) (limited_judged count_bytes most_names s at)
  where
    go : (f : Field) → Judged f
        → Judged (then f λ count next.
        pick (leb (next + w * count) (length s)) (Ok (count, next + w * count)) (Err (refusal cut at)))
    go f (got {v} {n}) = pick_by Judged (leb (n + w * v) (length s)) (λ e. got) (λ e. Judged.by_12)
    go f Judged.by_12 = Judged.by_12
    go f Judged.by_13 = Judged.by_13
    go f Judged.by_14 = Judged.by_14

bit_judged : (bit at : ℕ) (f : Field) → Judged f → Judged (if_bit bit at f)
bit_judged bit at f h = pick_by Judged (eqb bit 0) (λ e. got) (λ e. h)

then_ended : (f : Field) (k : ℕ → ℕ → Decoded) → Judged f → ((v n : ℕ) → Ended (k v n)) → Ended (then_decoded f k)
then_ended f k got h = h _ _
then_ended f k Judged.by_12 h = Ended.by_12
then_ended f k Judged.by_13 h = Ended.by_13
then_ended f k Judged.by_14 h = Ended.by_14

ended : (s : List ℕ) (at : ℕ) → Ended (decode s at)
unfolding decode
ended s at =
    pick_by Ended (ltb at (length s))
    (λ e.
    then_ended _ _ (map_judged s at) λ map n₀.
    then_ended _ _ (name_judged name_bytes s n₀) λ name n₁.
    then_ended _ _ (bit_judged (map / 2 % 2) n₁ _ (list_judged name_bytes s n₁)) λ count n₂.
    then_ended _ _ (bit_judged (map / 4 % 2) n₂ _ (limited_judged class_bytes most_class s n₂)) λ class n₃.
    then_ended _ _ (bit_judged (map / 8 % 2) n₃ _ (limited_judged grower_bytes most_grower s n₃)) λ grower n₄.
    a_job)
    (λ e. Ended.the_end)

pub what_stands : (s : List ℕ) (at : ℕ) → Stands (decode s at)
what_stands s at = go (decode s at) (ended s at) refl
  where
    go : (d : Decoded) → Ended d → decode s at ≡ d → Stands d
    go d (Ended.a_job {j} {n}) e = Stands.a_job (entry_bounds s at j n e).count
    go d Ended.the_end e = Stands.the_end
    go d Ended.by_12 e = Stands.by_12
    go d Ended.by_13 e = Stands.by_13
    go d Ended.by_14 e = Stands.by_14

-- A SHEET

-- "number 0: how many entries the sheet has"; any other refuses, with the offset of the field
abbrev pub heard_sheet : SheetScanned → SheetRead
heard_sheet r = pick (eqb r.number 0) (Ok r.entries) (Err (refusal r.number r.at))

-- "`at` is 0" of a sheet that was read, "entries is 0" of one that was refused, and by 15 "entries and `at` are 0"
pub record SilentSheet (r : SheetScanned) : Type 0 where
  pub counted : r.number ≡ 0 → r.at ≡ 0
  pub refused : r.number ≢ 0 → r.entries ≡ 0
  pub by_15 : r.number ≡ 15 → (r.entries ≡ 0) × (r.at ≡ 0)

-- how a sheet can be judged: it has entries, or a field of it is refused by 12, 13 or 14
pub data Scanned : SheetRead → Type 0 where
  whole : {n : ℕ} → Scanned (Ok n)
  by_12 : {field : ℕ} → Scanned (Err (refusal 12 field))
  by_13 : {field : ℕ} → Scanned (Err (refusal 13 field))
  by_14 : {field : ℕ} → Scanned (Err (refusal 14 field))

-- and how it can be read into rows: so, or the rows are too short
pub data ReadIn : SheetRead → Type 0 where
  scanned : {x : SheetRead} → Scanned x → ReadIn x
  by_15 : ReadIn (Err (refusal 15 0))

-- any telling of how a sheet was read is to be heard so
pub record SheetsHeard (told : SheetRead → SheetScanned) : Type 0 where
  pub heard_as_told : (x : SheetRead) → ReadIn x → heard_sheet (told x) ≡ x
  pub silent : (x : SheetRead) → ReadIn x → SilentSheet (told x)

sheet_heard : (x : SheetRead) → ReadIn x → heard_sheet (sheet_read x) ≡ x
sheet_heard x (scanned whole) = refl
sheet_heard x (scanned Scanned.by_12) = refl
sheet_heard x (scanned Scanned.by_13) = refl
sheet_heard x (scanned Scanned.by_14) = refl
sheet_heard x ReadIn.by_15 = refl

silent_refusal : (n field : ℕ) → eqb n 0 ≡ false → eqb n 15 ≡ false
    → SilentSheet (sheet_read (Err (refusal n field)))
silent_refusal n field f g = record {
  counted = λ e. absurd (eqb-false n 0 f e);
  refused = λ m. refl;
  by_15 = λ e. absurd (eqb-false n 15 g e);
}

sheet_silent : (x : SheetRead) → ReadIn x → SilentSheet (sheet_read x)
sheet_silent x (scanned whole) = record {
  counted = λ e. refl;
  refused = λ n. absurd (n refl);
  by_15 = λ e. absurd (eqb-false 0 15 refl e);
}
sheet_silent x (scanned (Scanned.by_12 {field})) = silent_refusal 12 field refl refl
sheet_silent x (scanned (Scanned.by_13 {field})) = silent_refusal 13 field refl refl
sheet_silent x (scanned (Scanned.by_14 {field})) = silent_refusal 14 field refl refl
sheet_silent x ReadIn.by_15 = record {
  counted = λ e. absurd (eqb-false 15 0 refl e);
  refused = λ n. refl;
  by_15 = λ e. (refl, refl);
}

pub sheets_heard : SheetsHeard sheet_read
sheets_heard = record { heard_as_told = sheet_heard; silent = sheet_silent }

-- ---- and no other telling is heard so
sheet_back : (r : SheetScanned) → SilentSheet r → r ≡ sheet_read (heard_sheet r)
sheet_back r q =
    pick_by (λ y. r ≡ sheet_read y) (eqb r.number 0)
    (λ e.
    let number = eqb-true r.number 0 e in
    let at = q.counted number in
    λ i. record { number = number i; entries = r.entries; at = at i })
    (λ e.
    let entries = q.refused (eqb-false r.number 0 e) in
    λ i. record { number = r.number; entries = entries i; at = r.at })

pub sheets_told_one_way : (told : SheetRead → SheetScanned) → SheetsHeard told → (x : SheetRead) → ReadIn x
    → told x ≡ sheet_read x
sheets_told_one_way told h x t =
    sheet_back (told x) (h.silent x t) ∙ ap sheet_read (h.heard_as_told x t)

-- ---- and no sheet is read otherwise
before_scanned : (j : Job) (sheet : Sheet) → Scanned (scan_sheet sheet) → Scanned (scan_sheet (before j sheet))
before_scanned j (jobs js) h = whole
before_scanned j (broken c a) h = h

from_scanned : (k : ℕ) (s : List ℕ) (at : ℕ) → Scanned (scan_sheet (decode_from k s at))
unfolding decode_from
from_scanned zero s at = whole
from_scanned (suc k) s at = go (decode s at) (ended s at) (from_scanned k s)
  where
    go : (d : Decoded) → Ended d → ((n : ℕ) → Scanned (scan_sheet (decode_from k s n)))
        → Scanned (scan_sheet (onward d (decode_from k s)))
    go d (Ended.a_job {j} {n}) ih = before_scanned j (decode_from k s n) (ih n)
    go d Ended.the_end ih = whole
    go d Ended.by_12 ih = Scanned.by_12
    go d Ended.by_13 ih = Scanned.by_13
    go d Ended.by_14 ih = Scanned.by_14

pub how_scanned : (s : List ℕ) → Scanned (scan_sheet (decode_sheet s))
unfolding decode_sheet
how_scanned s = from_scanned (length s) s 0

pub how_read : (s rows : List ℕ) → ReadIn (read_sheet (decode_sheet s) rows).answer
how_read s rows = go (decode_sheet s) (how_scanned s)
  where
    go : (x : Sheet) → Scanned (scan_sheet x) → ReadIn (read_sheet x rows).answer
    go (jobs js) h =
        pick_by (λ (r : SheetRows). ReadIn r.answer) (leb (entry_words * length js) (length rows))
        (λ e. scanned whole) (λ e. ReadIn.by_15)
    go (broken c a) h = scanned h
