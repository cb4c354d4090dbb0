-- The definitions of reading read exactly what Reading.antt says, and no other reader does (docs/SHEETS.md, "Reading").
use Rattle.std.specs.Prelude.{ℕ, zero, suc, ◌+◌, ◌*◌, ◌/◌, ◌%◌, ◌≤◌, ◌<◌, ◌≡◌, refl, Bool, true, false, ◌&&◌, List, [], ◌∷◌, ◌++◌, length, take, drop, ltb}
use Rattle.std.proofs.Common.{sym, ap, ◌∙◌, append_assoc, arith, length-append, take-append-drop, take_at, drop_at, length-take-le, lt-ltb, le-ltb, le-leb, eq-eqb, ne_eqb}
use Rattle.std.proofs.Math.Decide.{ℕ_discrete, dec_lt, dec_le}
use Rattle.std.proofs.lemmas.Bool.{lt-leb}
use Rattle.def_basics.specs.Laws.{never}
use Rattle.def_sheets.specs.Number.{number_at, spelt}
use Rattle.def_sheets.specs.Job.{Job, Valid, bit_of, spelt_unless_zero, spelt_names, spelt_list, map_byte, encode}
use Rattle.def_sheets.specs.Decode.{if_bit, map_at, name_at, limited_at, list_at, names_at, Decoded, job, end}
use Rattle.def_sheets.specs.Decode.{refused, then_decoded, decode, reading_of}
use Rattle.def_sheets.proofs.NumberLaws.{Bytes}
use Rattle.def_sheets.proofs.EntryTrip.{entry_there, entry_back, end_there, end_back}
use Rattle.def_sheets.specs.Reading.{name_spelling, names_spelling, list_spelling, class_spelling, grower_spelling}
use Rattle.def_sheets.specs.Reading.{list_bit, class_bit, grower_bit, spelling, Fits, SpeltAt, byte_at, UpToName}
use Rattle.def_sheets.specs.Reading.{UpToList, UpToClass, UpToGrower, Faulty, ReadsExactly, HandsOutExactly}
use Rattle.def_sheets.specs.declared.Reading.{Reading}
use Rattle.std.specs.Prelude.{Ok, Err}
use Rattle.def_sheets.specs.Decode.{refusal}

-- THE SPELLING by numerals is the writer's

four_bytes : (x : ℕ) → spelt 4 x ≡ name_spelling x
unfolding spelt
four_bytes x =
    let q : x / 256 / 256 ≡ x / 65536 = omega arith in
    let r : x / 65536 / 256 ≡ x / 16777216 = omega arith in
    rw (q, r)

names_bytes : (xs : List ℕ) → spelt_names 4 xs ≡ names_spelling xs
unfolding spelt_names names_spelling
names_bytes [] = refl
names_bytes (x ∷ xs) = rw (four_bytes x, names_bytes xs)

list_bytes_lem : (xs : List ℕ) → length xs ≤ 32 → spelt_list 4 xs ≡ list_spelling xs
unfolding spelt
list_bytes_lem [] small = refl
list_bytes_lem (x ∷ xs) small =
    let q : suc (length xs) % 256 ≡ suc (length xs) = omega arith in
    rw (q, names_bytes (x ∷ xs))

class_bytes_lem : (c : ℕ) → c ≤ 15 → spelt_unless_zero 1 c ≡ class_spelling c
unfolding spelt
class_bytes_lem zero small = refl
class_bytes_lem (suc c) small = let q : suc c % 256 ≡ suc c = omega arith in rw q

grower_bytes_lem : (g : ℕ) → g ≤ 65535 → spelt_unless_zero 2 g ≡ grower_spelling g
unfolding spelt
grower_bytes_lem zero small = refl
grower_bytes_lem (suc g) small = let q : suc g / 256 % 256 ≡ suc g / 256 = omega arith in rw q

list_bit_lem : (xs : List ℕ) → 2 * bit_of (length xs) ≡ list_bit xs
list_bit_lem [] = refl
list_bit_lem (x ∷ xs) = refl

class_bit_lem : (c : ℕ) → 4 * bit_of c ≡ class_bit c
class_bit_lem zero = refl
class_bit_lem (suc c) = refl

grower_bit_lem : (g : ℕ) → 8 * bit_of g ≡ grower_bit g
grower_bit_lem zero = refl
grower_bit_lem (suc g) = refl

-- of every job within the limits of its fields
pub spelt_within : (j : Job) → length j.list ≤ 32 → j.class ≤ 15 → j.grower ≤ 65535 → encode j ≡ spelling j
unfolding encode spelling map_byte
spelt_within j count class grower = rw (
  list_bit_lem j.list,
  class_bit_lem j.class,
  grower_bit_lem j.grower,
  four_bytes j.name,
  list_bytes_lem j.list count,
  class_bytes_lem j.class class,
  grower_bytes_lem j.grower grower,
)

pub spelt_by_numerals : (j : Job) → Fits j → encode j ≡ spelling j
spelt_by_numerals j f = spelt_within j f.count f.class f.grower

pub fits_valid : (j : Job) → Fits j → Valid j
fits_valid j f =
    record { name = f.name; names = f.names; count = f.count; class = f.class; grower = f.grower }

pub valid_fits : (j : Job) → Valid j → Fits j
valid_fits j v =
    record { name = v.name; names = v.names; count = v.count; class = v.class; grower = v.grower }

-- FIELD BY FIELD: what the definition reads where a field is fine, and by what it is refused

-- reading from a field on, with what was read before it
abbrev from_grower : (s : List ℕ) (at count class from : ℕ) → Decoded
from_grower s at count class g =
    then_decoded (if_bit (byte_at s at / 8 % 2) g (limited_at 2 65535 s g)) λ grower n.
    job (record {
      name = number_at 4 s (at + 1);
      list = names_at 4 s (at + 5 + 1) count;
      class = class;
      grower = grower;
    }) n

abbrev from_class : List ℕ → ℕ → ℕ → ℕ → Decoded
from_class s at count c =
    then_decoded (if_bit (byte_at s at / 4 % 2) c (limited_at 1 15 s c)) λ class g. from_grower s at count class g

abbrev from_list : List ℕ → ℕ → Decoded
from_list s at =
    then_decoded (if_bit (byte_at s at / 2 % 2) (at + 5) (list_at 4 s (at + 5))) λ count c. from_class s at count c

map_fine : (s : List ℕ) (at : ℕ) → UpToName s at → map_at s at ≡ Ok (byte_at s at, at + 1)
unfolding map_at
map_fine s at f = rw (lt-ltb (byte_at s at) 16 f.known, eq-eqb (byte_at s at % 2) 1 f.named)

past_name : (s : List ℕ) (at : ℕ) → UpToList s at → decode s at ≡ from_list s at
unfolding decode name_at
past_name s at f =
    let m = map_fine s at f.map in
    let q : at + 1 + 4 ≡ at + 5 = omega arith in
    rw (lt-ltb at (length s) f.map.starts, m, q, le-leb (at + 5) (length s) f.whole)

limited_fine : (w most : ℕ) (s : List ℕ) (at : ℕ) → at + w ≤ length s → 1 ≤ number_at w s at → number_at w s at ≤ most
    → limited_at w most s at ≡ Ok (number_at w s at, at + w)
unfolding limited_at
limited_fine w most s at inside least greatest =
    rw (le-leb (at + w) (length s) inside, le-leb 1 (number_at w s at) least, le-leb (number_at w s at) most greatest)

limited_cut : (w most : ℕ) (s : List ℕ) (at : ℕ) → length s < at + w → limited_at w most s at ≡ Err (refusal 12 at)
unfolding limited_at
limited_cut w most s at outside = rw (lt-leb (at + w) (length s) outside)

limited_zero : (w most : ℕ) (s : List ℕ) (at : ℕ) → at + w ≤ length s → number_at w s at ≡ 0
    → limited_at w most s at ≡ Err (refusal 14 at)
unfolding limited_at
limited_zero w most s at inside none = rw (le-leb (at + w) (length s) inside, none)

limited_over : (w most : ℕ) (s : List ℕ) (at : ℕ) → at + w ≤ length s → most < number_at w s at
    → limited_at w most s at ≡ Err (refusal 14 at)
unfolding limited_at
limited_over w most s at inside over =
    rw (
      le-leb (at + w) (length s) inside,
      le-leb 1 (number_at w s at) (omega arith),
      lt-leb (number_at w s at) most over,
    )

one_byte : (s : List ℕ) (at : ℕ) → number_at 1 s at ≡ byte_at s at
unfolding number_at
one_byte s at = omega arith

two_bytes : (s : List ℕ) (at : ℕ) → number_at 2 s at ≡ byte_at s at + 256 * byte_at s (at + 1)
unfolding number_at
two_bytes s at = omega arith

-- the count that was read before the class
record AtClass (s : List ℕ) (at c : ℕ) : Type 0 where
  count : ℕ
  same : decode s at ≡ from_class s at count c
  from : at ≤ c
  inside : c ≤ length s

list_fine : (s : List ℕ) (at : ℕ) → at + 1 ≤ length s → 1 ≤ byte_at s at → byte_at s at ≤ 32
    → at + 1 + 4 * byte_at s at ≤ length s
    → list_at 4 s at ≡ Ok (byte_at s at, at + 1 + 4 * byte_at s at)
unfolding list_at
list_fine s at inside least greatest whole =
    let b = one_byte s at in
    let f = limited_fine 1 32 s at inside (omega arith) (omega arith) in
    rw (f, b, le-leb (at + 1 + 4 * byte_at s at) (length s) whole)

at_class : (s : List ℕ) (at c : ℕ) → UpToClass s at c → AtClass s at c
at_class s at c (UpToClass.left_out f clear ends) =
    record {
      count = 0;
      same = rw (past_name s at f, clear, ends);
      from = omega arith;
      inside = omega (arith, f.whole);
    }
at_class s at c (UpToClass.read f set counted least greatest whole ends) =
    let q : at + 5 + 1 + 4 * byte_at s (at + 5) ≡ c = omega arith in
    let l = list_fine s (at + 5) (omega arith) least greatest (omega arith) in
    record {
      count = byte_at s (at + 5);
      same = rw (past_name s at f, set, l, q);
      from = omega arith;
      inside = omega arith;
    }

-- the count and the class that were read before the grower
record AtGrower (s : List ℕ) (at g : ℕ) : Type 0 where
  count : ℕ
  class : ℕ
  same : decode s at ≡ from_grower s at count class g
  from : at ≤ g
  inside : g ≤ length s

at_grower : (s : List ℕ) (at g : ℕ) → UpToGrower s at g → AtGrower s at g
at_grower s at g (UpToGrower.left_out f clear) =
    let a = at_class s at g f in
    record { count = a.count; class = 0; same = rw (a.same, clear); from = a.from; inside = a.inside }
at_grower s at g (UpToGrower.read {c} f set inside least greatest ends) =
    let a = at_class s at c f in
    let b = one_byte s c in
    let l = limited_fine 1 15 s c inside (omega arith) (omega arith) in
    record {
      count = a.count;
      class = number_at 1 s c;
      same = rw (a.same, set, l, ends);
      from = omega arith;
      inside = omega arith;
    }

-- A FAULTY ENTRY is refused so

never_both : (b : Bool) → b && false ≡ false
never_both true = refl
never_both false = refl

name_cut : (s : List ℕ) (at : ℕ) → UpToName s at → length s < at + 5 → decode s at ≡ refused 12 (at + 1)
unfolding decode name_at
name_cut s at f cut =
    let m = map_fine s at f in
    rw (lt-ltb at (length s) f.starts, m, lt-leb (at + 1 + 4) (length s) (omega arith))

pub faulty_refused : (s : List ℕ) (at number offset : ℕ) → Faulty s at number offset
    → decode s at ≡ refused number offset
unfolding decode map_at name_at list_at
faulty_refused s at number offset (Faulty.name_bit_clear starts clear) =
    rw (lt-ltb at (length s) starts, ne_eqb (byte_at s at % 2) 1 (λ e. omega arith), never_both (ltb (byte_at s at) 16))
faulty_refused s at number offset (Faulty.unknown_bit starts over) =
    rw (lt-ltb at (length s) starts, le-ltb (byte_at s at) 16 over)
faulty_refused s at number offset (Faulty.name_cut f cut) = name_cut s at f cut
faulty_refused s at number offset (Faulty.count_cut f set cut) =
    rw (past_name s at f, set, limited_cut 1 32 s (at + 5) (omega arith))
faulty_refused s at number offset (Faulty.count_zero f set counted none) =
    let b = one_byte s (at + 5) in
    rw (past_name s at f, set, limited_zero 1 32 s (at + 5) (omega arith) (omega arith))
faulty_refused s at number offset (Faulty.count_over f set counted over) =
    let b = one_byte s (at + 5) in
    rw (past_name s at f, set, limited_over 1 32 s (at + 5) (omega arith) (omega arith))
faulty_refused s at number offset (Faulty.names_cut f set counted least greatest cut) =
    let b = one_byte s (at + 5) in
    let l = limited_fine 1 32 s (at + 5) (omega arith) (omega arith) (omega arith) in
    rw (past_name s at f, set, l, b, lt-leb (at + 5 + 1 + 4 * byte_at s (at + 5)) (length s) (omega arith))
faulty_refused s at number offset (Faulty.class_cut {c} f set cut) =
    let a = at_class s at c f in
    rw (a.same, set, limited_cut 1 15 s c cut)
faulty_refused s at number offset (Faulty.class_zero {c} f set inside none) =
    let a = at_class s at c f in
    let b = one_byte s c in
    rw (a.same, set, limited_zero 1 15 s c inside (omega arith))
faulty_refused s at number offset (Faulty.class_over {c} f set inside over) =
    let a = at_class s at c f in
    let b = one_byte s c in
    rw (a.same, set, limited_over 1 15 s c inside (omega arith))
faulty_refused s at number offset (Faulty.grower_cut {g} f set cut) =
    let a = at_grower s at g f in
    rw (a.same, set, limited_cut 2 65535 s g cut)
faulty_refused s at number offset (Faulty.grower_zero {g} f set inside low high) =
    let a = at_grower s at g f in
    let b = two_bytes s g in
    rw (a.same, set, limited_zero 2 65535 s g inside (omega arith))

-- AN ENTRY WITHOUT A FAULT is read as a job: the fields are judged in their order

-- what is found at an offset: the end, a fault, or a job that the definition reads
data Found (s : List ℕ) (at : ℕ) : Type 0 where
  ended : length s ≤ at → Found s at
  fault : {n o : ℕ} → Faulty s at n o → Found s at
  fine : {j : Job} {n : ℕ} → decode s at ≡ job j n → Found s at

-- a bit is clear or stands
by_bit : {X : Type 0} (x : ℕ) → (x % 2 ≡ 0 → X) → (x % 2 ≡ 1 → X) → X
by_bit x clear set = elim (ℕ_discrete (x % 2) 0) [
  | yes e ↦ clear e
  | no e ↦ set (omega arith)
]

from_grower_lem : (s : List ℕ) → Bytes s → (at g : ℕ) → UpToGrower s at g → Found s at
unfolding Bytes
from_grower_lem s all at g f =
    let a = at_grower s at g f in
    let b = two_bytes s g in
    let low = all g in
    let high = all (g + 1) in
    by_bit (byte_at s at / 8) (λ clear. Found.fine (rw clear at a.same)) λ set.
    elim (dec_le (g + 2) (length s)) [
      | no cut ↦ Found.fault (Faulty.grower_cut f set (omega arith))
      | yes inside ↦ elim (dec_le 1 (number_at 2 s g)) [
        | no none ↦ Found.fault (Faulty.grower_zero f set inside (omega arith) (omega arith))
        | yes some ↦
            let l = limited_fine 2 65535 s g inside some (omega arith) in
            Found.fine (rw (set, l) at a.same)
      ]
    ]

from_class_lem : (s : List ℕ) → Bytes s → (at c : ℕ) → UpToClass s at c → Found s at
from_class_lem s all at c f =
    by_bit (byte_at s at / 4) (λ clear. from_grower_lem s all at c (UpToGrower.left_out f clear)) λ set.
    elim (dec_le (c + 1) (length s)) [
      | no cut ↦ Found.fault (Faulty.class_cut f set (omega arith))
      | yes inside ↦ elim (dec_le 1 (byte_at s c)) [
        | no none ↦ Found.fault (Faulty.class_zero f set inside (omega arith))
        | yes some ↦ elim (dec_le (byte_at s c) 15) [
          | no above ↦ Found.fault (Faulty.class_over f set inside (omega arith))
          | yes most ↦ from_grower_lem s all at (c + 1) (UpToGrower.read f set inside some most refl)
        ]
      ]
    ]

from_list_lem : (s : List ℕ) → Bytes s → (at : ℕ) → UpToList s at → Found s at
from_list_lem s all at f =
    by_bit (byte_at s at / 2) (λ clear. from_class_lem s all at (at + 5) (UpToClass.left_out f clear refl)) λ set.
    elim (dec_le (at + 6) (length s)) [
      | no cut ↦ Found.fault (Faulty.count_cut f set (omega arith))
      | yes counted ↦ elim (dec_le 1 (byte_at s (at + 5))) [
        | no none ↦ Found.fault (Faulty.count_zero f set counted (omega arith))
        | yes some ↦ elim (dec_le (byte_at s (at + 5)) 32) [
          | no above ↦ Found.fault (Faulty.count_over f set counted (omega arith))
          | yes most ↦ elim (dec_le (at + 6 + 4 * byte_at s (at + 5)) (length s)) [
            | no cut ↦ Found.fault (Faulty.names_cut f set counted some most (omega arith))
            | yes whole ↦ from_class_lem s all at _ (UpToClass.read f set counted some most whole refl)
          ]
        ]
      ]
    ]

find : (s : List ℕ) → Bytes s → (at : ℕ) → Found s at
find s all at =
    elim (dec_le (length s) at) [
      | yes past ↦ Found.ended past
      | no inside ↦ by_bit (byte_at s at) (λ clear. Found.fault (Faulty.name_bit_clear (omega arith) clear)) λ named.
          elim (dec_lt (byte_at s at) 16) [
            | no above ↦ Found.fault (Faulty.unknown_bit (omega arith) (omega arith))
            | yes known ↦
                let map : UpToName s at = record { starts = omega arith; named = named; known = known } in
                elim (dec_le (at + 5) (length s)) [
                  | no cut ↦ Found.fault (Faulty.name_cut map (omega arith))
                  | yes whole ↦ from_list_lem s all at (record { map = map; whole = whole })
                ]
          ]
    ]

-- THE DEFINITION READS EXACTLY

pub spelt_read : (s : List ℕ) (at : ℕ) (j : Job) (n : ℕ) → SpeltAt s at j n → decode s at ≡ job j n
spelt_read s at j n f =
    let e = spelt_by_numerals j f.fits in
    let t = (entry_there j s (drop n s) at (fits_valid j f.fits) (rw e f.bytes)).0 in
    rw e at t ∙ ap (job j) (sym f.ends)

pub read_spelt : (s : List ℕ) → Bytes s → (at : ℕ) (j : Job) (n : ℕ) → decode s at ≡ job j n → SpeltAt s at j n
read_spelt s all at j n h =
    let b = entry_back s at j n all h in
    let fits = valid_fits j b.0 in
    let e = spelt_by_numerals j fits in
    record { fits = fits; bytes = rw e at b.1; ends = rw e at b.2 }

pub refused_faulty : (s : List ℕ) → Bytes s → (at number offset : ℕ) → decode s at ≡ refused number offset
    → Faulty s at number offset
refused_faulty s all at number offset h = by_find (find s all at)
  where
    by_find : Found s at → Faulty s at number offset
    by_find (Found.ended past) = let e = end_there s at past in never (cc)
    by_find (Found.fault {n} {o} f) =
        let e = faulty_refused s at n o f in
        let p : n ≡ number = cc in
        let q : o ≡ offset = cc in
        rw (← p, ← q) f
    by_find (Found.fine {j} {n} e) = never (cc)

pub reads_exactly : (s : List ℕ) → Bytes s → (at : ℕ) → ReadsExactly decode s at
reads_exactly s all at =
    record {
      past = (end_back s at, end_there s at);
      spelt = λ j n. (read_spelt s all at j n, spelt_read s at j n);
      faulty = λ number offset. (refused_faulty s all at number offset, faulty_refused s at number offset);
    }

-- no two readers do: what one answers is so, and so the other answers it
pub one_reader : (read other : List ℕ → ℕ → Decoded) (s : List ℕ) (at : ℕ) → ReadsExactly read s at
    → ReadsExactly other s at → read s at ≡ other s at
one_reader read other s at r o = by_answer (read s at) refl
  where
    by_answer : (d : Decoded) → read s at ≡ d → d ≡ other s at
    by_answer (job j n) e = sym ((o.spelt j n).1 ((r.spelt j n).0 e))
    by_answer end e = sym (o.past.1 (r.past.0 e))
    by_answer (refused c a) e = sym ((o.faulty c a).1 ((r.faulty c a).0 e))

-- A refusal's number is 12, 13 or 14, and its offset lies in the sheet, at the entry's start or behind it
pub fault_bounds : (s : List ℕ) (at number offset : ℕ) → Faulty s at number offset
    → (12 ≤ number) × (number ≤ 14) × (at ≤ offset) × (offset ≤ length s)
fault_bounds s at number offset (Faulty.name_bit_clear starts clear) = omega arith
fault_bounds s at number offset (Faulty.unknown_bit starts over) = omega arith
fault_bounds s at number offset (Faulty.name_cut f cut) = omega arith
fault_bounds s at number offset (Faulty.count_cut f set cut) = omega arith
fault_bounds s at number offset (Faulty.count_zero f set counted none) = omega arith
fault_bounds s at number offset (Faulty.count_over f set counted over) = omega arith
fault_bounds s at number offset (Faulty.names_cut f set counted least greatest cut) = omega arith
fault_bounds s at number offset (Faulty.class_cut {c} f set cut) = omega (arith, at_class s at c f)
fault_bounds s at number offset (Faulty.class_zero {c} f set inside none) = omega (arith, at_class s at c f)
fault_bounds s at number offset (Faulty.class_over {c} f set inside over) = omega (arith, at_class s at c f)
fault_bounds s at number offset (Faulty.grower_cut {g} f set cut) = omega (arith, at_grower s at g f)
fault_bounds s at number offset (Faulty.grower_zero {g} f set inside low high) = omega (arith, at_grower s at g f)

pub hands_out_exactly : (s : List ℕ) (at : ℕ) → HandsOutExactly (λ t i. reading_of (decode t i)) s at
hands_out_exactly s at =
    record {
      past = λ past. rw (end_there s at past);
      spelt = λ j n f. rw (spelt_read s at j n f);
      faulty = λ number offset f. rw (faulty_refused s at number offset f);
    }

pub one_hand : (read other : List ℕ → ℕ → Reading) (s : List ℕ) → Bytes s → (at : ℕ) → HandsOutExactly read s at
    → HandsOutExactly other s at → read s at ≡ other s at
one_hand read other s all at p q = by_find (find s all at)
  where
    by_find : Found s at → read s at ≡ other s at
    by_find (Found.ended past) = p.past past ∙ sym (q.past past)
    by_find (Found.fault {n} {o} f) = p.faulty n o f ∙ sym (q.faulty n o f)
    by_find (Found.fine {j} {n} e) =
        let f = read_spelt s all at j n e in
        p.spelt j n f ∙ sym (q.spelt j n f)

-- what follows an entry does not bear on it
pub reads_no_further : (s rest : List ℕ) (at : ℕ) (j : Job) (n : ℕ) → Bytes s → decode s at ≡ job j n
    → decode (take n s ++ rest) at ≡ job j n
reads_no_further s rest at j n all h =
    let b = entry_back s at j n all h in
    let k : length (take at s) ≡ at = length-take-le at s (omega (arith, b.2, b.3)) in
    let whole : s ≡ (take at s ++ encode j) ++ drop n s =
    sym (take-append-drop at s) ∙ (ap (λ (l : List ℕ). take at s ++ l) b.1 ∙ simp append_assoc) in
    let l : length (take at s ++ encode j) ≡ n = simp length-append (omega (arith, b.2)) in
    let front : take n s ≡ take at s ++ encode j =
    ap (take n) whole ∙ take_at (take at s ++ encode j) (drop n s) n l in
    let d : drop at (take n s ++ rest) ≡ encode j ++ rest =
    rw (front, append_assoc) (drop_at (take at s) (encode j ++ rest) at k) in
    (entry_there j (take n s ++ rest) rest at b.0 d).0 ∙ ap (job j) (sym b.2)
