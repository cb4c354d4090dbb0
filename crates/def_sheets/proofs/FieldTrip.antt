-- Each field of an entry, there and back: what is spelt is read, and a field that was read is spelt so and in no other
-- way (docs/SHEETS.md).
use Rattle.std.specs.Prelude.{ℕ, zero, suc, ◌+◌, ◌*◌, ◌%◌, ◌≤◌, ◌<◌, ◌^◌, ◌≡◌, refl, List, [], ◌∷◌, ◌++◌, Bool, true, ◌&&◌, length, get_or, drop, ltb, leb, eqb}
use Rattle.std.proofs.Common.{ap, ◌∙◌, append_assoc, arith, add-zero, length-append, ltb-true, leb-true, eqb-true, lt-ltb, le-leb, eq-eqb}
use Rattle.def_numbers.specs.Numbers.{most_names, count_bytes}
use Rattle.def_basics.specs.Base.{pick}
use Rattle.def_basics.specs.Laws.{never}
use Rattle.def_sheets.specs.Number.{number_at, spelt}
use Rattle.def_sheets.specs.Job.{Below, none, bit_of, spelt_unless_zero, spelt_names, spelt_list}
use Rattle.def_sheets.specs.Decode.{then, if_bit, map_at, name_at, limited_at, list_at, names_at}
use Rattle.def_sheets.specs.Choice.{both, held}
use Rattle.def_sheets.proofs.FieldLaws.{same_field}
use Rattle.def_sheets.proofs.NumberLaws.{Bytes, first, opens, length_spelt, number_there, number_back}
use Rattle.def_sheets.proofs.NumberLaws.{length_spelt_names, length_names_at, names_there, names_back}
use Rattle.std.specs.Prelude.{Ok, Err}
use Rattle.def_sheets.specs.Decode.{Field, refusal}

-- THERE

-- the value v is read from a spelling, and the rest follows it
pub record FieldRead (field : Field) (s : List ℕ) (at v : ℕ) (spelling rest : List ℕ) : Type 0 where
  pub got : field ≡ Ok (v, at + length spelling)
  pub inside : at + length spelling ≤ length s
  pub left : drop (at + length spelling) s ≡ rest

pub map_there : (s rest : List ℕ) (at m : ℕ) → m < 16 → m % 2 ≡ 1 → drop at s ≡ m ∷ rest
    → FieldRead (map_at s at) s at m (m ∷ []) rest
unfolding map_at
map_there s rest at m small odd h =
    let f = first s rest at m h in
    record { got = rw (f.value, lt-ltb m 16 small, eq-eqb (m % 2) 1 odd); inside = f.inside; left = f.left }

pub name_there_lem : (w v at : ℕ) (s rest : List ℕ) → v < 256 ^ w → at ≤ length s → drop at s ≡ spelt w v ++ rest
    → FieldRead (name_at w s at) s at v (spelt w v) rest
unfolding name_at
name_there_lem w v at s rest small inside h =
    let f = number_there w v at s rest small inside h in
    let k = length_spelt w v in
    record {
      got = rw (k, le-leb (at + w) (length s) f.inside, f.value);
      inside = omega arith;
      left = rw k f.left;
    }

-- a number that is left out if it is 0
pub limited_there : (w most v at : ℕ) (s rest : List ℕ) → v ≤ most → most < 256 ^ w → at ≤ length s
    → drop at s ≡ spelt_unless_zero w v ++ rest
    → FieldRead (if_bit (bit_of v) at (limited_at w most s at)) s at v (spelt_unless_zero w v) rest
unfolding limited_at
limited_there w most zero at s rest small wide inside h =
    record { got = rw add-zero; inside = omega arith; left = rw add-zero h }
limited_there w most (suc v) at s rest small wide inside h =
    let f = number_there w (suc v) at s rest (omega arith) inside h in
    let k = length_spelt w (suc v) in
    record {
      got = rw (
        k,
        le-leb (at + w) (length s) f.inside,
        f.value,
        le-leb 1 (suc v) (omega arith),
        le-leb (suc v) most small,
      );
      inside = omega arith;
      left = rw k f.left;
    }

-- a list that is left out if it is empty
pub list_there : (w at : ℕ) (xs s rest : List ℕ) → Below (256 ^ w) xs → length xs ≤ most_names → at ≤ length s
    → drop at s ≡ spelt_list w xs ++ rest
    → FieldRead (if_bit (bit_of (length xs)) at (list_at w s at)) s at (length xs) (spelt_list w xs) rest
    × (names_at w s (at + count_bytes) (length xs) ≡ xs)
unfolding list_at limited_at names_at
list_there w at [] s rest below most inside h =
    (record { got = rw add-zero; inside = omega arith; left = rw add-zero h }, refl)
list_there w at (x ∷ xs) s rest below most inside h =
    let c = number_there count_bytes (suc (length xs)) at s (spelt_names w (x ∷ xs) ++ rest) (omega arith) inside
    (rw append_assoc at h) in
    let f = names_there w (at + count_bytes) (x ∷ xs) s rest below c.inside c.left in
    let k = length_spelt_names w (x ∷ xs) in
    let q : at + length (spelt_list w (x ∷ xs)) ≡ at + count_bytes + w * suc (length xs) =
    simp (length-append, length_spelt) (omega arith) in (
      record {
        got = rw (
          q,
          le-leb (at + count_bytes) (length s) c.inside,
          c.value,
          le-leb 1 (suc (length xs)) (omega arith),
          le-leb (suc (length xs)) most_names most,
          le-leb (at + count_bytes + w * suc (length xs)) (length s) f.inside,
        );
        inside = omega arith;
        left = rw q f.left;
      },
      f.values,
    )

-- BACK

-- a spelling stands from an offset to another, within the input
pub record Stands (s : List ℕ) (at past : ℕ) (spelling : List ℕ) : Type 0 where
  pub ends : past ≡ at + length spelling
  pub inside : past ≤ length s
  pub bytes : Bytes s → drop at s ≡ spelling ++ drop past s

pub join : (s x y : List ℕ) (a b c : ℕ) → Stands s a b x → Stands s b c y → Stands s a c (x ++ y)
join s x y a b c p q =
    record {
      ends = simp length-append (omega arith);
      inside = q.inside;
      bytes = λ all. rw append_assoc (p.bytes all ∙ ap (λ (t : List ℕ). x ++ t) (q.bytes all));
    }

pub nothing : (s : List ℕ) (at : ℕ) → at ≤ length s → Stands s at at []
nothing s at inside = record { ends = omega arith; inside = inside; bytes = λ all. refl }

number_stands : (w : ℕ) (s : List ℕ) (at v n : ℕ) → number_at w s at ≡ v → at + w ≤ length s → n ≡ at + w
    → Stands s at n (spelt w v)
number_stands w s at v n e inside q =
    let k = length_spelt w v in
    record { ends = rw k q; inside = omega arith; bytes = λ all. rw (← e, q) (number_back w at s all inside).bytes }

-- a field that was got passed its test
passed : (test : Bool) (x : Field) (c a v n : ℕ) → pick test x (Err (refusal c a)) ≡ Ok (v, n) → (test ≡ true) × (x ≡ Ok (v, n))
passed test x c a v n h = held (λ (f : Field). f) (Ok (v, n)) test x (Err (refusal c a)) (λ other. never (cc)) h

pub map_back : (s : List ℕ) (at m n : ℕ) → at < length s → map_at s at ≡ Ok (m, n)
    → (m < 16) × (m % 2 ≡ 1) × Stands s at n (m ∷ [])
unfolding map_at
map_back s at m n inside h =
    let p = passed (ltb (get_or s at 0) 16 && eqb (get_or s at 0 % 2) 1) _ _ _ _ _ h in
    let t = both (ltb (get_or s at 0) 16) _ p.0 in
    let x = same_field p.1 in
    let e : get_or s at 0 ≡ m = cc in
    let q : n ≡ at + 1 = cc in
    let c = opens s at (omega arith) in
    let small = ltb-true (get_or s at 0) 16 t.0 in
    let odd = eqb-true (get_or s at 0 % 2) 1 t.1 in
    (omega arith, rw e at odd, record { ends = q; inside = omega arith; bytes = λ all. cc })

pub name_back : (w : ℕ) (s : List ℕ) (at v n : ℕ) → name_at w s at ≡ Ok (v, n)
    → (Bytes s → v < 256 ^ w) × Stands s at n (spelt w v)
unfolding name_at
name_back w s at v n h =
    let p = passed (leb (at + w) (length s)) _ _ _ _ _ h in
    let x = same_field p.1 in
    let e : number_at w s at ≡ v = cc in
    let q : n ≡ at + w = cc in
    let inside = leb-true _ _ p.0 in
    (λ all. rw (← e) (number_back w at s all inside).small, number_stands w s at v n e inside q)

-- a number from 1 to most
pub record LimitedGot (w most : ℕ) (s : List ℕ) (at v n : ℕ) : Type 0 where
  pub value : number_at w s at ≡ v
  pub least : 1 ≤ v
  pub greatest : v ≤ most
  pub inside : at + w ≤ length s
  pub ends : n ≡ at + w

pub limited_got : (w most : ℕ) (s : List ℕ) (at v n : ℕ) → limited_at w most s at ≡ Ok (v, n) → LimitedGot w most s at v n
unfolding limited_at
limited_got w most s at v n h =
    let p = passed (leb (at + w) (length s)) _ _ _ _ _ h in
    let r = passed (leb 1 (number_at w s at) && leb (number_at w s at) most) _ _ _ _ _ p.1 in
    let t = both (leb 1 (number_at w s at)) _ r.0 in
    let x = same_field r.1 in
    let e : number_at w s at ≡ v = cc in
    let q : n ≡ at + w = cc in
    let low = leb-true 1 (number_at w s at) t.0 in
    let high = leb-true (number_at w s at) most t.1 in
    record { value = e; least = omega arith; greatest = omega arith; inside = leb-true _ _ p.0; ends = q }

-- a field that may be left out, by its bit: it was left out, or it was got
optional : {X : Type 0} (field : Field) (bit at v n : ℕ) → bit ≤ 1 → if_bit bit at field ≡ Ok (v, n)
    → (bit ≡ 0 → v ≡ 0 → n ≡ at → X) → (bit ≡ 1 → field ≡ Ok (v, n) → X) → X
optional field zero at v n one h left_out present = let x = same_field h in left_out refl (cc) (cc)
optional field (suc zero) at v n one h left_out present = present refl h
optional field (suc (suc bit)) at v n one h left_out present = absurd (omega arith)

limited_spelt : (w most : ℕ) (s : List ℕ) (at v n : ℕ) → LimitedGot w most s at v n
    → (bit_of v ≡ 1) × Stands s at n (spelt_unless_zero w v)
limited_spelt w most s at zero n g = absurd (omega arith)
limited_spelt w most s at (suc v) n g = (refl, number_stands w s at (suc v) n g.value g.inside g.ends)

pub limited_back : (w most : ℕ) (s : List ℕ) (at bit v n : ℕ) → bit ≤ 1 → at ≤ length s
    → if_bit bit at (limited_at w most s at) ≡ Ok (v, n)
    → (bit_of v ≡ bit) × (v ≤ most) × Stands s at n (spelt_unless_zero w v)
limited_back w most s at bit v n one inside h =
    optional (limited_at w most s at) bit at v n one h
    (λ clear zero_v same. rw (clear, zero_v, same) (refl, omega arith, nothing s at inside))
    (λ set got.
    let g = limited_got w most s at v n got in
    let d = limited_spelt w most s at v n g in
    (rw set d.0, g.greatest, d.1))

-- a count from 1 to 32 and as many names
pub record ListGot (w : ℕ) (s : List ℕ) (at count n : ℕ) : Type 0 where
  pub counted : LimitedGot count_bytes most_names s at count (at + count_bytes)
  pub inside : at + count_bytes + w * count ≤ length s
  pub ends : n ≡ at + count_bytes + w * count

after_count : {X : Type 0} (field : Field) (k : ℕ → ℕ → Field) (v n : ℕ) → then field k ≡ Ok (v, n)
    → ((u m : ℕ) → field ≡ Ok (u, m) → k u m ≡ Ok (v, n) → X) → X
after_count (Ok (u, m)) k v n h next = next u m refl h
after_count (Err e) k v n h next = never (cc)

pub list_got : (w : ℕ) (s : List ℕ) (at count n : ℕ) → list_at w s at ≡ Ok (count, n) → ListGot w s at count n
unfolding list_at
list_got w s at count n h =
    after_count (limited_at count_bytes most_names s at) _ count n h λ u m got h'.
    let g = limited_got count_bytes most_names s at u m got in
    let p = passed (leb (m + w * u) (length s)) _ _ _ _ _ h' in
    let x = same_field p.1 in
    let e : u ≡ count = cc in
    let q : m ≡ at + count_bytes = g.ends in
    let r : n ≡ m + w * u = cc in
    let inside = leb-true (m + w * u) (length s) p.0 in
    record { counted = rw (e, q) at g; inside = rw (e, q) at inside; ends = rw (e, q) at r }

list_spelt : (w : ℕ) (s : List ℕ) (at count n : ℕ) → ListGot w s at count n
    → (bit_of count ≡ 1) × Stands s at n (spelt_list w (names_at w s (at + count_bytes) count))
unfolding names_at
list_spelt w s at zero n g = absurd (omega (arith, g.counted.least))
list_spelt w s at (suc count) n g =
    let names = names_at w s (at + count_bytes) (suc count) in
    let k = length_names_at w s (at + count_bytes) (suc count) in
    let l = length_spelt_names w names in
    let c = number_stands count_bytes s at (suc count) (at + count_bytes) g.counted.value g.counted.inside refl in
    let d : Stands s (at + count_bytes) n (spelt_names w names) =
    record {
      ends = rw (l, k) g.ends;
      inside = rw g.ends g.inside;
      bytes = λ all. rw g.ends (names_back w (at + count_bytes) (suc count) s all g.inside).bytes;
    } in
    (refl, rw k (join s (spelt count_bytes (suc count)) (spelt_names w names) at (at + count_bytes) n c d))

pub list_back : (w : ℕ) (s : List ℕ) (at bit count n : ℕ) → bit ≤ 1 → at ≤ length s
    → if_bit bit at (list_at w s at) ≡ Ok (count, n)
    → (bit_of count ≡ bit) × (count ≤ most_names) × Stands s at n (spelt_list w (names_at w s (at + count_bytes) count))
    × (Bytes s → Below (256 ^ w) (names_at w s (at + count_bytes) count))
unfolding names_at
list_back w s at bit count n one inside h =
    optional (list_at w s at) bit at count n one h
    (λ clear no_names same. rw (clear, no_names, same) (refl, omega arith, nothing s at inside, λ all. none))
    (λ set got.
    let g = list_got w s at count n got in
    let d = list_spelt w s at count n g in
    (rw set d.0, g.counted.greatest, d.1, λ all. (names_back w (at + count_bytes) count s all g.inside).small))
