-- Laws of single fields: what a field that was read says, and that judging a number once it is read comes to the same
-- (docs/SHEETS.md).
use Prim.Native.Nat.{ℕ, zero, suc, ◌+◌, ◌*◌, ◌-◌, ◌%◌, ◌≤◌}
use mathlib.Core.Path.{◌≡◌, refl, ap}
use mathlib.Core.Bool.{Bool, true, false, ◌&&◌}
use mathlib.Core.List.{List}
use native.Mathlib.Omega.{arith}
use lib.ListN.{length, get_or}
use lib.Dec.{ltb, leb, eqb, eqb-suc-zero}
use borrow.Author.Tests.{leb-true}
use Rattle.def_numbers.specs.Numbers.{most_names, count_bytes, cut}
use Rattle.def_numbers.specs.Numbers.{wrong_value}
use Rattle.def_basics.specs.Base.{pick}
use Rattle.def_basics.specs.Laws.{never, and_right}
use Rattle.def_sheets.specs.Number.{number_at}
use Rattle.def_sheets.specs.Decode.{map_at, name_at, limited_at, list_at, then, if_bit}
use Rattle.std.specs.Prelude.{Ok, Err}
use Rattle.def_sheets.specs.Decode.{Field, refusal}
use Rattle.def_sheets.proofs.FieldLaws.{same_field}

-- WHAT A FIELD THAT WAS READ SAYS

-- it passed its test
pub got : (b : Bool) (x : Field) (c a v n : ℕ) → pick b x (Err (refusal c a)) ≡ Ok (v, n) → (b ≡ true) × (x ≡ Ok (v, n))
got true x c a v n h = (refl, h)
got false x c a v n h = never (cc)

-- the offset past a map byte
pub map_next : (s : List ℕ) (at v n : ℕ) → map_at s at ≡ Ok (v, n) → n ≡ at + 1
unfolding map_at
map_next s at v n h = let g = (got (ltb (get_or s at 0) 16 && eqb (get_or s at 0 % 2) 1) _ _ _ _ _ h).1 in let x = same_field g in cc

-- the offset past a number of w bytes
pub record Passed (w : ℕ) (s : List ℕ) (at n : ℕ) : Type 0 where
  pub next : n ≡ at + w
  pub within : n ≤ length s

pub number_passed : (w : ℕ) (s : List ℕ) (at v n : ℕ) → name_at w s at ≡ Ok (v, n) → Passed w s at n
unfolding name_at
number_passed w s at v n h =
    let g = got (leb (at + w) (length s)) _ _ _ _ _ h in
    let x = same_field g.1 in
    let e : n ≡ at + w = cc in
    let l = leb-true (at + w) (length s) g.0 in
    record { next = e; within = omega arith }

-- a number with limits is a number
pub limited_got : (w most : ℕ) (s : List ℕ) (at v n : ℕ) → limited_at w most s at ≡ Ok (v, n)
    → (name_at w s at ≡ Ok (v, n)) × (v ≤ most)
unfolding limited_at name_at
limited_got w most s at v n h =
    let x = number_at w s at in
    let g = got (leb (at + w) (length s)) _ _ _ _ _ h in
    let l = got (leb 1 x && leb x most) _ _ _ _ _ g.1 in
    let y = l.1 in
    let z = same_field y in
    let e : x ≡ v = cc in
    let b = leb-true x most (and_right (leb 1 x) _ l.0) in
    (rw g.0 y, omega arith)

-- by its bit a field was left out or read
bit_cases : (bit at : ℕ) (f : Field) (v n : ℕ) {P : Type 0} → if_bit bit at f ≡ Ok (v, n) → (0 ≡ v → at ≡ n → P)
    → (f ≡ Ok (v, n) → P) → P
bit_cases zero at f v n h out there = let x = same_field h in out (cc) (cc)
bit_cases (suc b) at f v n h out there = there (rw eqb-suc-zero at h)

-- where a number ends that its bit lets stand
pub record Behind (s : List ℕ) (at n : ℕ) : Type 0 where
  pub from : at ≤ n
  pub within : n ≤ length s

pub number_behind : (w bit : ℕ) (f : Field) (s : List ℕ) (at v n : ℕ) → (f ≡ Ok (v, n) → name_at w s at ≡ Ok (v, n))
    → at ≤ length s → if_bit bit at f ≡ Ok (v, n) → Behind s at n
number_behind w bit f s at v n number i h =
    bit_cases bit at f v n h (λ z e. record { from = omega arith; within = omega arith }) λ e.
    let p = number_passed w s at v n (number e) in
    record { from = omega arith; within = omega arith }

-- where a list ends that its bit lets stand, where its names do, and how many they are
pub record Listed (w : ℕ) (s : List ℕ) (at count n : ℕ) : Type 0 where
  pub from : at ≤ n
  pub within : n ≤ length s
  pub most : count ≤ most_names
  -- where there is no name there is no count byte either
  pub names : at + count_bytes + w * count ≤ length s + (1 - count)

pub through : (f : Field) (k : ℕ → ℕ → Field) (v n : ℕ) {P : Type 0} → then f k ≡ Ok (v, n)
    → ((u m : ℕ) → f ≡ Ok (u, m) → k u m ≡ Ok (v, n) → P) → P
through (Ok (u, m)) k v n h onward = onward u m refl h
through (Err e) k v n h onward = never (cc)

list_there : (w : ℕ) (s : List ℕ) (at v n : ℕ) → list_at w s at ≡ Ok (v, n) → Listed w s at v n
unfolding list_at
list_there w s at v n h =
    through (limited_at count_bytes most_names s at) _ v n h λ u m e k.
    let p = limited_got count_bytes most_names s at u m e in
    let b = number_passed count_bytes s at u m p.0 in
    let g = got (leb (m + w * u) (length s)) _ _ _ _ _ k in
    let x = same_field g.1 in
    let e₀ : u ≡ v = cc in
    let e₁ : m + w * u ≡ n = cc in
    let l = leb-true (m + w * u) (length s) g.0 in
    let q : w * u ≡ w * v = ap (λ (k : ℕ). w * k) e₀ in
    record { from = omega arith; within = omega arith; most = omega arith; names = omega arith }

pub listed : (w bit : ℕ) (s : List ℕ) (at v n : ℕ) → at ≤ length s → if_bit bit at (list_at w s at) ≡ Ok (v, n)
    → Listed w s at v n
listed w bit s at v n i h = bit_cases bit at (list_at w s at) v n h left_out (list_there w s at v n)
  where
    left_out : 0 ≡ v → at ≡ n → Listed w s at v n
    left_out z e =
        let q : w * 0 ≡ w * v = ap (λ (k : ℕ). w * k) z in
        record { from = omega arith; within = omega arith; most = omega arith; names = omega arith }

-- a number with limits is a number that is judged
pub limited_is : (w most : ℕ) (s : List ℕ) (at : ℕ)
    → limited_at w most s at ≡ then (name_at w s at) λ v n.
    pick (leb 1 v && leb v most) (Ok (v, n)) (Err (refusal wrong_value at))
unfolding limited_at name_at
limited_is w most s at = go (leb (at + w) (length s))
  where
    go : (b : Bool)
        → pick b (pick (leb 1 (number_at w s at) && leb (number_at w s at) most) (Ok (number_at w s at, at + w))
        (Err (refusal wrong_value at))) (Err (refusal cut at))
        ≡ then (pick b (Ok (number_at w s at, at + w)) (Err (refusal cut at))) λ v n.
        pick (leb 1 v && leb v most) (Ok (v, n)) (Err (refusal wrong_value at))
    go true = refl
    go false = refl
