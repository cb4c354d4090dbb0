-- Laws of runs of stores: how names come into a list of words, and what stands behind them.
use Prim.Native.Nat.{ℕ, zero, suc, ◌+◌, ◌*◌, ◌-◌, ◌≤◌}
use mathlib.Core.Path.{◌≡◌, ◌∙◌}
use mathlib.Core.List.{List, [], ◌∷◌, ◌++◌}
use native.Mathlib.Omega.{arith}
use Rattle.std.proofs.Common.{add-one, zero-add, append-nil, ap, length-take-le}
use Rattle.std.proofs.lemmas.List.{drop_all}
use borrow.Rule.Slice.PartMut.{mid_of, put_mid}
use Rattle.def_numbers.specs.Numbers.{entry_words}
use lib.ListN.{length, set, drop, replicate, length-replicate}
use lib.Seq.{sets, sets-eq}
use Rattle.def_numbers.specs.Numbers.{most_names}
use Rattle.def_basics.specs.Stores.{sets_append}
use Rattle.def_sheets.specs.Number.{number_at}
use Rattle.def_sheets.specs.Decode.{names_at, padded}
use Rattle.def_sheets.proofs.NumberLaws.{length_names_at}
use Rattle.def_sheets.proofs.CodeLaws.{names_more}

pub name_more : (l : List ℕ) (from k w : ℕ) (s : List ℕ) (at i : ℕ) → k ≡ from + i
    → set (sets l from (names_at w s at i)) k (number_at w s (at + w * i)) ≡ sets l from (names_at w s at (i + 1))
name_more l from k w s at i q =
    let n = length_names_at w s at i in
    rw (add-one i, names_more) (sets_append l (names_at w s at i) (number_at w s (at + w * i) ∷ []) from k (omega arith))

-- the names over words that are 0
drop_zeros : (n k : ℕ) → drop {A = ℕ} k (replicate n 0) ≡ replicate (n - k) 0
drop_zeros n zero = let q : n - 0 ≡ n = omega arith in rw q
drop_zeros zero (suc k) = let q : 0 - suc k ≡ 0 = omega arith in rw q
drop_zeros (suc n) (suc k) = let q : suc n - suc k ≡ n - k = omega arith in rw q (drop_zeros n k)

-- names in every place
pub names_whole : (w : ℕ) (s l : List ℕ) (at n : ℕ) → length l ≤ n → n ≤ length l
    → sets l 0 (names_at w s at n) ≡ names_at w s at (length l)
names_whole w s l at n most least =
    let e : n ≡ length l = omega arith in
    let m = length_names_at w s at (length l) in
    rw e (sets-eq (names_at w s at (length l)) l 0 (omega arith) ∙ rw (m, zero-add, drop_all (length l) l (omega arith)) (append-nil _))

-- names before words that are 0
pub names_before : (w : ℕ) (s : List ℕ) (at n k : ℕ) → k ≡ n
    → names_at w s at k ++ drop n (replicate most_names 0) ≡ padded (names_at w s at n)
names_before w s at n k e = rw (e, length_names_at, drop_zeros)

-- a row: four numbers, and names before words that are 0
pub row_stored : (w : ℕ) (s : List ℕ) (at a b c d k : ℕ) {l names : List ℕ} → l ≡ replicate entry_words 0 → k ≤ most_names
    → names ≡ names_at w s at (length (mid_of 4 (4 + k - 4) (set (set (set (set l 0 a) 1 b) 2 c) 3 d)))
    → put_mid 4 (4 + k - 4) (set (set (set (set l 0 a) 1 b) 2 c) 3 d) names ≡ a ∷ b ∷ c ∷ d ∷ padded (names_at w s at k)
row_stored w s at a b c d k e most h =
    let q : 4 + k - 4 ≡ k = omega arith in
    let z = length-replicate {A = ℕ} most_names 0 in
    rw (h, e, q)
    (ap (λ (t : List ℕ). a ∷ b ∷ c ∷ d ∷ t)
    (names_before w s at k _ (length-take-le k (replicate most_names 0) (omega arith))))
