-- The names of a list, and a worker's record stored in three runs.
use mathlib.Core.Path.{◌≡◌, refl, ap, ◌∙◌}
use mathlib.Core.List.{List, [], ◌∷◌, ◌++◌}
use Prim.Native.Nat.{ℕ, zero, suc, ◌+◌, ◌-◌, ◌≤◌, ◌<◌}
use native.Mathlib.Omega.{arith}
use native.Mathlib.Numerals.{add-one}
use lib.ListN.{length, get_or, set, drop, replicate}
use lib.Seq.{sets, drop-cons}
use Rattle.def_basics.specs.Base.{prefix}
use Rattle.def_basics.specs.Laws.{length_prefix, get_d_prefix}
use Rattle.def_basics.specs.Stores.{sets_append}
use Rattle.def_words.specs.Columns.{offset}
use Rattle.def_words.specs.Layout.{worker_shape, PHASE, TALLY, NAMES}

-- ---- the names of a list, and 0 past them
prefix_none : (n : ℕ) → prefix n [] ≡ replicate n 0
unfolding prefix
prefix_none zero = refl
prefix_none (suc n) = ap (λ (l : List ℕ). 0 ∷ l) (prefix_none n)

pub names_one : (n d : ℕ) (names l : List ℕ) (at i : ℕ) → i < n → i < d
    → sets (set l (at + i) (get_or names i 0)) (at + (i + 1)) (drop (i + 1) (prefix n (prefix d names)))
    ≡ sets l (at + i) (drop i (prefix n (prefix d names)))
names_one n d names l at i a b =
    let z : at + (i + 1) ≡ suc (at + i) = omega arith in
    let q : i < length (prefix n (prefix d names)) = rw (length_prefix n (prefix d names)) a in
    rw (
      drop-cons (prefix n (prefix d names)) i 0 q,
      get_d_prefix n (prefix d names) i a,
      get_d_prefix d names i b,
      z,
      add-one i,
    )

-- after the last listed name there are only 0
pub names_rest : (n d r : ℕ) (names : List ℕ) → r ≤ n → r ≤ d → (r < n → r ≡ d)
    → drop r (prefix n (prefix d names)) ≡ replicate (n - r) 0
unfolding prefix
names_rest zero d zero names a b e = refl
names_rest (suc n) zero zero names a b e = let z : suc n - 0 ≡ suc n = omega arith in rw z (prefix_none (suc n))
names_rest (suc n) (suc d) zero names a b e = absurd (omega (arith, e (omega arith)))
names_rest zero d (suc r) names a b e = absurd (omega arith)
names_rest (suc n) zero (suc r) names a b e = absurd (omega arith)
names_rest (suc n) (suc d) (suc r) [] a b e =
    let z : suc n - suc r ≡ n - r = omega arith in
    rw z (names_rest n d r [] (omega arith) (omega arith) (λ h. omega (arith, e (omega arith))))
names_rest (suc n) (suc d) (suc r) (x ∷ l) a b e =
    let z : suc n - suc r ≡ n - r = omega arith in
    rw z (names_rest n d r l (omega arith) (omega arith) (λ h. omega (arith, e (omega arith))))

-- ---- a worker's record in three runs
pub worker_record : (l : List ℕ) (w : ℕ) (xs ys zs : List ℕ) → length xs ≡ TALLY → length xs + length ys ≡ NAMES
    → sets (sets (sets l (offset worker_shape w PHASE) xs) (offset worker_shape w TALLY) ys)
    (offset worker_shape w NAMES) zs
    ≡ sets l (offset worker_shape w PHASE) (xs ++ (ys ++ zs))
worker_record l w xs ys zs a b =
    sets_append (sets l (offset worker_shape w PHASE) xs) ys zs (offset worker_shape w TALLY) (offset worker_shape w NAMES)
    (omega arith)
    ∙ sets_append l xs (ys ++ zs) (offset worker_shape w PHASE) (offset worker_shape w TALLY) (omega arith)
