-- Occurrences in a list, and sums below a bound, with their laws.
use Rattle.std.specs.Prelude.{◌≡◌, refl, ◌≢◌, List, [], ◌∷◌, ◌++◌, ℕ, zero, suc, ◌+◌, ◌≤◌, ◌<◌, eqb, length, get_or, take, drop}
use Rattle.std.proofs.Common.{sym, ap, arith, eq-eqb, ne_eqb, take-append-drop, drop-cons, take-suc}
use Rattle.std.proofs.Math.Decide.{ℕ_discrete}
use Rattle.std.proofs.lemmas.List.{drop-append-le}
use Rattle.def_basics.specs.Base.{pick, occurrences}

-- ---- 1 where the two are the same, and else 0
unfoldable pub hit : ℕ → ℕ → ℕ
hit j i = pick (eqb j i) 1 0

pub hit_same : (i : ℕ) → hit i i ≡ 1
unfolding hit
hit_same i = rw (eq-eqb i i refl)

pub hit_other : (j i : ℕ) → j ≢ i → hit j i ≡ 0
unfolding hit
hit_other j i e = rw (ne_eqb j i e)

-- ---- occurrences in a list
pub occurrences_nil : (j : ℕ) → occurrences j [] ≡ 0
unfolding occurrences
occurrences_nil j = refl

pub occurrences_cons : (j x : ℕ) (l : List ℕ) → occurrences j (x ∷ l) ≡ hit j x + occurrences j l
unfolding occurrences hit
occurrences_cons j x l = refl

pub occurrences_append : (j : ℕ) (l r : List ℕ) → occurrences j (l ++ r) ≡ occurrences j l + occurrences j r
occurrences_append j [] r = omega (arith, occurrences_nil j)
occurrences_append j (x ∷ l) r =
    omega (arith, occurrences_cons j x (l ++ r), occurrences_cons j x l, occurrences_append j l r)

pub occurrences_snoc : (j : ℕ) (l : List ℕ) (x : ℕ) → occurrences j (l ++ (x ∷ [])) ≡ occurrences j l + hit j x
occurrences_snoc j l x =
    omega (arith, occurrences_append j l (x ∷ []), occurrences_cons j x [], occurrences_nil j)

pub occurrences_take : (j : ℕ) (l : List ℕ) (i : ℕ) → i < length l
    → occurrences j (take (suc i) l) ≡ occurrences j (take i l) + hit j (get_or l i 0)
occurrences_take j l i h = rw (take-suc l i 0) (occurrences_snoc j (take i l) (get_or l i 0))

pub occurrences_take_le : (j : ℕ) (l : List ℕ) (i : ℕ) → occurrences j (take i l) ≤ occurrences j l
occurrences_take_le j l i =
    omega (arith, occurrences_append j (take i l) (drop i l), ap (occurrences j) (take-append-drop i l))

pub occurrences_drop : (j : ℕ) (l : List ℕ) (i : ℕ) → i < length l
    → occurrences j (drop i l) ≡ hit j (get_or l i 0) + occurrences j (drop (suc i) l)
occurrences_drop j l i h = rw (drop-cons l i 0) (occurrences_cons j (get_or l i 0) (drop (suc i) l))

pub occurrences_drop_snoc : (j : ℕ) (l : List ℕ) (i x : ℕ) → i ≤ length l
    → occurrences j (drop i (l ++ (x ∷ []))) ≡ occurrences j (drop i l) + hit j x
occurrences_drop_snoc j l i x h = rw (drop-append-le i l (x ∷ [])) (occurrences_snoc j (drop i l) x)

pub occurrences_get_d : (l : List ℕ) (i : ℕ) → i < length l → 0 < occurrences (get_or l i 0) l
occurrences_get_d [] i h = omega arith
occurrences_get_d (x ∷ l) zero h = omega (arith, occurrences_cons x x l, hit_same x)
occurrences_get_d (x ∷ l) (suc i) h =
    let r : i < length l = omega arith in
    omega (arith, occurrences_cons (get_or l i 0) x l, occurrences_get_d l i r)

-- where a number occurs
pub record Place (j : ℕ) (l : List ℕ) : Type 0 where
  pub place : ℕ
  pub within : place < length l
  pub there : get_or l place 0 ≡ j

pub place_of : (j : ℕ) (l : List ℕ) → 0 < occurrences j l → Place j l
place_of j [] h = absurd (omega (arith, occurrences_nil j))
place_of j (x ∷ l) h = elim (ℕ_discrete j x) [
  | yes e ↦ record { place = 0; within = omega arith; there = sym e }
  | no e ↦
      let r = place_of j l (omega (arith, occurrences_cons j x l, hit_other j x e)) in
      record { place = suc r.place; within = omega (arith, r.within); there = r.there }
]

-- ---- sums below a bound
unfoldable pub sum : ℕ → (ℕ → ℕ) → ℕ
sum zero f = 0
sum (suc n) f = f n + sum n f

pub sum_suc : (n : ℕ) (f : ℕ → ℕ) → sum (suc n) f ≡ f n + sum n f
unfolding sum
sum_suc n f = refl

pub sum_same : (n : ℕ) (f g : ℕ → ℕ) → ((q : ℕ) → q < n → g q ≡ f q) → sum n g ≡ sum n f
unfolding sum
sum_same zero f g h = refl
sum_same (suc n) f g h = omega (arith, h n (omega arith), sum_same n f g (λ q r. h q (omega arith)))

pub sum_le : (n : ℕ) (f : ℕ → ℕ) (p : ℕ) → p < n → f p ≤ sum n f
unfolding sum
sum_le zero f p h = omega arith
sum_le (suc n) f p h =
    elim (ℕ_discrete p n) [ yes e ↦ rw e (omega arith) | no e ↦ omega (arith, sum_le n f p (omega arith)) ]

-- two maps that differ at most at p
pub sum_at : (n : ℕ) (f g : ℕ → ℕ) (p : ℕ) → p < n → ((q : ℕ) → q ≢ p → g q ≡ f q) → sum n g + f p ≡ sum n f + g p
unfolding sum
sum_at zero f g p h s = omega arith
sum_at (suc n) f g p h s =
    elim (ℕ_discrete p n) [
      | yes e ↦ rw e (omega (arith, sum_same n f g (λ q r. s q (omega arith))))
      | no e ↦ omega (arith, sum_at n f g p (omega arith) s, s n (omega arith))
    ]

pub sum_zero : (n : ℕ) (f : ℕ → ℕ) → ((q : ℕ) → f q ≡ 0) → sum n f ≡ 0
unfolding sum
sum_zero zero f h = refl
sum_zero (suc n) f h = omega (arith, h n, sum_zero n f h)

pub sum_plus : (n : ℕ) (f g : ℕ → ℕ) → sum n (λ q. f q + g q) ≡ sum n f + sum n g
unfolding sum
sum_plus zero f g = refl
sum_plus (suc n) f g = omega (arith, sum_plus n f g)

-- the first taken off
pub sum_first : (n : ℕ) (f : ℕ → ℕ) → sum (suc n) f ≡ f 0 + sum n (λ q. f (suc q))
unfolding sum
sum_first zero f = refl
sum_first (suc n) f = omega (arith, sum_first n f)

-- numbers that are at most 1
pub sum_ones : (n : ℕ) (f : ℕ → ℕ) → ((q : ℕ) → f q ≤ 1) → sum n f ≤ n
unfolding sum
sum_ones zero f h = omega arith
sum_ones (suc n) f h = omega (arith, h n, sum_ones n f h)

pub sum_gap : (n : ℕ) (f : ℕ → ℕ) → ((q : ℕ) → f q ≤ 1) → (p : ℕ) → p < n → f p ≡ 0 → sum n f < n
unfolding sum
sum_gap zero f h p l e = omega arith
sum_gap (suc n) f h p l e = elim (ℕ_discrete p n) [
  | yes z ↦ omega (arith, sum_ones n f h, ap f z)
  | no z ↦ omega (arith, h n, sum_gap n f h p (omega arith) e)
]

-- a list whose numbers are below n is as long as their occurrences are many
pub sum_hit : (n x : ℕ) → x < n → sum n (λ j. hit j x) ≡ 1
sum_hit n x h =
    omega (
      arith,
      sum_at n (λ j. 0) (λ j. hit j x) x h (λ q e. hit_other q x e),
      sum_zero n (λ j. 0) (λ q. refl),
      hit_same x,
    )

pub sum_occurrences : (n : ℕ) (l : List ℕ) → ((j : ℕ) → 0 < occurrences j l → j < n)
    → sum n (λ j. occurrences j l) ≡ length l
sum_occurrences n [] h = sum_zero n (λ j. occurrences j []) occurrences_nil
sum_occurrences n (x ∷ l) h =
    omega (
      arith,
      sum_same n (λ j. hit j x + occurrences j l) (λ j. occurrences j (x ∷ l)) (λ q r. occurrences_cons q x l),
      sum_plus n (λ j. hit j x) (λ j. occurrences j l),
      sum_hit n x (h x (omega (arith, occurrences_cons x x l, hit_same x))),
      sum_occurrences n l (λ j r. h j (omega (arith, occurrences_cons j x l))),
    )
