-- How many digits a number has in decimal, and how many the numbers below a bound have together.
use Rattle.std.specs.Prelude.{◌≡◌, refl, Bool, true, false, List, [], ◌∷◌, ℕ, zero, suc, ◌+◌, ◌-◌, ◌/◌, ◌%◌, ◌^◌, ◌≤◌, ◌<◌, ltb, length}
use Rattle.std.proofs.Common.{arith, ltb-true, ltb-false}
use Rattle.def_basics.specs.Base.{pick}
use Rattle.def_day_lines.specs.Text.{digits, decimal}

-- one way below a bound, another way from it on
pub by_bound : {A : Type 0} (n bound : ℕ) → (n < bound → A) → (bound ≤ n → A) → A
by_bound {A} n bound below above = go (ltb n bound) refl
  where
    go : (b : Bool) → ltb n bound ≡ b → A
    go true e = below (ltb-true n bound e)
    go false e = above (ltb-false n bound e)

-- ---- a number below 10 to the power m has at most m digits
few : (k m n : ℕ) (rest : List ℕ) → n < 10 ^ suc m → length (digits k n rest) ≤ suc m + length rest
unfolding digits
few zero m n rest h = omega arith
few (suc k) m n rest h = go (ltb n 10) refl m h (λ m. few k m (n / 10) ((48 + n % 10) ∷ rest))
  where
    go : (b : Bool) → ltb n 10 ≡ b → (m : ℕ) → n < 10 ^ suc m
        → ((m : ℕ) → n / 10 < 10 ^ suc m
        → length (digits k (n / 10) ((48 + n % 10) ∷ rest)) ≤ suc m + suc (length rest))
        → length (pick b ((48 + n) ∷ rest) (digits k (n / 10) ((48 + n % 10) ∷ rest))) ≤ suc m + length rest
    go true e m h ih = omega arith
    go false e zero h ih = absurd (omega (arith, ltb-false n 10 e))
    go false e (suc m) h ih = omega (arith, ih m (omega arith))

pub few_digits : (m n : ℕ) → n < 10 ^ suc m → length (decimal n) ≤ suc m
few_digits m n h = omega (arith, few 20 m n [] h)

-- no number is written with more than 20
most : (k n : ℕ) (rest : List ℕ) → length (digits k n rest) ≤ k + length rest
unfolding digits
most zero n rest = omega arith
most (suc k) n rest = go (ltb n 10) (most k (n / 10) ((48 + n % 10) ∷ rest))
  where
    go : (b : Bool) → length (digits k (n / 10) ((48 + n % 10) ∷ rest)) ≤ k + suc (length rest)
        → length (pick b ((48 + n) ∷ rest) (digits k (n / 10) ((48 + n % 10) ∷ rest))) ≤ suc k + length rest
    go true ih = omega arith
    go false ih = omega arith

pub most_digits : (n : ℕ) → length (decimal n) ≤ 20
most_digits n = omega (arith, most 20 n [])

-- ---- the digits of the numbers below n together, where none of them has more than four
unfoldable pub digits_below : ℕ → ℕ
digits_below n = n + (n - 10) + (n - 100) + (n - 1000)

pub next_digits : (n : ℕ) → n < 10000 → length (decimal n) + digits_below n ≤ digits_below (suc n)
unfolding digits_below
next_digits n h =
    by_bound n 10 (λ l. let few = few_digits 0 n l in omega arith) λ a.
    by_bound n 100 (λ l. let few = few_digits 1 n l in omega arith) λ b.
    by_bound n 1000 (λ l. let few = few_digits 2 n l in omega arith) λ c.
    let few = few_digits 3 n h in omega arith

-- a later number has no fewer
later : (bound m n : ℕ) → m ≤ n → (suc m - bound) + (n - bound) ≤ (suc n - bound) + (m - bound)
later bound m n h = omega arith

pub later_digits : (m n : ℕ) → m ≤ n → digits_below (suc m) + digits_below n ≤ digits_below (suc n) + digits_below m
unfolding digits_below
later_digits m n h = omega (arith, later 10 m n h, later 100 m n h, later 1000 m n h)

pub more_digits : (m n : ℕ) → m ≤ n → digits_below m ≤ digits_below n
unfolding digits_below
more_digits m n h = omega arith
