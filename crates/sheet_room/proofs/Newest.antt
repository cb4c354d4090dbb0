-- Laws of the newest name of a bucket: where it stands, and that no name after it is in the bucket.
use mathlib.Core.Path.{◌≡◌, refl, sym, ap, ◌∙◌}
use mathlib.Core.Logic.{◌≢◌}
use mathlib.Core.Bool.{Bool, true, false, ◌||◌}
use mathlib.Core.List.{List, [], ◌∷◌, ◌++◌}
use Prim.Native.Nat.{ℕ, zero, suc, ◌≤◌, ◌<◌}
use native.Mathlib.Omega.{arith}
use lib.Dec.{eqb}
use lib.ListN.{length, get_or, take}
use lib.Seq.{take-suc}
use borrow.Author.Tests.{eqb-true, eqb-false, eq-eqb, ne_eqb}
use Rattle.def_basics.specs.Base.{pick, contains}
use Rattle.def_basics.specs.Laws.{pick_by}
use Rattle.sheet_room.specs.Buckets.{table_bucket, last}

-- ---- one name more in a list
pub contains_own : (x : ℕ) (l : List ℕ) → contains x (l ++ (x ∷ [])) ≡ true
unfolding contains
contains_own x [] = rw (eq-eqb x x refl)
contains_own x (y ∷ l) = rw (contains_own x l) (or-true (eqb x y))
  where
    or-true : (b : Bool) → b || true ≡ true
    or-true true = refl
    or-true false = refl

pub contains_other : (x y : ℕ) (l : List ℕ) → x ≢ y → contains x (l ++ (y ∷ [])) ≡ contains x l
unfolding contains
contains_other x y [] e = rw (ne_eqb x y e)
contains_other x y (z ∷ l) e = rw (contains_other x y l e)

-- ---- the newest of a bucket
pub last_within : (b : ℕ) (names : List ℕ) (k : ℕ) → last b names k ≤ k
unfolding last
last_within b names zero = omega arith
last_within b names (suc k) =
    pick_by (λ (x : ℕ). x ≤ suc k) (eqb (table_bucket (get_or names k 0)) b) (λ e. omega arith)
    (λ e. omega (arith, last_within b names k))

-- it is its own newest
pub last_again : (b : ℕ) (names : List ℕ) (k : ℕ) → last b names (last b names k) ≡ last b names k
unfolding last
last_again b names zero = refl
last_again b names (suc k) =
    pick_by (λ (x : ℕ). last b names x ≡ x) (eqb (table_bucket (get_or names k 0)) b) (λ e. rw e)
    (λ e. last_again b names k)

-- so it is in the bucket
pub last_own : (b : ℕ) (names : List ℕ) (m : ℕ) → last b names (suc m) ≡ suc m → table_bucket (get_or names m 0) ≡ b
unfolding last
last_own b names m h = go (eqb (table_bucket (get_or names m 0)) b) refl h
  where
    go : (t : Bool) → eqb (table_bucket (get_or names m 0)) b ≡ t → pick t (suc m) (last b names m) ≡ suc m
        → table_bucket (get_or names m 0) ≡ b
    go true e h = eqb-true (table_bucket (get_or names m 0)) b e
    go false e h = absurd (omega (arith, last_within b names m))

-- no name past it, up to k, is in the bucket
pub last_contains : (name : ℕ) (names : List ℕ) (k : ℕ) → k ≤ length names
    → contains name (take (last (table_bucket name) names k) names) ≡ contains name (take k names)
unfolding last
last_contains name names zero h = refl
last_contains name names (suc k) h =
    pick_by (λ (x : ℕ). contains name (take x names) ≡ contains name (take (suc k) names))
    (eqb (table_bucket (get_or names k 0)) (table_bucket name)) (λ e. refl)
    (λ e.
    last_contains name names k (omega arith)
    ∙ rw (take-suc names k 0 h)
    (sym (contains_other name (get_or names k 0) (take k names)
    (λ q. eqb-false (table_bucket (get_or names k 0)) (table_bucket name) e
    (ap table_bucket (sym q))))))

-- it does not depend on later names
pub last_same : (b : ℕ) (names others : List ℕ) (k : ℕ) → ((i : ℕ) → i < k → get_or others i 0 ≡ get_or names i 0)
    → last b others k ≡ last b names k
unfolding last
last_same b names others zero h = refl
last_same b names others (suc k) h =
    rw (h k (omega arith), last_same b names others k (λ i l. h i (omega arith)))
