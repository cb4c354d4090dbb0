-- Which pairs of numbers a number that moves has compared: a list of few pairs, and no rank of any others tells where
-- it comes to rest. For ALL slots.
use Rattle.std.specs.Prelude.{◌≡◌, Bool, eqb}
use mathlib.Core.List.{List, [], ◌∷◌, ◌++◌}
use Prim.Native.Nat.{ℕ, zero, suc}
use Rattle.std.proofs.Math.Dec.{ltb}
use Rattle.def_basics.specs.Base.{pick}
use Rattle.def_heap.specs.Sift.{above, left, right, lesser, sound_below}

-- ---- the pairs that are compared while x moves from slot i
module _ (rank : ℕ → ℕ) (sound : ℕ → Bool) (slot : ℕ → ℕ) where
  -- `sift_up n (rank x) i`: x and the number above it
  unfoldable pub pairs_up : ℕ → ℕ → ℕ → List (ℕ × ℕ)
  pairs_up zero x i = []
  pairs_up (suc n) x i =
      pick (eqb i 0) []
      (pick (sound (above i))
      ((x, slot (above i)) ∷ pick (ltb (rank x) (rank (slot (above i)))) (pairs_up n x (above i)) []) [])

  -- the two numbers below, where both slots are filled
  abbrev pub pair_below : ℕ → ℕ → List (ℕ × ℕ)
  pair_below m i = pick (ltb (right i) m) ((slot (right i), slot (left i)) ∷ []) []

  -- `sift_down n m (rank x) i`: the two numbers below, then the lesser of them and x
  unfoldable pub pairs_down : (most filled number from : ℕ) → List (ℕ × ℕ)
  pairs_down zero m x i = []
  pairs_down (suc n) m x i =
      pick (ltb (left i) m)
      (pick (sound_below rank sound slot m i)
      (pair_below m i
      ++ ((slot (lesser rank sound slot m i), x)
      ∷ pick (ltb (rank (slot (lesser rank sound slot m i))) (rank x))
      (pairs_down n m x (lesser rank sound slot m i)) []))
      [])
      []

-- ---- no others matter
-- two ranks compare each pair of a list alike
unfoldable pub Alike : (ℕ → ℕ) → (ℕ → ℕ) → List (ℕ × ℕ) → Type 0
Alike rank other [] = Unit {0}
Alike rank other (p ∷ l) = (ltb (other p.0) (other p.1) ≡ ltb (rank p.0) (rank p.1)) × Alike rank other l

-- two tests agree on each slot of a list
unfoldable pub AgreeOn : (ℕ → Bool) → (ℕ → Bool) → List ℕ → Type 0
AgreeOn sound sound' [] = Unit {0}
AgreeOn sound sound' (i ∷ l) = (sound' i ≡ sound i) × AgreeOn sound sound' l
