-- The cells on a way through the index shift a level at a time.
use mathlib.Core.Path.{◌≡◌, refl}
use mathlib.Core.Bool.{true, false}
use mathlib.Core.List.{List}
use Prim.Native.Nat.{ℕ, zero, suc, ◌+◌}
use native.Mathlib.Numerals.{add-one}
use lib.Dec.{eqb}
use Rattle.def_heap.specs.Sift.{above}
use Rattle.def_words.specs.Index.{slot_in, put_slot, shifted_down, shifted_up}

module _ (q : List ℕ) (x i : ℕ) where
  -- a level further down, with m levels left after it
  pub down_on : (m n k : ℕ) → n ≡ m + 1 → eqb i k ≡ false
      → shifted_down m (put_slot q i (slot_in q (above i))) x (above i) k ≡ shifted_down n q x i k
  unfolding shifted_down
  down_on m n k z e = rw (z, add-one, e)

  pub down_there : (n k : ℕ) → eqb i k ≡ true → put_slot q i x ≡ shifted_down n q x i k
  unfolding shifted_down
  down_there zero k e = refl
  down_there (suc n) k e = rw e

  pub down_out : (n k : ℕ) → n ≡ 0 → put_slot q i x ≡ shifted_down n q x i k
  unfolding shifted_down
  down_out n k z = rw z

  pub up_on : (m n : ℕ) → n ≡ m + 1 → eqb i 0 ≡ false
      → shifted_up m (put_slot q i x) (slot_in q i) (above i) ≡ shifted_up n q x i
  unfolding shifted_up
  up_on m n z e = rw (z, add-one, e)

  pub up_there : (n : ℕ) → eqb i 0 ≡ true → put_slot q i x ≡ shifted_up n q x i
  unfolding shifted_up
  up_there zero e = refl
  up_there (suc n) e = rw e

  pub up_out : (n : ℕ) → n ≡ 0 → put_slot q i x ≡ shifted_up n q x i
  unfolding shifted_up
  up_out n z = rw z
