-- A number that moves through a heap, one level at a time, for a number of levels that is known only to be above 0 or
-- not.
use mathlib.Core.Path.{◌≡◌, refl}
use mathlib.Core.Bool.{Bool, true, false}
use Prim.Native.Nat.{ℕ, zero, suc, ◌-◌, ◌≤◌, ◌<◌}
use native.Mathlib.Omega.{arith}
use lib.Dec.{ltb, eqb}
use Rattle.def_basics.specs.Base.{pick}
use Rattle.def_heap.specs.Sift.{above, sift_up}
use Rattle.def_heap.specs.declared.Sifted.{Sifted}
use Rattle.def_heap.specs.declared.Sifted.TheVariants.{Rests, Astray}
use Rattle.std.specs.Prelude.{Option, Some, None}
use Rattle.graph_index.specs.Looked.{ranked, looked}
use Rattle.graph_index.specs.declared.Ranked.{Ranked}

module _ (rank : ℕ → ℕ) (sound : ℕ → Bool) (slot : ℕ → ℕ) where
  pub up_none : (n r i : ℕ) → n ≤ 0 → sift_up rank sound slot n r i ≡ Rests i
  unfolding sift_up
  up_none zero r i h = refl
  up_none (suc n) r i h = absurd (omega arith)

  -- the way on from a slot that is looked at, up
  abbrev pub upward : ℕ → ℕ → ℕ → Option Ranked → Sifted
  upward n r i (Some x) = pick (ltb r x.rank) (sift_up rank sound slot n r x.slot) (Rests i)
  upward n r i None = Astray

  pub up_one : (n r i : ℕ) → 0 < n
      → sift_up rank sound slot n r i
      ≡ pick (eqb i 0) (Rests i) (upward (n - 1) r i (looked rank sound slot (above i)))
  unfolding sift_up
  up_one zero r i h = absurd (omega arith)
  up_one (suc n) r i h = let z : suc n - 1 ≡ n = omega arith in rw z (go (sound (above i)))
    where
      go : (b : Bool)
          → pick (eqb i 0) (Rests i)
          (pick b
          (pick (ltb r (rank (slot (above i)))) (sift_up rank sound slot n r (above i)) (Rests i)) Astray)
          ≡ pick (eqb i 0) (Rests i) (upward n r i (pick b (Some (ranked (above i) (rank (slot (above i))))) None))
      go true = refl
      go false = refl
