-- The slots that are looked at grow with the logarithm of the filled slots, for ALL slots: with below 2 to the power
-- k + 1 slots filled there are at most k on the way up from the last, and 2 k on the way down from the first.
use Rattle.std.specs.Prelude.{Bool, length}
use Prim.Native.Nat.{ℕ, zero, suc, ◌+◌, ◌*◌, ◌^◌, ◌≤◌, ◌<◌}
use native.Mathlib.Omega.{arith}
use Rattle.std.proofs.Common.{eq-eqb, le-ltb}
use Rattle.def_heap.specs.Sift.{above, left, lesser}
use Rattle.def_heap.proofs.Heap.{below_lesser, deeper}
use Rattle.def_heap.specs.Looked.{slots_up, slots_down, level_up, level_down}

module _ (rank : ℕ → ℕ) (sound : ℕ → Bool) (slot : ℕ → ℕ) where
  pub log_slots_up : (n k r i : ℕ) → i + 1 < 2 ^ suc k → length (slots_up rank sound slot n r i) ≤ k
  unfolding slots_up
  log_slots_up zero k r i h = omega arith
  log_slots_up (suc n) zero r i h = rw (eq-eqb i 0 (omega arith)) (omega arith)
  log_slots_up (suc n) (suc k) r i h =
      level_up rank sound slot n r i k (λ e. log_slots_up n k r (above i) (omega arith))

  pub log_slots_down : (n k m r i : ℕ) → m < (i + 1) * 2 ^ suc k → length (slots_down rank sound slot n m r i) ≤ 2 * k
  unfolding slots_down
  log_slots_down zero k m r i h = omega arith
  log_slots_down (suc n) zero m r i h = rw (le-ltb (left i) m (omega arith)) (omega arith)
  log_slots_down (suc n) (suc k) m r i h =
      level_down rank sound slot n m r i k
      (log_slots_down n k m r (lesser rank sound slot m i)
      (deeper i (lesser rank sound slot m i) (suc k) m (below_lesser rank sound slot m i) h))
