-- Runs of equal records: one record of what is left to store, and records of equal words.
use mathlib.Core.Path.{◌≡◌}
use mathlib.Core.List.{List}
use Prim.Native.Nat.{ℕ, zero, suc, ◌+◌, ◌*◌, ◌-◌, ◌≤◌, ◌<◌}
use native.Mathlib.Omega.{arith}
use native.Mathlib.Nat.{add_comm, mul-suc}
use native.Mathlib.Numerals.{add-one}
use lib.ListN.{length, replicate, replicate-append-replicate}
use lib.Seq.{sets}
use Rattle.def_basics.specs.Stores.{sets_append}
use Rattle.def_words.specs.Columns.{Shape, offset}
use Rattle.def_words.specs.Layout.{repeated}

module _ (s : Shape) (r : List ℕ) (whole : length r ≡ s.width) where
  pub record_one : (l : List ℕ) (i n : ℕ) → i < n
      → sets (sets l (offset s i 0) r) (offset s (i + 1) 0) (repeated (n - (i + 1)) r)
      ≡ sets l (offset s i 0) (repeated (n - i) r)
  unfolding repeated
  record_one l i n h =
      let z : n - i ≡ suc (n - (i + 1)) = omega arith in
      rw z (sets_append l r (repeated (n - (i + 1)) r) (offset s i 0) (offset s (i + 1) 0)
      (rw (add-one i, mul-suc s.width i) (omega arith)))

  pub record_none : (l : List ℕ) (i n : ℕ) → n ≤ i → l ≡ sets l (offset s i 0) (repeated (n - i) r)
  unfolding repeated
  record_none l i n h = let z : n - i ≡ 0 = omega arith in rw z

-- records of w equal words
pub repeated_same : (w n v : ℕ) → repeated n (replicate w v) ≡ replicate (w * n) v
unfolding repeated
repeated_same w zero v = let z : w * 0 ≡ 0 = omega arith in rw z
repeated_same w (suc n) v =
    rw (repeated_same w n v, replicate-append-replicate w (w * n) v, mul-suc w n, add_comm w (w * n))
