-- A number that moves through a heap, one level at a time, for a number of levels that is known only to be above 0 or
-- not.
use mathlib.Core.Path.{◌≡◌, refl}
use mathlib.Core.List.{List, [], ◌∷◌, ◌++◌}
use mathlib.Core.Bool.{Bool, true, false, ◌&&◌, ◌||◌}
use Prim.Native.Nat.{ℕ, zero, suc, ◌+◌, ◌-◌, ◌≤◌, ◌<◌}
use native.Mathlib.Omega.{arith}
use lib.Dec.{ltb, leb}
use lib.ListN.{length}
use borrow.Author.Tests.{lt-ltb, le-ltb, leb-true, leb-false}
use Rattle.def_basics.specs.Base.{pick}
use Rattle.def_heap.specs.Compared.{pairs_down}
use Rattle.def_heap.specs.Sift.{left, right, lesser, sound_below, sift_down}
use Rattle.def_heap.specs.declared.Sifted.{Sifted}
use Rattle.def_heap.specs.declared.Sifted.TheVariants.{Rests, Astray}
use Rattle.graph_first.specs.Met.{meets, earlier, met}
use Rattle.graph_first.specs.declared.Met.{Met}
use Rattle.std.specs.Prelude.{Option, Some, None}
use Rattle.graph_index.specs.Looked.{ranked}
use Rattle.graph_index.specs.declared.Ranked.{Ranked}

module _ (rank : ℕ → ℕ) (sound : ℕ → Bool) (slot : ℕ → ℕ) where
  pub down_none : (n m r i : ℕ) → n ≤ 0 → sift_down rank sound slot n m r i ≡ Rests i
  unfolding sift_down
  down_none zero m r i h = refl
  down_none (suc n) m r i h = absurd (omega arith)

  -- and down
  abbrev pub downward : (most filled its_rank from : ℕ) → Option Ranked → Sifted
  downward n m r i (Some x) = pick (ltb x.rank r) (sift_down rank sound slot n m r x.slot) (Rests i)
  downward n m r i None = Astray

  -- the slots below, as one test and a choice
  met_downward : (n m r i : ℕ)
      → pick (sound_below rank sound slot m i)
      (downward n m r i (Some (ranked (lesser rank sound slot m i) (rank (slot (lesser rank sound slot m i))))))
      Astray
      ≡ downward n m r i (met rank sound slot m i).looked
  met_downward n m r i = go (sound (left i)) (leb m (right i)) refl (sound (right i)) (ltb R L) refl
    where
      L : ℕ
      L = rank (slot (left i))

      R : ℕ
      R = rank (slot (right i))

      on : ℕ → Sifted
      on k = downward n m r i (Some (ranked k (rank (slot k))))

      go : (a b : Bool) → leb m (right i) ≡ b → (d e : Bool) → ltb R L ≡ e
          → pick (a && (b || d)) (on (pick (ltb (right i) m && e) (right i) (left i))) Astray
          ≡ downward n m r i
          (pick b (meets (pick a (Some (ranked (left i) L)) None) 0)
          (earlier (pick a (Some (ranked (left i) L)) None) (pick d (Some (ranked (right i) R)) None))).looked
      go false true h d e t = refl
      go false false h d e t = refl
      go true true h d e t = rw (le-ltb (right i) m (leb-true m (right i) h))
      go true false h false e t = refl
      go true false h true true t = rw (lt-ltb (right i) m (omega (arith, leb-false m (right i) h)), t)
      go true false h true false t = rw (lt-ltb (right i) m (omega (arith, leb-false m (right i) h)), t)

  pub down_one : (n m r i : ℕ) → 0 < n
      → sift_down rank sound slot n m r i
      ≡ pick (ltb (left i) m) (downward (n - 1) m r i (met rank sound slot m i).looked) (Rests i)
  unfolding sift_down
  down_one zero m r i h = absurd (omega arith)
  down_one (suc n) m r i h = let z : suc n - 1 ≡ n = omega arith in rw (z, ← met_downward n m r i)

  -- how many pairs are compared from there on, by the rank r of the number x that moves
  abbrev pub onward : (most filled number its_rank : ℕ) → Option Ranked → ℕ
  onward n m x r (Some y) = 1 + pick (ltb y.rank r) (length (pairs_down rank sound slot n m x y.slot)) 0
  onward n m x r None = 0

  pub count_none : (n m x i : ℕ) → n ≤ 0 → length (pairs_down rank sound slot n m x i) ≡ 0
  unfolding pairs_down
  count_none zero m x i h = refl
  count_none (suc n) m x i h = absurd (omega arith)

  module _ (n m x r i : ℕ) (moves : rank x ≡ r) where
    abbrev on : ℕ → List (ℕ × ℕ)
    on k = (slot k, x) ∷ pick (ltb (rank (slot k)) (rank x)) (pairs_down rank sound slot n m x k) []

    count_on : (k : ℕ) → length (on k) ≡ onward n m x r (Some (ranked k (rank (slot k))))
    count_on k = rw moves (go (ltb (rank (slot k)) r))
      where
        l : List (ℕ × ℕ)
        l = pairs_down rank sound slot n m x k

        go : (b : Bool) → suc (length (pick b l [])) ≡ 1 + pick b (length l) 0
        go true = omega arith
        go false = omega arith

    count_met :
        length
        (pick (sound_below rank sound slot m i)
        (pick (ltb (right i) m) ((slot (right i), slot (left i)) ∷ []) [] ++ on (lesser rank sound slot m i)) [])
        ≡ (met rank sound slot m i).compared + onward n m x r (met rank sound slot m i).looked
    count_met = go (sound (left i)) (leb m (right i)) refl (sound (right i)) (ltb R L) refl
      where
        L : ℕ
        L = rank (slot (left i))

        R : ℕ
        R = rank (slot (right i))

        of : Bool → Bool → Bool → Met
        of a b d =
            pick b (meets (pick a (Some (ranked (left i) L)) None) 0)
            (earlier (pick a (Some (ranked (left i) L)) None) (pick d (Some (ranked (right i) R)) None))

        go : (a b : Bool) → leb m (right i) ≡ b → (d e : Bool) → ltb R L ≡ e
            → length
            (pick (a && (b || d))
            (pick (ltb (right i) m) ((slot (right i), slot (left i)) ∷ []) []
            ++ on (pick (ltb (right i) m && e) (right i) (left i)))
            [])
            ≡ (of a b d).compared + onward n m x r (of a b d).looked
        go false true h d e t = refl
        go false false h d e t = refl
        go true true h d e t = rw (le-ltb (right i) m (leb-true m (right i) h)) (omega (arith, count_on (left i)))
        go true false h false e t = refl
        go true false h true true t =
            rw (lt-ltb (right i) m (omega (arith, leb-false m (right i) h)), t) (omega (arith, count_on (right i)))
        go true false h true false t =
            rw (lt-ltb (right i) m (omega (arith, leb-false m (right i) h)), t) (omega (arith, count_on (left i)))

  pub count_one : (n m x r i : ℕ) → 0 < n → rank x ≡ r
      → length (pairs_down rank sound slot n m x i)
      ≡ pick (ltb (left i) m)
      ((met rank sound slot m i).compared + onward (n - 1) m x r (met rank sound slot m i).looked) 0
  unfolding pairs_down
  count_one zero m x r i h e = absurd (omega arith)
  count_one (suc n) m x r i h e =
      let z : suc n - 1 ≡ n = omega arith in rw (z, ← count_met n m x r i e) (go (ltb (left i) m))
    where
      l : List (ℕ × ℕ)
      l = pick (sound_below rank sound slot m i)
          (pick (ltb (right i) m) ((slot (right i), slot (left i)) ∷ []) [] ++ on n m x r i e (lesser rank sound slot m i))
          []

      go : (b : Bool) → length (pick b l []) ≡ pick b (length l) 0
      go true = refl
      go false = refl
