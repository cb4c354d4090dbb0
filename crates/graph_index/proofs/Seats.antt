-- The seats of the definitions, by what the code reads and finds on the way.
use mathlib.Core.Path.{◌≡◌}
use Prim.Native.Nat.{ℕ, ◌-◌, ◌≤◌, ◌<◌}
use borrow.Author.Tests.{lt-ltb, le-ltb, le-leb, lt-leb}
use Rattle.std.proofs.Common.{◌⊎◌, inl, inr}
use Rattle.def_numbers.specs.Numbers.{most_class}
use Rattle.def_heap.specs.Sift.{sift_up}
use Rattle.def_heap.specs.declared.Sifted.{Sifted}
use Rattle.def_terms.specs.declared.Sizes.{Sizes}
use Rattle.def_words.specs.Layout.{CLASS, View}
use Rattle.def_words.specs.Index.{rank, rank_of, waits, cell_in, seated, seat_for, levels}
use Rattle.def_words.specs.declared.Seating.TheVariants.{Unseated}

module _ (s : Sizes) (v : View) (j : ℕ) {taken put class : ℕ} (t : taken ≡ v.taken) (p : put ≡ v.put)
    (c : class ≡ v.job CLASS j) where
  pub seat_found : {by filled : ℕ} {k : Sifted} → filled ≡ put - taken → by ≡ rank class put
      → k ≡ sift_up (rank_of v) (waits v) (cell_in v) levels by filled
      → taken ≤ put → put < s.jobs → class ≤ most_class
      → seated k put filled ≡ seat_for s v j
  unfolding seat_for
  seat_found f b k h i g =
      rw (k, b, f, ← t, ← p, ← c, le-leb taken put h, lt-ltb put s.jobs i, le-leb class most_class g)

  pub seat_none : (put < taken) ⊎ ((taken ≤ put × s.jobs ≤ put) ⊎ (taken ≤ put × put < s.jobs × most_class < class))
      → Unseated ≡ seat_for s v j
  unfolding seat_for
  seat_none (inl h) = rw (← t, ← p, lt-leb taken put h)
  seat_none (inr (inl h)) = rw (← t, ← p, le-leb taken put h.0, le-ltb put s.jobs h.1)
  seat_none (inr (inr h)) =
      rw (← t, ← p, ← c, le-leb taken put h.0, lt-ltb put s.jobs h.1, lt-leb class most_class h.2)
