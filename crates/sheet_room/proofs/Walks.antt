-- Laws of the walk along a bucket, from its newest name to its oldest.
use mathlib.Core.Path.{◌≡◌, sym, ◌∙◌}
use mathlib.Core.Bool.{true, false}
use mathlib.Core.List.{List}
use Prim.Native.Nat.{ℕ, zero, suc, ◌-◌, ◌≤◌, ◌<◌}
use native.Mathlib.Omega.{arith}
use lib.ListN.{length, get_or, take}
use lib.Seq.{take-suc}
use Rattle.def_numbers.specs.Numbers.{most_jobs}
use Rattle.def_basics.specs.Base.{contains}
use Rattle.def_bucket.specs.Laws.{below}
use Rattle.sheet_room.specs.Buckets.{table_bits, table_bucket, last, Indexed}
use Rattle.sheet_room.proofs.Newest.{contains_own, contains_other}
use Rattle.sheet_room.proofs.Newest.{last_within, last_again, last_own, last_contains}

-- ---- what the tables hold
module _ {names heads links : List ℕ} {made : ℕ} (x : Indexed names heads links made) where
  pub head_within : (b : ℕ) → b < most_jobs → get_or heads b 0 ≤ made
  head_within b h = rw (x.newest b h) (last_within b names made)

  pub link_within : (i : ℕ) → i < made → get_or links i 0 ≤ i
  link_within i h = rw (x.older i h) (last_within (table_bucket (get_or names i 0)) names i)

-- ---- the walk: it stands at a name of the bucket or at none, and has passed no name that is looked for
pub record Walk (names : List ℕ) (made name h : ℕ) : Type 0 where
  pub within : h ≤ made
  pub own : last (table_bucket name) names h ≡ h
  pub same : contains name (take h names) ≡ contains name (take made names)

module _ {names heads links : List ℕ} {made : ℕ} (x : Indexed names heads links made) (name : ℕ) where
  inside : made ≤ length names
  inside = omega (arith, x.places, x.room)

  pub walk_start : (b : ℕ) → b ≡ table_bucket name → Walk names made name (get_or heads b 0)
  walk_start b e = rw (e, x.newest (table_bucket name) (below name table_bits)) record {
    within = last_within (table_bucket name) names made;
    own = last_again (table_bucket name) names made;
    same = last_contains name names made inside;
  }

  pub walk_found : (h : ℕ) → Walk names made name h → 0 < h → get_or names (h - 1) 0 ≡ name
      → true ≡ contains name (take made names)
  walk_found zero w l e = absurd (omega arith)
  walk_found (suc m) w l e =
      let p : suc m - 1 ≡ m = omega arith in
      let r : m < length names = omega (arith, w.within, inside) in
      rw (← w.same, take-suc names m 0 r, rw p at e) (sym (contains_own name (take m names)))

  pub walk_on : (h : ℕ) → Walk names made name h → 0 < h → (get_or names (h - 1) 0 ≡ name → ⊥)
      → Walk names made name (get_or links (h - 1) 0)
  walk_on zero w l e = absurd (omega arith)
  walk_on (suc m) w l e =
      let b = table_bucket name in
      let p : suc m - 1 ≡ m = omega arith in
      let r : m < length names = omega (arith, w.within, inside) in
      rw (p, x.older m (omega (arith, w.within)), last_own b names m w.own) record {
        within = omega (arith, last_within b names m, w.within);
        own = last_again b names m;
        same = last_contains name names m (omega arith)
            ∙ (rw (take-suc names m 0 r, contains_other name (get_or names m 0) (take m names) (λ q. e (rw p (sym q))))
            at w.same);
      }

  pub walk_over : (h : ℕ) → Walk names made name h → h ≤ 0 → false ≡ contains name (take made names)
  unfolding contains
  walk_over zero w l = w.same
  walk_over (suc m) w l = absurd (omega arith)
