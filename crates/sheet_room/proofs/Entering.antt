-- The heads and the links fit the names from the start on, and still do once a name has entered.
use mathlib.Core.Path.{◌≡◌, refl, sym, ◌∙◌}
use mathlib.Core.List.{List}
use Prim.Native.Nat.{ℕ, suc, ◌+◌, ◌<◌}
use native.Mathlib.Omega.{arith}
use native.Mathlib.Numerals.{add-one}
use native.Mathlib.Decide.{ℕ_discrete}
use lib.ListN.{get_or, set, length-set, replicate, length-replicate, get_or-replicate}
use lib.Seq.{get_or-set_same, get_or-set_other}
use borrow.Author.Tests.{eq-eqb, ne_eqb}
use Rattle.def_numbers.specs.Numbers.{most_jobs}
use Rattle.def_bucket.specs.Laws.{below}
use Rattle.sheet_room.specs.Buckets.{table_bits, table_bucket, last, Indexed}
use Rattle.sheet_room.proofs.Newest.{last_same}

-- no name in tables of 0
pub indexed_none : (k : ℕ) → k ≡ most_jobs → Indexed (replicate k 0) (replicate k 0) (replicate k 0) 0
unfolding last
indexed_none k e = record {
  places = length-replicate k 0 ∙ e;
  buckets = length-replicate k 0 ∙ e;
  chains = length-replicate k 0 ∙ e;
  room = omega arith;
  newest = λ b h. get_or-replicate k b 0 0 (omega arith);
  older = λ i h. absurd (omega arith);
}

-- a name that enters is its bucket's newest
module _ (names heads links : List ℕ) (made name : ℕ) (x : Indexed names heads links made)
    (room : made < most_jobs) where
  after : List ℕ
  after = set names made name

  unchanged : (i : ℕ) → i < made → get_or after i 0 ≡ get_or names i 0
  unfolding after
  unchanged i h = get_or-set_other names made i name 0 (λ e. omega arith)

  entered : get_or after made 0 ≡ name
  unfolding after
  entered = get_or-set_same names made name 0 (omega (arith, x.places))

  newest : (b : ℕ) → b < most_jobs
      → get_or (set heads (table_bucket name) (suc made)) b 0 ≡ last b after (suc made)
  unfolding last
  newest b h = elim (ℕ_discrete b (table_bucket name)) [
    | yes e ↦ rw (
      e,
      entered,
      eq-eqb (table_bucket name) (table_bucket name) refl,
      get_or-set_same heads (table_bucket name) (suc made) 0
          (omega (arith, x.buckets, below name table_bits)),
    )
    | no e ↦ rw (
      entered,
      ne_eqb (table_bucket name) b (λ q. e (sym q)),
      get_or-set_other heads (table_bucket name) b (suc made) 0 e,
      last_same b names after made unchanged,
    ) (x.newest b h)
  ]

  older : (i : ℕ) → i < suc made
      → get_or (set links made (get_or heads (table_bucket name) 0)) i 0 ≡ last (table_bucket (get_or after i 0)) after i
  older i h = elim (ℕ_discrete i made) [
    | yes e ↦ rw (
      e,
      entered,
      get_or-set_same links made (get_or heads (table_bucket name) 0) 0 (omega (arith, x.chains)),
      last_same (table_bucket name) names after made unchanged,
    ) (x.newest (table_bucket name) (below name table_bits))
    | no e ↦
        let l : i < made = omega arith in
        rw (
          get_or-set_other links made i (get_or heads (table_bucket name) 0) 0 e,
          unchanged i l,
          last_same (table_bucket (get_or names i 0)) names after i (λ k r. unchanged k (omega arith)),
        ) (x.older i l)
  ]

  pub kept : Indexed (set names made name) (set heads (table_bucket name) (made + 1))
      (set links made (get_or heads (table_bucket name) 0)) (made + 1)
  unfolding after
  kept = rw add-one record {
    places = simp length-set x.places;
    buckets = simp length-set x.buckets;
    chains = simp length-set x.chains;
    room = omega arith;
    newest = newest;
    older = older;
  }
