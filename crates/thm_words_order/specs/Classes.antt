-- "a get compares at most 64 pairs of jobs", and by their classes it tells nothing else: over tables that are the same
-- but for the classes of jobs, those that it looks at within their limit, it answers the same and leaves the same,
-- where the pairs that it compares are ordered alike. For all tables, damaged ones too. Follows docs/RULES.md, "Steps".
use Rattle.std.specs.Prelude.{◌≡◌, ◌≢◌, Bool, true, false, ◌&&◌, ℕ, ◌≤◌, ◌<◌, ltb, leb, length, get_or, set}
use Rattle.std.proofs.Math.Path.{refl, sym, ap}
use Rattle.std.proofs.Common.{◌∙◌, arith, length-set, get_or-set_same, get_or-set_other}
use mathlib.Core.List.{List, [], ◌∷◌}
use Rattle.std.proofs.Math.Decide.{ℕ_discrete, dec_lt}
use Rattle.std.proofs.Math.Dec.{eqb}
use Rattle.std.proofs.Math.Seq.{set_out}
use borrow.Author.Tests.{ltb-true, le-leb}
use Rattle.def_numbers.specs.Numbers.{most_class}
use Rattle.def_basics.specs.Base.{pick}
use Rattle.def_heap.specs.Sift.{sift_down}
use Rattle.def_heap.specs.Compared.{pairs_down, Alike, AgreeOn}
use Rattle.def_heap.proofs.Compared.{same_down}
use Rattle.def_heap.specs.declared.Sifted.{Sifted}
use Rattle.def_terms.specs.declared.Sizes.{Sizes}
use Rattle.def_words.specs.Columns.{offset, columns, header, put, sep}
use Rattle.def_words.specs.Layout.{job_shape, JOBS, ARCS, BITS, WORKERS, MADE, NAME, LABEL, CLASS, SPOILED, QUEUED}
use Rattle.def_words.specs.Layout.{POSITION}
use Rattle.def_words.specs.Layout.{Tables, tables, View, view, long_enough, sizes_kept}
use Rattle.def_words.specs.Index.{levels, rank_of, cell_in, waits, seated, first_cell, last_slot, last_cell, first_seat_by}
use Rattle.def_words.specs.Index.{first_seat, compared_cells}
use Rattle.def_words.specs.Words.{own_ok, admitted, next_job, take_from, plan_get_of, answer_get, applied_get, get_words}
use Rattle.def_words.specs.declared.Seating.{Seating}
use Rattle.def_words.specs.declared.Seating.TheVariants.{Seated, Unseated}
use Rattle.def_words.specs.declared.GetPlan.{GetPlan}
use Rattle.def_words.specs.declared.GetPlan.TheVariants.{RefuseGet, Wait, Take}
use Rattle.thm_words_tests.specs.Tests.{test}
use Rattle.thm_words_tests.specs.Reach.{Reach, early, empty, index, reach, plan_at}
use Rattle.thm_words_order.specs.Compared.{cells_by_get, at_index}
use Rattle.thm_words_order.specs.IndexFirst.{planned}
use Rattle.thm_words_order.specs.Looked.{looked_by_get}

-- two jobs tables that differ in no word but classes
pub record ButClasses (l m : List ℕ) : Type 0 where
  pub lengths : length m ≡ length l
  pub words : (q : ℕ) → ((j : ℕ) → q ≢ offset job_shape j CLASS) → get_or m q 0 ≡ get_or l q 0

-- the classes of the jobs in some slots, as far as they were made, are within their limit
unfoldable pub Classed : View → List ℕ → Type 0
Classed v [] = Unit {0}
Classed v (i ∷ l) =
    (v.cell QUEUED (cell_in v i) < v.made → v.job CLASS (v.cell QUEUED (cell_in v i)) ≤ most_class) × Classed v l

-- the tables with another jobs table
abbrev pub with_jobs : Tables → List ℕ → Tables
with_jobs t m = tables m t.arcs t.buckets t.queue t.workers

-- ---- what such tables have in common
module _ (l m : List ℕ) (b : ButClasses l m) where
  header_same : (k : ℕ) → ltb k job_shape.head ≡ true → header m k ≡ header l k
  unfolding header
  header_same k e = let o = ltb-true k job_shape.head e in b.words k (λ j z. absurd (omega arith))

  field_same : (k j : ℕ) → ltb k job_shape.width ≡ true → k ≢ CLASS → columns job_shape m k j ≡ columns job_shape l k j
  unfolding columns
  field_same k j e n =
      rw e (b.words (offset job_shape j k)
      (λ i z. n (sep job_shape j i k CLASS (ltb-true k job_shape.width e) (omega arith) z).1))

  -- a store of the same word leaves it so
  put_same : (i x : ℕ) → ButClasses (set l i x) (set m i x)
  put_same i x = record {
    lengths = length-set m i x ∙ b.lengths ∙ sym (length-set l i x);
    words = λ q n. elim (dec_lt i (length l)) [
      | yes o ↦ elim (ℕ_discrete q i) [
        | yes e ↦ rw (e, get_or-set_same l i x 0 o) (get_or-set_same m i x 0 (rw b.lengths o))
        | no e ↦ rw (get_or-set_other m i q x 0 e, get_or-set_other l i q x 0 e) (b.words q n)
      ]
      | no o ↦ rw (set_out m i x (omega (arith, b.lengths)), set_out l i x (omega arith)) (b.words q n)
    ];
  }

module _ (t : Tables) (m : List ℕ) (b : ButClasses t.jobs m) where
  abbrev v : View
  v = view t

  abbrev u : View
  u = view (with_jobs t m)

  -- a class within its limit passes the test of it in both
  job_same : (a : Bool) (j : ℕ) → (j < v.made → v.job CLASS j ≤ most_class)
      → (j < u.made → u.job CLASS j ≤ most_class)
      → (a && ltb j u.made && leb (u.job CLASS j) most_class)
      ≡ (a && ltb j v.made && leb (v.job CLASS j) most_class)
  job_same false j one two = refl
  job_same true j one two =
      let made = header_same t.jobs m b MADE refl in
      rw made (test (ltb j v.made)
      (λ e. let o = ltb-true j v.made e in
      rw (
        e,
        le-leb (columns job_shape m CLASS j) most_class (two (rw made o)),
        le-leb (columns job_shape t.jobs CLASS j) most_class (one o),
      ))
      (λ e. rw e))

  waits_same : (l : List ℕ) → Classed v l → Classed u l → AgreeOn (waits v) (waits u) l
  unfolding waits Classed AgreeOn
  waits_same [] one two = tt
  waits_same (i ∷ l) one two =
      let p = cell_in v i in (
        job_same (ltb p v.put && eqb (v.cell POSITION p) i) (v.cell QUEUED p) one.0 two.0,
        waits_same l one.1 two.1,
      )

  -- the seat of the job that is taken is told by the pairs compared and the slots looked at
  seat_same : AgreeOn (waits v) (waits u) (looked_by_get v) → Alike (rank_of v) (rank_of u) (compared_cells v)
      → first_seat u ≡ first_seat v
  unfolding first_seat_by looked_by_get AgreeOn
  seat_same B A = rw (B.0, B.1.0) (go (waits v 0 && waits v (last_slot v)) A)
    where
      down : View → Sifted
      down x = sift_down (rank_of x) (waits x) (cell_in v) levels (last_slot v) (rank_of x (last_cell v)) 0

      pairs : List (ℕ × ℕ)
      pairs = pairs_down (rank_of v) (waits v) (cell_in v) levels (last_slot v) (last_cell v) 0

      go : (c : Bool) → Alike (rank_of v) (rank_of u) (pick c pairs [])
          → pick c (seated (down u) (first_cell v) (last_slot v)) Unseated
          ≡ pick c (seated (down v) (first_cell v) (last_slot v)) Unseated
      go true A =
          ap (λ r. seated r (first_cell v) (last_slot v))
          (same_down (rank_of v) (rank_of u) (waits v) (waits u) (cell_in v) levels (last_slot v) (last_cell v) 0 A
          B.1.1)
      go false A = refl

  take_same : (r : Seating) → take_from u r ≡ take_from v r
  take_same (Seated e) =
      rw (
        field_same t.jobs m b LABEL (next_job v) refl (omega arith),
        field_same t.jobs m b NAME (next_job v) refl (omega arith),
        field_same t.jobs m b SPOILED (next_job v) refl (omega arith),
      )
  take_same Unseated = refl

  module _ (s : Sizes) (w : ℕ) where
    reach_same : reach s (with_jobs t m) w ≡ reach s t w
    unfolding reach admitted own_ok long_enough sizes_kept
    reach_same =
        rw (
          b.lengths,
          header_same t.jobs m b JOBS refl,
          header_same t.jobs m b ARCS refl,
          header_same t.jobs m b BITS refl,
          header_same t.jobs m b WORKERS refl,
          header_same t.jobs m b MADE refl,
        )

    plan_same : Classed v (looked_by_get v) → Classed u (looked_by_get v)
        → Alike (rank_of v) (rank_of u) (cells_by_get s t w)
        → plan_get_of s (with_jobs t m) w ≡ plan_get_of s t w
    unfolding cells_by_get
    plan_same one two A =
        planned s (with_jobs t m) w ∙ rw reach_same (go (reach s t w) A) ∙ sym (planned s t w)
      where
        go : (r : Reach) → Alike (rank_of v) (rank_of u) (at_index r (compared_cells v))
            → plan_at r (take_from u (first_seat u)) ≡ plan_at r (take_from v (first_seat v))
        go (early n) A = refl
        go empty A = refl
        go index A = ap (take_from u) (seat_same (waits_same (looked_by_get v) one two) A) ∙ take_same (first_seat v)

-- what a plan leaves of both
left_same : (t : Tables) (m : List ℕ) (w : ℕ) → ButClasses t.jobs m → (p : GetPlan)
    → (applied_get p (with_jobs t m) w ≡ with_jobs (applied_get p t w) (applied_get p (with_jobs t m) w).jobs)
    × ButClasses (applied_get p t w).jobs (applied_get p (with_jobs t m) w).jobs
unfolding applied_get put
left_same t m w b (RefuseGet n) = (refl, b)
left_same t m w b Wait = (refl, b)
left_same t m w b (Take h e) = (refl, put_same t.jobs m b _ 1)

-- ---- the theorem: the same answer, and the same tables but for classes
pub record SameGet (s : Sizes) (t : Tables) (m : List ℕ) (w : ℕ) : Type 0 where
  pub answer : (get_words s (with_jobs t m) w).answer ≡ (get_words s t w).answer
  pub tables : (get_words s (with_jobs t m) w).state
      ≡ with_jobs (get_words s t w).state (get_words s (with_jobs t m) w).state.jobs
  pub jobs : ButClasses (get_words s t w).state.jobs (get_words s (with_jobs t m) w).state.jobs

pub get_by_classes : (s : Sizes) (t : Tables) (m : List ℕ) (w : ℕ) → ButClasses t.jobs m
    → Classed (view t) (looked_by_get (view t)) → Classed (view (with_jobs t m)) (looked_by_get (view t))
    → Alike (rank_of (view t)) (rank_of (view (with_jobs t m))) (cells_by_get s t w)
    → SameGet s t m w
unfolding get_words applied_get
get_by_classes s t m w b one two A =
    let e = plan_same t m b s w one two A in
    let left = left_same t m w b (plan_get_of s t w) in
    record {
      answer = ap answer_get e;
      tables = rw e left.0;
      jobs = rw e left.1;
    }
