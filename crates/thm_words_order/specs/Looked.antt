-- For ALL tables: which slots of the index a get and a job that enters look at, and that they are few. A get that comes
-- to the index is refused by 9, with nothing changed, where one of them does not wait, the first job is not unexecuted
-- or its mark is not 0 or 1 (what it does otherwise: Taken). A job that enters is seated exactly where each of them
-- waits. So an index that is empty over a filled queue is seen, and where all slots wait no order of them stops a get.
-- Follows docs/RULES.md, "The index", "Steps" and "Turned-away calls".
use Rattle.std.specs.Prelude.{◌≡◌, refl, Bool, true, false, ◌&&◌, List, ◌∷◌, ℕ, suc, ◌+◌, ◌*◌, ◌^◌, ◌≤◌, ◌<◌, ltb, leb, eqb, length}
use Rattle.std.proofs.Common.{ap, subst, ◌∙◌, arith, pow_pos}
use borrow.Author.Tests.{leb-true, le-leb, le-ltb}
use Rattle.def_numbers.specs.Numbers.{most_class, most_jobs, damaged}
use Rattle.def_basics.specs.Base.{pick}
use Rattle.def_heap.specs.Sift.{sift_up, sift_down}
use Rattle.def_heap.specs.Looked.{rests, each_sound, slots_up, slots_down, exact_up, exact_down, trusted_up, trusted_down}
use Rattle.def_heap.specs.Looked.{few_slots_up, few_slots_down}
use Rattle.def_heap.proofs.Logarithm.{log_slots_up, log_slots_down}
use Rattle.def_heap.specs.declared.Sifted.{Sifted}
use Rattle.def_heap.specs.declared.Sifted.TheVariants.{Rests, Astray}
use Rattle.def_terms.specs.Terms.{within_limits}
use Rattle.def_terms.specs.Runs.{result_of}
use Rattle.def_terms.specs.declared.Sizes.{Sizes}
use Rattle.def_terms.specs.declared.Answer.TheVariants.{Refused}
use Rattle.def_words.specs.Layout.{none, LABEL, CLASS, SPOILED, Tables, View, view}
use Rattle.def_words.specs.Index.{levels, rank_in, rank_of, cell_in, waits, filled, seated, seat_for, first_cell, last_slot}
use Rattle.def_words.specs.Index.{last_cell, first_seat_by, first_seat}
use Rattle.def_words.specs.Words.{next_job, spoiled_ok, take_from, applied_get, get_words, plan_get_of}
use Rattle.def_words.specs.declared.Seating.{Seating}
use Rattle.def_words.specs.declared.Seating.TheVariants.{Seated, Unseated}
use Rattle.def_words.specs.declared.GetPlan.{GetPlan}
use Rattle.def_words.specs.declared.GetPlan.TheVariants.{RefuseGet}
use Rattle.thm_words_tests.specs.Tests.{parts}
use Rattle.thm_words_tests.specs.Reach.{index, reach, plan_at}
use Rattle.thm_words_order.specs.IndexFirst.{Filled, Reached, reached, planned}

-- each of some slots waits
abbrev pub each_waits : View → List ℕ → Bool
each_waits v l = each_sound (waits v) l

abbrev pub is_seated : Seating → Bool
is_seated (Seated e) = true
is_seated Unseated = false

seated_rests : (f : Sifted) (p m : ℕ) → is_seated (seated f p m) ≡ rests f
seated_rests (Rests k) p m = refl
seated_rests Astray p m = refl

-- ---- the slots that a get looks at, once it comes to the index: the first, the last, and those on the way down
unfoldable pub looked_by_get : View → List ℕ
looked_by_get v =
    0 ∷ last_slot v
    ∷ slots_down (rank_of v) (waits v) (cell_in v) levels (last_slot v) (rank_of v (last_cell v)) 0

-- two, and two a level
pub few_by_get : (v : View) → length (looked_by_get v) ≤ 26
unfolding looked_by_get
few_by_get v =
    omega (
      arith,
      few_slots_down (rank_of v) (waits v) (cell_in v) levels (last_slot v) (rank_of v (last_cell v)) 0,
    )

pub log_by_get : (v : View) (k : ℕ) → filled v ≤ 2 ^ suc k → length (looked_by_get v) ≤ 2 + 2 * k
unfolding looked_by_get
log_by_get v k h =
    omega (
      arith,
      log_slots_down (rank_of v) (waits v) (cell_in v) levels k (last_slot v) (rank_of v (last_cell v)) 0
          (omega (arith, pow_pos (suc k))),
    )

-- they tell whether there is a seat
pub first_exact : (v : View) → is_seated (first_seat v) ≡ each_waits v (looked_by_get v)
unfolding first_seat_by looked_by_get each_sound
first_exact v =
    go (waits v 0) (waits v (last_slot v))
    (seated_rests down (first_cell v) (last_slot v)
    ∙ exact_down (rank_of v) (waits v) (cell_in v) levels (last_slot v) (rank_of v (last_cell v)) 0)
  where
    down : Sifted
    down = sift_down (rank_of v) (waits v) (cell_in v) levels (last_slot v) (rank_of v (last_cell v)) 0

    go : (a b : Bool) {c : Bool} → is_seated (seated down (first_cell v) (last_slot v)) ≡ c
        → is_seated (pick (a && b) (seated down (first_cell v) (last_slot v)) Unseated) ≡ (a && (b && c))
    go true true e = e
    go true false e = refl
    go false b e = refl

-- ---- a get that comes to the index: the tests that decide whether it takes the first or is refused by 9
abbrev pub first_ok : View → Bool
first_ok v = eqb (v.job LABEL (next_job v)) 0 && spoiled_ok v (next_job v)

abbrev pub takes_first : View → Bool
takes_first v = each_waits v (looked_by_get v) && first_ok v

take_refused : (v : View) (r : Seating) → (is_seated r && first_ok v) ≡ false
    → take_from v r ≡ RefuseGet damaged
take_refused v (Seated e) c = rw c
take_refused v Unseated c = refl

module _ (s : Sizes) (t : Tables) (w : ℕ) (here : reach s t w ≡ index) where
  abbrev pub v : View
  v = view t

  abbrev pub first : GetPlan
  first = take_from v (first_seat v)

  pub plan_here : plan_get_of s t w ≡ first
  plan_here = planned s t w ∙ ap (λ r. plan_at r first) here

  pub takes_exact : (is_seated (first_seat v) && first_ok v) ≡ takes_first v
  takes_exact = ap (λ b. b && first_ok v) (first_exact v)

  pub refused_at_index : takes_first v ≡ false → get_words s t w ≡ result_of (Refused damaged 0) t
  unfolding get_words applied_get
  refused_at_index e = rw (plan_here, take_refused v (first_seat v) (takes_exact ∙ e))

  -- an index whose first slot holds no cell that was put is seen, so one that is empty over a filled queue
  pub unput_at_index : ltb (first_cell v) v.put ≡ false → get_words s t w ≡ result_of (Refused damaged 0) t
  unfolding looked_by_get each_sound waits
  unput_at_index e = refused_at_index (rw e)

  abbrev pub some : Filled s t w
  some = subst (Reached s t w) here (reached s t w)

  pub empty_at_index : first_cell v ≡ none → get_words s t w ≡ result_of (Refused damaged 0) t
  unfolding within_limits
  empty_at_index e =
      let sizes = some.sizes in
      let fits = some.fits in
      let most = leb-true s.jobs most_jobs (search parts) in
      unput_at_index (rw e (le-ltb none v.put (omega arith)))

  -- where every filled slot waits it passes these tests, whatever the order of the heap
  pub trusted_at_index : ((k : ℕ) → k < filled v → waits v k ≡ true) → v.job LABEL (next_job v) ≡ 0
      → v.job SPOILED (next_job v) ≤ 1
      → takes_first v ≡ true
  unfolding looked_by_get each_sound
  trusted_at_index h e o =
      let more = some.some in
      let rank = rank_of v (last_cell v) in
      let rest = trusted_down (rank_of v) (waits v) (cell_in v) (last_slot v) (λ k l. h k (omega arith)) levels rank 0 in
      rw (
        h 0 (omega arith),
        h (last_slot v) (omega arith),
        ← (exact_down (rank_of v) (waits v) (cell_in v) levels (last_slot v) rank 0),
        rest,
        e,
        le-leb (v.job SPOILED (next_job v)) 1 o,
      )

-- ---- the slots that a job looks at that enters: those on the way up
unfoldable pub looked_by_entering : View → ℕ → List ℕ
looked_by_entering v j = slots_up (rank_of v) (waits v) (cell_in v) levels (rank_in v j v.put) (filled v)

-- one a level
pub few_by_entering : (v : View) (j : ℕ) → length (looked_by_entering v j) ≤ 12
unfolding looked_by_entering
few_by_entering v j = few_slots_up (rank_of v) (waits v) (cell_in v) levels (rank_in v j v.put) (filled v)

pub log_by_entering : (v : View) (j k : ℕ) → filled v + 1 < 2 ^ suc k → length (looked_by_entering v j) ≤ k
unfolding looked_by_entering
log_by_entering v j k h = log_slots_up (rank_of v) (waits v) (cell_in v) levels k (rank_in v j v.put) (filled v) h

-- the tests before it looks at the index
abbrev pub may_enter : Sizes → View → ℕ → Bool
may_enter s v j = leb v.taken v.put && ltb v.put s.jobs && leb (v.job CLASS j) most_class

pub entering_exact : (s : Sizes) (v : View) (j : ℕ)
    → is_seated (seat_for s v j) ≡ (may_enter s v j && each_waits v (looked_by_entering v j))
unfolding seat_for looked_by_entering
entering_exact s v j =
    go (may_enter s v j)
    (seated_rests up v.put (filled v)
    ∙ exact_up (rank_of v) (waits v) (cell_in v) levels (rank_in v j v.put) (filled v))
  where
    up : Sifted
    up = sift_up (rank_of v) (waits v) (cell_in v) levels (rank_in v j v.put) (filled v)

    go : (a : Bool) {c : Bool} → is_seated (seated up v.put (filled v)) ≡ c
        → is_seated (pick a (seated up v.put (filled v)) Unseated) ≡ (a && c)
    go true e = e
    go false e = refl

pub trusted_entering : (s : Sizes) (v : View) (j : ℕ) → may_enter s v j ≡ true
    → ((k : ℕ) → k < filled v → waits v k ≡ true)
    → is_seated (seat_for s v j) ≡ true
unfolding looked_by_entering
trusted_entering s v j e h =
    let rank = rank_in v j v.put in
    let rest = trusted_up (rank_of v) (waits v) (cell_in v) (filled v) h levels rank (filled v) (omega arith) in
    entering_exact s v j
    ∙ rw (e, ← (exact_up (rank_of v) (waits v) (cell_in v) levels rank (filled v))) rest
