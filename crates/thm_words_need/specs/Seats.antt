-- Where a job is put in the queue and its index, and which is taken out: read within the sizes, and at cells and slots
-- within the sizes. Follows docs/RULES.md, "Tables and their measures".
use Rattle.std.specs.Prelude.{◌≡◌, true, ◌&&◌, ℕ, ◌≤◌, ◌<◌, eqb}
use Rattle.std.proofs.Math.Path.{refl, ap}
use Rattle.std.proofs.Common.{arith}
use Rattle.std.proofs.Math.Dec.{ltb, leb}
use borrow.Author.Tests.{ltb-true, lt-ltb, le-leb}
use Rattle.def_numbers.specs.Numbers.{most_class}
use Rattle.def_heap.specs.Sift.{sift_up, sift_down}
use Rattle.def_heap.proofs.Same.{RestsBelow, down_below, Matches, up_same, down_same}
use Rattle.def_heap.proofs.Way.{WayUp, WayFirst, up_weaker, first_weaker, way_up_lem, Raised, down_leads}
use Rattle.def_heap.proofs.Way.{leads_first}
use Rattle.def_heap.specs.declared.Sifted.{Sifted}
use Rattle.def_heap.specs.declared.Sifted.TheVariants.{Rests, Astray}
use Rattle.def_terms.specs.declared.Sizes.{Sizes}
use Rattle.def_words.specs.Layout.{CLASS, QUEUED, POSITION, View}
use Rattle.def_words.specs.Index.{levels, rank_in, rank_of, cell_in, waits, filled, seated, seat_for, first_cell, last_slot}
use Rattle.def_words.specs.Index.{last_cell, first_seat_by, first_seat}
use Rattle.def_words.specs.Words.{next_job}
use Rattle.def_words.specs.declared.Seat.{Seat}
use Rattle.def_words.specs.declared.Seating.{Seating}
use Rattle.def_words.specs.declared.Seating.TheVariants.{Seated, Unseated}
use Rattle.thm_words_tests.specs.Tests.{test, parts}
use Rattle.thm_words_need.specs.Parts.{clip, Reads, choose, within}

-- ---- a seat within the sizes, and the cells in the slots of its way: each of them gets another position
abbrev pub Carries : Sizes → View → ℕ → Type 0
Carries s v i = cell_in v i < s.jobs

abbrev pub Entering : Sizes → View → Seat → Type 0
Entering s v e =
    (ltb e.cell s.jobs ≡ true) × (ltb e.last s.jobs ≡ true)
    × WayUp (Carries s v) levels e.last e.slot

abbrev pub Leaving : Sizes → View → Seat → Type 0
Leaving s v e =
    (ltb e.cell s.jobs ≡ true) × (ltb e.last s.jobs ≡ true) × (ltb e.slot s.jobs ≡ true)
    × Carries s v e.last
    × WayFirst (Carries s v) levels e.slot

abbrev pub InSeating : Sizes → View → Seating → Type 0
InSeating s v (Seated e) = Entering s v e
InSeating s v Unseated = Unit {0}

-- ---- with the jobs that were made and put within the sizes
module _ (s : Sizes) (v : View) (made : leb v.made s.jobs ≡ true) where
  abbrev c : View
  c = clip s v

  module _ (put : v.put ≤ s.jobs) where
    -- a slot that waits has its cell, that cell's job and its class within the sizes
    waits_alike : (i : ℕ) → i < s.jobs → waits v i ≡ waits c i
    unfolding waits
    waits_alike i h =
        let p = cell_in v i in
        rw (lt-ltb i s.jobs h) (test (ltb p v.put)
        (λ e. let k = v.cell QUEUED p in
        rw (e, within p v.put s.jobs (le-leb v.put s.jobs put) e)
        (test (eqb (v.cell POSITION p) i)
        (λ g. rw g (test (ltb k v.made) (λ f. rw (f, within k v.made s.jobs made f)) (λ f. rw f)))
        (λ g. rw g)))
        (λ e. rw e))

    waits_within : (i : ℕ) → waits v i ≡ true
        → (ltb (cell_in v i) s.jobs ≡ true) × (ltb (v.cell QUEUED (cell_in v i)) s.jobs ≡ true)
    unfolding waits
    waits_within i e = let p = cell_in v i in (
      within p v.put s.jobs (le-leb v.put s.jobs put) (search parts),
      within (v.cell QUEUED p) v.made s.jobs made (search parts),
    )

    carries : (i : ℕ) → waits v i ≡ true → Carries s v i
    carries i e = ltb-true (cell_in v i) s.jobs (waits_within i e).0

    rank_alike : (i : ℕ) → waits v i ≡ true → rank_of v (cell_in v i) ≡ rank_of c (cell_in v i)
    rank_alike i e = let h = waits_within i e in rw (h.0, h.1)

    slot_alike : (i : ℕ) → i < s.jobs → cell_in v i ≡ cell_in c i
    slot_alike i h = rw (lt-ltb i s.jobs h)

    matches : Matches s.jobs (rank_of v) (rank_of c) (waits v) (waits c) (cell_in v) (cell_in c)
    matches = record {
      sounds = waits_alike;
      ranks = λ i _. rank_alike i;
      slots = slot_alike;
    }

  -- ---- a job that enters
  abbrev up : View → ℕ → Sifted
  up u j = sift_up (rank_of u) (waits u) (cell_in u) levels (rank_in v j v.put) (filled v)

  entering : (put : v.put < s.jobs) (r : ℕ) (f : Sifted)
      → sift_up (rank_of v) (waits v) (cell_in v) levels r (filled v) ≡ f
      → InSeating s v (seated f v.put (filled v))
  entering put r (Rests k) e = (
    lt-ltb v.put s.jobs put,
    lt-ltb (filled v) s.jobs (omega arith),
    up_weaker (carries (omega arith)) levels (filled v) k (way_up_lem _ (waits v) _ levels r (filled v) k e),
  )
  entering put r Astray e = tt

  pub seat_alike : (j : ℕ) → ltb j s.jobs ≡ true → Reads s v (InSeating s v) (λ u. seat_for s u j)
  unfolding seat_for
  seat_alike j h =
      rw h (choose (InSeating s v) (leb v.taken v.put && ltb v.put s.jobs && leb (v.job CLASS j) most_class)
      (λ e. let a = ltb-true v.put s.jobs (search parts) in (
        ap (λ r. seated r v.put (filled v)) (up_same (matches (omega arith)) levels _ (filled v) (omega arith)),
        entering a _ (up v j) refl,
      ))
      (λ _. (refl, tt)))

  -- ---- the job that is taken: its cell and its number too are within the sizes
  abbrev pub InFirst : Seating → Type 0
  InFirst (Seated e) =
      Leaving s v e × (ltb (first_cell v) s.jobs ≡ true) × (ltb (next_job v) s.jobs ≡ true)
  InFirst Unseated = Unit {0}

  module _ (put : v.put ≤ s.jobs) (some : v.taken < v.put) where
    abbrev l : ℕ
    l = last_cell v

    abbrev down : View → Sifted
    down u = sift_down (rank_of u) (waits u) (cell_in u) levels (last_slot v) (rank_of u l) 0

    down_alike : waits v (last_slot v) ≡ true → down v ≡ down c
    down_alike e =
        rw (← (rank_alike put (last_slot v) e))
        (down_same (matches put) (last_slot v) (omega arith) levels (rank_of v l) 0)

    in_first : waits v 0 ≡ true → waits v (last_slot v) ≡ true → (r : Sifted) → down v ≡ r → RestsBelow s.jobs r
        → InFirst (seated r (first_cell v) (last_slot v))
    in_first a b (Rests k) e h =
        let w = waits_within put 0 a in
        let way = down_leads (rank_of v) (waits v) (cell_in v) levels (last_slot v) (rank_of v l) 0 k e in (
          (
            w.0,
            lt-ltb (last_slot v) s.jobs (omega arith),
            lt-ltb k s.jobs h,
            carries put (last_slot v) b,
            first_weaker {P = Raised (rank_of v) (waits v) (cell_in v) (last_slot v) (rank_of v l)}
                (λ i p. carries put i p.waits) levels k (leads_first _ levels way),
          ),
          w.0,
          w.1,
        )
    in_first a b Astray e h = tt

    pub first_alike : Reads s v InFirst first_seat
    unfolding first_seat_by
    first_alike =
        rw (
          ← (slot_alike put 0 (omega arith)),
          ← (slot_alike put (last_slot v) (omega arith)),
          ← (waits_alike put 0 (omega arith)),
          ← (waits_alike put (last_slot v) (omega arith)),
        )
        (choose InFirst (waits v 0 && waits v (last_slot v))
        (λ e. (
          ap (λ r. seated r (first_cell v) (last_slot v)) (down_alike (search parts)),
          in_first (search parts) (search parts) (down v) refl
              (down_below (rank_of v) (waits v) (cell_in v) s.jobs levels (last_slot v) (rank_of v l) 0 (omega arith)
              (omega arith)),
        ))
        (λ _. (refl, tt)))
