-- The queue and the index beside it, as the rules have the queue: where a job that enters is seated, and where the job
-- is that is handed out, the first by the order of hand-outs. The queue never passes its end, since a job enters it
-- once. Follows docs/RULES.md, "Tables and their measures" and "Turned-away calls" (number 9: the queue would pass its
-- end).
use Rattle.std.specs.Prelude.{◌≡◌, refl, ◌≢◌, Bool, true, false, ◌&&◌, List, [], ◌∷◌, ◌++◌, leb, ltb, length}
use Rattle.std.proofs.Common.{sym, ◌∙◌, arith, add-one}
use Rattle.std.proofs.Math.Path.{ap}
use Rattle.std.proofs.Math.Option.{some}
use Prim.Native.Nat.{ℕ, suc, ◌+◌, ◌^◌, ◌≤◌, ◌<◌}
use Rattle.std.proofs.Math.Decide.{ℕ_discrete, dec_lt}
use borrow.Author.Tests.{lt-ltb, le-ltb, le-leb, eq-eqb}
use Rattle.def_numbers.specs.Numbers.{most_class, most_jobs}
use Rattle.def_basics.specs.Base.{pick, update, occurrences}
use Rattle.def_basics.specs.Laws.{update_same, update_other}
use Rattle.def_basics.specs.Counting.{hit, hit_same, hit_other, sum_same}
use Rattle.def_minutes.specs.Minutes.{minutes_in}
use Rattle.def_minutes.specs.Rising.{Rising, rising}
use Rattle.def_heap.proofs.Heap.{count, Enters, enters, Leaves, leaves, first_lowest, heap_same, held}
use Rattle.def_heap.proofs.Positions.{positions_enter, positions_leave}
use Rattle.def_heap.specs.Sift.{sift_up, sift_down, shift_down, shift_up, positions_down, positions_up}
use Rattle.def_heap.specs.declared.Sifted.TheVariants.{Rests}
use Rattle.def_terms.specs.Order.{without}
use Rattle.def_terms.specs.OrderLaws.{without_occurs}
use Rattle.def_terms.specs.declared.Sizes.{Sizes}
use Rattle.def_words.specs.Layout.{CLASS, QUEUED, SLOT, POSITION, view, Tables, View}
use Rattle.def_words.specs.Layout as words
use Rattle.def_words.specs.Index.{rank, rank_of, waits, filled, last_slot, seat, seat_for, first_seat}
use Rattle.def_words.specs.Index.{first_seat_by, levels}
use Rattle.def_words.specs.Words.{is_place, with_seat}
use Rattle.def_words.specs.Observed.{jobs_in, waiting}
use Rattle.def_words.specs.declared.Seat.{Seat}
use Rattle.def_words.specs.declared.Seating.TheVariants.{Seated}
use Rattle.def_words.specs.declared.Plan.{Plan}
use Rattle.def_rules.specs.Rules.{Graph, job, order, next_out, minutes_of}
use Rattle.def_rules.specs.Sound.{Sound, MayQueue, started}
use Rattle.thm_representation.specs.Rep.{Ghost, Index, TablesRep, Stands}
use Rattle.thm_representation_kept.specs.Cells.{jobs_put, jobs_take, cell_occurs, one_cell, first_cell_lem}
use Rattle.thm_representation_kept.specs.InSlots.{at_most_one, is_place_lem, slot_below, slot_has, apart, indexed}
use Rattle.thm_representation_kept.specs.Stand.{limits_of}

-- ---- the jobs that wait are those of the queue
pub waiting_queue : {s : Sizes} {t : Tables} {g : Graph} {G : Ghost} → Stands s t g G → waiting t ≡ g.queue
waiting_queue S = S.rep.queue

and-false : (b : Bool) → (b && false) ≡ false
and-false true = refl
and-false false = refl

-- ---- ranks by the classes and the cells
rank_by : (u : View) (class cells : ℕ → ℕ) → u.job CLASS ≡ class → u.cell QUEUED ≡ cells → (p : ℕ)
    → rank_of u p ≡ rank (class (cells p)) p
rank_by u class cells a b p = rw (a, b)

-- ---- minutes rise with the class, by every table that rises
module _ (m : List ℕ) (r : Rising m) where
  rises : (a b : ℕ) → a < b → b ≤ most_class → minutes_in m a < minutes_in m b
  rises a b h l = r.rises a b h (omega arith)

  not_falling : (a b : ℕ) → a ≤ b → b ≤ most_class → minutes_in m a ≤ minutes_in m b
  not_falling a b h l = elim (dec_lt a b) [
    | yes e ↦ omega (arith, rises a b e l)
    | no e ↦ let same : a ≡ b = omega arith in rw same (omega arith)
  ]

-- ---- the tests on the queue
module _ (s : Sizes) (t : Tables) (g : Graph) (G : Ghost) (S : Stands s t g G) (O : Sound s g) where
  abbrev R : TablesRep s (view t) g G
  R = S.rep

  abbrev v : View
  v = view t

  -- how many wait
  abbrev m : ℕ
  m = length g.queue

  abbrev cells : ℕ → ℕ
  cells = (view t).cell QUEUED

  abbrev slot : ℕ → ℕ
  slot = (view t).cell SLOT

  abbrev position : ℕ → ℕ
  position = (view t).cell POSITION

  minutes_rise : Rising g.minutes
  minutes_rise = rising g.minutes O.minutes

  pub put_there : (view t).put ≡ started g.jobs + length g.queue
  put_there = R.put ∙ ap (λ z. z + length g.queue) R.taken

  pub queue_end : leb (started g.jobs + length g.queue) s.jobs ≡ true
  queue_end = le-leb (started g.jobs + length g.queue) s.jobs (omega (arith, O.queue_room, O.jobs))

  put_ends : v.put ≤ s.jobs
  put_ends = omega (arith, put_there, O.queue_room, O.jobs)

  pub fill : filled v ≡ m
  fill = omega (arith, R.put)

  pub room : v.put ≤ most_jobs
  room = omega (arith, put_ends, (limits_of s S.limits).jobs)

  -- ---- a cell that has a job
  module _ (p : ℕ) (put : p < v.put) (some : cells p ≢ words.none) where
    waiting_job : 0 < occurrences (cells p) g.queue
    waiting_job = rw R.queue at (cell_occurs cells v.put p put some)

    made : cells p < length g.jobs
    made = O.queue_there (cells p) waiting_job

    class_of : v.job CLASS (cells p) ≡ (job g (cells p)).class
    class_of = (R.rows (cells p) (omega (arith, O.jobs, made))).class

    class_within : v.job CLASS (cells p) ≤ most_class
    class_within = omega (arith, class_of, O.classes (cells p))

  -- ---- the cells in the filled slots
  module _ (k : ℕ) (h : k < m) where
    below : slot k < v.put
    below = slot_below v m R.index k h

    has : cells (slot k) ≢ words.none
    has = slot_has v m R.index k h

    pub slot_waits : waits v k ≡ true
    unfolding waits
    slot_waits =
        let p : ℕ = slot k in
        rw (
          R.made,
          lt-ltb p v.put below,
          eq-eqb (position p) k (R.index.positions k h),
          lt-ltb (cells p) (length g.jobs) (made p below has),
          le-leb (v.job CLASS (cells p)) most_class (class_within p below has),
        )

  pub slots_within : (k : ℕ) → k < m → slot k < s.jobs
  slots_within k h = omega (arith, below k h, put_ends)

  -- ---- a job enters
  module _ (j : ℕ) (hj : j < length g.jobs) (M : MayQueue g j) where
    j_fits : j < s.jobs
    j_fits = omega (arith, O.jobs)

    some_job : j ≢ words.none
    some_job = omega (arith, j_fits, (limits_of s S.limits).jobs)

    pub put_fits : v.put < s.jobs
    put_fits = omega (arith, put_there, M.room, O.jobs)

    levels_hold : m < 2 ^ levels
    levels_hold = omega (arith, put_fits, put_there, (limits_of s S.limits).jobs)

    -- the ranks with the job in its cell
    abbrev later : ℕ → ℕ
    later p = rank (v.job CLASS (update cells v.put j p)) p

    pub entering : Enters later levels slot v.put m
        (sift_up (rank_of v) (waits v) slot levels (later v.put) m)
    entering = enters (rank_of v) later (waits v) slot levels v.put m
        levels_hold
        R.index.heap
        slot_waits
        (λ k h. ap (λ x. rank (v.job CLASS x) (slot k))
        (update_other cells v.put j (slot k) (omega (arith, below k h))))

    -- its seat: the next cell, and a slot
    abbrev pub seat_of : Seat
    seat_of = seat v.put m entering.at

    seat_for_lem : seat_for s v j ≡ Seated seat_of
    unfolding seat_for
    seat_for_lem =
        let rests : sift_up (rank_of v) (waits v) slot levels (rank (v.job CLASS j) v.put) m ≡ Rests entering.at =
        ap (λ x. sift_up (rank_of v) (waits v) slot levels (rank (v.job CLASS x) v.put) m)
        (sym (update_same cells v.put j))
        ∙ entering.rests in
        rw (
          fill,
          le-leb v.taken v.put (omega (arith, R.put)),
          lt-ltb v.put s.jobs put_fits,
          le-leb (v.job CLASS j) most_class (omega (arith, (R.rows j j_fits).class, O.classes j)),
          rests,
        )

    pub with_seat_lem : (plan : Seat → Plan) → with_seat s v j plan ≡ plan seat_of
    unfolding with_seat
    with_seat_lem plan = rw seat_for_lem

    pub queue_put : jobs_in (update cells v.put j) 0 (v.put + 1) ≡ g.queue ++ (j ∷ [])
    queue_put =
        rw (add-one v.put)
        (jobs_put cells j 0 v.put v.put some_job (omega arith) ∙ ap (λ l. l ++ (j ∷ [])) R.queue)

    more : (p : ℕ) → hit p v.put + count m slot p
        ≡ pick (ltb p (v.put + 1) && is_place (update cells v.put j p)) 1 0
    more p = elim (ℕ_discrete p v.put) [
      | yes e ↦
          rw (
            R.index.in_one_slot p,
            e,
            hit_same v.put,
            le-ltb v.put v.put (omega arith),
            lt-ltb v.put (v.put + 1) (omega arith),
            update_same cells v.put j,
            is_place_lem j some_job,
          )
      | no e ↦
          rw (R.index.in_one_slot p, hit_other p v.put e, update_other cells v.put j p e, same p e)
          (omega arith)
    ]
      where
        same : (p : ℕ) → p ≢ v.put → ltb p v.put ≡ ltb p (v.put + 1)
        same p e = elim (dec_lt p v.put) [
          | yes h ↦ lt-ltb p v.put h ∙ sym (lt-ltb p (v.put + 1) (omega arith))
          | no h ↦ le-ltb p v.put (omega arith) ∙ sym (le-ltb p (v.put + 1) (omega arith))
        ]

    pub index_put : (u : View) → u.put ≡ v.put + 1 → u.job CLASS ≡ v.job CLASS
        → u.cell QUEUED ≡ update cells v.put j → u.cell SLOT ≡ shift_down levels slot v.put m seat_of.slot
        → u.cell POSITION ≡ positions_down levels slot position v.put m seat_of.slot
        → Index u (suc m)
    index_put u a b c d f = record {
      in_one_slot = λ p. rw (a, c, d) (entering.holds p ∙ more p);
      positions = rw (d, f)
          (positions_enter (rank_of v) (waits v) slot position levels (later v.put) v.put m seat_of.slot
          levels_hold entering.rests R.index.positions (λ i h. omega (arith, below i h)));
      heap = heap_same later (rank_of u) (suc m) (shift_down levels slot v.put m seat_of.slot) (u.cell SLOT)
          (λ k h. ap (λ f. f k) d)
          (λ k h. rank_by u (v.job CLASS) (update cells v.put j) b c _)
          entering.heap;
    }

  -- ---- the first by the order leaves; n others wait
  module _ (n : ℕ) (full : length g.queue ≡ suc n) where
    abbrev first : ℕ
    first = slot 0

    -- its job
    abbrev next : ℕ
    next = cells (slot 0)

    first_below : first < v.put
    first_below = below 0 (omega arith)

    first_has : next ≢ words.none
    first_has = has 0 (omega arith)

    pub next_there : next < length g.jobs
    next_there = made first first_below first_has

    pub next_waits : 0 < occurrences next g.queue
    next_waits = waiting_job first first_below first_has

    -- the ranks with its cell emptied
    abbrev left : ℕ → ℕ
    left p = rank (v.job CLASS (update cells first words.none p)) p

    levels_left : n < 2 ^ levels
    levels_left = omega (arith, room, R.put)

    others : (k : ℕ) → 0 < k → k < suc n → slot k ≢ first
    others k h l e = omega (arith, apart v m R.index k 0 (omega arith) (omega arith) e)

    pub leaving : Leaves left levels slot n (sift_down (rank_of v) (waits v) slot levels n (rank_of v (slot n)) 0)
    leaving = leaves (rank_of v) left (waits v) slot levels n
        levels_left
        (rw full at R.index.heap)
        (λ k h l. slot_waits k (omega arith))
        (λ k h l. ap (λ x. rank (v.job CLASS x) (slot k))
        (update_other cells first words.none (slot k) (others k h (omega arith))))

    abbrev pub seat_left : Seat
    seat_left = seat first n leaving.at

    pub first_seat_lem : first_seat v ≡ Seated seat_left
    unfolding first_seat_by
    first_seat_lem =
        let last : last_slot v ≡ n = omega (arith, R.put) in
        rw (last, slot_waits 0 (omega arith), slot_waits n (omega arith), leaving.rests)

    pub slots_fit : (first < s.jobs) × (n < s.jobs)
    slots_fit = omega (arith, first_below, put_ends, R.put)

    -- ---- it is the next by the order: its rank is the lowest, and a lower rank is a longer job, or one as long and
    -- earlier
    lowest : (p : ℕ) → p < v.put → cells p ≢ words.none → rank_of v first ≤ rank_of v p
    lowest p h e =
        let at = indexed v m R.index p h e in
        rw at.there at (first_lowest (rank_of v) m slot R.index.heap at.at at.within)

    minutes_of_lem : (p : ℕ) → p < v.put → cells p ≢ words.none
        → minutes_of g (cells p) ≡ minutes_in g.minutes (v.job CLASS (cells p))
    minutes_of_lem p h e = ap (minutes_in g.minutes) (sym (class_of p h e))

    earlier : (p : ℕ) → p < first → cells p ≢ words.none → order g next (cells p) ≡ true
    earlier p h e =
        let b : p < v.put = omega (arith, first_below) in
        rw (minutes_of_lem p b e, minutes_of_lem first first_below first_has)
        (lt-ltb (minutes_in g.minutes (v.job CLASS (cells p))) (minutes_in g.minutes (v.job CLASS next))
        (rises g.minutes minutes_rise (v.job CLASS (cells p)) (v.job CLASS next)
        (omega (arith, lowest p b e, room, first_below, class_within p b e, class_within first first_below first_has))
        (class_within first first_below first_has)))

    behind : (p : ℕ) → first < p → p < 0 + v.put → cells p ≢ words.none → order g (cells p) next ≡ false
    behind p h b' e =
        let b : p < v.put = omega arith in
        rw (minutes_of_lem p b e, minutes_of_lem first first_below first_has)
        (le-ltb (minutes_in g.minutes (v.job CLASS next)) (minutes_in g.minutes (v.job CLASS (cells p)))
        (not_falling g.minutes minutes_rise (v.job CLASS (cells p)) (v.job CLASS next)
        (omega (arith, lowest p b e, room, class_within p b e, class_within first first_below first_has))
        (class_within first first_below first_has)))

    pub next_out_lem : next_out g ≡ some next
    next_out_lem =
        rw (← R.queue)
        (first_cell_lem (order g) cells first first_has earlier 0 v.put (omega arith) (omega (arith, first_below))
        behind)

    pub queue_take : jobs_in (update cells first words.none) 0 v.put ≡ without next g.queue
    queue_take =
        jobs_take cells first 0 v.put (omega arith) (omega (arith, first_below)) first_has
        (λ k a b. one_cell cells v.put k first b first_below first_has
        (rw R.queue (O.queue_once next)))
        ∙ ap (without next) R.queue

    pub length-take : length (without next g.queue) ≡ n
    length-take = omega (arith, (without_occurs next g.queue next_waits).longer)

    abbrev slots : ℕ → ℕ
    slots = shift_up levels slot (slot n) leaving.at

    -- it is in no slot any more
    gone : count n slots first ≡ 0
    gone =
        omega (
          arith,
          leaving.holds first,
          hit_same first,
          rw full at (R.index.in_one_slot first),
          at_most_one (ltb first v.put && is_place next),
        )

    gone_from : (k : ℕ) → k < n → slots k ≢ first
    gone_from k h e = omega (arith, gone, rw e at (held n slots k h))

    fewer : (p : ℕ) → count n (update slots n words.none) p
        ≡ pick (ltb p v.put && is_place (update cells first words.none p)) 1 0
    fewer p =
        sum_same n (λ k. hit p (slots k)) (λ k. hit p (update slots n words.none k))
        (λ k h. ap (hit p) (update_other slots n words.none k (omega arith)))
        ∙ elim (ℕ_discrete p first) [
          | yes e ↦ rw (e, update_same cells first words.none, and-false (ltb first v.put)) gone
          | no e ↦
              rw (update_other cells first words.none p e)
              (omega (arith, leaving.holds p, rw full at (R.index.in_one_slot p), hit_other p first e))
        ]

    pub index_take : (u : View) → u.put ≡ v.put → u.job CLASS ≡ v.job CLASS
        → u.cell QUEUED ≡ update cells first words.none → u.cell SLOT ≡ update slots n words.none
        → u.cell POSITION ≡ update (positions_up levels slot position (slot n) leaving.at) first words.none
        → Index u n
    index_take u a b c d f = record {
      in_one_slot = λ p. rw (a, c, d) (fewer p);
      positions = λ k h.
          rw (
            d,
            f,
            update_other slots n words.none k (omega arith),
            update_other (positions_up levels slot position (slot n) leaving.at) first words.none (slots k)
                (gone_from k h),
          )
          (positions_leave (rank_of v) (waits v) slot position levels (rank_of v (slot n)) n leaving.at levels_left
          leaving.rests (rw full at R.index.positions) k h);
      heap = heap_same left (rank_of u) n slots (u.cell SLOT)
          (λ k h. ap (λ f. f k) d ∙ update_other slots n words.none k (omega arith))
          (λ k h. rank_by u (v.job CLASS) (update cells first words.none) b c _)
          leaving.heap;
    }
