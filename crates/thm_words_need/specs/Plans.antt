-- What the calls plan is read within the sizes, and names only places within the sizes; and which numbers a plan can
-- refuse with. Follows docs/RULES.md, "Tables and their measures" and "Turned-away calls".
use Rattle.std.specs.Prelude.{◌≡◌, Bool, true, false, ◌&&◌, ◌||◌, not}
use Rattle.std.proofs.Math.Path.{refl}
use Rattle.std.proofs.Common.{ap, arith}
use Prim.Native.Nat.{ℕ, zero, suc, ◌+◌, ◌-◌, ◌^◌, ◌≤◌, ◌<◌}
use Rattle.std.proofs.Math.Dec.{ltb, leb, eqb}
use borrow.Author.Tests.{leb-true, leb-false, eqb-true, eqb-false, lt-ltb}
use Rattle.def_numbers.specs.Numbers.{most_names, wrong_size, no_such_worker, unknown_name, name_present, tables_full, damaged}
use Rattle.def_basics.specs.Base.{pick}
use Rattle.def_basics.specs.Laws.{and_right, or_left}
use Rattle.def_bucket.specs.Bucket.{bucket_of}
use Rattle.def_bucket.specs.Laws.{below}
use Rattle.def_terms.specs.Terms.{settles, Arguments, arguments_wrong, Finish}
use Rattle.def_terms.specs.declared.Sizes.{Sizes}
use Rattle.def_words.specs.Layout.{none, NAME, LABEL, COUNT, FIRST, LAST, NEXT, DEPENDENT, AFTER, PHASE, HELD, OWN_NAME}
use Rattle.def_words.specs.Layout.{LIST_COUNT, PLACE, OWN_JOB, OWN_ARC, IDLE, LOOKING, LINKING, MARKING, Tables, View}
use Rattle.def_words.specs.Layout.{view}
use Rattle.def_words.specs.Layout.{OUTCOME, SPOILED, sizes_fit}
use Rattle.def_words.specs.Words.{place_ok, is_place, counters_ok, own_ok, walk, find_of, plan_look_up, plan_enter, plan_append}
use Rattle.def_words.specs.Words.{plan_link, in_seat, with_seat, plan_settle, plan_mark, plan_notify, name_at, plan_add}
use Rattle.def_words.specs.Words.{plan_links}
use Rattle.def_words.specs.Words.{plan_call, plan_phase, admitted, next_job, take_from, plan_take, plan_queue, plan_get}
use Rattle.def_words.specs.Words.{judged_counters, judged_add}
use Rattle.def_words.specs.Words.{plan_tally, spoiled_ok, judged_finish}
use Rattle.def_words.specs.Index.{seat_for, first_seat}
use Rattle.def_words.specs.declared.Seat.{Seat}
use Rattle.def_words.specs.declared.Seating.{Seating}
use Rattle.def_words.specs.declared.Seating.TheVariants.{Seated, Unseated}
use Rattle.def_words.specs.declared.Found.{Found}
use Rattle.def_words.specs.declared.Found.TheVariants.{At, Missing, Damaged}
use Rattle.def_words.specs.declared.Plan.{Plan}
use Rattle.def_words.specs.declared.Plan.TheVariants.{Refuse, Quit, Pass, Enter, Tally, LinkFirst, LinkAfter, Settle}
use Rattle.def_words.specs.declared.Plan.TheVariants.{SettleQueue, Mark, Notify, NotifyQueue}
use Rattle.def_words.specs.declared.GetPlan.{GetPlan}
use Rattle.def_words.specs.declared.GetPlan.TheVariants.{RefuseGet, Wait, Take}
use Rattle.thm_words_tests.specs.Tests.{test, parts}
use Rattle.thm_words_need.specs.Parts.{clip, Alike, Reads, choose, within}
use Rattle.thm_words_need.specs.Seats.{Entering, Leaving, InSeating, seat_alike, InFirst, first_alike}

-- ---- what every plan keeps to
-- 6, 7 and 8 end an add that was accepted by its post
abbrev pub quits_by : ℕ → Bool
quits_by n = eqb n unknown_name || eqb n name_present || eqb n tables_full

-- the places that a plan stores at lie within the sizes; only `Quit` has a number that ends a call; m says that the
-- step is a mark
abbrev pub Inside : Sizes → View → Bool → Plan → Type 0
Inside s v m (Refuse n) = quits_by n ≡ false
Inside s v m (Quit n i) = (quits_by n ≡ true) × (m ≡ false)
Inside s v m Pass = Unit {0}
Inside s v m (Enter j k h x) = (ltb j s.jobs ≡ true) × (ltb k (2 ^ s.bits) ≡ true)
Inside s v m (Tally o) = Unit {0}
Inside s v m (LinkFirst p x j) = (ltb p s.jobs ≡ true) × (ltb x s.arcs ≡ true)
Inside s v m (LinkAfter p l x j) = (ltb p s.jobs ≡ true) × (ltb x s.arcs ≡ true) × (ltb l s.arcs ≡ true)
Inside s v m (Settle j c) = (ltb j s.jobs ≡ true) × (m ≡ false)
Inside s v m (SettleQueue j c e) = (ltb j s.jobs ≡ true) × Entering s v e × (m ≡ false)
Inside s v m (Mark p x) = (ltb p s.jobs ≡ true) × (m ≡ true)
Inside s v m (Notify j c x) = (ltb j s.jobs ≡ true) × (m ≡ false)
Inside s v m (NotifyQueue j c x e) = (ltb j s.jobs ≡ true) × Entering s v e × (m ≡ false)

abbrev pub InsideGet : Sizes → View → GetPlan → Type 0
InsideGet s v (RefuseGet n) = quits_by n ≡ false
InsideGet s v Wait = Unit {0}
InsideGet s v (Take h e) = (ltb h.job s.jobs ≡ true) × Leaving s v e

-- ---- places
-- a place that is none or in use is none, or lies within its size
pub place_cases : {A : Type 0} (j c n : ℕ) → place_ok j c n ≡ true
    → (eqb j none ≡ true → A) → (eqb j none ≡ false → ltb j n ≡ true → A) → A
place_cases j c n e f g = test (eqb j none) f (λ h. g h (and_right (ltb j c) (ltb j n) (rw h at e)))

-- ---- the plans of a step, with counters in their range
module _ (s : Sizes) (v : View) (made : leb v.made s.jobs ≡ true)
    (reserved : leb v.reserved s.arcs ≡ true) where
  -- the walk along a bucket stays within the jobs made
  abbrev InFound : Found → Type 0
  InFound (At p) = ltb p s.jobs ≡ true
  InFound Missing = Unit {0}
  InFound Damaged = Unit {0}

  walk_alike : (k name at : ℕ)
      → Alike InFound (walk k v.job v.made name at) (walk k (clip s v).job v.made name at)
  unfolding walk
  walk_alike zero name at = choose InFound (eqb at none) (λ _. (refl, tt)) (λ _. (refl, tt))
  walk_alike (suc k) name at =
      choose InFound (eqb at none) (λ _. (refl, tt))
      (λ _. choose InFound (ltb at v.made)
      (λ e. let h = within at v.made s.jobs made e in
      rw h (choose InFound (eqb (v.job NAME at) name) (λ _. (refl, h)) (λ _. walk_alike k name (v.job NEXT at))))
      (λ _. (refl, tt)))

  find_alike : (name : ℕ) → Alike InFound (find_of s v name) (find_of s (clip s v) name)
  unfolding find_of
  find_alike name =
      rw (lt-ltb (bucket_of name s.bits) (2 ^ s.bits) (below name s.bits)) (walk_alike v.made name _)

  module _ (m : Bool) where
    abbrev Planned : (View → Plan) → Type 0
    Planned = Reads s v (Inside s v m)

    damage : Planned (λ _. Refuse damaged)
    damage = (refl, refl)

    look_up_lem : m ≡ false → (i : ℕ) (f : Found) → Inside s v m (plan_look_up i f)
    unfolding plan_look_up
    look_up_lem z i (At j) = tt
    look_up_lem z i Missing = (refl, z)
    look_up_lem z i Damaged = refl

    enter : m ≡ false → (name d : ℕ) (f : Found) → Planned (λ u. plan_enter s u name d f)
    unfolding plan_enter
    enter z name d (At j) = (refl, (refl, z))
    enter z name d Missing =
        let h = lt-ltb (bucket_of name s.bits) (2 ^ s.bits) (below name s.bits) in
        rw h (choose (Inside s v m) (leb s.jobs v.made || ltb s.arcs (v.reserved + d))
        (λ _. (refl, (refl, z)))
        (λ e. let o = leb-false s.jobs v.made (or_left _ (ltb s.arcs (v.reserved + d)) e) in
        (refl, (lt-ltb v.made s.jobs o, h))))
    enter z name d Damaged = damage

    append : (p x j : ℕ) → ltb p s.jobs ≡ true → Planned (λ u. plan_append s u p x j)
    unfolding plan_append
    append p x j h =
        let last = v.job LAST p in
        rw h (choose (Inside s v m) (ltb j v.made && ltb x v.reserved && place_ok last v.reserved s.arcs)
        (λ e. let i = within x v.reserved s.arcs reserved (search parts) in
        place_cases last v.reserved s.arcs (search parts) (λ n. rw n (refl, (h, i)))
        (λ n k. rw n (refl, (h, i, k))))
        (λ _. damage))

    tally : (p : ℕ) → ltb p s.jobs ≡ true → Planned (λ u. plan_tally u p)
    unfolding plan_tally
    tally p h = rw h (choose (Inside s v m) (leb (v.job OUTCOME p) 1) (λ _. (refl, tt)) (λ _. damage))

    link : (x j : ℕ) (f : Found) → InFound f → Planned (λ u. plan_link s u x j f)
    unfolding plan_link
    link x j (At p) h =
        rw h (choose (Inside s v m) (leb (v.job LABEL p) 2)
        (λ _. choose (Inside s v m) (eqb (v.job LABEL p) 2) (λ _. tally p h) (λ _. append p x j h))
        (λ _. damage))
    link x j Missing h = damage
    link x j Damaged h = damage

    in_seat_lem : (plan : Seat → Plan) → ((e : Seat) → Entering s v e → Inside s v m (plan e)) → (r : Seating)
        → InSeating s v r → Inside s v m (in_seat r plan)
    in_seat_lem plan f (Seated e) i = f e i
    in_seat_lem plan f Unseated i = refl

    seat_planned : (j : ℕ) → ltb j s.jobs ≡ true → (plan : Seat → Plan)
        → ((e : Seat) → Entering s v e → Inside s v m (plan e))
        → Planned (λ u. with_seat s u j plan)
    unfolding with_seat
    seat_planned j h plan f =
        let same = seat_alike s v made j h in
        (ap (λ r. in_seat r plan) same.0, in_seat_lem plan f (seat_for s v j) same.1)

    settle : m ≡ false → (j t d : ℕ) → place_ok j v.made s.jobs ≡ true → Planned (λ u. plan_settle s u j t d)
    unfolding plan_settle
    settle z j t d o = place_cases j v.made s.jobs o (λ e. rw e damage)
        (λ _ h. rw h (choose (Inside s v m) (is_place j && leb (v.job COUNT j) most_names && leb t (v.job COUNT j))
        (λ _. choose (Inside s v m) (settles (v.job COUNT j - t) t d) (λ _. seat_planned j h _ (λ e i. (h, i, z)))
        (λ _. (refl, (h, z))))
        (λ _. damage)))

    mark : m ≡ true → (p : ℕ) → place_ok p v.made s.jobs ≡ true → Planned (λ u. plan_mark s u p)
    unfolding plan_mark
    mark z p o = place_cases p v.made s.jobs o (λ e. rw e damage)
        (λ _ h. rw h (choose (Inside s v m)
        (is_place p && eqb (v.job LABEL p) 1 && place_ok (v.job FIRST p) v.reserved s.arcs) (λ _. (refl, (h, z)))
        (λ _. damage)))

    notify : m ≡ false → (x : ℕ) → place_ok x v.reserved s.arcs ≡ true → Planned (λ u. plan_notify s u x)
    unfolding plan_notify
    notify z x o = place_cases x v.reserved s.arcs o (λ e. rw e damage)
        (λ i h. let j = v.arc DEPENDENT x in
        rw (i, h) (test (ltb j v.made)
        (λ e. let k = within j v.made s.jobs made e in
        rw (e, k) (choose (Inside s v m)
        (place_ok (v.arc AFTER x) v.reserved s.arcs && leb 1 (v.job COUNT j) && leb (v.job COUNT j) most_names)
        (λ _. choose (Inside s v m) (eqb (v.job COUNT j) 1) (λ _. seat_planned j k _ (λ e y. (k, y, z)))
        (λ _. (refl, (k, z))))
        (λ _. damage)))
        (λ e. rw e damage)))

    module _ (w : ℕ) (known : ltb w s.workers ≡ true) where
      adding : m ≡ false → Planned (λ u. plan_add s u w)
      unfolding plan_add
      adding z =
          let i = v.worker PLACE w in let d = v.worker LIST_COUNT w in let name = v.worker OWN_NAME w in
          rw (known, ← (find_alike (name_at v w)).0, ← (find_alike name).0)
          (choose (Inside s v m) (ltb i d) (λ _. (refl, look_up_lem z i _)) (λ _. enter z name d _))

      linking : m ≡ false → place_ok (v.worker OWN_JOB w) v.made s.jobs ≡ true → Planned (λ u. plan_links s u w)
      unfolding plan_links
      linking z o =
          let found = find_alike (name_at v w) in
          rw (known, ← found.0)
          (choose (Inside s v m) (ltb (v.worker PLACE w) (v.worker LIST_COUNT w)) (λ _. link _ _ _ found.1)
          (λ _. settle z _ _ _ o))

-- a worker's own words: its hold, the job and the arc of its call are none or in use
pub own_places : (s : Sizes) (v : View) (w : ℕ) → own_ok s v w ≡ true
    → (place_ok (v.worker HELD w) v.made s.jobs ≡ true)
    × (place_ok (v.worker OWN_JOB w) v.made s.jobs ≡ true)
    × (place_ok (v.worker OWN_ARC w) v.reserved s.arcs ≡ true)
unfolding own_ok
own_places s v w e = (search parts depth 10, search parts, search parts)

pub own_alike : (s : Sizes) (v : View) (w : ℕ) → ltb w s.workers ≡ true → own_ok s v w ≡ own_ok s (clip s v) w
unfolding own_ok
own_alike s v w e = rw e

-- the worker's next step is a mark
abbrev pub marking : View → ℕ → Bool
marking v w = eqb (v.worker PHASE w) MARKING

-- ---- the plans of every call of a worker whose own words are sound
module _ (s : Sizes) (v : View) (w : ℕ) (known : ltb w s.workers ≡ true) (own : own_ok s v w ≡ true) where
  abbrev pub phase : ℕ
  phase = v.worker PHASE w

  abbrev pub P : Plan → Type 0
  P = Inside s v (marking v w)

  step_alike : leb v.made s.jobs ≡ true → leb v.reserved s.arcs ≡ true → Reads s v P (λ u. plan_call s u w)
  unfolding plan_call
  step_alike a b =
      let o = own_places s v w own in let m = marking v w in
      rw known (choose P (eqb phase LOOKING) (λ e. adding s v a b m w known (rw (eqb-true phase LOOKING e)))
      (λ _. choose P (eqb phase LINKING) (λ e. linking s v a b m w known (rw (eqb-true phase LINKING e)) o.1)
      (λ _. choose P m (λ e. mark s v a b m e (v.worker HELD w) o.0)
      (λ e. notify s v a b m e (v.worker OWN_ARC w) o.2))))

  pub phase_alike : Reads s v P (λ u. plan_phase s u w)
  unfolding plan_phase
  phase_alike =
      rw known (choose P (eqb phase IDLE) (λ _. (refl, refl))
      (λ _. choose P (counters_ok s v) (λ e. step_alike (search parts) (search parts)) (λ _. (refl, refl))))

  -- a get
  take_alike : leb v.made s.jobs ≡ true → v.put ≤ s.jobs → v.taken < v.put
      → Reads s v (InsideGet s v) plan_take
  unfolding plan_take
  take_alike a b c =
      let same = first_alike s v a b c in
      rw (← same.0) (go (first_seat v) same.1)
    where
      go : (r : Seating) → InFirst s v a r → Alike (InsideGet s v) (take_from v r) (take_from (clip s v) r)
      go (Seated e) i =
          rw (lt-ltb 0 s.jobs (omega arith), i.1, i.2)
          (choose (InsideGet s v) (eqb (v.job LABEL (next_job v)) 0 && spoiled_ok v (next_job v))
          (λ _. (refl, (i.2, i.0))) (λ _. (refl, refl)))
      go Unseated i = (refl, refl)

  queue_alike : Reads s v (InsideGet s v) (λ u. plan_queue s u)
  unfolding plan_queue
  queue_alike =
      choose (InsideGet s v) (counters_ok s v && leb v.taken v.put && leb v.put s.jobs)
      (λ e. choose (InsideGet s v) (eqb v.taken v.put) (λ _. (refl, tt))
      (λ n. let a = leb-true v.taken v.put (search parts) in let b = leb-true v.put s.jobs (search parts) in
      take_alike (search parts) b (omega (arith, eqb-false v.taken v.put n))))
      (λ _. (refl, refl))

  pub get_alike : Reads s v (InsideGet s v) (λ u. plan_get s u w)
  unfolding plan_get
  get_alike =
      rw known (choose (InsideGet s v) (eqb phase IDLE)
      (λ _. choose (InsideGet s v) (eqb (v.worker HELD w) none) (λ _. queue_alike) (λ _. (refl, refl)))
      (λ _. (refl, refl)))

  -- posts
  abbrev pub Post : ℕ → Type 0
  Post n = quits_by n ≡ false

  counters_alike : Reads s v Post (λ u. judged_counters s u)
  counters_alike = choose Post (counters_ok s v) (λ _. (refl, refl)) (λ _. (refl, refl))

  pub add_alike : (a : Arguments) → Reads s v Post (λ u. judged_add s u w a)
  add_alike a =
      rw known (choose Post (eqb phase IDLE)
      (λ _. choose Post (arguments_wrong a) (λ _. (refl, refl)) (λ _. counters_alike))
      (λ _. (refl, refl)))

  pub finish_alike : (f : Finish) → Reads s v Post (λ u. judged_finish s u w f)
  finish_alike f =
      let p = v.worker HELD w in
      rw known (choose Post (eqb phase IDLE)
      (λ _. place_cases p v.made s.jobs (own_places s v w own).0 (λ e. rw e (refl, refl))
      (λ e h. rw (e, h) (choose Post (eqb (v.job NAME p) f.name)
      (λ _. choose Post (counters_ok s v && spoiled_ok v p)
      (λ _. choose Post (eqb (v.job SPOILED p) 1 && not f.failed) (λ _. (refl, refl)) (λ _. (refl, refl)))
      (λ _. (refl, refl)))
      (λ _. (refl, refl)))))
      (λ _. (refl, refl)))

-- ---- what is admitted, or refused before: by 1, 2 or 9
pub admit : {A : Type 0} (P : A → Type 0) (s : Sizes) (t : Tables) (w : ℕ) (refuse : ℕ → A) (x : A)
    → ((n : ℕ) → quits_by (suc n) ≡ false → P (refuse (suc n)))
    → (sizes_fit s t ≡ true → ltb w s.workers ≡ true → own_ok s (view t) w ≡ true → P x)
    → P (admitted s t w refuse x)
unfolding admitted
admit P s t w refuse x f g = go (sizes_fit s t) refl (ltb w s.workers) refl (own_ok s (view t) w) refl
  where
    go : (a : Bool) → sizes_fit s t ≡ a → (b : Bool) → ltb w s.workers ≡ b → (c : Bool) → own_ok s (view t) w ≡ c
        → P (pick a (pick b (pick c x (refuse damaged)) (refuse no_such_worker)) (refuse wrong_size))
    go true d true e true h = g d e h
    go true d true e false h = f _ refl
    go true d false e c h = f _ refl
    go false d b e c h = f _ refl
