-- What is told agrees with what the calls answer, for ALL tables, damaged ones too: with a call of 0 a step is refused
-- by 4, with another a get by 3; the name told is the one whose finish is taken, which must be failed where spoiled is
-- told; and drained is what a get of every worker says. Follows docs/RULES.md, "Steps" and "Turned-away calls".
use Rattle.std.proofs.Math.Path.{◌≡◌, refl, sym}
use Rattle.std.proofs.Common.{ap, ◌∙◌, arith}
use Rattle.std.specs.Prelude.{◌↔◌, ◌≢◌, Bool, true, false, ◌&&◌, ◌||◌, ℕ, ◌≤◌, ◌<◌, ltb, eqb}
use Rattle.std.proofs.Math.Bool.{not, and-false}
use Rattle.std.proofs.Math.Dec.{leb}
use borrow.Author.Tests.{eq-eqb, ne_eqb, lt-ltb, eqb-true}
use Rattle.def_numbers.specs.Numbers.{wrong_size, no_such_worker, half_done, worker_idle, damaged, already_holding, not_held}
use Rattle.def_numbers.specs.Numbers.{good_for_spoiled}
use Rattle.def_basics.specs.Base.{pick}
use Rattle.def_basics.specs.Laws.{never}
use Rattle.def_terms.specs.Terms.{Finish}
use Rattle.def_terms.specs.declared.Sizes.{Sizes}
use Rattle.def_terms.specs.declared.HandOut.{HandOut}
use Rattle.def_terms.specs.declared.Answer.{Answer}
use Rattle.def_terms.specs.declared.Answer.TheVariants.{Laid, Loaded, Posted, Going, Ended, NoneReady, Handed, Refused}
use Rattle.def_words.specs.Layout.{none, NAME, LABEL, SPOILED, PHASE, HELD, IDLE, LOOKING, LINKING, Tables, View, view}
use Rattle.def_words.specs.Layout.{sizes_fit}
use Rattle.def_words.specs.Index.{seat_for, first_seat}
use Rattle.def_words.specs.Words.{is_place, counters_ok, spoiled_ok, own_ok, plan_look_up, plan_enter, plan_append, plan_tally}
use Rattle.def_words.specs.Words.{plan_link, in_seat, with_seat}
use Rattle.def_words.specs.Words.{plan_settle, plan_mark, plan_notify, plan_add, plan_links, plan_call, plan_phase, admitted}
use Rattle.def_words.specs.Words.{going_unless, answer_of, step_words, next_job, take_from, plan_take, plan_queue}
use Rattle.def_words.specs.Words.{plan_get, answer_get, get_words}
use Rattle.def_words.specs.Words.{posted, finish_words}
use Rattle.def_words.specs.declared.Found.{Found}
use Rattle.def_words.specs.declared.Found.TheVariants.{At, Missing, Damaged}
use Rattle.def_words.specs.declared.Plan.{Plan}
use Rattle.def_words.specs.declared.Seat.{Seat}
use Rattle.def_words.specs.declared.Seating.{Seating}
use Rattle.def_words.specs.declared.Seating.TheVariants.{Seated, Unseated}
use Rattle.thm_words_tests.specs.Tests.{test}
use Rattle.thm_representation_kept.specs.Stand.{both}
use Rattle.def_worker_state.specs.Held.{call_of, holding_of, counted, held_words}
use Rattle.def_worker_state.specs.Drained.{every, queue_ok, words_ok, free, is_drained, drained_words}
use Rattle.def_worker_state.specs.declared.Holding.{Holding}
use Rattle.thm_state_history.specs.Theorem.{none_called, every_true, every_at}

-- ---- an answer is a refusal by n
abbrev by : ℕ → Answer → Bool
by n (Refused m p) = eqb m n
by n Laid = false
by n Loaded = false
by n Posted = false
by n Going = false
by n Ended = false
by n NoneReady = false
by n (Handed h) = false

-- an answer read off a plan is none: a type of its own, so that the plan is found
data Not {A : Type 0} (n : ℕ) (answer : A → Answer) (x : A) : Type 0 where
  not_by : by n (answer x) ≡ false → Not n answer x

either : {A : Type 0} {n : ℕ} {answer : A → Answer} (b : Bool) {x y : A} → Not n answer x → Not n answer y
    → Not n answer (pick b x y)
either true e f = e
either false e f = f

refuted : {A B : Type 0} {n p : ℕ} {answer : A → Answer} {x : A} → Not n answer x → answer x ≡ Refused n p → B
refuted {n = n} (not_by e) f =
    let same : true ≡ false = sym (eq-eqb n n refl) ∙ sym (ap (by n) f) ∙ e in never (cc)

-- ---- no step of a call half done is refused by 4
abbrev Not4 : Plan → Type 0
Not4 = Not worker_idle answer_of

on : (b : Bool) → by worker_idle (going_unless b) ≡ false
on true = refl
on false = refl

-- for `search`
ruleset answers = (either, not_by, on, refl)

module _ (s : Sizes) (v : View) where
  look_up_lem : (i : ℕ) (f : Found) → Not4 (plan_look_up i f)
  unfolding plan_look_up
  look_up_lem i (At j) = not_by refl
  look_up_lem i Missing = not_by refl
  look_up_lem i Damaged = not_by refl

  enter : (name d : ℕ) (f : Found) → Not4 (plan_enter s v name d f)
  unfolding plan_enter
  enter name d (At j) = not_by refl
  enter name d Missing = search answers depth 9
  enter name d Damaged = not_by refl

  link : (x j : ℕ) (f : Found) → Not4 (plan_link s v x j f)
  unfolding plan_link plan_tally plan_append
  link x j (At p) = search answers depth 9
  link x j Missing = not_by refl
  link x j Damaged = not_by refl

  seats : (j : ℕ) (plan : Seat → Plan) → ((e : Seat) → Not4 (plan e)) → Not4 (with_seat s v j plan)
  unfolding with_seat
  seats j plan all = of (seat_for s v j)
    where
      of : (x : Seating) → Not4 (in_seat x plan)
      of (Seated e) = all e
      of Unseated = not_by refl

  settle : (j t d : ℕ) → Not4 (plan_settle s v j t d)
  unfolding plan_settle
  settle j t d = search (answers, seats) depth 9

  mark : (p : ℕ) → Not4 (plan_mark s v p)
  unfolding plan_mark
  mark p = search answers depth 9

  notify : (x : ℕ) → Not4 (plan_notify s v x)
  unfolding plan_notify
  notify x = search (answers, seats) depth 9

  stepped : (w : ℕ) → Not4 (plan_call s v w)
  unfolding plan_call plan_add plan_links
  stepped w = search (answers, look_up_lem, enter, link, settle, mark, notify) depth 9

  -- ---- and no get of an idle worker by 3
  took : Not half_done answer_get (plan_take v)
  unfolding plan_take
  took = of (first_seat v)
    where
      of : (x : Seating) → Not half_done answer_get (take_from v x)
      of (Seated e) = search answers depth 9
      of Unseated = not_by refl

  got : Not half_done answer_get (plan_queue s v)
  unfolding plan_queue
  got = search (answers, took) depth 9

-- ---- a worker that is told something
module _ (s : Sizes) (t : Tables) (w : ℕ) where
  abbrev v : View
  v = view t

  -- the worker is idle, by its phase
  abbrev at_rest : Bool
  at_rest = eqb (v.worker PHASE w) IDLE

  record Served : Type 0 where
    fits : sizes_fit s t ≡ true
    known : ltb w s.workers ≡ true
    own : own_ok s v w ≡ true
    counters : counters_ok s v ≡ true
    spoiled_ok_lem : is_place (v.worker HELD w) ≡ true → spoiled_ok v (v.worker HELD w) ≡ true

  served : (held_words s t w).number ≡ 0 → Served
  unfolding held_words admitted counted holding_of
  served e = test (sizes_fit s t)
      (λ a. test (ltb w s.workers)
      (λ b. test (own_ok s v w)
      (λ c. test (counters_ok s v) (λ d. record {
        fits = a;
        known = b;
        own = c;
        counters = d;
        spoiled_ok_lem = λ p. test (spoiled_ok v (v.worker HELD w)) (λ m. m)
            (λ m. let z : ◌≡◌ {A = ℕ} damaged 0 = rw (a, b, c, d, p, m) at e in absurd (omega arith));
      })
      (λ d. let z : ◌≡◌ {A = ℕ} damaged 0 = rw (a, b, c, d) at e in absurd (omega arith)))
      (λ c. let z : ◌≡◌ {A = ℕ} damaged 0 = rw (a, b, c) at e in absurd (omega arith)))
      (λ b. let z : ◌≡◌ {A = ℕ} no_such_worker 0 = rw (a, b) at e in absurd (omega arith)))
      (λ a. let z : ◌≡◌ {A = ℕ} wrong_size 0 = rw a at e in absurd (omega arith))

  told : Served → held_words s t w ≡ holding_of v w
  unfolding held_words admitted counted
  told S = rw (S.fits, S.known, S.own, S.counters)

  called : Served → (holding_of v w).call ≡ call_of (v.worker PHASE w)
  unfolding holding_of
  called S = test (is_place (v.worker HELD w)) (λ e. rw (e, S.spoiled_ok_lem e)) (λ e. rw e)

  call_told : Served → (held_words s t w).call ≡ call_of (v.worker PHASE w)
  call_told S = ap (λ (h : Holding). h.call) (told S) ∙ called S

  idle : Served → (held_words s t w).call ≡ 0 → at_rest ≡ true
  idle S e = none_called at_rest (eqb (v.worker PHASE w) LOOKING || eqb (v.worker PHASE w) LINKING)
      (sym (call_told S) ∙ e)

  rests : Served → at_rest ≡ true → (held_words s t w).call ≡ 0
  rests S e = call_told S ∙ rw e

  -- ---- a step
  step_is : Served → (step_words s t w).answer ≡ pick at_rest (Refused worker_idle 0) (answer_of (plan_call s v w))
  unfolding step_words admitted plan_phase
  step_is S = rw (S.fits, S.known, S.own, S.counters) (test at_rest (λ e. rw e) (λ e. rw e))

  pub step_by_4 : (held_words s t w).number ≡ 0
      → ((held_words s t w).call ≡ 0) ↔ ((step_words s t w).answer ≡ Refused worker_idle 0)
  step_by_4 e =
      let S = served e in (
        (λ c. rw (step_is S, idle S c)),
        (λ a. test at_rest (rests S) (λ i. refuted (stepped s v w) (rw (step_is S, i) at a))),
      )

  -- ---- a get
  get_is : Served → (get_words s t w).answer
      ≡ pick at_rest (pick (eqb (v.worker HELD w) none) (answer_get (plan_queue s v)) (Refused already_holding 0))
      (Refused half_done 0)
  unfolding get_words admitted plan_get
  get_is S =
      rw (S.fits, S.known, S.own)
      (test at_rest (λ e. rw e (test (eqb (v.worker HELD w) none) (λ h. rw h) (λ h. rw h))) (λ e. rw e))

  no_holder : {A : Type 0} → Refused already_holding 0 ≡ Refused half_done 0 → A
  no_holder e = let same : true ≡ false = sym (ap (by half_done) e) in never (cc)

  pub get_by_3 : (held_words s t w).number ≡ 0
      → ((held_words s t w).call ≢ 0) ↔ ((get_words s t w).answer ≡ Refused half_done 0)
  get_by_3 e =
      let S = served e in (
        (λ c. test at_rest (λ i. absurd (c (rests S i))) (λ i. rw (get_is S, i))),
        (λ a c. let i = idle S c in
            test (eqb (v.worker HELD w) none) (λ h. refuted (got s v) (rw (get_is S, i, h) at a))
            (λ h. no_holder (rw (get_is S, i, h) at a))),
      )

  -- ---- a finish
  no_post : {A : Type 0} (n : ℕ) → Refused n 0 ≡ Posted → A
  no_post n e = let z : ◌≡◌ {A = ℕ} 0 1 = cc in never z

  -- the name is that of the held job, which is not spoiled or ends failed
  abbrev Holds : Finish → Type 0
  Holds f = ((held_words s t w).number ≡ 0) × ((held_words s t w).call ≡ 0)
      × ((held_words s t w).holds ≡ 1)
      × ((held_words s t w).name ≡ f.name)
      × ((held_words s t w).spoiled ≡ 1 → f.failed ≡ true)

  abbrev name_held : ℕ
  name_held = v.job NAME (v.worker HELD w)

  abbrev spoiled_held : ℕ
  spoiled_held = v.job SPOILED (v.worker HELD w)

  place_told : Served → (held_words s t w).holds ≡ 1 → is_place (v.worker HELD w) ≡ true
  unfolding holding_of
  place_told S e = test (is_place (v.worker HELD w)) (λ p. p)
      (λ p. let z : ◌≡◌ {A = ℕ} 0 1 = rw p at (sym (ap (λ (h : Holding). h.holds) (told S)) ∙ e) in never z)

  job_told : Served → is_place (v.worker HELD w) ≡ true
      → ((held_words s t w).holds ≡ 1) × ((held_words s t w).name ≡ name_held) × ((held_words s t w).spoiled ≡ spoiled_held)
  unfolding holding_of
  job_told S p = rw (told S, p, S.spoiled_ok_lem p) (refl, refl, refl)

  -- the test of number 19
  not_good : (failed : Bool) → (spoiled_held ≡ 1 → failed ≡ true) → (eqb spoiled_held 1 && not failed) ≡ false
  not_good true may = and-false (eqb spoiled_held 1)
  not_good false may = rw (ne_eqb spoiled_held 1 (λ e. never (cc (may e))))

  good_not : (failed : Bool) → (eqb spoiled_held 1 && not failed) ≡ false → spoiled_held ≡ 1 → failed ≡ true
  good_not true e m = refl
  good_not false e m = never (cc (rw (eq-eqb spoiled_held 1 m) at e))

  posts : (f : Finish) → Holds f → (finish_words s t w f).answer ≡ Posted
  unfolding finish_words admitted posted
  posts f h =
      let S = served h.0 in
      let p = place_told S h.2 in
      let j = job_told S p in
      let same : name_held ≡ f.name = sym j.1 ∙ h.3 in
      rw (
        S.fits,
        S.known,
        S.own,
        idle S h.1,
        p,
        eq-eqb name_held f.name same,
        S.counters,
        S.spoiled_ok_lem p,
        not_good f.failed (λ e. h.4 (j.2 ∙ e)),
      )

  holder : Served → at_rest ≡ true → is_place (v.worker HELD w) ≡ true → (f : Finish) → eqb name_held f.name ≡ true
      → (eqb spoiled_held 1 && not f.failed) ≡ false
      → Holds f
  unfolding holding_of
  holder S i p f n g =
      let j = job_told S p in (
        rw (told S, p, S.spoiled_ok_lem p) refl,
        rests S i,
        j.0,
        j.1 ∙ eqb-true name_held f.name n,
        (λ e. good_not f.failed g (sym j.2 ∙ e)),
      )

  posted_holds : (f : Finish) → (finish_words s t w f).answer ≡ Posted → Holds f
  unfolding finish_words admitted posted
  posted_holds f e = test (sizes_fit s t)
      (λ a. test (ltb w s.workers)
      (λ b. test (own_ok s v w)
      (λ c. test at_rest
      (λ i. test (is_place (v.worker HELD w))
      (λ p. test (eqb name_held f.name)
      (λ n. test (counters_ok s v)
      (λ d. test (spoiled_ok v (v.worker HELD w))
      (λ m. test (eqb spoiled_held 1 && not f.failed)
      (λ g. no_post good_for_spoiled (rw (a, b, c, i, p, n, d, m, g) at e))
      (λ g. holder (record { fits = a; known = b; own = c; counters = d; spoiled_ok_lem = λ q. m }) i p f n g))
      (λ m. no_post damaged (rw (a, b, c, i, p, n, d, m) at e)))
      (λ d. no_post damaged (rw (a, b, c, i, p, n, d) at e)))
      (λ n. no_post not_held (rw (a, b, c, i, p, n) at e)))
      (λ p. no_post not_held (rw (a, b, c, i, p) at e)))
      (λ i. no_post half_done (rw (a, b, c, i) at e)))
      (λ c. no_post damaged (rw (a, b, c) at e)))
      (λ b. no_post no_such_worker (rw (a, b) at e)))
      (λ a. no_post wrong_size (rw a at e))

  pub finish_taken_lem : (f : Finish) → Holds f ↔ ((finish_words s t w f).answer ≡ Posted)
  finish_taken_lem f = (posts f, posted_holds f)

  -- ---- a get that finds nothing
  no_none : {A : Type 0} (n : ℕ) → Refused n 0 ≡ NoneReady → A
  no_none n e = let z : ◌≡◌ {A = ℕ} 0 1 = cc in never z

  no_job_lem : {A : Type 0} (h : HandOut) → Handed h ≡ NoneReady → A
  no_job_lem h e = let z : ◌≡◌ {A = ℕ} 0 1 = cc in never z

  record Bare : Type 0 where
    fits : sizes_fit s t ≡ true
    known : ltb w s.workers ≡ true
    own : own_ok s v w ≡ true
    rest : at_rest ≡ true
    jobless : eqb (v.worker HELD w) none ≡ true
    queue : counters_ok s v && leb v.taken v.put && leb v.put s.jobs ≡ true
    empty : eqb v.taken v.put ≡ true

  not_taken : {A : Type 0} → answer_get (plan_take v) ≡ NoneReady → A
  unfolding plan_take
  not_taken = of (first_seat v)
    where
      of : {A : Type 0} (x : Seating) → answer_get (take_from v x) ≡ NoneReady → A
      of (Seated e) z = test (eqb (v.job LABEL (next_job v)) 0 && spoiled_ok v (next_job v)) (λ h. no_job_lem _ (rw h at z))
          (λ h. no_none damaged (rw h at z))
      of Unseated z = no_none damaged z

  finds_none : (get_words s t w).answer ≡ NoneReady → Bare
  unfolding get_words admitted plan_get plan_queue
  finds_none e = test (sizes_fit s t)
      (λ a. test (ltb w s.workers)
      (λ b. test (own_ok s v w)
      (λ c. test at_rest
      (λ i. test (eqb (v.worker HELD w) none)
      (λ p. test (counters_ok s v && leb v.taken v.put && leb v.put s.jobs)
      (λ q. test (eqb v.taken v.put)
      (λ x. record { fits = a; known = b; own = c; rest = i; jobless = p; queue = q; empty = x })
      (λ x. not_taken (rw (a, b, c, i, p, q, x) at e)))
      (λ q. no_none damaged (rw (a, b, c, i, p, q) at e)))
      (λ p. no_none already_holding (rw (a, b, c, i, p) at e)))
      (λ i. no_none half_done (rw (a, b, c, i) at e)))
      (λ c. no_none damaged (rw (a, b, c) at e)))
      (λ b. no_none no_such_worker (rw (a, b) at e)))
      (λ a. no_none wrong_size (rw a at e))

  bare_none : Bare → (get_words s t w).answer ≡ NoneReady
  unfolding get_words admitted plan_get plan_queue
  bare_none B = rw (B.fits, B.known, B.own, B.rest, B.jobless, B.queue, B.empty)

-- ---- drained
module _ (s : Sizes) (t : Tables) where
  abbrev u : View
  u = view t

  record Done : Type 0 where
    fits : sizes_fit s t ≡ true
    words : words_ok s u ≡ true
    drained : is_drained s u ≡ true

  done : (drained_words s t).drained ≡ 1 → Done
  unfolding drained_words
  done e = test (sizes_fit s t)
      (λ a. test (words_ok s u)
      (λ b. test (is_drained s u) (λ c. record { fits = a; words = b; drained = c })
      (λ c. let z : ◌≡◌ {A = ℕ} 0 1 = rw (a, b, c) at e in never z))
      (λ b. let z : ◌≡◌ {A = ℕ} 0 1 = rw (a, b) at e in never z))
      (λ a. let z : ◌≡◌ {A = ℕ} 0 1 = rw a at e in never z)

  drained_bare : Done → (w : ℕ) → w < s.workers → Bare s t w
  drained_bare D w h =
      let sound = both (every (own_ok s u) s.workers) (counters_ok s u && queue_ok s u) D.words in
      let counts = both (counters_ok s u) (queue_ok s u) sound.1 in
      let order = both (leb u.taken u.put) (leb u.put s.jobs) counts.1 in
      let at_rest_lem = both (eqb u.taken u.put) (every (free u.worker) s.workers) D.drained in
      let own = both (eqb (u.worker PHASE w) IDLE) (eqb (u.worker HELD w) none)
      (every_at (free u.worker) s.workers at_rest_lem.1 w h) in
      record {
        fits = D.fits;
        known = lt-ltb w s.workers h;
        own = every_at (own_ok s u) s.workers sound.0 w h;
        rest = own.0;
        jobless = own.1;
        queue = rw (counts.0, order.0, order.1);
        empty = at_rest_lem.0;
      }

  bare_drained : 1 ≤ s.workers → ((w : ℕ) → w < s.workers → Bare s t w) → (drained_words s t).drained ≡ 1
  unfolding drained_words
  bare_drained some all =
      let B = all 0 (omega arith) in
      let q = both (counters_ok s u && leb u.taken u.put) (leb u.put s.jobs) B.queue in
      let c = both (counters_ok s u) (leb u.taken u.put) q.0 in
      rw (
        B.fits,
        every_true (own_ok s u) s.workers (λ w h. (all w h).own),
        c.0,
        c.1,
        q.1,
        B.empty,
        every_true (free u.worker) s.workers (λ w h. rw ((all w h).rest, (all w h).jobless)),
      )

  pub drained_by_gets : 1 ≤ s.workers
      → ((drained_words s t).drained ≡ 1) ↔ ((w : ℕ) → w < s.workers → (get_words s t w).answer ≡ NoneReady)
  drained_by_gets some = (
    (λ e w h. bare_none s t w (drained_bare (done e) w h)),
    (λ all. bare_drained some (λ w h. finds_none s t w (all w h))),
  )
