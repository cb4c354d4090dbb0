-- After any items from tables that were laid out, asked with any sizes and of any worker: a worker is told what items
-- and answers say of its hold and its call, and the graph is told drained exactly where nothing waits, no call is half
-- done and no worker holds a job.
use Rattle.std.specs.Prelude.{◌≡◌, ◌↔◌, Bool, true, false, ◌||◌, not, List, [], ◌∷◌, ℕ, zero, suc, ◌+◌, ◌<◌, ltb, eqb, length}
use Rattle.std.proofs.Math.Path.{refl, sym, ap}
use Rattle.std.proofs.Common.{◌∙◌, arith}
use Rattle.std.proofs.Math.Option.{Option, none, some}
use Rattle.std.proofs.Math.Decide.{dec_lt}
use Rattle.std.proofs.Math.Dec.{leb}
use borrow.Author.Tests.{eq-eqb, le-leb, ltb-true, eqb-true}
use Rattle.def_numbers.specs.Numbers.{damaged}
use Rattle.def_basics.specs.Base.{pick}
use Rattle.def_basics.specs.Laws.{never}
use Rattle.def_terms.specs.Terms.{same_sizes, bit}
use Rattle.def_terms.specs.Runs.{Item, after, events}
use Rattle.def_terms.specs.Seen.{JobSeen, Same}
use Rattle.def_terms.specs.declared.Sizes.{Sizes}
use Rattle.def_terms.specs.declared.HandOut.{HandOut}
use Rattle.def_terms.specs.declared.Answer.TheVariants.{Laid}
use Rattle.def_words.specs.Layout.{Tables, view, PHASE, HELD, IDLE, LOOKING, LINKING}
use Rattle.def_words.specs.Layout as words
use Rattle.def_words.specs.Words.{counters_ok, spoiled_ok, own_ok, admitted, perform, lay_out}
use Rattle.def_words.specs.Observed.{seen}
use Rattle.def_rules.specs.Rules.{Call, idle, looking, linking, marking, notifying, Graph, empty, job}
use Rattle.def_rules.specs.Rules as rules
use Rattle.def_rules.specs.Observed as rules_seen
use Rattle.def_rules.specs.Sound.{started, started_by}
use Rattle.def_book.specs.Book.{blank}
use Rattle.def_call_order.specs.Calls.{Pending, adding, finishing, Reading, reading, Quiet, accepted_adds}
use Rattle.def_call_order.specs.Calls as reading
use Rattle.def_demand.specs.Demand.{add_of, PrerequisiteFailed, queue_entries_of, JobFinished}
use Rattle.thm_rules_history.specs.History.{History, start, PacedCall}
use Rattle.thm_rules_history.specs.Onward.{queue_entries_by, onward}
use Rattle.thm_rules_invariant.specs.Sound.{soundly}
use Rattle.thm_rules_follow_book.specs.Paced.{paced}
use Rattle.thm_rules_follow_book.specs.Steps.{pending_there}
use Rattle.thm_words_tests.specs.Tests.{test}
use Rattle.thm_representation.specs.Rep.{Ghost, CallRep}
use Rattle.thm_representation_kept.specs.Stand.{both}
use Rattle.thm_representation_kept.specs.Queue.{waiting_queue, put_there, queue_end}
use Rattle.thm_words_refine_rules.specs.Own.{and-true, bit_ok, same_sizes_lem, sizes_fit_lem, sizes_decide, counters_ok_lem, own_ok_lem}
use Rattle.thm_rules_audit.specs.Spoiled.{entered_is}
use Rattle.thm_words_history.specs.Theorem.{Reached, after_items, same_events, same_queue_entries, demand}
use Rattle.thm_words_history.specs.Lifted as lifted
use Rattle.def_worker_state.specs.Held.{call_of, adds_at, holding_of, counted, held_words, holding_job, holding_none, refused}
use Rattle.def_worker_state.specs.Drained.{every, queue_ok, words_ok, free, is_drained, drained_words}
use Rattle.def_worker_state.specs.declared.Holding.{Holding}
use Rattle.def_call_order.specs.Holds.{handed_read, job_of, held_read}
use Rattle.thm_state_history.specs.Told.{call_read, adds_read, holding_read}
use Rattle.thm_state_history.specs.Told.{turned_away}
use Rattle.thm_state_history.specs.Told as Told
use Rattle.thm_state_history.specs.Hold.{held_follows}
use Rattle.thm_state_history.specs.HandOuts.{handed_out_lem}

-- ---- a test of every number below n
pub every_true : (f : ℕ → Bool) (n : ℕ) → ((i : ℕ) → i < n → f i ≡ true) → every f n ≡ true
unfolding every
every_true f zero h = refl
every_true f (suc n) h = and-true (every f n) (f n) (every_true f n (λ i l. h i (omega arith))) (h n (omega arith))

pub every_at : (f : ℕ → Bool) (n : ℕ) → every f n ≡ true → (i : ℕ) → i < n → f i ≡ true
unfolding every
every_at f zero e i h = absurd (omega arith)
every_at f (suc n) e i h = elim (dec_lt i n) [
  | yes l ↦ every_at f n (both (every f n) (f n) e).0 i l
  | no l ↦ let same : n ≡ i = omega arith in rw same at (both (every f n) (f n) e).1
]

some_held : (p j : ℕ) (b : Bool) → pick {A = Option ℕ} b none (some p) ≡ some j → p ≡ j
some_held p j true e = never (cc)
some_held p j false e = cc

-- ---- a hold, as it is told: b says that the place p is none
held_told : (p name spoiled c a : ℕ) (q : Pending) (b ok : Bool) (o : Option HandOut) → c ≡ call_read q → a ≡ adds_read q
    → pick {A = Option ℕ} b none (some p) ≡ job_of o
    → ((h : HandOut) → o ≡ some h → (name ≡ h.name) × (spoiled ≡ bit h.spoiled) × (ok ≡ true))
    → pick {A = Holding} (not b) (pick ok (holding_job p name spoiled c a) (refused damaged)) (holding_none c a)
    ≡ holding_read o q
held_told p name spoiled c a q true ok none e f z n = rw (e, f)
held_told p name spoiled c a q true ok (some h) e f z n = never (cc)
held_told p name spoiled c a q false ok none e f z n = never (cc)
held_told p name spoiled c a q false ok (some h) e f z n =
    let here = n h refl in let same = some_held p h.job false z in rw (e, f, same, here.0, here.1, here.2)

seen_none : (p : ℕ) (b : Bool) → pick {A = Option ℕ} b none (some p) ≡ none → b ≡ true
seen_none p true e = refl
seen_none p false e = never (cc)

-- ---- a call: a number by its phase, and by what is read
pub none_called : (b c : Bool) → pick {A = ℕ} b 0 (pick c 1 2) ≡ 0 → b ≡ true
none_called true c e = refl
none_called false true e = absurd (omega (arith, e))
none_called false false e = absurd (omega (arith, e))

none_read : (p : Pending) → call_read p ≡ 0 → p ≡ reading.idle
none_read reading.idle e = refl
none_read (adding a k) e = absurd (omega (arith, e))
none_read (finishing name k) e = absurd (omega (arith, e))

-- the phase tells the call that is read
phase_tells : (f : ℕ → ℕ → ℕ) (G : Ghost) (w : ℕ) (g : Graph) (h : Option ℕ) (c : Call) (p : Pending)
    → CallRep f G w c → PacedCall g h c p → call_of (f PHASE w) ≡ call_read p
phase_tells f G w g h idle p r e = rw (r.phase, e)
phase_tells f G w g h (looking a i) p r e = rw (r.phase, e)
phase_tells f G w g h (linking a j i u) p r e = rw (r.0.phase, e.0)
phase_tells f G w g none (marking fa) p r e = absurd e
phase_tells f G w g (some j) (marking fa) p r e = rw (r.phase, e)
phase_tells f G w g h (notifying j k fa) p r e = rw (r.phase, e)

-- and of an add its name
name_tells : (f : ℕ → ℕ → ℕ) (G : Ghost) (w : ℕ) (g : Graph) (h : Option ℕ) (c : Call) (p : Pending)
    → CallRep f G w c → PacedCall g h c p → adds_at f w ≡ adds_read p
name_tells f G w g h idle p r e = rw (r.phase, e)
name_tells f G w g h (looking a i) p r e = rw (r.phase, r.name, e)
name_tells f G w g h (linking a j i u) p r e = rw (r.0.phase, r.0.name, e.0)
name_tells f G w g none (marking fa) p r e = absurd e
name_tells f G w g (some j) (marking fa) p r e = rw (r.phase, e)
name_tells f G w g h (notifying j k fa) p r e = rw (r.phase, e)

module _ (s : Sizes) (t : Tables) (laid : (lay_out s t).answer ≡ Laid) (items : List Item) where
  abbrev T : Tables
  T = after perform (lay_out s t).state items

  abbrev g : Graph
  g = after (rules.perform s) empty items

  abbrev read : Reading
  read = reading (events perform (lay_out s t).state items)

  abbrev r : Reading
  r = reading (events (rules.perform s) empty items)

  history : History s g r (λ j. 0 + queue_entries_by s empty items j)
  history = onward s start items

  told : read ≡ r
  told = ap reading (same_events s t laid items)

  R : Reached s t laid items
  R = after_items s t laid items

  fits : words.sizes_fit s T ≡ true
  fits = sizes_fit_lem s T g R.ghost R.stands

  owned : (w : ℕ) → w < s.workers → own_ok s (view T) w ≡ true
  owned = own_ok_lem s T g R.ghost R.stands R.sound

  called : (w : ℕ) → w < s.workers → call_of ((view T).worker PHASE w) ≡ call_read (read.pending w)
  called w h = rw told (phase_tells (view T).worker R.ghost w g (g.workers w).held (g.workers w).call _
      (R.stands.calls w h).call (paced soundly history w))

  named : (w : ℕ) → w < s.workers → adds_at (view T).worker w ≡ adds_read (read.pending w)
  named w h = rw told (name_tells (view T).worker R.ghost w g (g.workers w).held (g.workers w).call _
      (R.stands.calls w h).call (paced soundly history w))

  counted_ok : counters_ok s (view T) ≡ true
  counted_ok = counters_ok_lem s T g R.ghost R.stands R.sound

  does : Same s (seen T) (rules_seen.seen g)
  does = (demand s t laid items).does

  -- ---- what a worker holds: as it is seen, and as it is read off the calls
  pub hold : (w : ℕ) → w < s.workers → (seen T).held w ≡ held_read read w
  unfolding blank
  hold w h = does.held w h ∙ sym (R.booked.held w) ∙ held_follows R.booked.follows w none refl

  -- what the get told of a held job, which is seen of it now: its name and its spoiled word
  held_job : (w p : ℕ) → w < s.workers → (seen T).held w ≡ some p → (o : HandOut) → handed_read read w ≡ some o
      → o.job ≡ p
      → (((seen T).job p).name ≡ o.name) × (((seen T).job p).spoiled ≡ bit o.spoiled)
  held_job w p h e o z same =
      let there = R.sound.held_there w p (sym (does.held w h) ∙ e) in
      let row = does.jobs p there in
      let said = rw same at (handed_out_lem history w o (rw told at z)) in (
        ap (λ (x : JobSeen). x.name) row ∙ sym (ap (λ (x : HandOut). x.name) said),
        ap (λ (x : JobSeen). x.spoiled) row ∙ sym (ap (λ (x : HandOut). bit x.spoiled) said),
      )

  -- the name is that of the job's add
  pub handed_shown : (w : ℕ) (o : HandOut) → w < s.workers → handed_read read w ≡ some o
      → (o.job < length (accepted_adds read.calls))
      × (o.name ≡ (add_of (accepted_adds read.calls) o.job).name)
      × (((seen T).job o.job).spoiled ≡ bit o.spoiled)
  handed_shown w o h z =
      let e = hold w h ∙ ap job_of z in
      let there = R.sound.held_there w o.job (sym (does.held w h) ∙ e) in
      let said = held_job w o.job h e o z refl in (
        omega (arith, there, R.booked.adds),
        sym said.0 ∙ ap (λ (x : JobSeen). x.name) (does.jobs o.job there)
            ∙ sym (R.booked.added o.job there).name,
        said.1,
      )

  -- the spoiled word tells whether a prerequisite of the job failed: it was handed out, so the word is complete
  pub held_spoiled_lem : (w p : ℕ) → w < s.workers → (seen T).held w ≡ some p
      → (((seen T).job p).spoiled ≡ 1) ↔ PrerequisiteFailed (seen T) (accepted_adds read.calls) p
  held_spoiled_lem w p h e =
      let running = R.sound.held_executing w p (sym (does.held w h) ∙ e) in
      let queued : 0 < queue_entries_of perform seen s (lay_out s t).state items p =
      omega (arith, same_queue_entries s t laid items p, entered_is history p, ap started_by running) in (
        ((demand s t laid items).spoiled_for_cause p ((demand s t laid items).after_prerequisites p queued).0).spoiled,
        (demand s t laid items).spoiled_once_queued p queued,
      )

  held_of_known : (w : ℕ) → w < s.workers → holding_of (view T) w ≡ holding_read (handed_read read w) (read.pending w)
  unfolding holding_of
  held_of_known w h =
      let p = (view T).worker HELD w in
      held_told p _ _ _ _ (read.pending w) (eqb p words.none) (spoiled_ok (view T) p) (handed_read read w) (called w h)
      (named w h) (hold w h)
      (λ o z.
      let e = hold w h ∙ ap job_of z in
      let same = some_held p o.job (eqb p words.none) e in
      let said = held_job w p h (e ∙ ap some (sym same)) o z (sym same) in
      (said.0, said.1, ap (λ m. leb m 1) said.1 ∙ bit_ok o.spoiled))

  held_of_any : (w : ℕ) → held_words s T w
      ≡ pick (ltb w s.workers) (holding_read (handed_read read w) (read.pending w)) (turned_away 2)
  unfolding held_words admitted counted
  held_of_any w = test (ltb w s.workers)
      (λ e. let h = ltb-true w s.workers e in rw (fits, e, owned w h, counted_ok) (held_of_known w h))
      (λ e. rw (fits, e))

  -- asked with other sizes
  abbrev decide : (q : Sizes) → words.sizes_fit q T ≡ same_sizes q s
  decide = sizes_decide s T g R.ghost R.stands

  held_of_others : (q : Sizes) (w : ℕ) → same_sizes q s ≡ false → held_words q T w ≡ turned_away 1
  unfolding held_words admitted
  held_of_others q w e = rw (decide q, e)

  pub held : (q : Sizes) (w : ℕ) → held_words q T w ≡ Told.told q s read w
  held q w = test (same_sizes q s) (λ e. rw e (rw (same_sizes_lem q s e) (held_of_any w))) (λ e. rw e (held_of_others q w e))

  -- ---- drained
  queue_ok_lem : queue_ok s (view T) ≡ true
  queue_ok_lem =
      rw (
        put_there s T g R.ghost R.stands R.sound,
        R.stands.rep.taken,
        queue_end s T g R.ghost R.stands R.sound,
        le-leb (started g.jobs) (started g.jobs + length g.queue) (omega arith),
      )

  words_ok_lem : words_ok s (view T) ≡ true
  words_ok_lem =
      rw (
        every_true (own_ok s (view T)) s.workers owned,
        counted_ok,
        queue_ok_lem,
      )

  drained_answers : drained_words s T ≡ record { number = 0; drained = pick (is_drained s (view T)) 1 0 }
  unfolding drained_words
  drained_answers = rw (fits, words_ok_lem)

  -- an empty queue
  nothing_waits : eqb (view T).taken (view T).put ≡ true → (seen T).waiting ≡ []
  nothing_waits e =
      let same = eqb-true (view T).taken (view T).put e in
      waiting_queue R.stands ∙ no_more g.queue (omega (arith, R.stands.rep.put))
    where
      no_more : (q : List ℕ) → length q ≡ 0 → q ≡ []
      no_more [] e = refl
      no_more (x ∷ q) e = absurd (omega (arith, e))

  queue_empty : (seen T).waiting ≡ [] → eqb (view T).taken (view T).put ≡ true
  queue_empty e =
      let none_left : length g.queue ≡ 0 = ap length (sym (waiting_queue R.stands) ∙ e) in
      eq-eqb (view T).taken (view T).put (omega (arith, R.stands.rep.put))

  -- a worker that is idle and holds nothing
  idle_read : (w : ℕ) → w < s.workers → eqb ((view T).worker PHASE w) IDLE ≡ true → read.pending w ≡ reading.idle
  idle_read w h e = none_read (read.pending w) (sym (called w h) ∙ rw e)

  read_idle : (w : ℕ) → w < s.workers → read.pending w ≡ reading.idle → eqb ((view T).worker PHASE w) IDLE ≡ true
  read_idle w h e = none_called (eqb ((view T).worker PHASE w) IDLE)
      (eqb ((view T).worker PHASE w) LOOKING || eqb ((view T).worker PHASE w) LINKING) (called w h ∙ ap call_read e)

  past_workers : (w : ℕ) (p : Pending) → read.pending w ≡ p → (w < s.workers → ⊥) → p ≡ reading.idle
  past_workers w reading.idle e h = refl
  past_workers w (adding a k) e h =
      absurd (h (pending_there soundly history w (λ z. never (cc (e, z, told)))))
  past_workers w (finishing name k) e h =
      absurd (h (pending_there soundly history w (λ z. never (cc (e, z, told)))))

  -- no worker holds a job
  abbrev NoneHeld : Type 0
  NoneHeld = (w : ℕ) → w < s.workers → (seen T).held w ≡ none

  at_rest_lem : is_drained s (view T) ≡ true → (w : ℕ) → w < s.workers
      → (eqb ((view T).worker PHASE w) IDLE ≡ true) × (eqb ((view T).worker HELD w) words.none ≡ true)
  at_rest_lem e w h =
      let all = (both (eqb (view T).taken (view T).put) (every (free (view T).worker) s.workers) e).1 in
      both (eqb ((view T).worker PHASE w) IDLE) (eqb ((view T).worker HELD w) words.none)
      (every_at (free (view T).worker) s.workers all w h)

  nothing_left : is_drained s (view T) ≡ true → Quiet read × NoneHeld × ((seen T).waiting ≡ [])
  nothing_left e = (
    (λ w. elim (dec_lt w s.workers) [
      | yes h ↦ idle_read w h (at_rest_lem e w h).0
      | no h ↦ past_workers w (read.pending w) refl h
    ]),
    (λ w h. rw (at_rest_lem e w h).1),
    nothing_waits (both (eqb (view T).taken (view T).put) (every (free (view T).worker) s.workers) e).0,
  )

  all_done : Quiet read × NoneHeld × ((seen T).waiting ≡ []) → is_drained s (view T) ≡ true
  all_done d =
      and-true (eqb (view T).taken (view T).put) (every (free (view T).worker) s.workers) (queue_empty d.2)
      (every_true (free (view T).worker) s.workers (λ w h.
      and-true (eqb ((view T).worker PHASE w) IDLE) (eqb ((view T).worker HELD w) words.none)
      (read_idle w h (d.0 w))
      (seen_none ((view T).worker HELD w) (eqb ((view T).worker HELD w) words.none) (d.1 w h))))

  one : (b : Bool) → pick {A = ℕ} b 1 0 ≡ 1 → b ≡ true
  one true e = refl
  one false e = absurd (omega (arith, e))

  drained_of_others : (q : Sizes) → same_sizes q s ≡ false → drained_words q T ≡ record { number = 1; drained = 0 }
  unfolding drained_words
  drained_of_others q e = rw (decide q, e)

  -- refused by 1 alone
  pub drained_number : (q : Sizes) → (drained_words q T).number ≡ pick (same_sizes q s) 0 1
  drained_number q = test (same_sizes q s) (λ e. rw e (rw (same_sizes_lem q s e, drained_answers) refl))
      (λ e. rw (e, drained_of_others q e))

  drained_laid : ((drained_words s T).drained ≡ 1) ↔ (Quiet read × NoneHeld × ((seen T).waiting ≡ []))
  drained_laid = rw drained_answers (
    (λ e. nothing_left (one (is_drained s (view T)) e)),
    (λ d. rw (all_done d)),
  )

  pub drained_exactly : (q : Sizes) → ((drained_words q T).drained ≡ 1)
      ↔ ((same_sizes q s ≡ true) × Quiet read × NoneHeld × ((seen T).waiting ≡ []))
  drained_exactly q = (
    (λ x. test (same_sizes q s)
        (λ e. let d = drained_laid.0 (rw (same_sizes_lem q s e) at x) in (e, d.0, d.1, d.2))
        (λ e. let no : ◌≡◌ {A = ℕ} 0 1 = rw (drained_of_others q e) at x in never no)),
    (λ d. rw (same_sizes_lem q s d.0) (drained_laid.1 (d.1, d.2, d.3))),
  )

  pub drained_finished : (q : Sizes) → (drained_words q T).drained ≡ 1
      → (j : ℕ) → j < length (accepted_adds read.calls)
      → JobFinished (seen T) read.calls j
  drained_finished q e = let d = (drained_exactly q).0 e in lifted.drained s t laid items d.1 d.2 d.3
