-- What holds by the rules of every list of items, on the words: how calls end, what the auditor asked, and the words of
-- workers.
use Rattle.std.proofs.Math.Path.{◌≡◌, sym, ap}
use Rattle.std.specs.Prelude.{refl, ◌↔◌, ◌≢◌, true, List, [], ◌∷◌, ℕ, ◌+◌, ◌^◌, ◌≤◌, ◌<◌}
use Rattle.std.proofs.Common.{◌∙◌, length-append}
use Rattle.std.proofs.Math.Option.{none}
use native.Mathlib.Omega.{arith}
use Rattle.std.proofs.Math.ListN.{length, get_or}
use Rattle.def_numbers.specs.Numbers.{most_names}
use Rattle.def_basics.specs.Base.{contains, occurrences}
use Rattle.def_basics.specs.Counting.{occurrences_nil}
use Rattle.def_basics.specs.Laws.{get_d_prefix}
use Rattle.def_bucket.specs.Bucket.{bucket_of}
use Rattle.def_minutes.specs.Rising.{SixteenRising, rising_means}
use Rattle.def_terms.specs.Terms.{Arguments, same_sizes, label_number, finished, Finish}
use Rattle.def_terms.specs.Runs.{Item, step, get, after, events}
use Rattle.def_terms.specs.Seen.{JobSeen, Same}
use Rattle.def_terms.specs.Seen as seen_as
use Rattle.def_terms.specs.Order.{First}
use Rattle.def_terms.proofs.AheadLaws.{is_first}
use Rattle.def_terms.specs.declared.Sizes.{Sizes}
use Rattle.def_terms.specs.declared.HandOut.{HandOut}
use Rattle.def_terms.specs.declared.Answer.{Answer}
use Rattle.def_terms.specs.declared.Answer.TheVariants.{Laid, NoneReady, Handed}
use Rattle.def_words.specs.Layout.{Tables, view, worker_shape, NAME, OUTCOME, SPOILED, HELD, LIST_COUNT, NOTE, NAMES}
use Rattle.def_words.specs.Layout.{IDLE}
use Rattle.def_words.specs.Layout.{bare_worker, stored_minutes, NEWEST}
use Rattle.def_words.specs.Layout as words
use Rattle.def_words.specs.Words.{perform, lay_out}
use Rattle.def_words.specs.Observed.{bucket_from, newest_first, seen}
use Rattle.def_rules.specs.Rules.{Call, idle, looking, linking, marking, notifying, Graph, empty, job}
use Rattle.def_rules.specs.Rules as rules
use Rattle.thm_rules_cases.specs.Deed as by
use Rattle.thm_rules_cases.specs.Own.{own_made, own_sizes}
use Rattle.def_rules.specs.Observed as rules_seen
use Rattle.def_rules.specs.Sound.{started_by, Finished}
use Rattle.def_call_order.specs.Calls.{adding, finishing, Reading, reading, Quiet, accepted_adds}
use Rattle.def_call_order.specs.Calls.{accepted_finishes}
use Rattle.def_call_order.specs.Calls as reading
use Rattle.thm_rules_history.specs.History.{History, start, Paced, Booked}
use Rattle.thm_rules_history.specs.Onward.{queue_entries_by, onward}
use Rattle.def_demand.specs.Demand.{add_of, HandedRightly, JobFinished, handed_out}
use Rattle.def_demand.specs.Ends.{AddStep, FinishOf}
use Rattle.def_audit.specs.Audit as audited
use Rattle.def_audit.specs.Audit.{GetAnswered}
use Rattle.def_demand.specs.LongFirst.{minutes_seen, long_first, TakesLongest, ByCount}
use Rattle.thm_representation.specs.Rep.{CallRep}
use Rattle.thm_representation_kept.specs.Find.{found_there}
use Rattle.thm_representation_kept.specs.Arcs.{few_arcs}
use Rattle.thm_representation_kept.specs.Chains.{chains}
use Rattle.thm_words_refine_rules.specs.Items.{item}
use Rattle.thm_words_refine_rules.specs.Reset.{idle_fresh, past_count}
use Rattle.thm_rules_follow_book.specs.BookJobs.{listed_length}
use Rattle.thm_rules_follow_book.specs.Paced.{paced, worker_idle_lem, all_idle}
use Rattle.thm_rules_follow_book.specs.Steps.{add_step, finish_step, pending_there}
use Rattle.thm_rules_invariant.specs.Sound.{soundly}
use Rattle.thm_rules_audit.specs.Gets.{handed_ready}
use Rattle.thm_rules_audit.specs.Gets as gets
use Rattle.thm_rules_audit.specs.Handed.{handed_once, handed_started}
use Rattle.thm_rules_audit.specs.Forgotten.{started}
use Rattle.thm_rules_audit.specs.Bits.{bit_within}
use Rattle.thm_rules_audit.specs.Spoiled as spoiled
use Rattle.thm_rules_audit.specs.Carried.{JobsAlike, failed_carried}
use Rattle.thm_rules_audit.specs.Finishes.{finished_by, finishes, occurs_there, finished_once}
use Rattle.thm_rules_audit.specs.Drained as audit
use Rattle.thm_rules_audit.specs.LongFirst.{seen_idle}
use Rattle.thm_rules_audit.specs.LongFirst as longest
use Rattle.thm_words_history.specs.Theorem.{Reached, after_items, marked_finished, same_events}
use Rattle.thm_words_history.specs.Theorem.{same_queue_entries}
use Rattle.thm_words_history.specs.Theorem.{demand}

module _ (s : Sizes) (t : Tables) (laid : (lay_out s t).answer ≡ Laid) (items : List Item) where
  abbrev T : Tables
  T = after perform (lay_out s t).state items

  abbrev g : Graph
  g = after (rules.perform s) empty items

  abbrev r : Reading
  r = reading (events (rules.perform s) empty items)

  abbrev read : Reading
  read = reading (events perform (lay_out s t).state items)

  history : History s g r (λ j. 0 + queue_entries_by s empty items j)
  history = onward s start items

  R : Reached s t laid items
  R = after_items s t laid items

  does : Same s (seen T) (rules_seen.seen g)
  does = (demand s t laid items).does

  told : read ≡ r
  told = ap reading (same_events s t laid items)

  pacing : Paced g r
  pacing = paced soundly history

  -- the words answer the next item as the rules do
  next : (i : Item) → (perform T i).answer ≡ (rules.perform s g i).answer
  next i = (item s T g R.ghost R.stands R.sound i).answer

  -- ---- how calls end
  pub add_ends : (w : ℕ) (a : Arguments) (k : ℕ) → read.pending w ≡ adding a k
      → AddStep a k (perform T (step s w)).answer
  add_ends w a k = rw told (λ e.
      let there = pending_there soundly history w (λ z. absurd (distinct a k (sym e ∙ z))) in
      rw (next (step s w)) (add_step soundly history w there a k e))
    where
      distinct : (a : Arguments) (k : ℕ) → adding a k ≡ reading.idle → ⊥
      distinct a k z = let no : ◌≡◌ {A = ℕ} 0 1 = cc in omega arith

  pub finish_ends : (w : ℕ) (f : Finish) (k : ℕ) → read.pending w ≡ finishing f k
      → FinishOf (seen T) f.name k (perform T (step s w)).answer
  finish_ends w f k = rw told (λ e.
      let there = pending_there soundly history w (λ z. absurd (distinct f k (sym e ∙ z))) in
      let o = finish_step soundly history w there f k e in
      let row = does.jobs o.job o.there in
      rw (next (step s w)) (record {
        job = o.job;
        there = rw does.made o.there;
        named = ap (λ (x : JobSeen). x.name) row ∙ o.named;
        step = rw (ap (λ (x : JobSeen). x.arcs) row) o.step;
      }))
    where
      distinct : (f : Finish) (k : ℕ) → finishing f k ≡ reading.idle → ⊥
      distinct f k z = let no : ◌≡◌ {A = ℕ} 0 1 = cc in omega arith

  -- ---- what the auditor asked
  pub once_handed : (j : ℕ) → occurrences j (handed_out (events perform (lay_out s t).state items)) ≤ 1
  once_handed j = rw (same_events s t laid items) (handed_once s items j)

  pub once_finished : (name : ℕ) → occurrences name (accepted_finishes read.calls) ≤ 1
  once_finished name = rw told (finished_once s items name)

  K : Booked s g r
  K = rw told at R.booked

  abbrev adds : List Arguments
  adds = accepted_adds r.calls

  -- the jobs of the accepted adds are seen alike in the words and in the rules' graph
  alike : JobsAlike (seen T) (rules_seen.seen g) adds
  alike = record { job = λ j h. does.jobs j (omega (arith, K.adds)) }

  alike_back : JobsAlike (rules_seen.seen g) (seen T) adds
  alike_back = record { job = λ j h. sym (alike.job j h) }

  -- a finished job's name is among the accepted finishes
  finishes_of_lem : (j : ℕ) → j < length g.jobs → (job g j).label ≡ finished
      → contains (job g j).name (accepted_finishes r.calls) ≡ true
  finishes_of_lem j h e = occurs_there _ _ (omega (arith, (finishes history).of_job j h ∙ ap finished_by e))

  finished_name : (name : ℕ) → Finished g name → contains name (accepted_finishes r.calls) ≡ true
  finished_name name f =
      let at = found_there g name f.job f.found in rw at.1 at (finishes_of_lem f.job at.0 f.finished)

  pub rightly_handed : (q : Sizes) (w : ℕ) (h : HandOut) → (perform T (get q w)).answer ≡ Handed h
      → HandedRightly (seen T) read.calls h
  rightly_handed q w h = rw (told, next (get q w)) (λ e.
      let j : ℕ = h.job in
      let o = handed_ready history q w h e in
      let said = spoiled.told history q w h e in
      let same = K.added j o.there in
      let n : (add_of adds j).count ≡ length (job g j).list =
      sym (listed_length (add_of adds j)) ∙ ap length same.list in
      record {
        waited = rw does.waiting o.waits;
        there = omega (arith, o.there, K.adds);
        named = ap (λ (x : HandOut). x.name) o.said ∙ sym same.name;
        unexecuted = ap (λ (x : JobSeen). x.label) (does.jobs j o.there) ∙ ap label_number o.unexecuted;
        prerequisites = λ i l. rw same.list
            (marked_finished s t laid items _ (o.prerequisites i (omega (arith, n))));
        finishes = λ i l. rw same.list (finished_name _ (o.prerequisites i (omega (arith, n))));
        told = (λ y. failed_carried alike j (said.0 y), λ f. said.1 (failed_carried alike_back j f));
      })

  pub drained : Quiet read → ((w : ℕ) → w < s.workers → (seen T).held w ≡ none) → (seen T).waiting ≡ []
      → (j : ℕ) → j < length (accepted_adds read.calls) → JobFinished (seen T) read.calls j
  drained = rw told (λ quiet free empty_queue j h.
      let there : j < length g.jobs = omega (arith, K.adds) in
      let done = audit.drained history (all_idle g r pacing quiet) (λ w b. sym (does.held w b) ∙ free w b)
      (sym does.waiting ∙ empty_queue) j there in
      record {
        label = ap (λ (x : JobSeen). x.label) (does.jobs j there) ∙ ap label_number done;
        finish = rw (K.added j there).name (finishes_of_lem j there done);
      })

  -- ---- long jobs first
  pub takes_longest : TakesLongest perform seen s T
  takes_longest = longest.takes_longest perform seen s (lay_out s t).state (λ is. (demand s t laid is).answers)
      (λ is. (demand s t laid is).does) items

  pub by_count : ByCount perform seen s T
  by_count = longest.hands_out_by_count perform seen s (lay_out s t).state (λ is. (demand s t laid is).answers)
      (λ is. (demand s t laid is).does) items

  pub minutes_rise : SixteenRising (stored_minutes T.jobs)
  minutes_rise = rw R.stands.minutes ((rising_means g.minutes).0 R.sound.minutes)

  -- a worker that is idle and jobless is handed the waiting job with the most minutes, and of those with as many the
  -- earliest in the queue
  pub hands_out : (w j : ℕ) → w < s.workers → (seen T).call w ≡ seen_as.idle → (seen T).held w ≡ none
      → First (long_first (seen T)) (seen T).waiting j
      → (perform T (get s w)).answer ≡ Handed (seen_as.hand_out (seen T) j)
  hands_out w j h c f q =
      let some_wait : 0 < length (seen T).waiting =
      omega (arith, ap length q.parts, length-append q.front (j ∷ q.back)) in
      let o = takes_longest.takes w h c f some_wait in
      let that = is_first (minutes_seen (seen T)) (seen T).waiting o.job o.first in
      let this = is_first (minutes_seen (seen T)) (seen T).waiting j q in
      let same : o.job ≡ j = cc in
      o.handed ∙ ap (λ k. Handed (seen_as.hand_out (seen T) k)) same

  -- ---- "With an empty queue it says none ready, and then only"
  pub none_ready_lem : (q : Sizes) (w : ℕ) → ((perform T (get q w)).answer ≡ NoneReady)
      ↔ ((same_sizes q s ≡ true) × (w < s.workers) × ((seen T).call w ≡ seen_as.idle) × ((seen T).held w ≡ none)
      × ((seen T).waiting ≡ []))
  none_ready_lem q w = (
    (λ e.
        let f = (gets.none_ready_lem s q g w).0 (sym (next (get q w)) ∙ e) in (
          f.0,
          f.1,
          does.calls w f.1 ∙ ap (rules_seen.call_seen g) f.2,
          does.held w f.1
              ∙ f.3,
          does.waiting ∙ f.4,
        )),
    (λ f.
        next (get q w)
        ∙ (gets.none_ready_lem s q g w).1 (
          f.0,
          f.1,
          seen_idle g (g.workers w).call (sym (does.calls w f.1) ∙ f.2),
          sym (does.held w f.1) ∙ f.3,
          sym does.waiting ∙ f.4,
        )),
  )

  -- ---- what an idle worker's get is answered, by what it holds
  pub get_answered : (w : ℕ) → w < s.workers → read.pending w ≡ reading.idle
      → GetAnswered ((seen T).held w) (perform T (get s w)).answer
  get_answered w h = rw (told, next (get s w), does.held w h) (λ e.
      of (own_made s g (get s w) (own_sizes s) h refl refl (worker_idle_lem g r pacing w e)))
    where
      of : {x : Answer} {after : Graph} → by.Made s g (get s w) x after → GetAnswered (g.workers w).held x
      of (by.get_holding j e) = rw e audited.holding
      of (by.get_none e f) = rw e audited.none_ready_lem
      of (by.get_handed e j f) = rw e (audited.taken (rules.hand_out g j))

  -- ---- with no call half done, over an empty queue, a job has been handed out if each of its prerequisites has an
  -- accepted finish
  pub none_forgotten : Quiet read → (q : Sizes) (w : ℕ) → (perform T (get q w)).answer ≡ NoneReady
      → (j : ℕ) → j < length (accepted_adds read.calls)
      → ((i : ℕ) → i < (add_of (accepted_adds read.calls) j).count
      → occurrences (get_or (add_of (accepted_adds read.calls) j).names i 0) (accepted_finishes read.calls) ≡ 1)
      → 0 < occurrences j (handed_out (events perform (lay_out s t).state items))
  unfolding empty
  none_forgotten = rw (told, same_events s t laid items) (λ quiet q w none j h all.
      let there : j < length g.jobs = omega (arith, K.adds) in
      let same = K.added j there in
      let a : Arguments = add_of adds j in
      let n : a.count ≡ length (job g j).list = sym (listed_length a) ∙ ap length same.list in
      let o = (gets.none_ready_lem s q g w).0 (sym (next (get q w)) ∙ none) in
      let begun : 0 < started_by (job g j).label =
      started history (all_idle g r pacing quiet) o.4 j there (λ i l.
      let k : i < a.count = omega (arith, n) in
      rw (ap (λ m. get_or m i 0) (sym same.list) ∙ get_d_prefix a.count a.names i k)
      (omega (arith, all i k))) in
      omega (arith, handed_started {s = s} start items j))

  -- over an empty queue, whatever calls are half done, a job has been handed out whose add and a finish of each of
  -- whose prerequisites have ended
  pub none_held_up : (q : Sizes) (w : ℕ) → (perform T (get q w)).answer ≡ NoneReady
      → (j : ℕ) → j < length (accepted_adds read.calls)
      → 0 < occurrences (add_of (accepted_adds read.calls) j).name read.added
      → ((i : ℕ) → i < (add_of (accepted_adds read.calls) j).count
      → 0 < occurrences (get_or (add_of (accepted_adds read.calls) j).names i 0) read.finished)
      → occurrences j (handed_out (events perform (lay_out s t).state items)) ≡ 1
  unfolding empty
  none_held_up q w said j h ended all =
      let a : Arguments = add_of (accepted_adds read.calls) j in
      let in_queue : occurrences j g.queue ≡ 0 =
      ap (occurrences j) ((gets.none_ready_lem s q g w).0 (sym (next (get q w)) ∙ said)).4 ∙ occurrences_nil j in
      let entered = (demand s t laid items).when_ended j h (occurs_there _ _ ended) (λ i l.
      rw (get_d_prefix a.count a.names i l) (occurs_there _ _ (all i l))) in
      let handed : ◌≡◌ (handed_out (events perform (lay_out s t).state items))
      (handed_out (events (rules.perform s) empty items)) = ap handed_out (same_events s t laid items) in
      omega (
        arith,
        entered,
        same_queue_entries s t laid items j,
        spoiled.entered_is history j,
        in_queue,
        handed_started {s = s} start items j,
        ap (occurrences j) handed,
      )

  -- ---- the words of workers
  pub fresh_call : (w : ℕ) → w < s.workers → read.pending w ≡ reading.idle → (k : ℕ) → k < worker_shape.width
      → k ≢ HELD
      → (view T).worker k w ≡ get_or (bare_worker IDLE words.none 0) k 0
  fresh_call w h = rw told (λ e. idle_fresh R.stands w h (worker_idle_lem g r pacing w e))

  pub names_past : (w : ℕ) → w < s.workers → (q : ℕ) → (view T).worker LIST_COUNT w ≤ q → q < most_names
      → (view T).worker (NAMES + q) w ≡ 0
  names_past w h q = past_count R.stands w h q

  -- ---- "the words of outcome, mark and note are 0 or 1"
  pub job_bits : (j : ℕ) → j < s.jobs → ((view T).job OUTCOME j ≤ 1) × ((view T).job SPOILED j ≤ 1)
  job_bits j h =
      let row = R.stands.rep.rows j h in
      (rw row.outcome (bit_within (job g j).failed), rw row.spoiled (bit_within (job g j).spoiled))

  pub note_bit : (w : ℕ) → w < s.workers → (view T).worker NOTE w ≤ 1
  note_bit w h = of (g.workers w).call (R.stands.calls w h).call
    where
      of : (c : Call) → CallRep (view T).worker R.ghost w c → (view T).worker NOTE w ≤ 1
      of idle c = rw c.note (omega arith)
      of (looking a i) c = rw c.note (omega arith)
      of (linking a j i u) c = rw c.0.note (bit_within u.noted)
      of (marking f) c = rw c.note (bit_within f)
      of (notifying p k f) c = rw c.note (bit_within f)

  -- ---- names and buckets
  pub one_of_a_name : (i j : ℕ) → i < (seen T).made → j < (seen T).made → ((seen T).job i).name ≡ ((seen T).job j).name
      → i ≡ j
  one_of_a_name i j h l e =
      let a : i < length g.jobs = rw does.made at h in
      let b : j < length g.jobs = rw does.made at l in
      R.sound.names i j a b
      (sym (ap (λ (x : JobSeen). x.name) (does.jobs i a)) ∙ e ∙ ap (λ (x : JobSeen). x.name) (does.jobs j b))

  pub one_add_of_a_name : (i j : ℕ) → i < length (accepted_adds read.calls) → j < length (accepted_adds read.calls)
      → (add_of (accepted_adds read.calls) i).name ≡ (add_of (accepted_adds read.calls) j).name → i ≡ j
  one_add_of_a_name i j = rw told (λ h l e.
      let a : i < length g.jobs = omega (arith, K.adds) in
      let b : j < length g.jobs = omega (arith, K.adds) in
      R.sound.names i j a b (sym (K.added i a).name ∙ e ∙ (K.added j b).name))

  pub arcs_fit : (j : ℕ) → j < (seen T).made
      → (length ((seen T).job j).arcs ≤ (seen T).reserved) × ((seen T).reserved ≤ s.arcs)
  arcs_fit j h =
      let there : j < length g.jobs = rw does.made at h in
      rw (ap (λ (x : JobSeen). x.arcs) (does.jobs j there), does.reserved) (few_arcs R.stands j, R.sound.arcs)

  pub newest_first_lem : (k : ℕ) → k < 2 ^ s.bits
      → bucket_from (view T) ((view T).bucket NEWEST k)
      ≡ newest_first (λ j. bucket_of ((view T).job NAME j) s.bits) k (view T).made
  newest_first_lem = chains R.stands R.sound
