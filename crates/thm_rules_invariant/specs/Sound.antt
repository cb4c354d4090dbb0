-- Every graph that a history reaches is sound: rooms, names, dependents, the queue, the spoiled jobs, the holds and the
-- calls (docs/RULES.md, "Steps").
use Rattle.std.specs.Prelude.{◌≡◌, refl, Bool, true, List, [], ◌∷◌, ℕ, ◌+◌, ◌-◌, ◌<◌, length, get_or}
use Rattle.std.proofs.Common.{sym, ap, ◌∙◌, arith}
use Rattle.std.proofs.Math.Option.{Option, none, some, some-injective}
use Rattle.def_basics.specs.Base.{occurrences}
use Rattle.def_terms.specs.Terms.{settles, unexecuted, Arguments, bit, Tally}
use Rattle.def_terms.specs.declared.Sizes.{Sizes}
use Rattle.def_rules.specs.Rules.{Job, no_job, Call, idle, looking, linking, marking, notifying, Graph, job}
use Rattle.def_rules.specs.Sound as rules
use Rattle.def_rules.specs.Sound.{started_by, started, Finished, FailedAmong, MayQueue, Linking, Notifying, CallSound}
use Rattle.def_call_order.specs.Calls.{Reading}
use Rattle.thm_rules_history.specs.History.{History}
use Rattle.def_basics.specs.Counting.{sum, sum_same, sum_plus, sum_first, sum_ones, sum_gap, sum_zero}
use Rattle.def_basics.specs.Counting.{sum_occurrences}
use Rattle.thm_rules_invariant.specs.State.{State, adding, finishing}
use Rattle.thm_rules_invariant.specs.Invariant.{Invariant, started_by_none, once, entered_there, held_there}
use Rattle.thm_rules_invariant.specs.Invariant.{all_finished_lem, all_linked, all_settled, none_waits, spoiled_by_lem}
use Rattle.thm_rules_invariant.specs.Invariant.{unfinished_good}
use Rattle.thm_rules_invariant.specs.Names.{at_injective}
use Rattle.thm_rules_invariant.specs.Relation.{Kept, LinkRel, NotifyRel}
use Rattle.thm_rules_invariant.specs.Turns.{own_stage, own_call}
use Rattle.thm_rules_invariant.specs.Linking.{settles_right}
use Rattle.thm_rules_invariant.specs.LinkSteps.{long_list}
use Rattle.thm_rules_invariant.specs.NotifySteps.{notify_counted}
use Rattle.thm_rules_invariant.specs.Start.{reached}

started_sum : (l : List Job) → started l ≡ sum (length l) (λ j. started_by (get_or l j no_job).label)
unfolding started
started_sum [] = sym (sum_zero 0 (λ j. started_by unexecuted) (λ j. refl))
started_sum (x ∷ l) =
    omega (arith, sum_first (length l) (λ j. started_by (get_or (x ∷ l) j no_job).label), started_sum l)

module _ (s : Sizes) (g : Graph) (r : Reading) (x : State) (K : Kept s g r x) (I : Invariant x) where
  -- ---- the queue
  pub in_queue : (j : ℕ) → occurrences j g.queue + started_by (job g j).label ≡ x.queue_entries j
  in_queue j = omega (arith, ap (occurrences j) K.queue, ap started_by (K.jobs j).label, I.queued j)

  pub queue_there : (j : ℕ) → 0 < occurrences j g.queue → j < length g.jobs
  queue_there j h = omega (arith, K.size, entered_there x I j (omega (arith, in_queue j)))

  -- the jobs handed out and those in the queue are those that have entered it
  all_queue_entries : started g.jobs + length g.queue ≡ sum (length g.jobs) x.queue_entries
  all_queue_entries =
      let n : ℕ = length g.jobs in
      let q : ℕ → ℕ = (λ j. occurrences j g.queue) in
      let b : ℕ → ℕ = (λ j. started_by (job g j).label) in
      omega (
        arith,
        started_sum g.jobs,
        sum_occurrences n g.queue queue_there,
        sum_plus n q b,
        sum_same n x.queue_entries (λ j. q j + b j) (λ j h. in_queue j),
      )

  may_queue : (j : ℕ) → j < length g.jobs → x.queue_entries j ≡ 0 → MayQueue g j
  may_queue j h e = record {
    unexecuted = started_by_none (job g j).label (omega (arith, in_queue j));
    absent = omega (arith, in_queue j);
    room = omega (arith, all_queue_entries, sum_gap (length g.jobs) x.queue_entries (once x I) j h e);
  }

  pub prerequisites_finished : (j : ℕ) → 0 < x.queue_entries j → (i : ℕ) → i < length (job g j).list
      → Finished g (get_or (job g j).list i 0)
  prerequisites_finished j h i l =
      let p : ℕ = get_or (x.prerequisites j) i 0 in
      record {
        job = p;
        found = (K.jobs j).known.found i l;
        finished = (K.jobs p).label ∙ all_finished_lem x I j h i (omega (arith, (K.jobs j).known.same_length));
      }

  -- ---- the spoiled jobs
  -- the failed prerequisite of a spoiled job
  pub spoiled_among : (j : ℕ) → (job g j).spoiled ≡ true → FailedAmong g (job g j).list
  spoiled_among j e =
      let o = I.spoiling.spoiled_rightly j (sym (K.jobs j).spoiled ∙ e) in
      let within : o.place < length (job g j).list = omega (arith, o.within, (K.jobs j).known.same_length) in
      record {
        place = o.place;
        within = within;
        job = get_or (x.prerequisites j) o.place 0;
        found = (K.jobs j).known.found o.place within;
        failed = (K.jobs (get_or (x.prerequisites j) o.place 0)).failed ∙ o.there;
      }

  -- a failed job of the list is the prerequisite at its place
  pub failed_there : (j : ℕ) (o : FailedAmong g (job g j).list)
      → x.failed (get_or (x.prerequisites j) o.place 0) ≡ true
  failed_there j o =
      let p : ℕ = get_or (x.prerequisites j) o.place 0 in
      let same : o.job ≡ p = at_injective o.job p
      (sym o.found ∙ (K.jobs j).known.found o.place o.within) in
      ap x.failed (sym same) ∙ sym (K.jobs o.job).failed ∙ o.failed

  entered_spoiled : (j : ℕ) → 0 < x.queue_entries j → FailedAmong g (job g j).list → (job g j).spoiled ≡ true
  entered_spoiled j h o =
      let within : o.place < length (x.prerequisites j) =
      omega (arith, o.within, (K.jobs j).known.same_length) in
      (K.jobs j).spoiled ∙ spoiled_by_lem x I j (all_linked x I j h) (all_settled x I j h) o.place within
      (none_waits x I j h o.place within) (failed_there j o)

  -- ---- the calls
  module _ (w : ℕ) where
    linking_sound : (a : Arguments) (j i : ℕ) (t : Tally) → (g.workers w).call ≡ linking a j i t → Linking g a j i t
    linking_sound a j i t f =
        let o : LinkRel g.jobs x.linked x.tally x.noted a j i t =
        own_call s g r x K I w (linking a j i t) f in
        let at_stage : x.stage w ≡ adding j = own_stage s g r x K I w (linking a j i t) f in
        let long : length (x.prerequisites j) ≡ a.count = long_list s g r x K I w a j i t f in
        record {
          right = o.right;
          within = omega (arith, o.place, I.counts.linked_within j);
          there = o.there;
          list = o.list;
          tallied = omega (arith, o.place, o.tallied, I.counts.balance j, I.counts.count_within j);
          covered = omega (arith, o.tallied, (K.jobs j).count, I.counts.balance j, I.counts.linked_within j);
          found = λ q h. record {
            job = get_or (x.prerequisites j) q 0;
            found = rw (← o.list) ((K.jobs j).known.found q (omega (arith, (K.jobs j).known.same_length)));
          };
          queues = λ full test.
              let left_eq : (job g j).count - t.count ≡ x.count j - x.tally j =
              omega (arith, (K.jobs j).count, o.tallied) in
              let same_test : settles ((job g j).count - t.count) t.count a.count
              ≡ settles (x.count j - x.tally j) (x.tally j) (length (x.prerequisites j))
              = rw (left_eq, ← o.tallied, long) refl in
              may_queue j o.there
              (omega (arith, settles_right x I w j at_stage (omega (arith, o.place)), ap bit (sym same_test ∙ test)));
        }

    notifying_sound : (p k : ℕ) (b : Bool) → (g.workers w).call ≡ notifying p k b → Notifying g p k b
    notifying_sound p k b f =
        let o : NotifyRel g.jobs x.served x.dependents x.failed p k b =
        own_call s g r x K I w (notifying p k b) f in
        let at_stage : x.stage w ≡ finishing p = own_stage s g r x K I w (notifying p k b) f in
        let j : ℕ = get_or (job g p).dependents k 0 in
        let counted : 0 < x.count j = notify_counted s g r x K I w p k b f in
        let below : k < length (job g p).dependents = omega (arith, o.left, ap length (K.jobs p).dependents) in
        record {
          there = o.there;
          finished = (K.jobs p).label ∙ I.finisher_finished w p (I.finishers.to w p at_stage);
          outcome = (K.jobs p).failed ∙ sym o.outcome;
          within = below;
          counted = omega (arith, (K.jobs j).count);
          queues = λ one. may_queue j
              (rw (K.jobs p).dependents (omega (arith, K.size, (I.bounds.dependents_there p).at k o.left)))
              (omega (arith, I.gates.enters j, (K.jobs j).count));
        }

    call_sound : (o : Option ℕ) (c : Call) → (g.workers w).held ≡ o → (g.workers w).call ≡ c → CallSound g o c
    call_sound o idle e f = tt
    call_sound o (looking a i) e f = own_call s g r x K I w (looking a i) f
    call_sound o (linking a j i t) e f = linking_sound a j i t f
    call_sound none (marking b) e f = rw e at (rw f at (K.workers w).paced)
    call_sound (some p) (marking b) e f = tt
    call_sound o (notifying p k b) e f = notifying_sound p k b f

  pub is_sound : rules.Sound s g
  is_sound = record {
    jobs = K.jobs_room;
    arcs = K.arcs_room;
    minutes = K.minutes;
    names = λ i j h l e. at_injective i j
        (sym ((K.jobs i).known.named (omega (arith, K.size)))
        ∙ rw e ((K.jobs j).known.named (omega (arith, K.size))));
    counts = λ j. omega (
      arith,
      (K.jobs j).count,
      I.counts.count_within j,
      (K.jobs j).known.same_length,
      (K.jobs j).known.short,
    );
    classes = λ j. (K.jobs j).known.within;
    dependents = λ p i h.
        rw (K.jobs p).dependents (omega
        (arith, K.size, (I.bounds.dependents_there p).at i (omega (arith, ap length (K.jobs p).dependents))));
    queue_there = queue_there;
    queue_unexecuted = λ j h. started_by_none (job g j).label (omega (arith, in_queue j, once x I j));
    queue_once = λ j. omega (arith, in_queue j, once x I j);
    queue_ready = λ j h. prerequisites_finished j (omega (arith, in_queue j));
    queue_room = omega (arith, all_queue_entries, sum_ones (length g.jobs) x.queue_entries (once x I));
    spoiled_by_lem = spoiled_among;
    spoiled_jobs = λ j h. (spoiled_among j, entered_spoiled j (omega (arith, in_queue j)));
    ends_failed = λ j e z. (K.jobs j).failed
        ∙ I.spoiling.spoiled_fails j (sym (K.jobs j).label ∙ e) (sym (K.jobs j).spoiled ∙ z);
    unended = λ j u. (K.jobs j).failed ∙ unfinished_good x I j (λ z. u ((K.jobs j).label ∙ z));
    held_there = λ w j e. omega (arith, K.size, held_there x I w j (sym (K.workers w).held ∙ e));
    held_executing = λ w j e. (K.jobs j).label ∙ I.held_executing w j (sym (K.workers w).held ∙ e);
    held_once = λ v w j e f. sym (I.held_by v j (sym (K.workers v).held ∙ e))
        ∙ I.held_by w j (sym (K.workers w).held ∙ f);
    calls = λ w. call_sound w (g.workers w).held (g.workers w).call refl refl;
    alone = λ v w j i k t u a b e f. some-injective v w
        (sym (I.adders.to v j (own_stage s g r x K I v (linking a j i t) e))
        ∙ I.adders.to w j (own_stage s g r x K I w (linking b j k u) f));
  }

pub sound : {s : Sizes} {g : Graph} {r : Reading} {e : ℕ → ℕ} → History s g r e → rules.Sound s g
sound {s} {g} {r} history = let o = reached history in is_sound s g r o.state o.kept o.invariant

pub soundly : {s : Sizes} (g : Graph) (r : Reading) (e : ℕ → ℕ) → History s g r e → rules.Sound s g
soundly g r e history = sound history
