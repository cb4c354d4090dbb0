-- Entering by the rules keeps step with the maps: the looked-up names give the prerequisites by number.
use Rattle.std.specs.Prelude.{◌≡◌, refl, ◌≢◌, List, [], ◌∷◌, ◌++◌, ℕ, suc, ◌+◌, ◌≤◌, ◌<◌, length, get_or}
use Rattle.std.proofs.Common.{sym, ap, ◌∙◌, arith, length-append}
use Rattle.std.proofs.Math.Option.{some}
use Rattle.std.proofs.Math.Seq.{get_or-append_seam}
use Rattle.def_basics.specs.Laws.{fails, update_same, update_other, length_prefix, snoc_all}
use Rattle.def_terms.specs.Terms.{unexecuted, Arguments, listed, no_tally}
use Rattle.def_terms.specs.declared.Sizes.{Sizes}
use Rattle.def_rules.specs.Rules.{Job, looking, linking, Graph, no_job, job, find, at, missing, new_job, entered}
use Rattle.def_rules.specs.Sound.{Looking}
use Rattle.def_call_order.specs.Calls.{Pending, Reading, becomes}
use Rattle.thm_rules_invariant.specs.State.{adding, State, enter}
use Rattle.thm_rules_invariant.specs.Invariant.{Invariant, Below, started_by_none, finished_not_unexecuted}
use Rattle.thm_rules_invariant.specs.Invariant.{unnoted}
use Rattle.thm_rules_invariant.specs.Invariant.{unfinished_good}
use Rattle.thm_rules_invariant.specs.Spoiling.{lasts_same}
use Rattle.thm_rules_invariant.specs.Entering.{enter_keeps}
use Rattle.thm_rules_invariant.specs.Names.{Extends, extends_append, Numbers, sought_there, seek_new}
use Rattle.thm_rules_invariant.specs.Names.{few, low}
use Rattle.thm_rules_invariant.specs.Relation.{Kept, Known, JobRelAt, WorkerRel, finished_keeps}
use Rattle.thm_rules_invariant.specs.Turns.{Next, own_stage, own_call, workers_after}

module _ (s : Sizes) (g : Graph) (r : Reading) (x : State) (K : Kept s g r x) (I : Invariant x) (w : ℕ) where
  -- ---- entering
  module _ (a : Arguments) (i : ℕ) (f : (g.workers w).call ≡ looking a i) (full : a.count ≤ i)
      (N : Numbers g (listed a)) (fresh : find g a.name ≡ missing)
      (room : length g.jobs < s.jobs) (arcs : g.reserved + a.count ≤ s.arcs) where
    abbrev n : ℕ
    n = x.size

    abbrev ps : List ℕ
    ps = N.numbers

    abbrev later : List Job
    later = g.jobs ++ (new_job a ∷ [])

    own : Looking g a i
    own = own_call s g r x K I w (looking a i) f

    long : length (listed a) ≡ a.count
    long = length_prefix a.count a.names

    further : Extends g.jobs later
    further = extends_append g.jobs (new_job a)

    longer : length later ≡ suc (length g.jobs)
    longer = omega (arith, length-append g.jobs (new_job a ∷ []))

    below : Below n ps
    below = record {
      at = λ q h. omega (
        arith,
        K.size,
        sought_there (get_or (listed a) q 0) g.jobs (get_or ps q 0)
            (N.found q (omega (arith, N.same_length))),
      );
    }

    unstarted : x.label n ≡ unexecuted
    unstarted =
        started_by_none (x.label n) (omega (arith, I.queued n, I.gates.enters n, I.gates.gate_new n (omega arith)))

    new_settled : (x.linked n ≡ length (x.prerequisites n)) × (x.tally n ≡ 0)
    new_settled = I.counts.adder_done n (I.bounds.new_adder n (omega arith))

    new_known : Known later (suc n) n ps a.name (listed a) a.class
    new_known = record {
      named = λ z. seek_new a.name g.jobs (new_job a) 0 refl fresh
          ∙ ap at (let last : 0 + length g.jobs ≡ n = omega (arith, K.size) in last);
      same_length = N.same_length;
      short = omega (arith, long, few a own.right);
      within = low a own.right;
      found = λ q h. further.found _ _ (N.found q h);
    }

    new_rel : JobRelAt later (enter x w ps) n (new_job a)
    new_rel = record {
      label = sym unstarted;
      count = omega (arith, long, N.same_length, update_same x.count n (length ps));
      dependents = sym (I.bounds.new_dependents n (omega arith));
      failed = sym (unfinished_good x I n (λ z. finished_not_unexecuted (sym z ∙ unstarted)));
      spoiled = sym (fails (x.spoiled n) (I.spoiling.spoiled_rightly n)
          (λ o. omega (arith, o.within, ap length (I.bounds.new_prerequisites n (omega arith)))));
      known = rw (update_same x.prerequisites n ps) new_known;
    }

    old_rel : (k : ℕ) → k ≢ length g.jobs → JobRelAt later (enter x w ps) k (job g k)
    old_rel k z =
        let o = K.jobs k in
        let y : k ≢ n = (λ u. z (u ∙ sym K.size)) in
        record {
          label = o.label;
          count = o.count ∙ sym (update_other x.count n (length ps) k y);
          dependents = o.dependents;
          failed = o.failed;
          spoiled = o.spoiled;
          known = rw (update_other x.prerequisites n ps k y) (record {
            named = λ h. further.found _ _ (o.known.named (omega arith));
            same_length = o.known.same_length;
            short = o.known.short;
            within = o.known.within;
            found = λ q h. further.found _ _ (o.known.found q h);
          });
        }

    new_worker : WorkerRel (entered g w a) (enter x w ps) w (Pending.adding a (a.count + 1 + 0))
        (record { held = (g.workers w).held; call = linking a (length g.jobs) 0 no_tally })
    new_worker = record {
      held = (K.workers w).held;
      stage = update_same x.stage w (adding n) ∙ ap adding (sym K.size);
      call = record {
        right = own.right;
        there = omega (arith, longer);
        list = ap (λ (y : Job). y.list) (get_or-append_seam g.jobs (new_job a) [] no_job);
        place = rw K.size
            (omega (arith, I.counts.linked_within n, ap length (I.bounds.new_prerequisites n (omega arith))));
        tallied = rw K.size (sym new_settled.1);
        noted = rw K.size (sym (unnoted x I n new_settled.1));
      };
      paced = (refl, sym (ap (λ (y : Job). y.name) (get_or-append_seam g.jobs (new_job a) [] no_job)));
    }

    pub entering : Next s g x (entered g w a) (becomes r w (Pending.adding a (a.count + 1 + 0)))
    entering = record {
      state = enter x w ps;
      invariant = enter_keeps x I w ps (own_stage s g r x K I w (looking a i) f) below;
      lasting = lasts_same x;
      grown = λ k. omega arith;
      kept = record {
        jobs_room = omega (arith, longer);
        arcs_room = arcs;
        minutes = K.minutes;
        size = longer ∙ ap suc K.size;
        queue = K.queue;
        jobs = snoc_all (λ k y. JobRelAt later (enter x w ps) k y) g.jobs (new_job a) no_job
            (rw K.size new_rel) old_rel;
        workers = workers_after s g r x K I w (entered g w a) (enter x w ps) (Pending.adding a (a.count + 1 + 0)) _
            further (omega (arith, longer)) (lasts_same x) new_worker
            (λ v z. record {
              held = refl;
              stage = sym (update_other x.stage w (adding n) v z);
              linked = λ j e. refl;
              tally = λ j e. refl;
              noted = λ j e. refl;
              served = λ p e. refl;
              dependents = λ p. omega arith;
            });
        added = λ name e.
            let o = K.added name e in
            record {
              job = o.job;
              found = further.found _ _ o.found;
              ended = update_other x.adder n (some w) o.job
                  (omega (arith, K.size, sought_there name g.jobs o.job o.found)) ∙ o.ended;
            };
        finished = λ name e. finished_keeps further (K.finished name e);
      };
    }
