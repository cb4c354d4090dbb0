-- Handing out and marking by the rules keep step with the maps.
use Rattle.std.specs.Prelude.{◌≡◌, refl, ◌≢◌, true, false, get_or, set}
use Rattle.std.proofs.Math.Path.{sym, ap}
use Rattle.std.proofs.Common.{◌∙◌, length-set}
use Rattle.std.proofs.Math.Bool.{Bool}
use Rattle.std.proofs.Math.Option.{none, some}
use mathlib.Core.List.{List, [], ◌∷◌, ◌++◌}
use Prim.Native.Nat.{ℕ, ◌+◌, ◌<◌}
use native.Mathlib.Omega.{arith}
use Rattle.std.proofs.Math.Decide.{ℕ_discrete}
use Rattle.std.proofs.Math.ListN.{length}
use Rattle.def_basics.specs.Base.{update, contains, occurrences}
use Rattle.def_basics.specs.Laws.{update_same, update_other, set_all}
use Rattle.def_terms.specs.Terms.{Label, executing, finished, finish_of}
use Rattle.def_terms.specs.Order.{without}
use Rattle.def_terms.specs.OrderLaws.{first_out}
use Rattle.def_terms.specs.declared.Sizes.{Sizes}
use Rattle.def_rules.specs.Rules.{Job, idle, marking, notifying, Graph, no_job, job, marked, handed_out, next_out}
use Rattle.def_rules.specs.Rules.{order}
use Rattle.def_call_order.specs.Calls.{Pending, Reading, becomes, finish_ended}
use Rattle.def_basics.specs.Counting.{hit, hit_same}
use Rattle.thm_rules_invariant.specs.State.{apart, finishing, State, hand, mark, close}
use Rattle.thm_rules_invariant.specs.Invariant.{Invariant, finished_not_unexecuted, executing_not_finished}
use Rattle.thm_rules_invariant.specs.Invariant.{entered_there}
use Rattle.thm_rules_invariant.specs.Invariant.{held_there}
use Rattle.thm_rules_invariant.specs.Spoiling.{LastsFrom, hand_lasts, mark_lasts}
use Rattle.thm_rules_invariant.specs.Finishing.{out_waits, hand_keeps, mark_keeps, close_keeps}
use Rattle.thm_rules_invariant.specs.Names.{Extends, extends_set, contains_snoc}
use Rattle.thm_rules_invariant.specs.Relation.{Kept, known_keeps, JobRel, JobRelAt, FinishEnded, added_keeps}
use Rattle.thm_rules_invariant.specs.Turns.{Next, own_stage, own_call, workers_after}

module _ (s : Sizes) (g : Graph) (r : Reading) (x : State) (K : Kept s g r x) (I : Invariant x) (w : ℕ) where
  -- ---- a job's label and outcome change, and the outcomes are those of the map `to`
  module _ (j : ℕ) (there : j < length g.jobs) (l : Label) (b : Bool) where
    abbrev changed : Job
    changed =
        let y = job g j in
        record {
          name = y.name;
          label = l;
          count = y.count;
          class = y.class;
          grower = y.grower;
          list = y.list;
          dependents = y.dependents;
          failed = b;
          spoiled = y.spoiled;
        }

    abbrev relabelled : List Job
    relabelled = set g.jobs j changed

    pub relabelled_extends : Extends g.jobs relabelled
    relabelled_extends = extends_set g.jobs j changed refl refl

    pub relabelled_length : length relabelled ≡ length g.jobs
    relabelled_length = length-set g.jobs j changed

    pub relabelled_jobs : (to : ℕ → Bool) → to j ≡ b → ((k : ℕ) → k ≢ j → to k ≡ x.failed k) → (k : ℕ)
        → JobRel relabelled x.size k (update x.label j l k) (x.count k) (x.dependents k) (x.prerequisites k)
        (to k) (x.spoiled k) (get_or relabelled k no_job)
    relabelled_jobs to here else = set_all (λ k u.
        JobRel relabelled x.size k (update x.label j l k) (x.count k) (x.dependents k) (x.prerequisites k)
        (to k) (x.spoiled k) u)
        g.jobs j changed no_job there
        (let o = K.jobs j in record {
          label = sym (update_same x.label j l);
          count = o.count;
          dependents = o.dependents;
          failed = sym here;
          spoiled = o.spoiled;
          known = known_keeps relabelled_extends o.known;
        })
        (λ k u. let o = K.jobs k in record {
          label = o.label ∙ sym (update_other x.label j l k u);
          count = o.count;
          dependents = o.dependents;
          failed = o.failed ∙ sym (else k u);
          spoiled = o.spoiled;
          known = known_keeps relabelled_extends o.known;
        })

  -- ---- a get
  pub handing : (j : ℕ) → (g.workers w).call ≡ idle → next_out g ≡ some j
      → Next s g x (handed_out g w j (without j g.queue)) r
  unfolding hit
  handing j f e =
      let q : List ℕ = without j g.queue in
      let has : (k : ℕ) → occurrences k g.queue ≡ hit k j + occurrences k q =
      (first_out (order g) g.queue j e).has in
      let here : (k : ℕ) → occurrences k x.queue ≡ hit k j + occurrences k q =
      (λ k. ap (occurrences k) (sym K.queue) ∙ has k) in
      let there : j < length g.jobs =
      omega (
        arith,
        K.size,
        entered_there x I j
            (omega (arith, has j, hit_same j, I.queued j, ap (occurrences j) K.queue)),
      ) in
      let y : State = hand x w j q in
      let b : Bool = (job g j).failed in
      let further : Extends g.jobs (relabelled j there executing b) = relabelled_extends j there executing b in
      let longer : length (relabelled j there executing b) ≡ length g.jobs =
      relabelled_length j there executing b in
      let last = hand_lasts x I w j q (out_waits x I w j q here) in
      let own : r.pending w ≡ Pending.idle = rw f at (K.workers w).paced in
      record {
        state = y;
        invariant = hand_keeps x I w j q here;
        lasting = last;
        grown = λ k. omega (arith, has k);
        kept = record {
          jobs_room = omega (arith, longer, K.jobs_room);
          arcs_room = K.arcs_room;
          minutes = K.minutes;
          size = longer ∙ K.size;
          queue = refl;
          jobs = relabelled_jobs j there executing b x.failed (sym (K.jobs j).failed) (λ k z. refl);
          workers = λ v. rw (← (same_pending v (r.pending w) refl))
              (workers_after s g r x K I w (handed_out g w j q) y (r.pending w) (record { held = some j; call = idle })
              further (omega (arith, longer)) last
              (record {
                held = sym (update_same x.held w (some j));
                stage = own_stage s g r x K I w idle f;
                call = tt;
                paced = own;
              })
              (λ u z. record {
                held = sym (update_other x.held w (some j) u z);
                stage = refl;
                linked = λ k b. refl;
                tally = λ k b. refl;
                noted = λ k b. refl;
                served = λ p b. refl;
                dependents = λ p. omega arith;
              }) v);
          added = λ name b. added_keeps further (K.added name b);
          finished = λ name b.
              let o = K.finished name b in
              record {
                job = o.job;
                found = further.found _ _ o.found;
                ended = o.ended;
                finished = update_other x.label j executing o.job
                    (λ z. finished_not_unexecuted (cc (out_waits x I w j q here, o.finished))) ∙ o.finished;
              };
        };
      }
    where
      same_pending : (v : ℕ) (p : Pending) → r.pending w ≡ p → update r.pending w p v ≡ r.pending v
      same_pending v p z = elim (ℕ_discrete v w) [
        | yes u ↦ rw u (update_same r.pending w p ∙ sym z)
        | no u ↦ update_other r.pending w p v u
      ]

  -- ---- the mark
  module _ (p : ℕ) (b : Bool) (f : (g.workers w).call ≡ marking b) (e : (g.workers w).held ≡ some p) where
    marked_held : x.held w ≡ some p
    marked_held = sym (K.workers w).held ∙ e

    marked_there : p < length g.jobs
    marked_there = omega (arith, K.size, held_there x I w p marked_held)

    marked_stage : x.stage w ≡ apart
    marked_stage = own_stage s g r x K I w (marking b) f

    marked_unserved : x.served p ≡ 0
    marked_unserved = I.served_none p (λ z. executing_not_finished (cc (I.held_executing w p marked_held)))

    -- good is brought only of a job that is not spoiled
    marked_right : b ≡ false → x.spoiled p ≡ false
    marked_right = own_call s g r x K I w (marking b) f p e

    marked_invariant : Invariant (mark x w p b)
    marked_invariant = mark_keeps x I w p marked_stage marked_held b marked_right

    marked_lasts : LastsFrom x (mark x w p b)
    marked_lasts = mark_lasts x I w p b (I.held_executing w p marked_held) marked_right

    further : Extends g.jobs (relabelled p marked_there finished b)
    further = relabelled_extends p marked_there finished b

    longer : length (relabelled p marked_there finished b) ≡ length g.jobs
    longer = relabelled_length p marked_there finished b

    marked_jobs : (k : ℕ)
        → JobRelAt (relabelled p marked_there finished b) (mark x w p b) k
        (get_or (relabelled p marked_there finished b) k no_job)
    marked_jobs = relabelled_jobs p marked_there finished b (update x.failed p b) (update_same x.failed p b)
        (update_other x.failed p b)

    -- a finish that had ended is of another job
    another : (name : ℕ) (o : FinishEnded g.jobs x.label x.finisher name) → o.job ≢ p
    another name o z = executing_not_finished (cc (I.held_executing w p marked_held, o.finished))

    pub marking_on : 0 < length (job g p).dependents
        → Next s g x (marked g w p b (notifying p 0 b)) (becomes r w (Pending.finishing (finish_of (job g p).name b) 1))
    marking_on h = record {
      state = mark x w p b;
      invariant = marked_invariant;
      lasting = marked_lasts;
      grown = λ k. omega arith;
      kept = record {
        jobs_room = omega (arith, longer, K.jobs_room);
        arcs_room = K.arcs_room;
        minutes = K.minutes;
        size = longer ∙ K.size;
        queue = K.queue;
        jobs = marked_jobs;
        workers = workers_after s g r x K I w (marked g w p b (notifying p 0 b)) (mark x w p b)
            (Pending.finishing (finish_of (job g p).name b) 1) (record { held = none; call = notifying p 0 b })
            further (omega (arith, longer)) marked_lasts
            (record {
              held = sym (update_same x.held w none);
              stage = update_same x.stage w (finishing p);
              call = record {
                there = omega (arith, longer, marked_there);
                place = sym marked_unserved;
                left = omega (arith, ap length (K.jobs p).dependents);
                outcome = sym (update_same x.failed p b);
              };
              paced = ap (λ (z : ℕ). Pending.finishing (finish_of z b) 1) (sym (further.name p marked_there));
            })
            (λ v z. record {
              held = sym (update_other x.held w none v z);
              stage = sym (update_other x.stage w (finishing p) v z);
              linked = λ k b. refl;
              tally = λ k b. refl;
              noted = λ k b. refl;
              served = λ q b. refl;
              dependents = λ q. omega arith;
            });
        added = λ name b. added_keeps further (K.added name b);
        finished = λ name b.
            let o = K.finished name b in
            record {
              job = o.job;
              found = further.found _ _ o.found;
              finished = update_other x.label p finished o.job (another name o) ∙ o.finished;
              ended = update_other x.finisher p (some w) o.job (another name o) ∙ o.ended;
            };
      };
    }

    abbrev ended_state : State
    ended_state = close (mark x w p b) w p

    was_finished : (name : ℕ) (c : Bool) → contains name r.finished ≡ c
        → contains name (r.finished ++ ((job g p).name ∷ [])) ≡ true
        → FinishEnded (relabelled p marked_there finished b) ended_state.label ended_state.finisher name
    was_finished name true c h =
        let o = K.finished name c in
        record {
          job = o.job;
          found = further.found _ _ o.found;
          finished = update_other x.label p finished o.job (another name o) ∙ o.finished;
          ended = update_other (update x.finisher p (some w)) p none o.job (another name o)
              ∙ update_other x.finisher p (some w) o.job (another name o) ∙ o.ended;
        }
    was_finished name false c h =
        let z : name ≡ (job g p).name = contains_snoc name (job g p).name r.finished h c in
        record {
          job = p;
          found = further.found name p (rw z ((K.jobs p).known.named (omega (arith, K.size, marked_there))));
          finished = update_same x.label p finished;
          ended = update_same (update x.finisher p (some w)) p none;
        }

    pub marking_end : length (job g p).dependents ≡ 0
        → Next s g x (marked g w p b idle) (becomes (finish_ended r (job g p).name) w Pending.idle)
    marking_end h = record {
      state = ended_state;
      grown = λ k. omega arith;
      lasting = marked_lasts;
      invariant = close_keeps (mark x w p b) marked_invariant w p
          (update_same x.stage w (finishing p))
          (omega (arith, ap length (K.jobs p).dependents));
      kept = record {
        jobs_room = omega (arith, longer, K.jobs_room);
        arcs_room = K.arcs_room;
        minutes = K.minutes;
        size = longer ∙ K.size;
        queue = K.queue;
        jobs = marked_jobs;
        workers = workers_after s g r x K I w (marked g w p b idle) ended_state Pending.idle
            (record { held = none; call = idle }) further (omega (arith, longer)) marked_lasts
            (record {
              held = sym (update_same x.held w none);
              stage = update_same (update x.stage w (finishing p)) w apart;
              call = tt;
              paced = refl;
            })
            (λ v z. record {
              held = sym (update_other x.held w none v z);
              stage = sym (update_other (update x.stage w (finishing p)) w apart v z
                  ∙ update_other x.stage w (finishing p) v z);
              linked = λ k b. refl;
              tally = λ k b. refl;
              noted = λ k b. refl;
              served = λ q b. refl;
              dependents = λ q. omega arith;
            });
        added = λ name b. added_keeps further (K.added name b);
        finished = λ name b. was_finished name (contains name r.finished) refl b;
      };
    }
