-- Notifying by the rules keeps step with the maps; the last dependent ends the finish.
use Rattle.std.specs.Prelude.{◌≡◌, refl, ◌≢◌, Bool, true, false, ◌||◌, List, [], ◌∷◌, ◌++◌, ℕ, suc, ◌+◌, ◌-◌, ◌≤◌, ◌<◌, eqb, length, get_or, set}
use Rattle.std.proofs.Common.{sym, ap, ◌∙◌, arith, eqb-true, length-set}
use Rattle.std.proofs.Math.Option.{none}
use Rattle.std.proofs.Math.Decide.{ℕ_discrete}
use Rattle.std.proofs.lemmas.Bool.{eqb-false}
use Rattle.def_basics.specs.Base.{update, contains, occurrences}
use Rattle.def_basics.specs.Laws.{update_same, update_at, update_other, set_all}
use Rattle.def_terms.specs.Terms.{finish_of, bit}
use Rattle.def_terms.specs.declared.Sizes.{Sizes}
use Rattle.def_rules.specs.Rules.{Job, idle, notifying, Graph, no_job, job, lowered, notified, enqueue}
use Rattle.def_call_order.specs.Calls.{Pending, Reading, becomes, finish_ended}
use Rattle.def_basics.specs.Counting.{hit_same, hit_other}
use Rattle.thm_rules_invariant.specs.State.{apart, finishing, State, hit_if, serve, close}
use Rattle.thm_rules_invariant.specs.Invariant.{Invariant, occurrences_enqueue, counted_there}
use Rattle.thm_rules_invariant.specs.Spoiling.{LastsFrom, serve_lasts}
use Rattle.thm_rules_invariant.specs.Finishing.{served_counted, serve_waits, serve_keeps, close_keeps}
use Rattle.thm_rules_invariant.specs.Names.{Extends, extends_set, contains_snoc}
use Rattle.thm_rules_invariant.specs.Relation.{Kept, known_keeps, JobRelAt, NotifyRel, FinishEnded}
use Rattle.thm_rules_invariant.specs.Relation.{added_keeps, finished_keeps}
use Rattle.thm_rules_invariant.specs.Turns.{Next, own_stage, own_call, other_finish, workers_after}

-- whether a notified job is queued is right
module _ (x : State) (I : Invariant x) (j : ℕ) (some_left : 0 < x.count j) where
  by_test : (b : Bool) → eqb (x.count j - 1) 0 ≡ b → x.queue_entries j + bit b ≡ 1 - ((x.count j - 1) + x.gate j)
  by_test true e =
      let last = eqb-true (x.count j - 1) 0 e in
      omega (arith, I.gates.enters j, I.counts.count_within j, I.gates.gate_within j, last)
  by_test false e = let more : x.count j - 1 ≢ 0 = eqb-false (x.count j - 1) 0 e in omega (arith, I.gates.enters j)

  pub serves_right : x.queue_entries j + bit (eqb (x.count j - 1) 0) ≡ 1 - ((x.count j - 1) + x.gate j)
  serves_right = by_test (eqb (x.count j - 1) 0) refl

module _ (s : Sizes) (g : Graph) (r : Reading) (x : State) (K : Kept s g r x) (I : Invariant x) (w : ℕ) where
  -- ---- a dependent is notified
  module _ (p k : ℕ) (o : Bool) (f : (g.workers w).call ≡ notifying p k o) where
    pub own_notify : NotifyRel g.jobs x.served x.dependents x.failed p k o
    own_notify = own_call s g r x K I w (notifying p k o) f

    pub own_finishing : x.stage w ≡ finishing p
    own_finishing = own_stage s g r x K I w (notifying p k o) f

    abbrev j : ℕ
    j = get_or (job g p).dependents k 0

    pub at_served : get_or (x.dependents p) (x.served p) 0 ≡ j
    at_served = rw (← own_notify.place, ← (K.jobs p).dependents) refl

    pub is_left : x.served p < length (x.dependents p)
    is_left = omega (arith, own_notify.place, own_notify.left)

    pub notify_counted : 0 < x.count j
    notify_counted = served_counted x I w p j true own_finishing is_left at_served

    abbrev test : Bool
    test = eqb ((job g j).count - 1) 0

    notified_right : x.queue_entries j + bit test ≡ 1 - ((x.count j - 1) + x.gate j)
    notified_right = rw (K.jobs j).count (serves_right x I j notify_counted)

    abbrev served_state : State
    served_state = serve x p j test (x.failed p)

    served_invariant : Invariant served_state
    served_invariant = serve_keeps x I w p j test own_finishing is_left at_served notified_right

    served_lasts : LastsFrom x served_state
    served_lasts = serve_lasts x I p j test notify_counted
        (serve_waits x I w p j test own_finishing is_left at_served)

    abbrev told : Job
    told = lowered (job g j) ((job g j).count - 1) o

    abbrev later : List Job
    later = set g.jobs j told

    later_extends : Extends g.jobs later
    later_extends = extends_set g.jobs j told refl refl

    later_length : length later ≡ length g.jobs
    later_length = length-set g.jobs j told

    later_jobs : (i : ℕ) → JobRelAt later served_state i (get_or later i no_job)
    later_jobs = set_all (λ i u. JobRelAt later served_state i u) g.jobs j told no_job
        (omega (arith, K.size, counted_there x I j notify_counted))
        (let y = K.jobs j in record {
          label = y.label;
          count = omega (arith, y.count, hit_same j);
          dependents = y.dependents;
          failed = y.failed;
          spoiled = rw (y.spoiled, own_notify.outcome)
              (sym (update_same x.spoiled j (x.spoiled j || x.failed p)));
          known = known_keeps later_extends y.known;
        })
        (λ i u. let y = K.jobs i in record {
          label = y.label;
          count = omega (arith, y.count, hit_other i j u);
          dependents = y.dependents;
          failed = y.failed;
          spoiled = y.spoiled ∙ sym (update_other x.spoiled j (x.spoiled j || x.failed p) i u);
          known = known_keeps later_extends y.known;
        })

    grown_by : (i : ℕ)
        → x.queue_entries i + hit_if test i j
        ≡ x.queue_entries i + (occurrences i (enqueue test g.queue j) - occurrences i g.queue)
    grown_by i = omega (arith, occurrences_enqueue test g.queue j i)

    served_else : (v q : ℕ) → v ≢ w → x.stage v ≡ finishing q
        → x.served q ≡ update x.served p (suc (x.served p)) q
    served_else v q z b = sym (update_other x.served p (suc (x.served p)) q
        (other_finish s g r x K I w p v q z own_finishing b))

    pub notifying_on : suc k < length (job g p).dependents
        → Next s g x (notified g w j o (notifying p (suc k) o))
        (becomes r w (Pending.finishing (finish_of (job g p).name o) (suc (suc k))))
    notifying_on h = record {
      state = served_state;
      invariant = served_invariant;
      lasting = served_lasts;
      grown = grown_by;
      kept = record {
        jobs_room = omega (arith, later_length, K.jobs_room);
        arcs_room = K.arcs_room;
        minutes = K.minutes;
        size = later_length ∙ K.size;
        queue = ap (λ (l : List ℕ). enqueue test l j) K.queue;
        jobs = later_jobs;
        workers = workers_after s g r x K I w (notified g w j o (notifying p (suc k) o)) served_state
            (Pending.finishing (finish_of (job g p).name o) (suc (suc k))) _ later_extends
            (omega (arith, later_length)) served_lasts
            (record {
              held = (K.workers w).held;
              stage = own_finishing;
              call = record {
                there = omega (arith, later_length, own_notify.there);
                place = ap suc own_notify.place ∙ sym (update_same x.served p (suc (x.served p)));
                left = omega (arith, ap length (K.jobs p).dependents);
                outcome = own_notify.outcome;
              };
              paced = ap (λ (z : ℕ). Pending.finishing (finish_of z o) (suc (suc k)))
                  (sym (later_extends.name p own_notify.there));
            })
            (λ v z. record {
              held = refl;
              stage = refl;
              linked = λ i b. refl;
              tally = λ i b. refl;
              noted = λ i b. refl;
              served = λ q b. served_else v q z b;
              dependents = λ q. omega arith;
            });
        added = λ name b. added_keeps later_extends (K.added name b);
        finished = λ name b. finished_keeps later_extends (K.finished name b);
      };
    }

    last_finished : (name : ℕ) (c : Bool) → contains name r.finished ≡ c
        → contains name (r.finished ++ ((job g p).name ∷ [])) ≡ true
        → FinishEnded later x.label (update x.finisher p none) name
    last_finished name true c b =
        let o = K.finished name c in
        record {
          job = o.job;
          found = later_extends.found _ _ o.found;
          finished = o.finished;
          ended = elim (ℕ_discrete o.job p) [
            | yes z ↦ update_at x.finisher p none o.job z
            | no z ↦ update_other x.finisher p none o.job z ∙ o.ended
          ];
        }
    last_finished name false c b =
        let z : name ≡ (job g p).name = contains_snoc name (job g p).name r.finished b c in
        record {
          job = p;
          found = later_extends.found name p
              (rw z ((K.jobs p).known.named (omega (arith, K.size, own_notify.there))));
          finished = I.finisher_finished w p (I.finishers.to w p own_finishing);
          ended = update_same x.finisher p none;
        }

    pub notifying_end : length (job g p).dependents ≤ suc k
        → Next s g x (notified g w j o idle) (becomes (finish_ended r (job g p).name) w Pending.idle)
    notifying_end h = record {
      state = close served_state w p;
      lasting = served_lasts;
      grown = grown_by;
      invariant = close_keeps served_state served_invariant w p own_finishing
          (omega (
            arith,
            own_notify.place,
            ap length (K.jobs p).dependents,
            update_same x.served p (suc (x.served p)),
          ));
      kept = record {
        jobs_room = omega (arith, later_length, K.jobs_room);
        arcs_room = K.arcs_room;
        minutes = K.minutes;
        size = later_length ∙ K.size;
        queue = ap (λ (l : List ℕ). enqueue test l j) K.queue;
        jobs = later_jobs;
        workers = workers_after s g r x K I w (notified g w j o idle)
            (close served_state w p) Pending.idle _ later_extends (omega (arith, later_length)) served_lasts
            (record { held = (K.workers w).held; stage = update_same x.stage w apart; call = tt; paced = refl })
            (λ v z. record {
              held = refl;
              stage = sym (update_other x.stage w apart v z);
              linked = λ i b. refl;
              tally = λ i b. refl;
              noted = λ i b. refl;
              served = λ q b. served_else v q z b;
              dependents = λ q. omega arith;
            });
        added = λ name b. added_keeps later_extends (K.added name b);
        finished = λ name b. last_finished name (contains name r.finished) refl b;
      };
    }
