-- What a step owes, what it leaves of the other workers, and the steps that change nothing but a worker's call.
use Rattle.std.specs.Prelude.{◌≡◌, refl, ◌≢◌, Bool, true, List, ℕ, ◌+◌, ◌-◌, ◌≤◌, length}
use Rattle.std.proofs.Common.{sym, ap, ◌∙◌, arith}
use Rattle.std.proofs.Math.Option.{some-injective}
use Rattle.std.proofs.Math.Decide.{ℕ_discrete}
use Rattle.def_basics.specs.Base.{update, occurrences}
use Rattle.def_basics.specs.Laws.{update_same, update_other}
use Rattle.def_minutes.specs.Rising.{is_rising}
use Rattle.def_terms.specs.declared.Sizes.{Sizes}
use Rattle.def_rules.specs.Rules.{Call, Worker, Graph, with_call, with_minutes}
use Rattle.def_book.specs.Book.{Ended}
use Rattle.def_call_order.specs.Calls.{Pending, Reading, becomes}
use Rattle.thm_rules_history.specs.History.{PacedCall}
use Rattle.thm_rules_invariant.specs.State.{apart, adding, finishing, State}
use Rattle.thm_rules_invariant.specs.Invariant.{Invariant, held_there}
use Rattle.thm_rules_invariant.specs.Spoiling.{LastsFrom, lasts_same}
use Rattle.thm_rules_invariant.specs.Names.{Extends, extends_same}
use Rattle.thm_rules_invariant.specs.Relation.{Kept, WorkerRel, CallRel, stage_of, Same, worker_keeps}

-- the state after a step from g and x to h, with the reading q
pub record Next (s : Sizes) (g : Graph) (x : State) (h : Graph) (q : Reading) : Type 0 where
  pub state : State
  pub invariant : Invariant state
  pub kept : Kept s h q state
  pub lasting : LastsFrom x state
  pub grown : (k : ℕ)
      → state.queue_entries k ≡ x.queue_entries k + (occurrences k h.queue - occurrences k g.queue)

-- the calls decided so far do not matter
pub decided_too : {s : Sizes} {g h : Graph} {x : State} {q : Reading} (l : List Ended) → Next s g x h q
    → Next s g x h (record { pending = q.pending; calls = l; added = q.added; finished = q.finished })
decided_too l n =
    let k = n.kept in
    record {
      state = n.state;
      invariant = n.invariant;
      lasting = n.lasting;
      grown = n.grown;
      kept = record {
        jobs_room = k.jobs_room;
        arcs_room = k.arcs_room;
        minutes = k.minutes;
        size = k.size;
        jobs = k.jobs;
        queue = k.queue;
        workers = k.workers;
        added = k.added;
        finished = k.finished;
      };
    }

pub same_state : (x : State) (v : ℕ) → Same x x v
same_state x v = record {
  held = refl;
  stage = refl;
  linked = λ j e. refl;
  tally = λ j e. refl;
  noted = λ j e. refl;
  served = λ p e. refl;
  dependents = λ p. omega arith;
}

module _ (s : Sizes) (g : Graph) (r : Reading) (x : State) (K : Kept s g r x) (I : Invariant x) where
  -- nothing changes
  pub stays : Next s g x g r
  stays = record { state = x; invariant = I; kept = K; lasting = lasts_same x; grown = λ k. omega arith }

  -- other minutes are loaded
  pub loads : (m : List ℕ) → is_rising m ≡ true → Next s g x (with_minutes g m) r
  loads m rising = record {
    state = x;
    invariant = I;
    lasting = lasts_same x;
    grown = λ k. omega arith;
    kept = record {
      jobs_room = K.jobs_room;
      arcs_room = K.arcs_room;
      minutes = rising;
      size = K.size;
      jobs = K.jobs;
      queue = K.queue;
      added = K.added;
      finished = K.finished;
      workers = λ v.
          worker_keeps g (with_minutes g m) x x (extends_same g.jobs) (omega arith) v (same_state x v)
          (lasts_same x) I (r.pending v) (g.workers v)
          (λ j u. omega (arith, K.size, held_there x I v j (sym (K.workers v).held ∙ u))) (K.workers v);
    };
  }

  module _ (w : ℕ) where
    pub own_stage : (c : Call) → (g.workers w).call ≡ c → x.stage w ≡ stage_of c
    own_stage c f = (K.workers w).stage ∙ ap stage_of f

    pub own_call : (c : Call) → (g.workers w).call ≡ c → CallRel g x (g.workers w).held c
    own_call c f = rw f at (K.workers w).call

    pub other_add : (j v i : ℕ) → v ≢ w → x.stage w ≡ adding j → x.stage v ≡ adding i → i ≢ j
    other_add j v i h f e z = h (some-injective v w (cc (I.adders.to w j f, I.adders.to v i e)))

    pub other_finish : (p v i : ℕ) → v ≢ w → x.stage w ≡ finishing p → x.stage v ≡ finishing i → i ≢ p
    other_finish p v i h f e z = h (some-injective v w (cc (I.finishers.to w p f, I.finishers.to v i e)))

    -- the workers after a change of w's
    pub workers_after : (h : Graph) (y : State) (p : Pending) (z : Worker) → Extends g.jobs h.jobs
        → length g.jobs ≤ length h.jobs → LastsFrom x y
        → WorkerRel h y w p z → ((v : ℕ) → v ≢ w → Same x y v) → (v : ℕ)
        → WorkerRel h y v (update r.pending w p v) (update g.workers w z v)
    workers_after h y p z e l last own same v = elim (ℕ_discrete v w) [
      | yes q ↦ rw (q, update_same r.pending w p, update_same g.workers w z) own
      | no q ↦ rw (update_other r.pending w p v q, update_other g.workers w z v q)
          (worker_keeps g h x y e l v (same v q) last I (r.pending v) (g.workers v)
          (λ j u. omega (arith, K.size, held_there x I v j (sym (K.workers v).held ∙ u))) (K.workers v))
    ]

    -- a call that becomes another, with other registers of the adds
    abbrev pub relinked : (ℕ → ℕ) → (ℕ → ℕ) → (ℕ → Bool) → State
    relinked linked tally noted = record {
      size = x.size;
      label = x.label;
      count = x.count;
      dependents = x.dependents;
      queue = x.queue;
      held = x.held;
      stage = x.stage;
      prerequisites = x.prerequisites;
      linked = linked;
      tally = tally;
      served = x.served;
      queue_entries = x.queue_entries;
      gate = x.gate;
      adder = x.adder;
      finisher = x.finisher;
      holder = x.holder;
      failed = x.failed;
      spoiled = x.spoiled;
      noted = noted;
    }

    pub called : (c : Call) (p : Pending) (linked tally : ℕ → ℕ) (noted : ℕ → Bool)
        → Invariant (relinked linked tally noted)
        → WorkerRel (with_call g w c) (relinked linked tally noted) w p (record { held = (g.workers w).held; call = c })
        → ((v : ℕ) → v ≢ w → Same x (relinked linked tally noted) v) → Next s g x (with_call g w c) (becomes r w p)
    called c p linked tally noted kept own same = record {
      state = relinked linked tally noted;
      invariant = kept;
      lasting = lasts_same x;
      grown = λ k. omega arith;
      kept = record {
        jobs_room = K.jobs_room;
        arcs_room = K.arcs_room;
        minutes = K.minutes;
        size = K.size;
        jobs = K.jobs;
        queue = K.queue;
        added = K.added;
        finished = K.finished;
        workers = workers_after (with_call g w c) (relinked linked tally noted) p
            (record { held = (g.workers w).held; call = c }) (extends_same g.jobs) (omega arith) (lasts_same x) own
            same;
      };
    }

    -- a call that works on no job becomes another
    pub turned : (c : Call) (p : Pending) → x.stage w ≡ apart → stage_of c ≡ apart
        → CallRel (with_call g w c) x (g.workers w).held c
        → PacedCall (with_call g w c) (g.workers w).held c p → Next s g x (with_call g w c) (becomes r w p)
    turned c p f e d q = called c p x.linked x.tally x.noted I
        (record { held = (K.workers w).held; stage = f ∙ sym e; call = d; paced = q }) (λ v z. same_state x v)
