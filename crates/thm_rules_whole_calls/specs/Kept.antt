-- Laws of what steps keep: the queue that only grows, the workers but one, the labels, the outcomes.
use Rattle.std.specs.Prelude.{◌≡◌, refl, Bool, true, false, List, [], ◌∷◌, ◌++◌, ℕ, zero, suc, get_or, set}
use Rattle.std.proofs.Common.{sym, ap, ◌∙◌, append-nil, append_assoc}
use Rattle.def_basics.specs.Laws.{update_same, update_other}
use Rattle.def_rules.specs.Rules.{Job, no_job, Call, Worker, Graph, job, turn, with_call, enqueue}
use Rattle.thm_rules_cases.specs.Base.{kept_field}
use Rattle.thm_rules_whole_calls.specs.Whole.{Grown, Kept}

-- ---- the queue
pub grown_same : (q : List ℕ) → Grown q q
grown_same q = record { more = []; so = sym (append-nil q) }

pub grown_by : (b : Bool) (q : List ℕ) (j : ℕ) → Grown q (enqueue b q j)
grown_by true q j = record { more = j ∷ []; so = refl }
grown_by false q j = grown_same q

pub grown_on : {q l m : List ℕ} → Grown q l → Grown l m → Grown q m
grown_on {q} A B = record { more = A.more ++ B.more; so = B.so ∙ rw A.so (append_assoc q A.more B.more) }

-- ---- the labels and the outcomes
-- two jobs have the same
pub record Alike (x y : Job) : Type 0 where
  pub label : x.label ≡ y.label
  pub outcome : x.failed ≡ y.failed

pub alike : {x : Job} → Alike x x
alike = record { label = refl; outcome = refl }

pub set_alike : (l : List Job) (p : ℕ) (y : Job) → Alike y (get_or l p no_job)
    → (j : ℕ) → Alike (get_or (set l p y) j no_job) (get_or l j no_job)
set_alike l p y e j = record {
  label = kept_field (λ (x : Job). x.label) l p y no_job e.label j;
  outcome = kept_field (λ (x : Job). x.failed) l p y no_job e.outcome j;
}

-- a job that enters has those of no job
pub entered_alike : (l : List Job) (x : Job) → Alike x no_job
    → (j : ℕ) → Alike (get_or (l ++ (x ∷ [])) j no_job) (get_or l j no_job)
entered_alike [] x e zero = e
entered_alike [] x e (suc j) = alike
entered_alike (y ∷ l) x e zero = alike
entered_alike (y ∷ l) x e (suc j) = entered_alike l x e j

-- ---- all of it
pub kept_on : {w : ℕ} {g h k : Graph} → Kept w g h → Kept w h k → Kept w g k
kept_on A B = record {
  held = B.held ∙ A.held;
  others = λ v z. B.others v z ∙ A.others v z;
  labels = λ j. B.labels j ∙ A.labels j;
  outcomes = λ j. B.outcomes j ∙ A.outcomes j;
  queue = grown_on A.queue B.queue;
}

module _ (g : Graph) (w : ℕ) where
  pub kept_same : Kept w g g
  kept_same = record {
    held = refl;
    others = λ v z. refl;
    labels = λ j. refl;
    outcomes = λ j. refl;
    queue = grown_same g.queue;
  }

  -- only the worker's call changes among the workers
  pub turned : (h : Graph) (c : Call) → h.workers ≡ turn g w c → ((j : ℕ) → Alike (job h j) (job g j))
      → Grown g.queue h.queue → Kept w g h
  turned h c e l q = record {
    held = ap (λ (f : ℕ → Worker). (f w).held) e ∙ ap (λ (x : Worker). x.held) (update_same g.workers w _);
    others = λ v z. ap (λ (f : ℕ → Worker). f v) e ∙ update_other g.workers w _ v z;
    labels = λ j. (l j).label;
    outcomes = λ j. (l j).outcome;
    queue = q;
  }

  pub call_turned : (c : Call) → (turn g w c w).call ≡ c
  call_turned c = ap (λ (x : Worker). x.call) (update_same g.workers w _)

  pub with_call_lem : (c : Call) → Kept w g (with_call g w c)
  with_call_lem c = turned (with_call g w c) c refl (λ j. alike) (grown_same g.queue)

-- ---- every worker is idle after a call run whole, if every worker was
