-- The links and the settling of an add, and the arcs of a finish, run to the end with no item between: so many steps
-- that go on, and one that ends the call ("Steps").
use Rattle.std.specs.Prelude.{◌≡◌, refl, Bool, [], ◌∷◌, ℕ, zero, suc, ◌+◌, ◌-◌, ◌≤◌, ◌<◌, eqb, length, get_or, set}
use Rattle.std.proofs.Math.Path.{ap, ap₂}
use Rattle.std.proofs.Common.{◌∙◌, arith, length-set}
use Rattle.std.proofs.Math.Option.{none}
use Rattle.def_terms.specs.Terms as terms
use Rattle.def_terms.specs.Terms.{Arguments, Tally, tally_one}
use Rattle.def_terms.specs.Runs.{step, Result, result_of, after, events}
use Rattle.def_terms.specs.declared.Sizes.{Sizes}
use Rattle.def_terms.specs.declared.Answer.{Answer}
use Rattle.def_terms.specs.declared.Answer.TheVariants.{Going, Ended}
use Rattle.def_rules.specs.Rules.{Job, no_job, Call, idle, linking, notifying, Worker, Graph, job, turn, perform}
use Rattle.def_rules.specs.Sound.{Linking}
use Rattle.thm_rules_cases.specs.Deed as by
use Rattle.thm_rules_cases.specs.Deeds.{unbroken}
use Rattle.def_call_order.specs.Calls.{Reading}
use Rattle.thm_rules_history.specs.History.{History, then}
use Rattle.thm_rules_invariant.specs.Sound.{sound}
use Rattle.thm_rules_cases.specs.Base.{kept_field}
use Rattle.thm_rules_cases.specs.Own.{own_step}
use Rattle.thm_rules_whole_calls.specs.Whole.{steps_of, answers, through, going_to, Grown, Kept}
use Rattle.thm_rules_whole_calls.specs.Kept.{grown_same, grown_by, Alike, alike, set_alike, kept_on, turned}
use Rattle.thm_rules_whole_calls.specs.Kept.{call_turned}

-- what is left where neither labels, outcomes nor holds change, nor a job enters
pub record Ran (w : ℕ) (g later : Graph) : Type 0 where
  pub kept : Kept w g later
  pub jobs : length later.jobs ≡ length g.jobs

-- n steps go on, and the next one ends the call
pub record ToEnd (s : Sizes) (w : ℕ) (g : Graph) (n : ℕ) : Type 0 where
  pub answered : answers s g (steps_of s w (suc n)) ≡ going_to n Ended
  pub idle : ((through s g (steps_of s w (suc n))).workers w).call ≡ idle
  pub ran : Ran w g (through s g (steps_of s w (suc n)))

-- a step: its answer, what it leaves, and the call that it leaves
pub record Stepped (w : ℕ) (g : Graph) (x : Answer) (c : Call) (o : Result Graph) : Type 0 where
  pub answer : o.answer ≡ x
  pub ran : Ran w g o.state
  pub call : (o.state.workers w).call ≡ c

-- ---- one step
module _ (g : Graph) (w : ℕ) where
  changed : (x : Answer) (c : Call) (h : Graph) → h.workers ≡ turn g w c
      → ((j : ℕ) → Alike (job h j) (job g j)) → Grown g.queue h.queue
      → length h.jobs ≡ length g.jobs → Stepped w g x c (result_of x h)
  changed x c h e l q n = record {
    answer = refl;
    ran = record { kept = turned g w h c e l q; jobs = n };
    call = ap (λ (f : ℕ → Worker). (f w).call) e ∙ call_turned g w c;
  }

  -- one job changes, its label and outcome kept
  set_one : (x : Answer) (c : Call) (h : Graph) (p : ℕ) (y : Job) → h.workers ≡ turn g w c
      → h.jobs ≡ set g.jobs p y → y.label ≡ (job g p).label → y.failed ≡ (job g p).failed
      → Grown g.queue h.queue
      → Stepped w g x c (result_of x h)
  set_one x c h p y e f l m q =
      changed x c h e (λ j. rw f (set_alike g.jobs p y (record { label = l; outcome = m }) j)) q
      (rw f (length-set g.jobs p y))

module _ {s : Sizes} {g : Graph} {w : ℕ} where
  links : (a : Arguments) (j i : ℕ) (t : Tally) → Linking g a j i t → i < a.count
      → {x : Answer} {h : Graph} → by.Stepped s g w (linking a j i t) x h
      → (u : Tally) × Stepped w g Going (linking a j (suc i) u) (result_of x h)
  links a j i t L l (by.broken b) = absurd (unbroken g none (linking a j i t) L b)
  links a j i t L l (by.tallied p m e f) =
      (tally_one t (job g p).failed, changed g w Going _ _ refl (λ j. alike) (grown_same g.queue) refl)
  links a j i t L l (by.arc_appended p m e f) =
      (t, set_one g w Going _ _ p _ refl refl refl refl (grown_same g.queue))
  links a j i t L l (by.job_settled m) = absurd (omega arith)

  settles : {a : Arguments} {j i : ℕ} {t : Tally} {x : Answer} {h : Graph} → a.count ≤ i
      → by.Stepped s g w (linking a j i t) x h → Stepped w g Ended idle (result_of x h)
  settles l (by.broken b) = absurd (omega (arith, b.0))
  settles l (by.tallied p m e f) = absurd (omega arith)
  settles l (by.arc_appended p m e f) = absurd (omega arith)
  settles {a} {j} {i} {t} l (by.job_settled m) =
      set_one g w Ended _ _ j _ refl refl refl refl
      (grown_by (terms.settles ((job g j).count - t.count) t.count a.count) g.queue j)

  notifies_on : {p k : ℕ} {f : Bool} {x : Answer} {h : Graph} → suc k < length (job g p).dependents
      → by.Stepped s g w (notifying p k f) x h
      → Stepped w g Going (notifying p (suc k) f) (result_of x h)
      × (length (job h p).dependents ≡ length (job g p).dependents)
  notifies_on l (by.broken b) = absurd b
  notifies_on {p} {k} l (by.arc_notified m) =
      let j = get_or (job g p).dependents k 0 in (
        set_one g w Going _ _ j _ refl refl refl refl (grown_by (eqb ((job g j).count - 1) 0) g.queue j),
        kept_field (λ (x : Job). length x.dependents) g.jobs j _ no_job refl p,
      )
  notifies_on l (by.last_notified m) = absurd (omega arith)

  notifies_last : {p k : ℕ} {f : Bool} {x : Answer} {h : Graph} → length (job g p).dependents ≤ suc k
      → by.Stepped s g w (notifying p k f) x h
      → Stepped w g Ended idle (result_of x h)
  notifies_last l (by.broken b) = absurd b
  notifies_last l (by.arc_notified m) = absurd (omega arith)
  notifies_last {p} {k} l (by.last_notified m) =
      let j = get_or (job g p).dependents k 0 in
      set_one g w Ended _ _ j _ refl refl refl refl (grown_by (eqb ((job g j).count - 1) 0) g.queue j)

-- ---- to the end
module _ (s : Sizes) {w : ℕ} (h : w < s.workers) where
  last_step : (g : Graph) → Stepped w g Ended idle (perform s g (step s w)) → ToEnd s w g 0
  unfolding after events
  last_step g S = record { answered = ap (λ x. x ∷ []) S.answer; idle = S.call; ran = S.ran }

  one_more_lem : (g : Graph) {c : Call} {n : ℕ} → Stepped w g Going c (perform s g (step s w))
      → ToEnd s w (perform s g (step s w)).state n → ToEnd s w g (suc n)
  unfolding after events
  one_more_lem g S T = record {
    answered = ap₂ (λ x l. x ∷ l) S.answer T.answered;
    idle = T.idle;
    ran = record { kept = kept_on S.ran.kept T.ran.kept; jobs = T.ran.jobs ∙ S.ran.jobs };
  }

  -- "one link step for each listed name. Last one settling step"
  pub links_end : (n : ℕ) {g : Graph} {r : Reading} {e : ℕ → ℕ} → History s g r e → (a : Arguments) (j i : ℕ)
      (t : Tally) → (g.workers w).call ≡ linking a j i t → i + n ≡ a.count → ToEnd s w g n
  links_end zero {g} history a j i t c k = last_step g (settles (omega arith) (own_step s g h c))
  links_end (suc n) {g} history a j i t c k =
      let X = links a j i t (rw c at ((sound history).calls w)) (omega arith) (own_step s g h c) in
      one_more_lem g X.1 (links_end n (then history (step s w)) a j (suc i) X.0 X.1.call (omega arith))

  -- "Then one step for each arc"
  pub arcs_end : (n : ℕ) (g : Graph) (p k : ℕ) (f : Bool) → (g.workers w).call ≡ notifying p k f
      → suc k + n ≡ length (job g p).dependents → ToEnd s w g n
  arcs_end zero g p k f c l = last_step g (notifies_last (omega arith) (own_step s g h c))
  arcs_end (suc n) g p k f c l =
      let X = notifies_on (omega arith) (own_step s g h c) in
      one_more_lem g X.0
      (arcs_end n (perform s g (step s w)).state p (suc k) f X.0.call (omega (arith, X.1)))
