-- A finish run whole ends, by the rules: 11 or 19 refuses its post, or "Its first step labels the job finished and
-- frees the worker's hold", and then the arcs follow, which Last has.
use Rattle.std.specs.Prelude.{◌≡◌, refl, Bool, [], ◌∷◌, ℕ, suc, ◌-◌, ◌<◌, length}
use Rattle.std.proofs.Common.{sym, ap, ap₂, ◌∙◌, arith, length-set, get_or-set_same, get_or-set_other}
use Rattle.std.proofs.Math.Option.{none, some, some-injective}
use Rattle.def_numbers.specs.Numbers.{not_held, good_for_spoiled}
use Rattle.def_basics.specs.Laws.{never, update_same, update_other}
use Rattle.def_terms.specs.Terms.{Finish}
use Rattle.def_terms.specs.Runs.{post_finish, step, Result, result_of, after, events}
use Rattle.def_terms.specs.declared.Sizes.{Sizes}
use Rattle.def_terms.specs.declared.Answer.{Answer}
use Rattle.def_terms.specs.declared.Answer.TheVariants.{Going, Ended, Refused}
use Rattle.def_rules.specs.Rules.{Job, no_job, Call, idle, marking, notifying, Worker, Graph, job, with_call, ended}
use Rattle.def_rules.specs.Rules.{marked, perform}
use Rattle.thm_rules_cases.specs.Deed as by
use Rattle.thm_rules_cases.specs.Deed.{Stepped, Made}
use Rattle.thm_rules_cases.specs.Base.{kept_field}
use Rattle.def_call_order.specs.Calls.{Reading}
use Rattle.thm_rules_history.specs.History.{History}
use Rattle.thm_rules_invariant.specs.Sound.{sound}
use Rattle.thm_rules_cases.specs.Own.{own_sizes, own_step, own_made}
use Rattle.thm_rules_whole_calls.specs.Whole.{steps_of, answers, through, going_to, FinishLeft, accepted, not_held_lem}
use Rattle.thm_rules_whole_calls.specs.Whole.{good_for_spoiled_lem, WholeFinish}
use Rattle.thm_rules_whole_calls.specs.Kept.{kept_same, call_turned, with_call_lem}
use Rattle.thm_rules_whole_calls.specs.Last.{Ran, arcs_end}

-- ---- the mark
module _ (g : Graph) (w p : ℕ) (f : Bool) where
  mark_left : p < length g.jobs → (c : Call) (h later : Graph) → h ≡ marked g w p f c → Ran w h later
      → (later.workers w).call ≡ idle → FinishLeft w p f g later
  mark_left there c h later s R e =
      let R : Ran w (marked g w p f c) later = rw s at R in
      let x : Worker = record { held = none; call = c } in
      let y : Job = ended (job g p) f in
      record {
        idle = e;
        held = R.kept.held ∙ ap (λ (z : Worker). z.held) (update_same g.workers w x);
        others = λ v z. R.kept.others v z ∙ update_other g.workers w x v z;
        finished = R.kept.labels p ∙ ap (λ (z : Job). z.label) (get_or-set_same g.jobs p y no_job there);
        failed = R.kept.outcomes p ∙ ap (λ (z : Job). z.failed) (get_or-set_same g.jobs p y no_job there);
        labels = λ j z. R.kept.labels j ∙ ap (λ (z : Job). z.label) (get_or-set_other g.jobs p j y no_job z);
        outcomes = λ j z. R.kept.outcomes j ∙ ap (λ (z : Job). z.failed) (get_or-set_other g.jobs p j y no_job z);
        jobs = R.jobs ∙ length-set g.jobs p y;
        queue = R.kept.queue;
      }

  -- the post before it changes the call alone
  post_left : (h later : Graph) → h ≡ with_call g w (marking f) → FinishLeft w p f h later
      → FinishLeft w p f g later
  post_left h later s L =
      let L : FinishLeft w p f (with_call g w (marking f)) later = rw s at L in
      record {
        idle = L.idle;
        held = L.held;
        others = λ v z. L.others v z ∙ update_other g.workers w _ v z;
        finished = L.finished;
        failed = L.failed;
        labels = L.labels;
        outcomes = L.outcomes;
        jobs = L.jobs;
        queue = L.queue;
      }

-- from the mark on, with so many arcs
record FromMark (s : Sizes) (w p : ℕ) (f : Bool) (g : Graph) (arcs : ℕ) : Type 0 where
  answered : answers s g (steps_of s w (suc arcs)) ≡ going_to arcs Ended
  left : FinishLeft w p f g (through s g (steps_of s w (suc arcs)))

marks : (s : Sizes) {w : ℕ} → w < s.workers → (g : Graph) (p : ℕ) (f : Bool) → p < length g.jobs
    → (g.workers w).held ≡ some p
    → {x : Answer} {k : Graph} → Stepped s g w (marking f) x k → perform s g (step s w) ≡ result_of x k
    → FromMark s w p f g (length (job g p).dependents)
unfolding after events
marks s h g p f there held (by.broken b) E = never (cc)
marks s {w} h g p f there held (by.marked_last q e d) E =
    let same : q ≡ p = some-injective q p (sym e ∙ held) in
    let E : perform s g (step s w) ≡ result_of Ended (marked g w p f idle) = rw same at E in
    let M : FromMark s w p f g 0 = record {
      answered = ap (λ (o : Result Graph). o.answer ∷ []) E;
      left = mark_left g w p f there idle (perform s g (step s w)).state _ (ap (λ (o : Result Graph). o.state) E)
          (record { kept = kept_same _ w; jobs = refl })
          (rw E (ap (λ (z : Worker). z.call) (update_same g.workers w _)));
    } in
    rw (← same, d) (rw (← same) at M)
marks s {w} h g p f there held (by.marked_going q e d) E =
    let same : q ≡ p = some-injective q p (sym e ∙ held) in
    let E : perform s g (step s w) ≡ result_of Going (marked g w p f (notifying p 0 f)) = rw same at E in
    let n = length (job g p).dependents - 1 in
    let some_left : length (job g p).dependents ≡ suc n = omega (arith, rw same at d) in
    let arcs : length (job (perform s g (step s w)).state p).dependents ≡ length (job g p).dependents =
    rw E (kept_field (λ (x : Job). length x.dependents) g.jobs p _ no_job refl p) in
    let T = arcs_end s h n (perform s g (step s w)).state p 0 f
    (rw E (ap (λ (z : Worker). z.call) (update_same g.workers w _))) (omega arith) in
    let M : FromMark s w p f g (suc n) = record {
      answered = ap₂ (λ x l. x ∷ l) (ap (λ (o : Result Graph). o.answer) E) T.answered;
      left = mark_left g w p f there (notifying p 0 f) (perform s g (step s w)).state _
          (ap (λ (o : Result Graph). o.state) E) T.ran T.idle;
    } in
    rw some_left M

-- "each run whole": a finish that an idle worker posts
pub whole_finish_lem : {s : Sizes} {g : Graph} {r : Reading} {e : ℕ → ℕ} → History s g r e → (w : ℕ) → w < s.workers
    → (g.workers w).call ≡ idle → (f : Finish) → WholeFinish s g w f
unfolding after events
whole_finish_lem {s} {g} history w h c f = of (own_made s g (post_finish s w f) (own_sizes s) h refl refl c) refl
  where
    of : {x : Answer} {k : Graph} → Made s g (post_finish s w f) x k → perform s g (post_finish s w f) ≡ result_of x k
        → WholeFinish s g w f
    of (by.finish_wrong z) E = record {
      steps = 0;
      answer = Refused not_held 0;
      answered = ap (λ (o : Result Graph). o.answer ∷ []) E;
      end = not_held_lem z refl (ap (λ (o : Result Graph). o.state) E);
    }
    of (by.finish_good p e n u) E = record {
      steps = 0;
      answer = Refused good_for_spoiled 0;
      answered = ap (λ (o : Result Graph). o.answer ∷ []) E;
      end = good_for_spoiled_lem p (record { held = e; named = n }) u refl (ap (λ (o : Result Graph). o.state) E);
    }
    of (by.finish_posted p e n u) E =
        let m = (perform s g (post_finish s w f)).state in
        let called : (m.workers w).call ≡ marking f.failed = rw E (call_turned g w (marking f.failed)) in
        let held : (m.workers w).held ≡ some p = rw E ((with_call_lem g w (marking f.failed)).held ∙ e) in
        let arcs : length (job m p).dependents ≡ length (job g p).dependents = rw E in
        let M : FromMark s w p f.failed m (length (job g p).dependents) =
        rw arcs at
        (marks s h m p f.failed (rw E ((sound history).held_there w p e)) held (own_step s m h called) refl) in
        record {
          steps = suc (length (job g p).dependents);
          answer = Ended;
          answered = ap₂ (λ x l. x ∷ l) (ap (λ (o : Result Graph). o.answer) E) M.answered;
          end = accepted p (record { held = e; named = n }) u refl
              (post_left g w p f.failed m _ (ap (λ (o : Result Graph). o.state) E) M.left);
        }
