-- How calls go on and end, by the rules, in every history: what the step after k answered steps of an add or of a
-- finish answers ("Steps"). Assumes that every history's graph is sound.
use Rattle.std.specs.Prelude.{◌≡◌, refl, ◌≢◌, Bool, ℕ, suc, ◌+◌, ◌*◌, ◌<◌, length}
use Rattle.std.proofs.Common.{arith}
use Rattle.std.proofs.Math.Decide.{dec_lt}
use Rattle.def_terms.specs.Terms.{Arguments, finish_of, Finish}
use Rattle.def_terms.specs.Runs.{step}
use Rattle.def_terms.specs.declared.Sizes.{Sizes}
use Rattle.def_terms.specs.declared.Answer.{Answer}
use Rattle.def_rules.specs.Rules.{Call, Graph, job, perform}
use Rattle.def_rules.specs.Observed.{seen}
use Rattle.def_rules.specs.Sound.{CallSound, Sound}
use Rattle.thm_rules_cases.specs.Deed as by
use Rattle.thm_rules_cases.specs.Deed.{Stepped}
use Rattle.thm_rules_cases.specs.Deeds.{unbroken}
use Rattle.def_call_order.specs.Calls.{Pending, adding, finishing, Reading}
use Rattle.def_call_order.specs.Calls as reading
use Rattle.thm_rules_history.specs.History.{History, PacedCall}
use Rattle.def_demand.specs.Ends.{AddStep, looked_up_lem, unknown, entered, present, no_room_lem, linked, settled}
use Rattle.def_demand.specs.Ends.{FinishStep, goes_on, ends, FinishOf}
use Rattle.thm_rules_cases.specs.Own.{own_step}
use Rattle.thm_rules_follow_book.specs.Paced.{paced, idle_past}

-- what a step of the call half done may answer
abbrev StepOf : Graph → Pending → Answer → Type 0
StepOf g reading.idle x = Unit {0}
StepOf g (adding a k) x = AddStep a k x
StepOf g (finishing f k) x = FinishOf (seen g) f.name k x

-- ---- a step of the call that the worker is in
module _ (s : Sizes) (g : Graph) (w : ℕ) (S : Sound s g) where
  finish_of_lem : {q : Pending} {x : Answer} (p : ℕ) {f : Bool} {k : ℕ} → p < length g.jobs
      → q ≡ finishing (finish_of (job g p).name f) k
      → FinishStep (length (job g p).dependents) k x → StepOf g q x
  finish_of_lem p l e f = rw e (record { job = p; there = l; named = refl; step = f })

  step_by : {c : Call} {x : Answer} {after : Graph} (q : Pending) → CallSound g (g.workers w).held c
      → PacedCall g (g.workers w).held c q → Stepped s g w c x after → StepOf g q x
  step_by q C P by.no_call = rw P tt
  step_by {c = c} q C P (by.broken b) = absurd (unbroken g (g.workers w).held c C b)
  step_by q C P (by.looked_up j l e) = rw P (looked_up_lem l)
  step_by q C P (by.name_unknown l e) = rw P (unknown l)
  step_by q C P (by.name_there {a} {i} j l e) = let all : i ≡ a.count = omega (arith, C.within) in rw (P, all) present
  step_by q C P (by.room_lacking {a} {i} l e f) =
      let all : i ≡ a.count = omega (arith, C.within) in rw (P, all) no_room_lem
  step_by q C P (by.job_entered {a} {i} l e f) =
      let all : i ≡ a.count = omega (arith, C.within) in rw (P, all) entered
  step_by q C P (by.tallied {a} {j} {i} p l e f) =
      rw P.0 (linked {k = a.count + 1 + i} (omega arith) (omega arith))
  step_by q C P (by.arc_appended {a} {j} {i} p l e f) =
      rw P.0 (linked {k = a.count + 1 + i} (omega arith) (omega arith))
  step_by q C P (by.job_settled {a} {j} {i} l) =
      let last : a.count + 1 + i ≡ 2 * a.count + 1 = omega (arith, C.within) in rw (P.0, last) settled
  step_by q C P (by.marked_last p e f) =
      finish_of_lem p (S.held_there w p e) (rw e at P) (rw f ends)
  step_by q C P (by.marked_going p e f) = finish_of_lem p (S.held_there w p e) (rw e at P) (goes_on f)
  step_by q C P (by.arc_notified {p} l) = finish_of_lem p C.there P (goes_on l)
  step_by q C P (by.last_notified {p} {k} l) =
      let last : suc k ≡ length (job g p).dependents = omega (arith, C.within) in
      finish_of_lem p C.there P (rw last ends)

module _ {s : Sizes} (sound : (g : Graph) (r : Reading) (e : ℕ → ℕ) → History s g r e → Sound s g) where
  step_of : {g : Graph} {r : Reading} {e : ℕ → ℕ} → History s g r e → (w : ℕ) → w < s.workers
      → StepOf g (r.pending w) (perform s g (step s w)).answer
  step_of {g} {r} {e} history w h =
      let S = sound g r e history in
      step_by s g w S (r.pending w) (S.calls w) (paced sound history w) (own_step s g h refl)

  -- "An accepted add takes exactly 2d + 2 steps"
  pub add_step : {g : Graph} {r : Reading} {e : ℕ → ℕ} → History s g r e → (w : ℕ) → w < s.workers
      → (a : Arguments) (k : ℕ) → r.pending w ≡ adding a k → AddStep a k (perform s g (step s w)).answer
  add_step history w h a k e = rw e at (step_of history w h)

  -- a finish "takes 1 step more than it has arcs"
  pub finish_step : {g : Graph} {r : Reading} {e : ℕ → ℕ} → History s g r e → (w : ℕ) → w < s.workers
      → (f : Finish) (k : ℕ) → r.pending w ≡ finishing f k
      → FinishOf (seen g) f.name k (perform s g (step s w)).answer
  finish_step history w h f k e = rw e at (step_of history w h)

  -- ---- only a worker below P is in a call
  pub pending_there : {g : Graph} {r : Reading} {e : ℕ → ℕ} → History s g r e → (w : ℕ) → r.pending w ≢ reading.idle
      → w < s.workers
  pending_there {r} history w n = elim (dec_lt w s.workers) [
    | yes h ↦ h
    | no h ↦ absurd (n (rw (idle_past sound history w (omega arith)) at (paced sound history w)))
  ]
