-- What an add comes to, by its plan.
use mathlib.Core.Path.{◌≡◌, ◌∙◌}
use mathlib.Core.Bool.{◌||◌}
use mathlib.Core.List.{List}
use Prim.Native.Nat.{ℕ, ◌+◌, ◌≤◌, ◌<◌}
use lib.Dec.{eqb, ltb, leb}
use borrow.Author.Tests.{ltb-false, leb-false}
use Rattle.def_basics.specs.Laws.{or_left, or_right, pick_by}
use Rattle.def_terms.specs.Terms.{Arguments, listed, arguments_wrong}
use Rattle.def_terms.specs.Runs.{Result, result_of}
use Rattle.def_terms.specs.declared.Sizes.{Sizes}
use Rattle.def_terms.specs.declared.Answer.TheVariants.{Refused}
use Rattle.def_words.specs.Layout.{Tables, View, view, none, PHASE, IDLE, LOOKING}
use Rattle.def_words.specs.Words.{counters_ok, find_of}
use Rattle.def_words.specs.declared.Found.{Found}
use Rattle.def_words.specs.declared.Found.TheVariants.{At, Missing, Damaged}
use Rattle.def_fused.specs.FusedWorker.{hold_of, idled_with, add_worker, halted}
use Rattle.def_fused.specs.FusedAdd.{look_ups, jobs_found, entered_tables, Links, links, settle_in, plan_own, plan_looked}
use Rattle.def_fused.specs.FusedAdd.{plan_add, add_by, add_if_idle}
use Rattle.def_fused.specs.declared.LookUps.{LookUps}
use Rattle.def_fused.specs.declared.LookUps.TheVariants.{All, Unknown, Broken}
use Rattle.def_fused.specs.declared.AddPlan.{AddPlan}
use Rattle.def_fused.specs.declared.AddPlan.TheVariants.{Reject, TurnAway, Stop, EnterJob}
use Rattle.fused_plan.proofs.Plans.{not_rejected, not_away, not_stopped}

-- ---- each plan
module _ (s : Sizes) (t : Tables) (w : ℕ) (a : Arguments) {f : AddPlan} (q : f ≡ plan_add s (view t) w a) {held : ℕ}
    (h : held ≡ hold_of t w) {o : Result Tables} where
  pub rejected : {n : ℕ} → f ≡ Reject n → o ≡ result_of (Refused n 0) t → o ≡ add_if_idle s t w a
  unfolding add_if_idle add_by
  rejected e p = rw (← q, e) p

  pub turned_away_lem : {n i : ℕ} → f ≡ TurnAway n i → o ≡ result_of (Refused n i) (idled_with t w held)
      → o ≡ add_if_idle s t w a
  unfolding add_if_idle add_by
  turned_away_lem e p = rw (← q, e, ← h) p

  pub stopped : {i : ℕ} → f ≡ Stop i → o ≡ halted t w (add_worker LOOKING held a 0 i none none 0) → o ≡ add_if_idle s t w a
  unfolding add_if_idle add_by
  stopped e p = rw (← q, e, ← h) p

  -- entering, links and settling, one after the other
  pub entered : f ≡ EnterJob → {j x : ℕ} {r : Links} {u : Tables} {l : List ℕ} → o ≡ settle_in s w a held j x r
      → r ≡ links s j x l 0 u 0 0 → u ≡ entered_tables s t a → j ≡ (view t).made → x ≡ (view t).reserved
      → l ≡ jobs_found s (view t) (listed a) → o ≡ add_if_idle s t w a
  unfolding add_if_idle add_by
  entered e p linked enters job arc found = p ∙ rw (linked, enters, job, arc, found, h, ← q, e)

-- ---- where its job is to enter, the tables have room for it and for its arcs
module _ (s : Sizes) (v : View) (w : ℕ) (a : Arguments) where
  abbrev Room : AddPlan → Type 0
  Room p = p ≡ EnterJob → (v.made < s.jobs) × (v.reserved + a.count ≤ s.arcs)

  by_own : (f : Found) → Room (plan_own s v a.count f)
  by_own (At j) = λ e. absurd (not_away e)
  by_own Damaged = λ e. absurd (not_stopped e)
  by_own Missing =
      let full = leb s.jobs v.made in
      let over = ltb s.arcs (v.reserved + a.count) in
      pick_by Room (full || over) (λ _ e. absurd (not_away e))
      (λ k _. (
        leb-false s.jobs v.made (or_left full over k),
        ltb-false s.arcs (v.reserved + a.count) (or_right full over k),
      ))

  by_looks : (x : LookUps) → Room (plan_looked s v a x)
  by_looks All = by_own (find_of s v a.name)
  by_looks (Unknown i) = λ e. absurd (not_away e)
  by_looks (Broken i) = λ e. absurd (not_stopped e)

  pub has_room : Room (plan_add s v w a)
  unfolding plan_add
  has_room =
      pick_by Room (eqb (v.worker PHASE w) IDLE)
      (λ _. pick_by Room (arguments_wrong a) (λ _ e. absurd (not_rejected e))
      (λ _. pick_by Room (counters_ok s v) (λ _. by_looks (look_ups s v (listed a) 0)) (λ _ e. absurd (not_rejected e))))
      (λ _ e. absurd (not_rejected e))
