-- A finish run whole, posted and stepped to its end, is the finish in one go: for all tables, sound or damaged. Follows
-- docs/RULES.md, "Steps" and "Turned-away calls".
use Rattle.std.specs.Prelude.{◌≡◌, Bool, true, false, ◌&&◌, not, List}
use Rattle.std.proofs.Math.Path.{refl, ap}
use Rattle.std.proofs.Common.{sym, ◌∙◌, add-one, arith}
use Prim.Native.Nat.{ℕ, zero, suc, ◌+◌, ◌≤◌}
use Rattle.std.proofs.Math.Dec.{eqb}
use Rattle.def_numbers.specs.Numbers.{damaged, half_done, not_held, good_for_spoiled}
use Rattle.def_basics.specs.Base.{pick}
use Rattle.def_basics.specs.Laws.{and_right, pick_by}
use Rattle.def_terms.specs.Terms.{Finish, bit}
use Rattle.def_terms.specs.Runs.{Result, result_of}
use Rattle.def_terms.specs.declared.Sizes.{Sizes}
use Rattle.def_terms.specs.declared.Answer.TheVariants.{Refused}
use Rattle.def_words.specs.Layout.{Tables, View, view, none, LABEL, FIRST, SPOILED, HELD, MARKING, bare_worker}
use Rattle.def_words.specs.Words.{place_ok, is_place, counters_ok, holds_name, plan_mark, answer_of, posted, refusal}
use Rattle.def_words.specs.Words.{spoiled_ok, judged_outcome, judged_finish, admitted, step_words, finish_words}
use Rattle.def_words.specs.declared.Plan.{Plan}
use Rattle.def_words.specs.declared.Plan.TheVariants.{Refuse, Mark}
use Rattle.def_whole_calls.specs.Whole.{and_then, steps_of, whole_finish}
use Rattle.def_fused.specs.FusedWorker.{Admitted, is_idle, hold_of, with_worker}
use Rattle.def_fused.specs.FusedFinish.{marked_tables, mark_in, mark_if, finish_in, finish_if_idle}
use Rattle.thm_fused_steps.specs.Deeds.{record_by, stored_by}
use Rattle.thm_fused_steps.specs.Steps.{step_by_record}
use Rattle.thm_fused_steps.specs.Kept.{stored_fits, stored_counters}
use Rattle.thm_fused_steps.specs.Calls.{bare_ok, mark_plan}
use Rattle.thm_fused_steps.specs.Posts.{admitted_as, admitted_each, admitted_map, hold_ok, finish_posted_lem}
use Rattle.thm_fused_finish.specs.Notices.{on_or_end, notices}

-- ---- the plans of a mark: 9, or with the first arc in use or none
module _ (s : Sizes) (v : View) (Q : Plan → Type 0) (refuses : Q (Refuse damaged))
    (marks : (p x : ℕ) → place_ok x v.reserved s.arcs ≡ true → Q (Mark p x)) where
  mark_plans : (p : ℕ) → Q (plan_mark s v p)
  unfolding plan_mark
  mark_plans p =
      pick_by Q (is_place p && eqb (v.job LABEL p) 1 && place_ok (v.job FIRST p) v.reserved s.arcs)
      (λ e. marks p (v.job FIRST p) (and_right (is_place p && eqb (v.job LABEL p) 1) _ e))
      (λ _. refuses)

-- ---- the mark and the notices
module _ (s : Sizes) (t : Tables) (w : ℕ) (o : ℕ) (bound : o ≤ 1) (a : Admitted s t w)
    (counters : counters_ok s (view t) ≡ true) where
  abbrev r : List ℕ
  r = bare_worker MARKING (hold_of t w) o

  abbrev plan : Plan
  plan = plan_mark s (view t) (hold_of t w)

  mark_step : step_words s (with_worker t w r) w
      ≡ result_of (answer_of plan) (with_worker (stored_by plan t r) w (record_by plan r))
  mark_step =
      step_by_record s t w r a.sizes a.worker refl (bare_ok s (view t) MARKING (hold_of t w) o (omega arith)
      (hold_ok s t w a) bound) counters refl
      ∙ ap (λ p. result_of (answer_of p) (with_worker (stored_by p t r) w (record_by p r)))
      (mark_plan s (view t) (hold_of t w) o)

  steps_after_post : steps_of (s.arcs + 1) s w (with_worker t w r) ≡ mark_in s t w o plan
  unfolding steps_of mark_in stored_by
  steps_after_post =
      ap (λ n. steps_of n s w (with_worker t w r)) (add-one s.arcs)
      ∙ ap (λ q. and_then q.answer q.state (steps_of s.arcs s w)) mark_step
      ∙ mark_plans s (view t)
      (λ p. and_then (answer_of p) (with_worker (stored_by p t r) w (record_by p r)) (steps_of s.arcs s w)
      ≡ mark_in s t w o p)
      refl
      (λ p x e. on_or_end s w a.worker o bound s.arcs x (marked_tables t p o) (eqb x none)
      (notices s w a.worker o bound s.arcs x (marked_tables t p o) (stored_fits s (Mark p x) t r ∙ a.sizes)
      (stored_counters s (Mark p x) t r refl ∙ counters) e))
      (hold_of t w)

-- ---- the post's tests, then what follows it
module _ (s : Sizes) (t : Tables) (w o : ℕ) (next : Tables → Result Tables) where
  abbrev told : Result Tables → Result Tables
  told q = and_then q.answer q.state next

  abbrev refused_by : ℕ → Result Tables
  refused_by n = result_of (Refused n 0) t

  abbrev u : List ℕ
  u = bare_worker MARKING (hold_of t w) o

  -- a post that is not refused has read sound counters
  by_number : (n : ℕ) → (n ≡ 0 → next (with_worker t w u) ≡ mark_in s t w o (plan_mark s (view t) (hold_of t w)))
      → told (posted n t w u) ≡ mark_if n s t w o
  unfolding posted mark_if
  by_number zero e = e refl
  by_number (suc n) e = refl

  by_tests : (x y : Bool) (n : ℕ)
      → (n ≡ 0 → next (with_worker t w u) ≡ mark_in s t w o (plan_mark s (view t) (hold_of t w)))
      → told (pick x (pick y (posted n t w u) (refused_by not_held)) (refused_by half_done))
      ≡ pick x (pick y (mark_if n s t w o) (refused_by not_held)) (refused_by half_done)
  by_tests true true n e = by_number n e
  by_tests true false n e = refl
  by_tests false y n e = refl

sound : (a b c : Bool) → pick (a && b) (pick c good_for_spoiled 0) damaged ≡ 0 → a ≡ true
sound true b c e = refl
sound false b c e = absurd (omega arith)

small : (failed : Bool) → bit failed ≤ 1
small true = omega arith
small false = omega arith

-- ---- THE theorem of an admitted worker
pub fused_finish_lem : (s : Sizes) (t : Tables) (w : ℕ) (f : Finish) → Admitted s t w
    → whole_finish s t w f ≡ finish_if_idle s t w f
unfolding whole_finish finish_if_idle finish_in
fused_finish_lem s t w f a =
    let o = bit f.failed in
    let p = hold_of t w in
    ap (λ q. and_then q.answer q.state (steps_of (s.arcs + 1) s w)) (finish_posted_lem s t w f a)
    ∙ by_tests s t w o (steps_of (s.arcs + 1) s w) (is_idle t w) (holds_name (view t) w f.name)
    (judged_outcome s (view t) p f.failed)
    (λ e. steps_after_post s t w o (small f.failed) a
    (sound (counters_ok s (view t)) (spoiled_ok (view t) p) (eqb ((view t).job SPOILED p) 1 && not f.failed) e))

-- and of every worker
pub whole_finish_lem : (s : Sizes) (t : Tables) (w : ℕ) (f : Finish)
    → whole_finish s t w f ≡ admitted s t w (λ n. result_of (Refused n 0) t) (finish_if_idle s t w f)
unfolding whole_finish finish_words posted
whole_finish_lem s t w f =
    admitted_map H s t w refusal J
    ∙ admitted_each s t w H (λ n. result_of (Refused n 0) t) (H J) (finish_if_idle s t w f) (λ n. refl)
    (λ a. sym (ap H (admitted_as s t w refusal J a)) ∙ fused_finish_lem s t w f a)
  where
    J : ℕ
    J = judged_finish s (view t) w f

    H : ℕ → Result Tables
    H n =
        let o = posted n t w (bare_worker MARKING ((view t).worker HELD w) (bit f.failed)) in
        and_then o.answer o.state (steps_of (s.arcs + 1) s w)
