-- An add in one go is its post and its steps, for ALL tables; it leaves an admitted worker admitted. Follows
-- docs/RULES.md, "Whole calls".
use Rattle.std.specs.Prelude.{◌≡◌, Bool, ℕ, ◌+◌, ◌*◌}
use Rattle.std.proofs.Math.Path.{refl}
use Rattle.std.proofs.Common.{sym, ap, ◌∙◌, arith}
use Rattle.std.proofs.Math.Bool.{true, false}
use Rattle.def_numbers.specs.Numbers.{half_done, wrong_arguments, damaged}
use Rattle.def_basics.specs.Base.{pick}
use Rattle.def_terms.specs.Terms.{Arguments, listed, arguments_wrong}
use Rattle.def_terms.specs.Runs.{Result, result_of}
use Rattle.def_terms.specs.declared.Sizes.{Sizes}
use Rattle.def_terms.specs.declared.Answer.TheVariants.{Posted, Refused}
use Rattle.def_words.specs.Layout.{Tables, view, none, HELD, LOOKING}
use Rattle.def_words.specs.Words.{counters_ok, admitted, refusal, judged_add, adding_worker, posted, add_words}
use Rattle.def_whole_calls.specs.Whole.{and_then, steps_of, whole_add}
use Rattle.def_fused.specs.FusedWorker.{Admitted, is_idle, hold_of, with_worker, add_worker}
use Rattle.def_fused.specs.FusedAdd.{look_ups, plan_looked, plan_add, add_by, add_if_idle}
use Rattle.def_fused.specs.declared.AddPlan.TheVariants.{Reject}
use Rattle.thm_fused_steps.specs.Posts.{admitted_as, admitted_each, admitted_map, add_posted_lem}
use Rattle.thm_fused_add.specs.Listed.{right}
use Rattle.thm_fused_add.specs.Halfway.{Run, run_on, run_ends}
use Rattle.thm_fused_add.specs.Looks.{looked_run}

-- ---- the add of an admitted worker
module _ (s : Sizes) (t : Tables) (w : ℕ) (a : Arguments) (A : Admitted s t w) where
  -- what follows a post
  abbrev then : Result Tables → Result Tables
  then o = and_then o.answer o.state (steps_of (2 * a.count + 2) s w)

  turned_away_lem : (n : ℕ) → Run s w (result_of (Refused n 0) t) (result_of (Refused n 0) t)
  turned_away_lem n = run_ends (Refused n 0) t refl A

  after_post : (idle wrong sound : Bool) → arguments_wrong a ≡ wrong → counters_ok s (view t) ≡ sound
      → Run s w
      (then (pick idle
      (pick wrong (result_of (Refused wrong_arguments 0) t)
      (pick sound (result_of Posted (with_worker t w (add_worker LOOKING (hold_of t w) a 0 0 none none 0)))
      (result_of (Refused damaged 0) t)))
      (result_of (Refused half_done 0) t)))
      (add_by s t w a (pick idle
      (pick wrong (Reject wrong_arguments)
      (pick sound (plan_looked s (view t) a (look_ups s (view t) (listed a) 0)) (Reject damaged)))
      (Reject half_done)))
  unfolding add_by
  after_post true true sound e f = turned_away_lem wrong_arguments
  after_post true false true e f = looked_run s t w A a (right a e) f (2 * a.count + 2) (omega arith)
  after_post true false false e f = turned_away_lem damaged
  after_post false wrong sound e f = turned_away_lem half_done

  add_run : Run s w (whole_add s t w a) (add_if_idle s t w a)
  unfolding whole_add add_if_idle plan_add
  add_run =
      run_on (ap then (add_posted_lem s t w a A))
      (after_post (is_idle t w) (arguments_wrong a) (counters_ok s (view t)) refl refl)

pub fused_add_lem : (s : Sizes) (t : Tables) (w : ℕ) (a : Arguments) → Admitted s t w
    → whole_add s t w a ≡ add_if_idle s t w a
fused_add_lem s t w a A = (add_run s t w a A).same

pub still_admitted : (s : Sizes) (t : Tables) (w : ℕ) (a : Arguments) → Admitted s t w
    → Admitted s (add_if_idle s t w a).state w
still_admitted s t w a A = (add_run s t w a A).admitted

-- ---- the add of any worker
pub whole_add_lem : (s : Sizes) (t : Tables) (w : ℕ) (a : Arguments)
    → whole_add s t w a ≡ admitted s t w (λ n. result_of (Refused n 0) t) (add_if_idle s t w a)
unfolding whole_add add_words posted
whole_add_lem s t w a =
    admitted_map H s t w refusal J
    ∙ admitted_each s t w H (λ n. result_of (Refused n 0) t) (H J) (add_if_idle s t w a) (λ n. refl)
    (λ A. sym (ap H (admitted_as s t w refusal J A)) ∙ fused_add_lem s t w a A)
  where
    J : ℕ
    J = judged_add s (view t) w a

    H : ℕ → Result Tables
    H n =
        let o = posted n t w (adding_worker ((view t).worker HELD w) a) in
        and_then o.answer o.state (steps_of (2 * a.count + 2) s w)
