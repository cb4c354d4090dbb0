-- An add half done, its words stored whole: its words are sound, so that it may be stepped, and so may the worker once
-- it is idle again. How a call run whole ends. Follows docs/RULES.md, "Steps".
use Rattle.std.specs.Prelude.{◌≡◌, refl, true, false, ℕ, suc, ◌≤◌, ◌<◌, eqb}
use Rattle.std.proofs.Math.Path.{ap}
use Rattle.std.proofs.Common.{◌∙◌, arith}
use Rattle.def_terms.specs.Terms.{Arguments}
use Rattle.def_terms.specs.Runs.{Result, result_of}
use Rattle.def_terms.specs.declared.Sizes.{Sizes}
use Rattle.def_terms.specs.declared.Answer.{Answer}
use Rattle.def_words.specs.Layout.{Tables, view, IDLE, NOTIFYING, bare_worker, sizes_fit}
use Rattle.def_words.specs.Words.{place_ok, counters_ok, answer_of}
use Rattle.def_words.specs.declared.Plan.{Plan}
use Rattle.def_whole_calls.specs.Whole.{and_then, steps_of}
use Rattle.def_fused.specs.FusedWorker.{Admitted, with_worker, idled_with, add_worker}
use Rattle.thm_fused_steps.specs.Plans.{record_ok, record_plan}
use Rattle.thm_fused_steps.specs.Deeds.{record_by, stored_by}
use Rattle.thm_fused_steps.specs.Fits.{with_worker_fits}
use Rattle.thm_fused_steps.specs.Steps.{worker_ok, step_by_record}
use Rattle.thm_fused_steps.specs.Calls.{bare_ok, add_whole_lem, add_ok}
use Rattle.thm_fused_add.specs.Listed.{Right}

-- ---- how a call run whole ends: a run o of worker w is r, which leaves the worker's own words sound
pub record Run (s : Sizes) (w : ℕ) (o r : Result Tables) : Type 0 where
  pub same : o ≡ r
  pub admitted : Admitted s r.state w

pub run_on : {s : Sizes} {w : ℕ} {o q r : Result Tables} → o ≡ q → Run s w q r → Run s w o r
run_on e R = record { same = e ∙ R.same; admitted = R.admitted }

pub run_ends : {s : Sizes} {w : ℕ} {o : Result Tables} (x : Answer) (t : Tables) → o ≡ result_of x t → Admitted s t w
    → Run s w o (result_of x t)
run_ends x t e A = record { same = e; admitted = A }

-- ---- tables over which a worker that holds `held` may be half way through an add
pub record Open (s : Sizes) (held : ℕ) (t : Tables) : Type 0 where
  pub sizes : sizes_fit s t ≡ true
  pub counters : counters_ok s (view t) ≡ true
  pub hold : place_ok held (view t).made s.jobs ≡ true

module _ (s : Sizes) (w : ℕ) (known : w < s.workers) (held : ℕ) (t : Tables) (O : Open s held t) where
  pub idle_admitted : Admitted s (idled_with t w held) w
  idle_admitted = record {
    sizes = with_worker_fits s t w (bare_worker IDLE held 0) ∙ O.sizes;
    worker = known;
    own =
        worker_ok s t w (bare_worker IDLE held 0) O.sizes known refl
        ∙ bare_ok s (view t) IDLE held 0 (omega arith) O.hold (omega arith);
  }

  module _ (a : Arguments) (fine : Right a) (ph k i j x note : ℕ) (phase : ph ≤ NOTIFYING) (hk : k ≤ a.count)
      (hi : i ≤ a.count) (job : place_ok j (view t).made s.jobs ≡ true)
      (arc : place_ok x (view t).reserved s.arcs ≡ true) (bit : note ≤ 1) where
    sound : record_ok s (view t) (add_worker ph held a k i j x note) ≡ true
    sound =
        add_ok s (view t) held a k i j x note ph phase O.hold fine.count fine.class fine.grower hk hi job
        arc bit

    pub add_admitted : Admitted s (with_worker t w (add_worker ph held a k i j x note)) w
    add_admitted = record {
      sizes = with_worker_fits s t w (add_worker ph held a k i j x note) ∙ O.sizes;
      worker = known;
      own =
          worker_ok s t w (add_worker ph held a k i j x note) O.sizes known (add_whole_lem ph held a k i j x note)
          ∙ sound;
    }

    -- its step, and the steps after it
    pub add_step : eqb ph IDLE ≡ false → (p : Plan) → record_plan s (view t) (add_worker ph held a k i j x note) ≡ p
        → (n : ℕ)
        → steps_of (suc n) s w (with_worker t w (add_worker ph held a k i j x note))
        ≡ and_then (answer_of p)
        (with_worker (stored_by p t (add_worker ph held a k i j x note)) w (record_by p (add_worker ph held a k i j x note)))
        (steps_of n s w)
    unfolding steps_of
    add_step busy p e n =
        let r = add_worker ph held a k i j x note in
        ap (λ (o : Result Tables). and_then o.answer o.state (steps_of n s w))
        (step_by_record s t w r O.sizes known (add_whole_lem ph held a k i j x note) sound O.counters busy
        ∙ ap (λ q. result_of (answer_of q) (with_worker (stored_by q t r) w (record_by q r))) e)
