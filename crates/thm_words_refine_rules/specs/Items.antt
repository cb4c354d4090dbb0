-- The words do what the rules do, in one item: the answers are the same, and the tables left stand for the graph left.
-- Follows docs/RULES.md, "Steps" and "Turned-away calls". Assumes of the graph what the rules keep (`Sound`).
use Rattle.std.specs.Prelude.{◌≡◌, Bool, List, ℕ, ◌<◌, leb, eqb, length}
use Rattle.std.proofs.Math.Path.{refl}
use Rattle.std.proofs.Common.{◌∙◌}
use Rattle.std.proofs.Math.Bool.{true, false}
use borrow.Author.Tests.{le-leb}
use Rattle.def_numbers.specs.Numbers.{worker_idle, half_done, wrong_arguments, already_holding, not_held, wrong_size, damaged}
use Rattle.def_numbers.specs.Numbers.{wrong_minutes, jobs_entered}
use Rattle.def_basics.specs.Base.{pick}
use Rattle.def_minutes.specs.Rising.{is_rising}
use Rattle.def_terms.specs.Terms.{Arguments, arguments_wrong, same_sizes, Finish, bit}
use Rattle.def_terms.specs.Runs.{Item, post_add, post_finish, step, get, load, result_of}
use Rattle.def_terms.specs.declared.Sizes.{Sizes}
use Rattle.def_terms.specs.declared.Answer.TheVariants.{Loaded, Refused}
use Rattle.def_words.specs.Layout.{HELD, MARKING, bare_worker, view, Tables}
use Rattle.def_words.specs.Layout as layout
use Rattle.def_words.specs.Words.{plan_phase, applied, plan_get, plan_queue, applied_get, judged_add, judged_finish}
use Rattle.def_words.specs.Words.{holds_name}
use Rattle.def_words.specs.Words.{adding_worker, refusal, posted, step_words, get_words, add_words, finish_words}
use Rattle.def_words.specs.Words.{judged_counters, judged_outcome, loading, load_words}
use Rattle.def_words.specs.Words as words
use Rattle.def_words.specs.declared.Plan.TheVariants.{Refuse}
use Rattle.def_words.specs.declared.GetPlan.TheVariants.{RefuseGet}
use Rattle.def_rules.specs.Rules.{Call, idle, looking, linking, marking, notifying, Graph, add_posted, finish_posted}
use Rattle.def_rules.specs.Rules.{get_job}
use Rattle.def_rules.specs.Rules.{when_idle, step_call, load_minutes, with_minutes}
use Rattle.def_rules.specs.Rules as rules
use Rattle.def_rules.specs.Sound.{Sound, CallSound}
use Rattle.thm_representation.specs.Rep.{Ghost, CallRep, Stands}
use Rattle.thm_representation_kept.specs.Load.{load_stands}
use Rattle.thm_words_refine_rules.specs.Own.{same_sizes_lem, sizes_decide}
use Rattle.thm_words_refine_rules.specs.Agree.{Agrees, refused, admit, when_idle_lem}
use Rattle.thm_words_refine_rules.specs.Step.{done}
use Rattle.thm_words_refine_rules.specs.Look.{looking_agrees}
use Rattle.thm_words_refine_rules.specs.Link.{linking_agrees}
use Rattle.thm_words_refine_rules.specs.Finish.{marking_agrees, notifying_agrees}
use Rattle.thm_words_refine_rules.specs.Post.{done_get, add_agrees, finish_agrees, get_agrees}

module _ (s : Sizes) (t : Tables) (g : Graph) (G : Ghost) (S : Stands s t g G) (O : Sound s g) where
  module _ (w : ℕ) (hw : w < s.workers) where
    -- ---- a step, whatever call the worker is in
    step_call_lem : (c : Call) → (g.workers w).call ≡ c → CallSound g (g.workers w).held c
        → CallRep (view t).worker G w c
        → Agrees s (done (plan_phase s (view t) w) t w) (step_call s g w c)
    unfolding plan_phase applied step_call
    step_call_lem idle e o r = rw r.phase (refused s t g G S O worker_idle)
    step_call_lem (looking a i) e o r = looking_agrees s t g G S O w hw a i o r
    step_call_lem (linking a j i u) e o r = linking_agrees s t g G S O w hw a j i u e o r
    step_call_lem (marking fa) e o r = marking_agrees s t g G S O w hw fa (g.workers w).held refl o r
    step_call_lem (notifying p k fa) e o r = notifying_agrees s t g G S O w hw p k fa o r

    pub step_agrees : Agrees s (done (plan_phase s (view t) w) t w) (step_call s g w (g.workers w).call)
    step_agrees = step_call_lem (g.workers w).call refl (O.calls w) (S.calls w hw).call

    -- ---- a get, and the posts
    pub getting_agrees : Agrees s (done_get (plan_get s (view t) w) t w)
        (when_idle g (g.workers w).call (get_job g w (g.workers w).held))
    unfolding plan_get applied_get
    getting_agrees =
        when_idle_lem s t g G S O w hw (λ p. done_get p t w)
        (pick (eqb ((view t).worker HELD w) layout.none) (plan_queue s (view t)) (RefuseGet already_holding))
        (RefuseGet half_done)
        (get_job g w (g.workers w).held)
        refl
        (λ e B. get_agrees s t g G S O w hw B)

    pub adding_agrees : (a : Arguments)
        → Agrees s (posted (judged_add s (view t) w a) t w (adding_worker ((view t).worker HELD w) a))
        (when_idle g (g.workers w).call (add_posted g w a))
    unfolding posted
    adding_agrees a =
        when_idle_lem s t g G S O w hw (λ n. posted n t w (adding_worker ((view t).worker HELD w) a))
        (pick (arguments_wrong a) wrong_arguments (judged_counters s (view t)))
        half_done
        (add_posted g w a)
        refl
        (λ e B. add_agrees s t g G S O w hw B a)

    pub finishing_agrees : (f : Finish)
        → Agrees s
        (posted (judged_finish s (view t) w f) t w (bare_worker MARKING ((view t).worker HELD w) (bit f.failed)))
        (when_idle g (g.workers w).call (finish_posted g w f (g.workers w).held))
    unfolding posted
    finishing_agrees f =
        when_idle_lem s t g G S O w hw
        (λ n. posted n t w (bare_worker MARKING ((view t).worker HELD w) (bit f.failed)))
        (pick (holds_name (view t) w f.name) (judged_outcome s (view t) ((view t).worker HELD w) f.failed) not_held)
        half_done
        (finish_posted g w f (g.workers w).held)
        refl
        (λ e B. finish_agrees s t g G S O w hw B f)

  -- ---- a load
  load_judged : (m : List ℕ)
      → Agrees s
      (loading (pick (is_rising m) (pick (leb (view t).made s.jobs) (pick (eqb (view t).made 0) 0 jobs_entered)
      damaged) wrong_minutes) t m)
      (load_minutes g m)
  unfolding loading load_minutes
  load_judged m = rw (S.rep.made, le-leb (length g.jobs) s.jobs O.jobs)
      (go (is_rising m) refl (eqb (length g.jobs) 0))
    where
      go : (b : Bool) → is_rising m ≡ b → (c : Bool)
          → Agrees s (loading (pick b (pick c 0 jobs_entered) wrong_minutes) t m)
          (pick b (pick c (result_of Loaded (with_minutes g m)) (result_of (Refused jobs_entered 0) g))
          (result_of (Refused wrong_minutes 0) g))
      go true e true = record { answer = refl; ghost = G; stands = load_stands m e S }
      go true e false = refused s t g G S O jobs_entered
      go false e c = refused s t g G S O wrong_minutes

  load_agrees : (r : Sizes) (m : List ℕ) → Agrees s (load_words r t m) (rules.perform s g (load r m))
  unfolding load_words loading rules.perform
  load_agrees r m = go (same_sizes r s) refl
    where
      go : (b : Bool) → same_sizes r s ≡ b → Agrees s (load_words r t m) (rules.perform s g (load r m))
      go true e = rw (e, sizes_decide s t g G S r ∙ e, same_sizes_lem r s e) (load_judged m)
      go false e = rw (e, sizes_decide s t g G S r ∙ e) (refused s t g G S O wrong_size)

  -- ---- an item
  pub item : (i : Item) → Agrees s (words.perform t i) (rules.perform s g i)
  unfolding words.perform rules.perform step_words get_words add_words finish_words applied applied_get posted
  item (post_add r w a) =
      admit s t g G S O w refusal (λ z. judged_add z (view t) w a)
      (λ n. posted n t w (adding_worker ((view t).worker HELD w) a))
      _
      refl
      refl
      (λ hw. adding_agrees w hw a)
      r
  item (post_finish r w f) =
      admit s t g G S O w refusal (λ z. judged_finish z (view t) w f)
      (λ n. posted n t w (bare_worker MARKING ((view t).worker HELD w) (bit f.failed)))
      _
      refl
      refl
      (λ hw. finishing_agrees w hw f)
      r
  item (step r w) = admit s t g G S O w Refuse (λ z. plan_phase z (view t) w) (λ p. done p t w) _ refl refl
      (step_agrees w) r
  item (get r w) = admit s t g G S O w RefuseGet (λ z. plan_get z (view t) w) (λ p. done_get p t w) _ refl refl
      (getting_agrees w) r
  item (load r m) = load_agrees r m
