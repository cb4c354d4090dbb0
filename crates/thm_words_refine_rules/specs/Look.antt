-- The steps of an add before its job is there: looking up a listed name, and entering. The plan that the words make is
-- the step of the rules. Follows docs/RULES.md, "Steps": look-up and enter (numbers 6, 7, 8). Assumes of the graph what
-- the rules keep (`Sound`).
use Rattle.std.specs.Prelude.{◌≡◌, Bool, ◌||◌, ℕ, suc, ◌+◌, ◌≤◌, ◌<◌, leb, length, get_or}
use Rattle.std.proofs.Math.Path.{refl}
use Rattle.std.proofs.Math.Bool.{true, false}
use Rattle.std.proofs.Common.{arith}
use Rattle.std.proofs.Math.Dec.{ltb}
use borrow.Author.Tests.{ltb-true, ltb-false, leb-false}
use Rattle.def_numbers.specs.Numbers.{most_names, unknown_name, name_present, tables_full}
use Rattle.def_basics.specs.Base.{pick}
use Rattle.def_basics.specs.Laws.{update_same}
use Rattle.def_bucket.specs.Bucket.{bucket_of}
use Rattle.def_terms.specs.Terms.{Arguments, listed, no_tally}
use Rattle.def_terms.specs.Runs.{result_of}
use Rattle.def_terms.specs.declared.Sizes.{Sizes}
use Rattle.def_terms.specs.declared.Answer.TheVariants.{Going, Refused}
use Rattle.def_words.specs.Columns.{columns_put, stores}
use Rattle.def_words.specs.Layout.{none, worker_shape, PHASE, PLACE, OWN_JOB, OWN_ARC, NAMES, LOOKING, LINKING, view}
use Rattle.def_words.specs.Layout.{Tables}
use Rattle.def_words.specs.Layout.{NEWEST}
use Rattle.def_words.specs.Words.{find_of, plan_phase, plan_call, plan_add, plan_look_up, plan_enter, entered_worker, applied}
use Rattle.def_words.specs.declared.Plan.{Plan}
use Rattle.def_words.specs.declared.Plan.TheVariants.{Quit, Pass, Enter}
use Rattle.def_rules.specs.Rules.{idle, looking, linking, Graph, Found, at, missing, find, with_call, look_up, entered}
use Rattle.def_rules.specs.Rules.{enter}
use Rattle.def_rules.specs.Rules.{step_call}
use Rattle.def_rules.specs.Sound.{Sound, Looking}
use Rattle.thm_representation.specs.Rep.{Ghost, enter_ghost, TablesRep, AddWords, Stands}
use Rattle.thm_representation_kept.specs.Find.{as_found, find_agrees}
use Rattle.thm_representation_kept.specs.Keep.{pass_stands}
use Rattle.thm_representation_kept.specs.Enter.{enter_stands}
use Rattle.thm_words_refine_rules.specs.Workers.{Only, next_words_lem, enter_words}
use Rattle.thm_words_refine_rules.specs.Frames.{enter_same}
use Rattle.thm_words_refine_rules.specs.Own.{neither, fitting, counters_ok_lem}
use Rattle.thm_words_refine_rules.specs.Agree.{Agrees, agrees}
use Rattle.thm_words_refine_rules.specs.Step.{done, turned, unchanged, here, field, next_only, quit_agrees}

module _ (s : Sizes) (t : Tables) (g : Graph) (G : Ghost) (S : Stands s t g G) (O : Sound s g) (w : ℕ)
    (hw : w < s.workers)
    (a : Arguments) (i : ℕ) (o : Looking g a i) (A : AddWords (view t).worker w a LOOKING no_tally i none none) where
  abbrev R : TablesRep s (view t) g G
  R = S.rep

  abbrev f : ℕ → ℕ → ℕ
  f = (view t).worker

  quits : (n k : ℕ) → Agrees s (done (Quit n k) t w) (result_of (Refused n k) (with_call g w idle))
  quits = quit_agrees s t g G S O w hw

  -- ---- looking up
  pass_agrees : Agrees s (done Pass t w) (result_of Going (with_call g w (looking a (suc i))))
  unfolding applied
  pass_agrees =
      agrees s t g G S O w (done Pass t w) (result_of Going (with_call g w (looking a (suc i)))) G
      (turned g w (looking a (suc i))) refl
      (pass_stands s t g G S w (looking a (suc i)))
      refl
      (next_only s t g G S O w hw)
      (unchanged g G w)
      (rw (columns_put worker_shape s.workers t.workers w PLACE (f PLACE w + 1) refl S.workers hw)
      (record { held = (S.calls w hw).held; call = next_words_lem f w a LOOKING no_tally i none none A }))

  look_up_lem : (x : Found) → Agrees s (done (plan_look_up i (as_found x)) t w) (look_up g w a i x)
  unfolding plan_look_up look_up
  look_up_lem (at j) = pass_agrees
  look_up_lem missing = quits unknown_name i

  -- ---- entering as job n
  abbrev n : ℕ
  n = length g.jobs

  abbrev enter_plan : Plan
  enter_plan =
      Enter n (bucket_of a.name s.bits) ((view t).bucket NEWEST (bucket_of a.name s.bits)) g.reserved

  entered_only : Only s.workers t.workers (entered_worker (view t) w n g.reserved t.workers) w
  entered_only =
      let one = field s t g G S O w hw in
      one _ (one _ (one _ (one t.workers (here s t g G S O w hw) PHASE LINKING refl) PLACE 0 refl) OWN_JOB n refl)
      OWN_ARC _ refl

  enter_agrees : n < s.jobs → g.reserved + a.count ≤ s.arcs
      → Agrees s (done enter_plan t w) (result_of Going (entered g w a))
  unfolding applied
  enter_agrees x y =
      agrees s t g G S O w (done enter_plan t w) (result_of Going (entered g w a)) (enter_ghost G n g.reserved)
      (turned g w (linking a n 0 no_tally)) refl
      (enter_stands s t g G S O w a LOOKING no_tally i none none A x y)
      refl
      entered_only
      (λ u e. enter_same g (g.workers u).held G g.reserved (g.workers u).call (O.calls u))
      (simp (stores, columns_put worker_shape s.workers, S.workers, hw)
      (record {
        held = (S.calls w hw).held;
        call = (
          rw (update_same G.base n g.reserved) (enter_words f w a LOOKING no_tally i none none A n g.reserved),
          update_same G.linked n 0,
        );
      }))

  room : (b : Bool) → (leb s.jobs n || ltb s.arcs (g.reserved + a.count)) ≡ b
      → Agrees s (done (pick b (Quit tables_full 0) enter_plan) t w)
      (pick b (result_of (Refused tables_full 0) (with_call g w idle)) (result_of Going (entered g w a)))
  room true e = quits tables_full 0
  room false e =
      let z = neither (leb s.jobs n) (ltb s.arcs (g.reserved + a.count)) e in
      enter_agrees (leb-false s.jobs n z.0) (ltb-false s.arcs (g.reserved + a.count) z.1)

  entering : (x : Found) → Agrees s (done (plan_enter s (view t) a.name a.count (as_found x)) t w) (enter s g w a x)
  unfolding plan_enter enter
  entering (at j) = quits name_present 0
  entering missing = rw (R.made, R.reserved) (room _ refl)

  -- ---- the step
  plan : plan_phase s (view t) w
      ≡ pick (ltb i a.count) (plan_look_up i (find_of s (view t) (f (NAMES + i) w)))
      (plan_enter s (view t) a.name a.count (find_of s (view t) a.name))
  unfolding plan_phase plan_call plan_add
  plan = rw (A.phase, counters_ok_lem s t g G S O, A.place, A.count, A.name)

  pub looking_agrees : Agrees s (done (plan_phase s (view t) w) t w) (step_call s g w (looking a i))
  unfolding step_call
  looking_agrees = rw plan (go (ltb i a.count) refl)
    where
      go : (b : Bool) → ltb i a.count ≡ b
          → Agrees s
          (done (pick b (plan_look_up i (find_of s (view t) (f (NAMES + i) w)))
          (plan_enter s (view t) a.name a.count (find_of s (view t) a.name))) t w)
          (pick b (look_up g w a i (find g (get_or (listed a) i 0))) (enter s g w a (find g a.name)))
      go true e =
          let b : i < most_names = omega (arith, ltb-true i a.count e, (fitting a o.right).count) in
          rw (A.names i b, find_agrees s t g G S O (get_or (listed a) i 0)) (look_up_lem (find g (get_or (listed a) i 0)))
      go false e = rw (find_agrees s t g G S O a.name) (entering (find g a.name))
