-- What the steps share: what a plan does, the worker that steps, and a call that quits. Follows docs/RULES.md, "Steps"
-- and "Turned-away calls" (numbers 6, 7, 8). Assumes of the graph what the rules keep (`Sound`).
use Rattle.std.specs.Prelude.{◌≡◌, ◌≢◌, true, List, ℕ, ◌+◌, ◌<◌, ltb}
use Rattle.std.proofs.Math.Path.{refl}
use Rattle.def_terms.specs.Runs.{Result, result_of}
use Rattle.def_terms.specs.declared.Sizes.{Sizes}
use Rattle.def_terms.specs.declared.Answer.TheVariants.{Refused}
use Rattle.def_words.specs.Layout.{worker_shape, PLACE, view, Tables}
use Rattle.def_words.specs.Words.{put_field, next_place, answer_of, applied}
use Rattle.def_words.specs.declared.Plan.{Plan}
use Rattle.def_words.specs.declared.Plan.TheVariants.{Quit}
use Rattle.def_rules.specs.Rules.{Call, idle, Worker, Graph, with_call}
use Rattle.def_rules.specs.Sound.{Sound}
use Rattle.thm_representation.specs.Rep.{Ghost, Stands}
use Rattle.thm_representation_kept.specs.Keep.{quit_stands}
use Rattle.thm_words_refine_rules.specs.Workers.{Only, same_only, field_only}
use Rattle.thm_words_refine_rules.specs.Frames.{Same, same_ghost}
use Rattle.thm_words_refine_rules.specs.Agree.{Agrees, agrees, idle_only_lem, idle_words_lem}

-- what a plan does
abbrev pub done : Plan → Tables → ℕ → Result Tables
done p t w = result_of (answer_of p) (applied p t w)

-- a worker that goes on in the call c
abbrev pub turned : Graph → ℕ → Call → Worker
turned g w c = record { held = (g.workers w).held; call = c }

-- where the ghosts stay
pub unchanged : (g : Graph) (G : Ghost) (w u : ℕ) → u ≢ w → Same G G (g.workers u).call
unchanged g G w u e = same_ghost G (g.workers u).call

module _ (s : Sizes) (t : Tables) (g : Graph) (G : Ghost) (S : Stands s t g G) (O : Sound s g) (w : ℕ)
    (hw : w < s.workers) where
  -- no field stored, one more field, and the next place of a list
  pub here : Only s.workers t.workers t.workers w
  here = same_only s.workers t.workers w S.workers hw

  pub field : (m : List ℕ) → Only s.workers t.workers m w → (k x : ℕ) → ltb k worker_shape.width ≡ true
      → Only s.workers t.workers (put_field m w k x) w
  field = field_only s.workers t.workers w S.workers hw

  pub next_only : Only s.workers t.workers (next_place (view t) w t.workers) w
  next_only = field t.workers here PLACE ((view t).worker PLACE w + 1) refl

  pub quit_agrees : (n i : ℕ) → Agrees s (done (Quit n i) t w) (result_of (Refused n i) (with_call g w idle))
  unfolding applied
  quit_agrees n i =
      agrees s t g G S O w (done (Quit n i) t w) (result_of (Refused n i) (with_call g w idle)) G (turned g w idle) refl
      (quit_stands s t g G S n i w idle)
      refl
      (idle_only_lem s t g G S O w hw)
      (unchanged g G w)
      (idle_words_lem s t g G S O w hw G)
