-- A call run whole: posted, and stepped until it does not go on ("each run whole").
use Rattle.std.specs.Prelude.{ℕ, zero, suc, ◌+◌, ◌*◌}
use Rattle.def_terms.specs.Terms.{Arguments, Finish}
use Rattle.def_terms.specs.Runs.{Result, result_of}
use Rattle.def_terms.specs.Cases.{if_posted, if_going}
use Rattle.def_terms.specs.declared.Sizes.{Sizes}
use Rattle.def_terms.specs.declared.Answer.{Answer}
use Rattle.def_terms.specs.declared.Answer.TheVariants.{Going}
use Rattle.def_words.specs.Layout.{Tables}
use Rattle.def_words.specs.Words.{step_words, add_words, finish_words}

-- where a step or a post goes on, what follows; otherwise how it ended
abbrev pub and_then : Answer → Tables → (Tables → Result Tables) → Result Tables
and_then x t next = if_posted x (next t) (if_going x (next t) (result_of x t))

-- at most k steps of worker w
unfoldable pub steps_of : ℕ → Sizes → ℕ → Tables → Result Tables
steps_of zero s w t = result_of Going t
steps_of (suc k) s w t = and_then (step_words s t w).answer (step_words s t w).state (steps_of k s w)

-- "An accepted add takes exactly 2d + 2 steps", and a finish "1 step more than it has arcs", of which there are at most
-- A
unfoldable pub whole_add : Sizes → Tables → ℕ → Arguments → Result Tables
whole_add s t w a =
    and_then (add_words s t w a).answer (add_words s t w a).state (steps_of (2 * a.count + 2) s w)

unfoldable pub whole_finish : Sizes → Tables → ℕ → Finish → Result Tables
whole_finish s t w f =
    and_then (finish_words s t w f).answer (finish_words s t w f).state (steps_of (s.arcs + 1) s w)
