-- Adds and finishes run whole wrongly, each with a list of calls for which a clause of the claim does not hold.
use Rattle.std.specs.Prelude.{refl, true, false, List, [], ◌∷◌, ◌++◌, ℕ, ◌+◌, length}
use Rattle.def_terms.specs.Terms.{Arguments, Finish, finish_of, bit}
use Rattle.def_terms.specs.Runs.{post_add, post_finish, step, get, after}
use Rattle.def_terms.specs.Starred.{S, job, steps}
use Rattle.def_terms.specs.declared.Sizes.{Sizes}
use Rattle.def_terms.specs.declared.Answer.TheVariants.{Ended}
use Rattle.def_rules.specs.Rules.{Graph, idle, with_call}
use Rattle.def_rules.specs.Rules as rules
use Rattle.def_demand.specs.Wrong.Clauses.{apart}
use Rattle.def_host_calls.specs.HostCalls.{HostCall, single, whole_add, whole_finish, one, Replied, replied}
use Rattle.def_host_calls.specs.Wrong.Calls.{acts, Answering, turning, ran, adds, finishes, sheets, machine}
use Rattle.def_host_calls.specs.Wrong.Calls.{Lacks}
use Rattle.def_host_calls.specs.Wrong.Calls.{leaves, reads, enters, calling}

-- ---- an add that ends after its entering step: no links, no settling
abbrev pub enters_and_ends : Graph → Sizes → ℕ → Arguments → Replied Graph
enters_and_ends g s w a =
    replied (one Ended) (with_call (after acts g (post_add s w a ∷ steps (a.count + 1) s w)) w idle)

abbrev pub ends_early : Answering
ends_early = machine enters_and_ends finishes sheets

-- `enters`: job 1 never waits
pub ends_early_lem : Lacks turning ends_early (whole_add S 0 (job 1 []) ∷ []) enters
unfolding calling
ends_early_lem e = apart (λ n. n) refl (e 0)

-- ---- an add that is posted, and not stepped
abbrev pub posts_only : Answering
posts_only = machine (λ g s w a. ran g (post_add s w a ∷ [])) finishes sheets

-- `leaves`: no job was made
pub posts_only_lem : Lacks turning posts_only (whole_add S 0 (job 1 []) ∷ []) leaves
unfolding calling
posts_only_lem e = apart (λ (g : Graph). length g.jobs) refl e

-- ---- a finish that marks and does not notify
abbrev pub marks_and_ends : Graph → Sizes → ℕ → Finish → Replied Graph
marks_and_ends g s w f = replied (one Ended) (with_call (after acts g (post_finish s w f ∷ step s w ∷ [])) w idle)

abbrev pub marks_only : Answering
marks_only = machine adds marks_and_ends sheets

-- 4 needs 1, which worker 0 holds
abbrev pub held : List HostCall
held = whole_add S 0 (job 1 []) ∷ whole_add S 0 (job 4 (1 ∷ [])) ∷ single (get S 0) ∷ []

-- `enters`: 4 never waits
pub marks_only_lem : Lacks turning marks_only (held ++ (whole_finish S 0 (finish_of 1 false) ∷ [])) enters
unfolding calling
marks_only_lem e = apart (λ n. n) refl (e 1)

-- ---- a finish that brings good, whatever it is given
abbrev pub ends_good : Answering
ends_good = machine adds (λ g s w f. finishes g s w (finish_of f.name false)) sheets

-- `leaves`: 1 is finished as good
pub ends_good_lem : Lacks turning ends_good (held ++ (whole_finish S 0 (finish_of 1 true) ∷ [])) leaves
unfolding calling
ends_good_lem e = apart (λ (g : Graph). bit (rules.job g 0).failed) refl e

-- ---- a finish that is refused answers as if it ended
abbrev pub ends_always : Answering
ends_always = machine adds (λ g s w f. replied (one Ended) (finishes g s w f).state) sheets

-- `reads`: worker 1 holds nothing
pub ends_always_lem : Lacks turning ends_always (whole_finish S 1 (finish_of 1 false) ∷ []) reads
unfolding calling
ends_always_lem r = apart (λ (l : List ℕ). length l) refl r.finished
