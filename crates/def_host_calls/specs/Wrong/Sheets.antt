-- Sheets that are served wrongly, each with a list of calls for which a clause of the claim does not hold.
use Rattle.std.specs.Prelude.{refl, Bool, true, false, List, [], ◌∷◌, ◌++◌, map, ℕ, zero, suc, length, get_or, replicate}
use Rattle.def_basics.specs.Base.{pick}
use Rattle.def_terms.specs.Terms.{Arguments}
use Rattle.def_terms.specs.Runs.{post_add, step, after}
use Rattle.def_terms.specs.Starred.{S, job}
use Rattle.def_terms.specs.declared.Sizes.{Sizes}
use Rattle.def_terms.specs.declared.Answer.{Answer}
use Rattle.def_terms.specs.declared.Answer.TheVariants.{Laid, Loaded, Posted, Going, Ended, NoneReady, Handed, Refused}
use Rattle.def_rules.specs.Rules.{Graph, Call, idle, looking, linking, marking, notifying, with_call}
use Rattle.def_rules.specs.Rules as rules
use Rattle.def_demand.specs.Wrong.Clauses.{apart}
use Rattle.def_host_calls.specs.HostCalls.{single, sheet, each, Replied, replied, add_made, last_of, adds_answer}
use Rattle.def_host_calls.specs.HostCalls.{adds_made}
use Rattle.def_host_calls.specs.Wrong.Calls.{acts, Answering, turning, adds, finishes, sheets, machine, Lacks}
use Rattle.def_host_calls.specs.Wrong.Calls.{leaves}
use Rattle.def_host_calls.specs.Wrong.Calls.{reads, calling}

-- a sheet of 4 needing 1, which 6 refuses, and then of 2; one of 1 and 2; one with an entry too many
abbrev pub refused_first : List Arguments
refused_first = job 4 (1 ∷ []) ∷ job 2 [] ∷ []

abbrev pub one_and_two : List Arguments
one_and_two = job 1 [] ∷ job 2 [] ∷ []

abbrev pub too_many : List Arguments
too_many = replicate 65 (job 1 [])

-- ---- a machine that serves sheets otherwise, where no number turns them away
abbrev pub serving : (Graph → Sizes → ℕ → List Arguments → Replied Graph) → Answering
serving serve = machine adds finishes otherwise
  where
    otherwise : ℕ → Graph → Sizes → ℕ → List Arguments → Replied Graph
    otherwise zero g s w l = serve g s w l
    otherwise (suc n) g s w l = sheets (suc n) g s w l

-- ---- a sheet that stops at its first refused entry
abbrev pub where_accepted : Answer → List Arguments → List Arguments
where_accepted Ended l = l
where_accepted (Refused n i) l = []
where_accepted Laid l = []
where_accepted Loaded l = []
where_accepted Posted l = []
where_accepted Going l = []
where_accepted NoneReady l = []
where_accepted (Handed h) l = []

unfoldable pub up_to_refused : Graph → Sizes → ℕ → List Arguments → List Arguments
up_to_refused g s w [] = []
up_to_refused g s w (a ∷ l) =
    a ∷ where_accepted (last_of acts (add_made acts s w a g) g) (up_to_refused (after acts g (add_made acts s w a g)) s w l)

abbrev pub stops : Answering
stops = serving (λ g s w l. sheets 0 g s w (up_to_refused g s w l))

-- `leaves`: 2 was not added
pub stops_at_refusal : Lacks turning stops (sheet S 0 refused_first ∷ []) leaves
unfolding calling up_to_refused
stops_at_refusal e = apart (λ (g : Graph). length g.jobs) refl e

-- ---- a sheet with a refused entry leaves nothing of the others, and answers as if it had
unfoldable pub all_accepted : List Answer → Bool
all_accepted [] = true
all_accepted (Ended ∷ l) = all_accepted l
all_accepted (Refused n i ∷ l) = false
all_accepted (Laid ∷ l) = false
all_accepted (Loaded ∷ l) = false
all_accepted (Posted ∷ l) = false
all_accepted (Going ∷ l) = false
all_accepted (NoneReady ∷ l) = false
all_accepted (Handed h ∷ l) = false

abbrev pub all_or_nothing : Answering
all_or_nothing = serving (λ g s w l.
    replied (each 0 (adds_answer acts s w l g))
    (pick (all_accepted (adds_answer acts s w l g)) (after acts g (adds_made acts s w l g)) g))

-- `leaves`: 2 was not added
pub all_or_nothing_lem : Lacks turning all_or_nothing (sheet S 0 refused_first ∷ []) leaves
unfolding calling all_accepted
all_or_nothing_lem e = apart (λ (g : Graph). length g.jobs) refl e

-- ---- a sheet that runs the second entry first
abbrev pub second_first : List Arguments → List Arguments
second_first [] = []
second_first (a ∷ []) = a ∷ []
second_first (a ∷ b ∷ l) = b ∷ a ∷ l

abbrev pub swaps : Answering
swaps = serving (λ g s w l. sheets 0 g s w (second_first l))

-- `leaves`: job 0 is named 2
pub swaps_entries : Lacks turning swaps (sheet S 0 one_and_two ∷ []) leaves
unfolding calling
swaps_entries e = apart (λ (g : Graph). (rules.job g 0).name) refl e

-- ---- a sheet that another worker's step comes between
abbrev pub steps_another : Answering
steps_another = serving (λ g s w l.
    replied (each 0 (adds_answer acts s w l g)) (after acts g (adds_made acts s w l g ++ (step S 1 ∷ []))))

-- `leaves`: the add of worker 1 has entered
pub steps_another_lem : Lacks turning steps_another
    (single (post_add S 1 (job 5 [])) ∷ sheet S 0 one_and_two ∷ []) leaves
unfolding calling
steps_another_lem e = apart (λ (g : Graph). length g.jobs) refl e

-- ---- a sheet that answers rightly, and changes nothing
abbrev pub adds_none : Answering
adds_none = serving (λ g s w l. replied (each 0 (adds_answer acts s w l g)) g)

-- `leaves`: no job was made
pub adds_none_lem : Lacks turning adds_none (sheet S 0 one_and_two ∷ []) leaves
unfolding calling
adds_none_lem e = apart (λ (g : Graph). length g.jobs) refl e

-- ---- a sheet whose last entry is refused leaves its worker half done
abbrev pub call_number : Call → ℕ
call_number idle = 0
call_number (looking a i) = 1
call_number (linking a j i t) = 2
call_number (marking f) = 3
call_number (notifying p k f) = 4

abbrev pub half : List Arguments → Graph → ℕ → Graph
half [] g w = g
half (a ∷ l) g w = with_call g w (looking a 0)

abbrev pub stays_half_done : Answering
stays_half_done = serving (λ g s w l.
    replied (each 0 (adds_answer acts s w l g)) (half l (after acts g (adds_made acts s w l g)) w))

-- `leaves`: worker 0 is in a call
pub stays_half_done_lem : Lacks turning stays_half_done (sheet S 0 (job 4 (1 ∷ []) ∷ []) ∷ []) leaves
unfolding calling
stays_half_done_lem e = apart (λ (g : Graph). call_number (g.workers 0).call) refl e

-- ---- answers in reverse order
unfoldable pub backwards : List Answer → List Answer
backwards [] = []
backwards (x ∷ l) = backwards l ++ (x ∷ [])

abbrev pub reverses : Answering
reverses = serving (λ g s w l.
    replied (each 0 (backwards (adds_answer acts s w l g))) (after acts g (adds_made acts s w l g)))

-- `reads`: 4 is read as added, and 2 as refused
pub reverses_answers : Lacks turning reverses (sheet S 0 refused_first ∷ []) reads
unfolding calling backwards
reverses_answers r = apart (λ l. get_or l 0 0) refl r.added

-- ---- every entry answered as accepted
abbrev pub accepts : Answering
accepts = serving (λ g s w l.
    replied (each 0 (map (λ (x : Answer). Ended) (adds_answer acts s w l g))) (after acts g (adds_made acts s w l g)))

-- `reads`: 4 is read as added
pub accepts_all : Lacks turning accepts (sheet S 0 refused_first ∷ []) reads
unfolding calling
accepts_all r = apart (λ (l : List ℕ). length l) refl r.added
