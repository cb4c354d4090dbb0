-- Systems that load minutes otherwise than docs/RULES.md has it, each refuted by a clause of the claim; and a right
-- load by the rules.
use Rattle.std.specs.Prelude.{◌≡◌, refl, Bool, true, false, ◌&&◌, ◌||◌, List, [], ◌∷◌, ◌++◌, ℕ, ltb, leb, eqb, length, get_or, drop}
use Rattle.def_numbers.specs.Numbers.{classes, most_minutes, wrong_size, wrong_minutes, jobs_entered}
use Rattle.def_basics.specs.Base.{pick}
use Rattle.def_minutes.specs.Minutes.{fixed_minutes}
use Rattle.def_minutes.specs.Rising.{rises_above, is_rising}
use Rattle.def_terms.specs.Terms.{same_sizes}
use Rattle.def_terms.specs.Runs.{Item, post_add, post_finish, step, get, load, Result, result_of, after, events}
use Rattle.def_terms.specs.Starred.{S, sizes, job, added, answers_of, hands}
use Rattle.def_terms.specs.declared.Answer.TheVariants.{Loaded, Refused}
use Rattle.def_rules.specs.Rules.{Graph, Call, idle, looking, linking, marking, notifying, empty, with_minutes}
use Rattle.def_rules.specs.Rules.{load_minutes}
use Rattle.def_rules.specs.Rules.{perform}
use Rattle.def_rules.specs.Observed.{seen}
use Rattle.def_demand.specs.Demand.{Minutes}
use Rattle.def_demand.specs.Wrong.Clauses.{System, Lacks, loads, minutes, running, booking, apart, code}
use Rattle.def_demand.specs.Wrong.Orders as orders

-- ---- the rules but for the load
abbrev pub loading : (Graph → List ℕ → Result Graph) → System
loading on_load g (post_add s w a) = perform S g (post_add s w a)
loading on_load g (post_finish s w f) = perform S g (post_finish s w f)
loading on_load g (step s w) = perform S g (step s w)
loading on_load g (get s w) = perform S g (get s w)
loading on_load g (load s m) = pick (same_sizes s S) (on_load g m) (result_of (Refused wrong_size 0) g)

-- with the rules' own load it is the rules
pub own_load : (g : Graph) (i : Item) → loading load_minutes g i ≡ perform S g i
unfolding perform
own_load g (post_add s w a) = refl
own_load g (post_finish s w f) = refl
own_load g (step s w) = refl
own_load g (get s w) = refl
own_load g (load s m) = refl

-- values are refused by 17 unless the first test holds, and then by 18 unless the second does
abbrev pub loading_if : (List ℕ → Bool) → (Graph → Bool) → System
loading_if right early =
    loading (λ g m. pick (right m)
    (pick (early g) (result_of Loaded (with_minutes g m)) (result_of (Refused jobs_entered 0) g))
    (result_of (Refused wrong_minutes 0) g))

abbrev pub none_entered : Graph → Bool
none_entered g = eqb (length g.jobs) 0

-- with the rules' own tests it is the rules
pub own_tests : (g : Graph) (i : Item) → loading_if is_rising none_entered g i ≡ perform S g i
unfolding perform load_minutes
own_tests g (post_add s w a) = refl
own_tests g (post_finish s w f) = refl
own_tests g (step s w) = refl
own_tests g (get s w) = refl
own_tests g (load s m) = refl

-- ---- values: a district's own, and others that are wrong
abbrev pub middle : List ℕ
middle = 30 ∷ 40 ∷ 50 ∷ 60 ∷ 70 ∷ 80 ∷ 90 ∷ 100 ∷ 110 ∷ 120 ∷ 130 ∷ 140 ∷ 150 ∷ []

abbrev pub district : List ℕ
district = 10 ∷ 20 ∷ (middle ++ (1440 ∷ []))

abbrev pub equal_ones : List ℕ
equal_ones = 10 ∷ 10 ∷ (middle ++ (1440 ∷ []))

abbrev pub past_a_day : List ℕ
past_a_day = 10 ∷ 20 ∷ (middle ++ (1441 ∷ []))

abbrev pub from_nought : List ℕ
from_nought = 0 ∷ 20 ∷ (middle ++ (1440 ∷ []))

abbrev pub fifteen : List ℕ
fifteen = 10 ∷ 20 ∷ middle

-- job 1 is posted; and has entered
abbrev pub posted : List Item
posted = post_add S 0 (job 1 []) ∷ []

abbrev pub entered : List Item
entered = posted ++ (step S 0 ∷ [])

-- ---- the rules take a district's minutes, and hand out by them: of classes 1 and 2, which then have 20 and 30
-- minutes, the second
abbrev pub loaded : List Item
loaded = load S district ∷ (orders.added 1 2 ++ (get S 0 ∷ []))

pub right_load : answers_of (events (perform S) empty loaded) ≡ Loaded ∷ (added ++ (added ++ (hands 1 2 ∷ [])))
unfolding running answers_of
right_load = refl

pub right_minutes : (after (perform S) empty loaded).minutes ≡ district
unfolding running
right_minutes = refl

-- ---- every load is refused by 18
abbrev pub loads_none : System
loads_none = loading_if is_rising (λ g. false)

-- `loads`: no job has entered
pub loads_none_lem : Lacks loads_none [] loads
unfolding booking
loads_none_lem l = apart code refl (l S district)

-- ---- a load is accepted after a job has entered
abbrev pub loads_late : System
loads_late = loading_if is_rising (λ g. true)

-- `loads`: job 1 has entered, and 18 must come
pub loads_late_lem : Lacks loads_late entered loads
unfolding booking
loads_late_lem l = apart code refl (l S district)

-- ---- a load is refused from the post of an add on, though no job has entered
abbrev pub is_idle : Call → Bool
is_idle idle = true
is_idle (looking a i) = false
is_idle (linking a j i t) = false
is_idle (marking f) = false
is_idle (notifying p k f) = false

abbrev pub refuses_posted : System
refuses_posted = loading_if is_rising (λ g. none_entered g && is_idle (g.workers 0).call)

-- `loads`: the add of job 1 is posted and has not entered
pub refuses_posted_lem : Lacks refuses_posted posted loads
unfolding booking
refuses_posted_lem l = apart code refl (l S district)

-- ---- other tests of the values
-- each value is within a limit and stands to the one before it as a test has it
unfoldable pub passes : (ℕ → ℕ → Bool) → ℕ → ℕ → List ℕ → Bool
passes below most before [] = true
passes below most before (value ∷ rest) = below before value && leb value most && passes below most value rest

abbrev pub sixteen : List ℕ → Bool
sixteen m = eqb (length m) classes

-- equal neighbours are accepted
abbrev pub takes_equal : System
takes_equal = loading_if (λ m. sixteen m && passes leb most_minutes 1 m) none_entered

-- `loads`: classes 0 and 1 have 10 minutes both, and 17 must come
pub takes_equal_lem : Lacks takes_equal [] loads
unfolding booking passes
takes_equal_lem l = apart code refl (l S equal_ones)

-- 1,441 is accepted
abbrev pub takes_past_a_day : System
takes_past_a_day = loading_if (λ m. sixteen m && passes ltb 1441 0 m) none_entered

-- `loads`: class 15 has 1,441 minutes, and 17 must come
pub takes_past_a_day_lem : Lacks takes_past_a_day [] loads
unfolding booking passes
takes_past_a_day_lem l = apart code refl (l S past_a_day)

-- 0 is accepted
abbrev pub takes_nought : System
takes_nought = loading_if (λ m. sixteen m && passes ltb most_minutes (get_or m 0 0) (drop 1 m)) none_entered

-- `loads`: class 0 has 0 minutes, and 17 must come
pub takes_nought_lem : Lacks takes_nought [] loads
unfolding booking passes
takes_nought_lem l = apart code refl (l S from_nought)

-- fifteen values are accepted
abbrev pub takes_fifteen : System
takes_fifteen = loading_if (λ m. (sixteen m || eqb (length m) 15) && rises_above 0 m) none_entered

-- `loads`: class 15 has no value, and 17 must come
pub takes_fifteen_lem : Lacks takes_fifteen [] loads
unfolding booking
takes_fifteen_lem l = apart code refl (l S fifteen)

-- ---- 18 comes before 17
abbrev pub seeks_jobs_first : System
seeks_jobs_first = loading (λ g m. pick (none_entered g) (load_minutes g m) (result_of (Refused jobs_entered 0) g))

-- `loads`: job 1 has entered, and the values are wrong
pub seeks_jobs_first_lem : Lacks seeks_jobs_first entered loads
unfolding booking
seeks_jobs_first_lem l = apart code refl (l S equal_ones)

-- ---- 17 comes before 1
abbrev pub seeks_values_first : System
seeks_values_first g (post_add s w a) = perform S g (post_add s w a)
seeks_values_first g (post_finish s w f) = perform S g (post_finish s w f)
seeks_values_first g (step s w) = perform S g (step s w)
seeks_values_first g (get s w) = perform S g (get s w)
seeks_values_first g (load s m) =
    pick (is_rising m) (perform S g (load s m)) (result_of (Refused wrong_minutes 0) g)

-- `loads`: the load brings other sizes, and the values are wrong
pub seeks_values_first_lem : Lacks seeks_values_first [] loads
unfolding booking
seeks_values_first_lem l = apart code refl (l (sizes 5 4) equal_ones)

-- ---- a load answers `Loaded`, and the old minutes stay
abbrev pub keeps_old : System
keeps_old = loading (λ g m. result_of (load_minutes g m).answer g)

-- `def_minutes`: the load was accepted, and class 0 still has 1 minute
pub keeps_old_lem : Lacks keeps_old (load S district ∷ []) minutes
unfolding booking
keeps_old_lem = apart (λ m. get_or m 0 0) refl

-- ---- a load changes the minutes, even where it is refused
abbrev pub changes_anyway : System
changes_anyway = loading (λ g m. result_of (load_minutes g m).answer (with_minutes g m))

-- `def_minutes`: the load was refused by 17, and class 1 has 10 minutes
pub changes_by_17 : Lacks changes_anyway (load S equal_ones ∷ []) minutes
unfolding booking
changes_by_17 = apart (λ m. get_or m 1 0) refl

-- `def_minutes`: the load was refused by 18, and class 0 has 10 minutes
pub changes_by_18 : Lacks changes_anyway (entered ++ (load S district ∷ [])) minutes
unfolding booking
changes_by_18 = apart (λ m. get_or m 0 0) refl

-- ---- a step brings the fixed minutes back
abbrev pub forgets : System
forgets g (post_add s w a) = perform S g (post_add s w a)
forgets g (post_finish s w f) = perform S g (post_finish s w f)
forgets g (step s w) =
    let o = perform S g (step s w) in result_of o.answer (with_minutes o.state fixed_minutes)
forgets g (get s w) = perform S g (get s w)
forgets g (load s m) = perform S g (load s m)

-- `def_minutes`: a district's minutes were loaded, and once job 1 has entered class 0 has 1 minute
pub forgets_load : Lacks forgets (load S district ∷ entered) minutes
unfolding booking
forgets_load = apart (λ m. get_or m 0 0) refl

-- ---- laying out lets a load stand: the rules, from the fresh graph that it leaves
abbrev pub still_loaded : Graph
still_loaded = with_minutes empty district

-- `def_minutes`: "Laying out anew brings the fixed ones back"
pub still_loaded_lem : Minutes (perform S) seen S still_loaded [] → ⊥
unfolding booking
still_loaded_lem = apart (λ m. get_or m 0 0) refl
