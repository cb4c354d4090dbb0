-- Counts that a full run does not meet: 4n + 2a is not met by the full run of Example.antt, and 4n + 3a alone not by
-- one with an add that was refused after a look-up; and what is claimed is not met by runs that are full but for one
-- part of it, whichever of the five that is. All are runs by the rules.
use Rattle.std.specs.Prelude.{◌≡◌, refl, ◌≢◌, false, List, [], ◌∷◌, ℕ, ◌+◌, ◌*◌, ◌<◌, length}
use Rattle.std.proofs.Common.{sym, ◌∙◌, arith}
use Rattle.def_basics.specs.Base.{occurrences}
use Rattle.def_basics.specs.Laws.{never}
use Rattle.def_terms.specs.Terms.{Arguments, finish_of}
use Rattle.def_terms.specs.Runs.{post_add, step, get}
use Rattle.def_terms.specs.Starred.{S, job}
use Rattle.def_rules.specs.Rules.{empty}
use Rattle.def_call_order.specs.Calls.{idle, adding, Quiet, accepted_adds}
use Rattle.def_demand.specs.Demand.{add_of}
use Rattle.def_host_calls.specs.HostCalls.{HostCall, single, whole_add, whole_finish}
use Rattle.def_host_calls.specs.RightCalls.{right}
use Rattle.def_audit.specs.Audit.{handed_in, told_by}
use Rattle.def_audit.specs.Served.{names_listed}
use Rattle.thm_full_run.specs.FullRun.{looked_up}
use Rattle.thm_full_run.specs.Checked.{turn, both_idle, each_finished}
use Rattle.thm_full_run.specs.Example.{first_read, all_read, jobs_entered, finishes_of, steps_of, steps_due, IsFull}
use Rattle.thm_full_run.specs.Example.{computing}
use Rattle.thm_full_run.specs.Example.{adding_up, working, steps_22, entered_all, arcs_2, looked_up_0, full_run}

-- a claim of runs: each full one takes so many steps, by its jobs, its arcs and the look-ups of its refused adds
abbrev pub Takes : (ℕ → ℕ → ℕ → ℕ) → Type 0
Takes count =
    (adds work : List HostCall) → IsFull adds work
    → steps_of adds work
    ≡ count (length (jobs_entered adds work)) (names_listed (jobs_entered adds work)) (looked_up (all_read adds work).calls)

-- ---- 4n + 2a
pub not_twice_the_arcs : Takes (λ n a k. 4 * n + 2 * a + k) → ⊥
not_twice_the_arcs claim =
    let z = rw (steps_22, entered_all, arcs_2, looked_up_0) at (claim adding_up working full_run) in omega arith

-- two lists that are the same
alike : {x y : List Arguments} (l : List Arguments) → x ≡ l → y ≡ l → x ≡ y
alike l e f = e ∙ sym f

-- ---- the calls: 1 is added; an add of 4, which needs 1; worker w asks; worker w finishes a job
abbrev one_in : HostCall
one_in = whole_add S 0 (job 1 [])

abbrev four : Arguments
four = job 4 (1 ∷ [])

abbrev four_in : HostCall
four_in = whole_add S 0 four

abbrev asks : ℕ → HostCall
asks w = single (get S w)

abbrev ends : ℕ → ℕ → HostCall
ends w name = whole_finish S w (finish_of name false)

abbrev steps_on : HostCall
steps_on = single (step S 0)

-- ---- 4n + 3a alone: 4 needs 1, which is there, and 9, which is not, so its add is refused after a look-up. The run is
-- full, and takes 5 steps, and not 4
abbrev refused_late : List HostCall
refused_late = one_in ∷ whole_add S 0 (job 4 (1 ∷ 9 ∷ [])) ∷ []

abbrev one_worked : List HostCall
one_worked = asks 0 ∷ ends 0 1 ∷ []

refused_is_full : IsFull refused_late one_worked
unfolding computing
refused_is_full = record {
  none_handed = refl;
  none_adding = λ w a k e. never (cc);
  none_later = alike (job 1 [] ∷ []) refl refl;
  quiet = λ w. refl;
  finished = each_finished (finishes_of refused_late one_worked) (jobs_entered refused_late one_worked) refl;
}

takes_5 : steps_of refused_late one_worked ≡ 5
unfolding computing
takes_5 = refl

formula_4 : 4 * length (jobs_entered refused_late one_worked) + 3 * names_listed (jobs_entered refused_late one_worked) ≡ 4
unfolding computing
formula_4 = refl

pub not_without_look_ups : Takes (λ n a k. 4 * n + 3 * a) → ⊥
not_without_look_ups claim =
    let z = rw (takes_5, formula_4) at (claim refused_late one_worked refused_is_full) in omega arith

-- ---- the parts of a full run
pub data Part : Type 0 where
  none_handed none_adding none_later quiet finished : Part

module _ (adds work : List HostCall) where
  abbrev pub Meets : Part → Type 0
  Meets none_handed = handed_in (told_by right empty adds) ≡ []
  Meets none_adding = (w : ℕ) (a : Arguments) (k : ℕ) → (first_read adds work).pending w ≡ adding a k → ⊥
  Meets none_later = jobs_entered adds work ≡ accepted_adds (first_read adds work).calls
  Meets quiet = Quiet (all_read adds work)
  Meets finished =
      (j : ℕ) → j < length (jobs_entered adds work)
      → 0 < occurrences (add_of (jobs_entered adds work) j).name (finishes_of adds work)

  -- they are all there are
  pub all_parts : ((p : Part) → Meets p) → IsFull adds work
  all_parts m = record {
    none_handed = m none_handed;
    none_adding = m none_adding;
    none_later = m none_later;
    quiet = m quiet;
    finished = m finished;
  }

-- a run that is full but for one part, and does not take the steps claimed
pub record Needed (p : Part) : Type 0 where
  pub adds : List HostCall
  pub work : List HostCall
  pub others : (q : Part) → q ≢ p → Meets adds work q
  pub not_met : steps_of adds work ≢ steps_due adds work

-- the claim that runs which are full but for that part take the steps of full runs too: such a run refutes it
abbrev pub TakesWithout : Part → Type 0
TakesWithout p =
    (adds work : List HostCall) → ((q : Part) → q ≢ p → Meets adds work q) → steps_of adds work ≡ steps_due adds work

not_without : {p : Part} → Needed p → TakesWithout p → ⊥
not_without n claim = n.not_met (claim n.adds n.work n.others)

-- ---- full but for a job that is handed out in the first part: an add that ends after its prerequisite was finished
-- finds it finished, and makes no arc: 10 steps, and not 11
abbrev handed_soon : List HostCall
handed_soon = one_in ∷ asks 0 ∷ ends 0 1 ∷ four_in ∷ []

abbrev rest_of_it : List HostCall
rest_of_it = asks 0 ∷ ends 0 4 ∷ []

pub handed_needed : Needed none_handed
unfolding computing
handed_needed = record { adds = handed_soon; work = rest_of_it; others = others; not_met = λ e. omega arith }
  where
    others : (q : Part) → q ≢ none_handed → Meets handed_soon rest_of_it q
    others none_handed n = absurd (n refl)
    others none_adding n = λ w a k e. never (cc)
    others none_later n = alike (job 1 [] ∷ four ∷ []) refl refl
    others quiet n = λ w. refl
    others finished n = each_finished (finishes_of handed_soon rest_of_it) (jobs_entered handed_soon rest_of_it) refl

pub not_without_none_handed : TakesWithout none_handed → ⊥
not_without_none_handed = not_without handed_needed

-- ---- full but for an add that is accepted in the second part: it finds its prerequisite finished: 10 steps, not 11
abbrev added_late : List HostCall
added_late = asks 0 ∷ ends 0 1 ∷ four_in ∷ rest_of_it

pub later_needed : Needed none_later
unfolding computing
later_needed = record { adds = one_in ∷ []; work = added_late; others = others; not_met = λ e. omega arith }
  where
    others : (q : Part) → q ≢ none_later → Meets (one_in ∷ []) added_late q
    others none_handed n = refl
    others none_adding n = λ w a k e. never (cc)
    others none_later n = absurd (n refl)
    others quiet n = λ w. refl
    others finished n = each_finished (finishes_of (one_in ∷ []) added_late) (jobs_entered (one_in ∷ []) added_late) refl

pub not_without_none_later : TakesWithout none_later → ⊥
not_without_none_later = not_without later_needed

-- ---- full but for an add that entered and is half done at the end of the first part: it finds its prerequisite
-- finished when it comes to link it: 10 steps, and not 11
abbrev enters_only : List HostCall
enters_only = one_in ∷ single (post_add S 0 four) ∷ steps_on ∷ steps_on ∷ []

abbrev links_late : List HostCall
links_late = asks 1 ∷ ends 1 1 ∷ steps_on ∷ steps_on ∷ rest_of_it

pub adding_needed : Needed none_adding
unfolding computing
adding_needed = record { adds = enters_only; work = links_late; others = others; not_met = λ e. omega arith }
  where
    others : (q : Part) → q ≢ none_adding → Meets enters_only links_late q
    others none_handed n = refl
    others none_adding n = absurd (n refl)
    others none_later n = alike (job 1 [] ∷ four ∷ []) refl refl
    others quiet n =
        both_idle
        (turn 0 idle ∷ turn 0 (adding four 3) ∷ turn 0 (adding four 2) ∷ turn 0 (adding four 1)
        ∷ turn 0 (adding four 0)
        ∷ [])
        refl refl refl
    others finished n = each_finished (finishes_of enters_only links_late) (jobs_entered enters_only links_late) refl

pub not_without_none_adding : TakesWithout none_adding → ⊥
not_without_none_adding = not_without adding_needed

-- ---- full but for an add that is half done at the end, after a look-up: 5 steps, and not 4
abbrev looks_up_last : List HostCall
looks_up_last = asks 0 ∷ ends 0 1 ∷ single (post_add S 0 four) ∷ steps_on ∷ []

pub quiet_needed : Needed quiet
unfolding computing
quiet_needed = record { adds = one_in ∷ []; work = looks_up_last; others = others; not_met = λ e. omega arith }
  where
    others : (q : Part) → q ≢ quiet → Meets (one_in ∷ []) looks_up_last q
    others none_handed n = refl
    others none_adding n = λ w a k e. never (cc)
    others none_later n = alike (job 1 [] ∷ []) refl refl
    others quiet n = absurd (n refl)
    others finished n =
        each_finished (finishes_of (one_in ∷ []) looks_up_last) (jobs_entered (one_in ∷ []) looks_up_last) refl

pub not_without_quiet : TakesWithout quiet → ⊥
not_without_quiet = not_without quiet_needed

-- ---- full but for a job that is never handed out: 2 steps, and not 4
pub finished_needed : Needed finished
unfolding computing
finished_needed = record { adds = one_in ∷ []; work = []; others = others; not_met = λ e. omega arith }
  where
    others : (q : Part) → q ≢ finished → Meets (one_in ∷ []) [] q
    others none_handed n = refl
    others none_adding n = λ w a k e. never (cc)
    others none_later n = alike (job 1 [] ∷ []) refl refl
    others quiet n = λ w. refl
    others finished n = absurd (n refl)

pub not_without_finished : TakesWithout finished → ⊥
not_without_finished = not_without finished_needed

-- ---- so each part is needed
pub needed : (p : Part) → Needed p
needed none_handed = handed_needed
needed none_adding = adding_needed
needed none_later = later_needed
needed quiet = quiet_needed
needed finished = finished_needed
