-- A full run of four jobs and two arcs by the rules, in which two adds are stepped in turns: it is one, and it takes
-- 4·4 + 3·2 = 22 steps, which is computed. So the promise is not empty.
use Rattle.std.specs.Prelude.{◌≡◌, refl, true, false, List, [], ◌∷◌, ℕ, ◌+◌, ◌*◌, length}
use Rattle.std.proofs.Common.{sym, ◌∙◌}
use Rattle.def_basics.specs.Base.{occurrences}
use Rattle.def_basics.specs.Laws.{never}
use Rattle.def_terms.specs.Terms.{Arguments, finish_of}
use Rattle.def_terms.specs.Runs.{post_add, post_finish, step, get}
use Rattle.def_terms.specs.Starred.{S, job}
use Rattle.def_rules.specs.Rules.{empty}
use Rattle.def_rules.specs.Observed.{seen}
use Rattle.def_call_order.specs.Calls.{idle, adding, finishing, Reading, Quiet, accepted_adds, accepted_finishes}
use Rattle.def_host_calls.specs.HostCalls.{HostCall, single, whole_add, whole_finish, sheet}
use Rattle.def_host_calls.specs.Wrong.Calls.{acts, turning, calling}
use Rattle.def_host_calls.specs.RightCalls.{right}
use Rattle.def_audit.specs.Audit.{handed_in, told_by}
use Rattle.def_audit.specs.Served.{names_listed}
use Rattle.thm_full_run.specs.Checked.{Turn, turn, after_turns, of_two, both_idle, each_among, each_finished}
use Rattle.thm_full_run.specs.FullRun as run
use Rattle.thm_full_run.specs.FullRun.{steps_taken, looked_up, first, all, entered, FullRun}

-- what is read of calls in two parts, the steps that they take, and what is claimed of them
module _ (adds work : List HostCall) where
  abbrev pub first_read : Reading
  first_read = first acts turning right seen S empty adds work

  abbrev pub all_read : Reading
  all_read = all acts turning right seen S empty adds work

  abbrev pub jobs_entered : List Arguments
  jobs_entered = entered acts turning right seen S empty adds work

  abbrev pub finishes_of : List ℕ
  finishes_of = accepted_finishes all_read.calls

  abbrev pub steps_of : ℕ
  steps_of = run.steps acts turning right seen S empty adds work

  -- what they are to be
  abbrev pub steps_due : ℕ
  steps_due = 4 * length jobs_entered + 3 * names_listed jobs_entered + looked_up all_read.calls

  abbrev pub IsFull : Type 0
  IsFull = FullRun acts turning right seen S empty adds work

-- what a run computes with
unfoldable pub computing : ℕ
unfolding calling handed_in told_by occurrences accepted_finishes names_listed steps_taken looked_up after_turns of_two
    each_among
computing = 0

-- a get comes too early and hands nothing out; 1 and 2 are added whole, the second by a sheet; worker 0 posts an add of
-- 3, which needs 1, and worker 1 one of 4, which needs 2, and they step them in turns, so that 4 enters first; an add
-- of 1 is refused by 7
abbrev pub adding_up : List HostCall
adding_up =
    single (get S 0) ∷ whole_add S 0 (job 1 []) ∷ sheet S 1 (job 2 [] ∷ []) ∷ single (post_add S 0 (job 3 (1 ∷ [])))
    ∷ single (post_add S 1 (job 4 (2 ∷ []))) ∷ single (step S 0) ∷ single (step S 1) ∷ single (step S 1)
    ∷ single (step S 0) ∷ single (step S 1) ∷ single (step S 0) ∷ single (step S 0) ∷ single (step S 1)
    ∷ whole_add S 0 (job 1 []) ∷ []

-- worker 0 gets 1 and worker 1 gets 2; while worker 1 finishes 2 as failed, by a mark and an arc, worker 0 finishes 1
-- whole; 3 is handed out, and 4, which is spoiled and so ends failed
abbrev pub working : List HostCall
working =
    single (get S 0) ∷ single (get S 1) ∷ single (post_finish S 1 (finish_of 2 true)) ∷ single (step S 1)
    ∷ whole_finish S 0 (finish_of 1 false) ∷ single (step S 1) ∷ single (get S 0) ∷ single (get S 1)
    ∷ whole_finish S 0 (finish_of 3 false) ∷ whole_finish S 1 (finish_of 4 true) ∷ single (get S 0) ∷ []

-- it takes 22 steps, for 4 jobs and 2 arcs
pub steps_22 : steps_of adding_up working ≡ 22
unfolding computing
steps_22 = refl

abbrev four_jobs : List Arguments
four_jobs = job 1 [] ∷ job 2 [] ∷ job 4 (2 ∷ []) ∷ job 3 (1 ∷ []) ∷ []

pub entered_all : jobs_entered adding_up working ≡ four_jobs
unfolding computing
entered_all = refl

entered_first : accepted_adds (first_read adding_up working).calls ≡ four_jobs
unfolding computing
entered_first = refl

pub arcs_2 : names_listed four_jobs ≡ 2
unfolding names_listed
arcs_2 = refl

pub looked_up_0 : looked_up (all_read adding_up working).calls ≡ 0
unfolding computing
looked_up_0 = refl

-- no call is half done at the end of the first part, and none at the end
abbrev first_turns : List Turn
first_turns =
    let a = job 3 (1 ∷ []) in
    let b = job 4 (2 ∷ []) in
    turn 1 idle ∷ turn 0 idle ∷ turn 0 (adding a 3) ∷ turn 1 (adding b 3) ∷ turn 0 (adding a 2) ∷ turn 1 (adding b 2)
    ∷ turn 1 (adding b 1) ∷ turn 0 (adding a 1) ∷ turn 1 (adding b 0) ∷ turn 0 (adding a 0) ∷ []

abbrev all_turns : List Turn
all_turns =
    let f = finish_of 2 true in
    turn 1 idle ∷ turn 1 (finishing f 1) ∷ turn 1 (finishing f 0) ∷ first_turns

first_quiet : Quiet (first_read adding_up working)
unfolding computing
first_quiet = both_idle first_turns refl refl refl

all_quiet : Quiet (all_read adding_up working)
unfolding computing
all_quiet = both_idle all_turns refl refl refl

-- all that a full run is
pub full_run : IsFull adding_up working
unfolding computing
full_run = record {
  none_handed = refl;
  none_adding = λ w a k e. never (cc (first_quiet w));
  none_later = entered_all ∙ sym entered_first;
  quiet = all_quiet;
  finished = each_finished (finishes_of adding_up working) (jobs_entered adding_up working) refl;
}
