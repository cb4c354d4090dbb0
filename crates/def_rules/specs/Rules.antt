-- The rules of Johnson's dynamic task graph, as corrected in docs/RULES.md ("Steps", "Turned-away calls"): jobs with
-- their dependents, a queue, and workers with the call that each is in. No words, no damage.
use Rattle.std.specs.Prelude.{Bool, true, false, ◌&&◌, ◌||◌, not, List, [], ◌∷◌, ◌++◌, ℕ, suc, ◌+◌, ◌-◌, ltb, leb, eqb, length, get_or, set}
use Rattle.std.proofs.Math.Option.{Option, none, some}
use Rattle.def_numbers.specs.Numbers.{wrong_size, no_such_worker, half_done, worker_idle, wrong_arguments, unknown_name}
use Rattle.def_numbers.specs.Numbers.{name_present, tables_full, damaged, already_holding, not_held, wrong_minutes}
use Rattle.def_numbers.specs.Numbers.{jobs_entered}
use Rattle.def_numbers.specs.Numbers.{good_for_spoiled}
use Rattle.def_basics.specs.Base.{pick, update}
use Rattle.def_minutes.specs.Minutes.{minutes_in, fixed_minutes}
use Rattle.def_minutes.specs.Rising.{is_rising}
use Rattle.def_terms.specs.Terms.{settles, Label, unexecuted, executing, finished, Arguments, listed, arguments_wrong}
use Rattle.def_terms.specs.Terms.{same_sizes, Finish, Tally, no_tally, tally_one}
use Rattle.def_terms.specs.Order.{Order, heavier_first, first_by, without}
use Rattle.def_terms.specs.Runs.{Item, post_add, post_finish, step, get, load, Result, result_of}
use Rattle.def_terms.specs.declared.Sizes.{Sizes}
use Rattle.def_terms.specs.declared.HandOut.{HandOut}
use Rattle.def_terms.specs.declared.Answer.TheVariants.{Loaded, Posted, Going, Ended, NoneReady, Handed, Refused}

-- ---- the graph
-- a job; its dependents, by number, are the jobs that its finish notifies, oldest first. Its outcome is failed, or
-- good, which is also that of a job not finished; it is spoiled or not
pub record Job : Type 0 where
  pub name : ℕ
  pub label : Label
  pub count : ℕ
  pub class : ℕ
  pub grower : ℕ
  pub list : List ℕ
  pub dependents : List ℕ
  pub failed : Bool
  pub spoiled : Bool

-- the call half done: an add looking up its i-th listed name, or (all looked up) about to enter; an add whose job j
-- entered, linking its i-th name, with its tally t of finished prerequisites, or (all linked) about to settle; a finish
-- about to mark, failed or good; a finish of job p, failed or good, that has notified k dependents
pub data Call : Type 0 where
  idle : Call
  looking : Arguments → ℕ → Call
  linking : Arguments → ℕ → ℕ → Tally → Call
  marking : Bool → Call
  notifying : ℕ → ℕ → Bool → Call

pub record Worker : Type 0 where
  pub held : Option ℕ
  pub call : Call

-- jobs in the order they entered, arcs reserved so far, the queue of ready jobs, the workers, the minutes by class
pub record Graph : Type 0 where
  pub jobs : List Job
  pub reserved : ℕ
  pub queue : List ℕ
  pub workers : ℕ → Worker
  pub minutes : List ℕ

-- a job by its parts, in their order above
abbrev pub job_by : (name : ℕ) → Label → (count class grower : ℕ) (list dependents : List ℕ) (failed spoiled : Bool)
    → Job
job_by name label count class grower list dependents failed spoiled = record {
  name = name;
  label = label;
  count = count;
  class = class;
  grower = grower;
  list = list;
  dependents = dependents;
  failed = failed;
  spoiled = spoiled;
}

abbrev pub no_job : Job
no_job = job_by 0 unexecuted 0 0 0 [] [] false false

abbrev pub job : Graph → ℕ → Job
job g j = get_or g.jobs j no_job

-- "a fresh graph: no jobs, all workers idle and holding nothing", with the fixed minutes
unfoldable pub empty : Graph
empty = record {
  jobs = [];
  reserved = 0;
  queue = [];
  workers = λ w. record { held = none; call = idle };
  minutes = fixed_minutes;
}

-- ---- the job of a name
pub data Found : Type 0 where
  at : ℕ → Found
  missing : Found

unfoldable pub seek : ℕ → List Job → ℕ → Found
seek name [] i = missing
seek name (x ∷ l) i = pick (eqb x.name name) (at i) (seek name l (suc i))

abbrev pub find : Graph → ℕ → Found
find g name = seek name g.jobs 0

-- ---- changes
-- a graph by its parts, and one with one part changed
abbrev pub graph_by : List Job → ℕ → List ℕ → (ℕ → Worker) → List ℕ → Graph
graph_by jobs reserved queue workers minutes =
    record { jobs = jobs; reserved = reserved; queue = queue; workers = workers; minutes = minutes }

abbrev pub with_jobs : Graph → List Job → Graph
with_jobs g l = graph_by l g.reserved g.queue g.workers g.minutes

abbrev pub with_reserved : Graph → ℕ → Graph
with_reserved g n = graph_by g.jobs n g.queue g.workers g.minutes

abbrev pub with_queue : Graph → List ℕ → Graph
with_queue g q = graph_by g.jobs g.reserved q g.workers g.minutes

abbrev pub with_workers : Graph → (ℕ → Worker) → Graph
with_workers g f = graph_by g.jobs g.reserved g.queue f g.minutes

abbrev pub with_minutes : Graph → List ℕ → Graph
with_minutes g m = graph_by g.jobs g.reserved g.queue g.workers m

-- a job with another label, count, dependents and outcome, spoiled or not
abbrev pub job_with : Job → Label → ℕ → List ℕ → Bool → Bool → Job
job_with x label count dependents failed spoiled =
    job_by x.name label count x.class x.grower x.list dependents failed spoiled

abbrev pub with_label : Job → Label → Job
with_label x l = job_with x l x.count x.dependents x.failed x.spoiled

-- a job that is finished, with its outcome
abbrev pub ended : Job → Bool → Job
ended x failed = job_with x finished x.count x.dependents failed x.spoiled

-- a job whose count becomes c, and which is spoiled if the test holds; a spoiled job stays so
abbrev pub lowered : Job → ℕ → Bool → Job
lowered x c spoils = job_with x x.label c x.dependents x.failed (x.spoiled || spoils)

abbrev pub with_dependent : Job → ℕ → Job
with_dependent x j = job_with x x.label x.count (x.dependents ++ (j ∷ [])) x.failed x.spoiled

abbrev pub new_job : Arguments → Job
new_job a = job_by a.name unexecuted a.count a.class a.grower (listed a) [] false false

-- a worker's call becomes c, and its hold stays
abbrev pub turn : Graph → ℕ → Call → ℕ → Worker
turn g w c = update g.workers w (record { held = (g.workers w).held; call = c })

abbrev pub with_call : Graph → ℕ → Call → Graph
with_call g w c = with_workers g (turn g w c)

-- a job enters the queue, at its end, if the test holds
abbrev pub enqueue : Bool → List ℕ → ℕ → List ℕ
enqueue true q j = q ++ (j ∷ [])
enqueue false q j = q

-- ---- the steps of an add
-- one look-up: the name must be there
unfoldable pub look_up : Graph → ℕ → Arguments → ℕ → Found → Result Graph
look_up g w a i (at j) = result_of Going (with_call g w (looking a (suc i)))
look_up g w a i missing = result_of (Refused unknown_name i) (with_call g w idle)

-- entering: "makes the job with remaining count d, and reserves the next d arcs"
abbrev pub entered : Graph → ℕ → Arguments → Graph
entered g w a =
    with_jobs (with_reserved (with_call g w (linking a (length g.jobs) 0 no_tally)) (g.reserved + a.count))
    (g.jobs ++ (new_job a ∷ []))

unfoldable pub enter : Sizes → Graph → ℕ → Arguments → Found → Result Graph
enter s g w a (at j) = result_of (Refused name_present 0) (with_call g w idle)
enter s g w a missing =
    pick (leb s.jobs (length g.jobs) || ltb s.arcs (g.reserved + a.count))
    (result_of (Refused tables_full 0) (with_call g w idle))
    (result_of Going (entered g w a))

-- one link: "a finished prerequisite adds 1 to the worker's tally, any other gets the arc appended to its list"; "A
-- link to a failed job is noted beside the tally"
abbrev pub linked : Graph → (w : ℕ) → Arguments → (job place : ℕ) → Tally → (prerequisite : ℕ) → Graph
linked g w a j i t p =
    with_jobs (with_call g w (linking a j (suc i) t)) (set g.jobs p (with_dependent (job g p) j))

unfoldable pub link_to : Graph → (w : ℕ) → Arguments → (job place : ℕ) → Tally → (prerequisite : ℕ) → Label
    → Result Graph
link_to g w a j i t p finished = result_of Going (with_call g w (linking a j (suc i) (tally_one t (job g p).failed)))
link_to g w a j i t p unexecuted = result_of Going (linked g w a j i t p)
link_to g w a j i t p executing = result_of Going (linked g w a j i t p)

unfoldable pub link : Graph → ℕ → Arguments → ℕ → ℕ → Tally → Found → Result Graph
link g w a j i t (at p) = link_to g w a j i t p (job g p).label
link g w a j i t missing = result_of (Refused damaged 0) g

-- settling: "the remaining count falls by the tally, and the job enters the queue if" it settles; where a failed job
-- was noted, "settling spoils"
abbrev pub settled : Graph → ℕ → ℕ → Tally → ℕ → Graph
settled g w j t d =
    let left = (job g j).count - t.count in
    with_jobs (with_queue (with_call g w idle) (enqueue (settles left t.count d) g.queue j))
    (set g.jobs j (lowered (job g j) left t.noted))

-- ---- the steps of a finish
-- the mark: "labels the job finished and frees the worker's hold", and keeps the outcome f; with no dependents the call
-- ends
abbrev pub marked : Graph → ℕ → ℕ → Bool → Call → Graph
marked g w p f c =
    with_jobs (with_workers g (update g.workers w (record { held = none; call = c })))
    (set g.jobs p (ended (job g p) f))

unfoldable pub mark_dependents : Graph → ℕ → ℕ → Bool → List ℕ → Result Graph
mark_dependents g w p f [] = result_of Ended (marked g w p f idle)
mark_dependents g w p f (j ∷ l) = result_of Going (marked g w p f (notifying p 0 f))

unfoldable pub mark : Graph → ℕ → Bool → Option ℕ → Result Graph
mark g w f (some p) = mark_dependents g w p f (job g p).dependents
mark g w f none = result_of (Refused damaged 0) g

-- one arc: "lowers that dependent's count by 1; a count that reaches 0 puts that job in the queue"; "a failed finish's
-- step for an arc spoils that arc's dependent"
abbrev pub notified : Graph → ℕ → ℕ → Bool → Call → Graph
notified g w j f c =
    let left = (job g j).count - 1 in
    with_jobs (with_queue (with_call g w c) (enqueue (eqb left 0) g.queue j))
    (set g.jobs j (lowered (job g j) left f))

unfoldable pub notify : Graph → ℕ → ℕ → ℕ → Bool → Result Graph
notify g w p k f =
    pick (ltb (suc k) (length (job g p).dependents))
    (result_of Going (notified g w (get_or (job g p).dependents k 0) f (notifying p (suc k) f)))
    (result_of Ended (notified g w (get_or (job g p).dependents k 0) f idle))

-- ---- one step of the call that a worker is in
unfoldable pub step_call : Sizes → Graph → ℕ → Call → Result Graph
step_call s g w idle = result_of (Refused worker_idle 0) g
step_call s g w (looking a i) =
    pick (ltb i a.count) (look_up g w a i (find g (get_or (listed a) i 0))) (enter s g w a (find g a.name))
step_call s g w (linking a j i t) =
    pick (ltb i a.count) (link g w a j i t (find g (get_or (listed a) i 0)))
    (result_of Ended (settled g w j t a.count))
step_call s g w (marking f) = mark g w f (g.workers w).held
step_call s g w (notifying p k f) = notify g w p k f

-- ---- posts and gets, which only an idle worker may make
unfoldable pub when_idle : Graph → Call → Result Graph → Result Graph
when_idle g idle r = r
when_idle g (looking a i) r = result_of (Refused half_done 0) g
when_idle g (linking a j i t) r = result_of (Refused half_done 0) g
when_idle g (marking f) r = result_of (Refused half_done 0) g
when_idle g (notifying p k f) r = result_of (Refused half_done 0) g

unfoldable pub add_posted : Graph → ℕ → Arguments → Result Graph
add_posted g w a =
    pick (arguments_wrong a) (result_of (Refused wrong_arguments 0) g) (result_of Posted (with_call g w (looking a 0)))

-- "19, good for a spoiled job, after 11"
abbrev pub ends_good : Graph → ℕ → Finish → Bool
ends_good g p f = (job g p).spoiled && not f.failed

unfoldable pub finish_posted : Graph → ℕ → Finish → Option ℕ → Result Graph
finish_posted g w f none = result_of (Refused not_held 0) g
finish_posted g w f (some p) =
    pick (eqb (job g p).name f.name)
    (pick (ends_good g p f) (result_of (Refused good_for_spoiled 0) g) (result_of Posted (with_call g w (marking f.failed))))
    (result_of (Refused not_held 0) g)

-- a get takes a job out of the queue, "labels it executing and records it as held"
abbrev pub handed_out : Graph → ℕ → ℕ → List ℕ → Graph
handed_out g w j q =
    with_jobs (with_queue (with_workers g (update g.workers w (record { held = some j; call = idle }))) q)
    (set g.jobs j (with_label (job g j) executing))

-- what it answers of that job
abbrev pub hand_out : Graph → ℕ → HandOut
hand_out g j = record { job = j; name = (job g j).name; spoiled = (job g j).spoiled }

-- the order of hand-outs: "the waiting job with the most minutes, equal minutes by earlier entry into the queue"; and
-- the job that is next by it
abbrev pub minutes_of : Graph → ℕ → ℕ
minutes_of g j = minutes_in g.minutes (job g j).class

abbrev pub order : Graph → Order
order g = heavier_first (minutes_of g)

abbrev pub next_out : Graph → Option ℕ
next_out g = first_by (order g) g.queue

unfoldable pub take_next : Graph → ℕ → Option ℕ → Result Graph
take_next g w none = result_of NoneReady g
take_next g w (some j) = result_of (Handed (hand_out g j)) (handed_out g w j (without j g.queue))

unfoldable pub get_job : Graph → ℕ → Option ℕ → Result Graph
get_job g w none = take_next g w (next_out g)
get_job g w (some j) = result_of (Refused already_holding 0) g

-- ---- a load: "sixteen minute values in place of the fixed ones, before the first job enters", which "must rise
-- strictly from class to class, each from 1 to 1,440"
unfoldable pub load_minutes : Graph → List ℕ → Result Graph
load_minutes g m =
    pick (is_rising m)
    (pick (eqb (length g.jobs) 0) (result_of Loaded (with_minutes g m)) (result_of (Refused jobs_entered 0) g))
    (result_of (Refused wrong_minutes 0) g)

-- ---- an item: number 1 for other sizes than those laid out, then 2, then the call's own rules
unfoldable pub admitted : Sizes → Sizes → Graph → ℕ → Result Graph → Result Graph
admitted laid s g w r =
    pick (same_sizes s laid)
    (pick (ltb w laid.workers) r (result_of (Refused no_such_worker 0) g))
    (result_of (Refused wrong_size 0) g)

unfoldable pub perform : Sizes → Graph → Item → Result Graph
perform laid g (post_add s w a) = admitted laid s g w (when_idle g (g.workers w).call (add_posted g w a))
perform laid g (post_finish s w f) =
    admitted laid s g w (when_idle g (g.workers w).call (finish_posted g w f (g.workers w).held))
perform laid g (step s w) = admitted laid s g w (step_call laid g w (g.workers w).call)
perform laid g (get s w) = admitted laid s g w (when_idle g (g.workers w).call (get_job g w (g.workers w).held))
perform laid g (load s m) = pick (same_sizes s laid) (load_minutes g m) (result_of (Refused wrong_size 0) g)
