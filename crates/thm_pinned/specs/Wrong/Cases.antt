-- Machines that answer, queue and count as the rows of docs/RULES.md ("Checked by hand") say by the end of each starred
-- row, and do it at another moment than the rules: each is refuted by the moment that a case names.
use Rattle.std.specs.Prelude.{◌≡◌, refl, Bool, false, ◌&&◌, not, List, [], map, ℕ, suc, ◌-◌, ltb, eqb, length, get_or, set}
use Rattle.std.proofs.Common.{ap}
use Rattle.std.proofs.Math.Option.{Option, none, some}
use Rattle.std.proofs.lemmas.Bool.{eqb-false}
use Rattle.def_basics.specs.Base.{pick, contains}
use Rattle.def_terms.specs.Terms.{Arguments, listed, Tally, label_number}
use Rattle.def_terms.specs.Runs.{Item, post_add, post_finish, step, get, load, Result, result_of}
use Rattle.def_terms.specs.Starred.{Moment, Told, must_tell, tells, Tells, starred}
use Rattle.def_terms.specs.declared.Sizes.{Sizes}
use Rattle.def_terms.specs.declared.Answer.{Answer}
use Rattle.def_terms.specs.declared.Answer.TheVariants.{Going, Laid}
use Rattle.def_rules.specs.Rules.{Graph, Call, idle, looking, linking, marking, notifying, Found, at, missing}
use Rattle.def_rules.specs.Rules.{find}
use Rattle.def_rules.specs.Rules.{job, empty, with_jobs, with_queue, with_call, lowered, enqueue, step_call, admitted}
use Rattle.def_rules.specs.Rules.{perform}
use Rattle.def_rules.specs.Observed.{seen}
use Rattle.def_rules.specs.RuleCases.{telling}

-- ---- the rules with other steps of an add before its entering, from there to its settling, and of a finish's arcs
module _ (on_look : Sizes → Graph → ℕ → Arguments → ℕ → Result Graph)
    (on_link : Sizes → Graph → ℕ → Arguments → ℕ → ℕ → Tally → Result Graph)
    (on_notify : Sizes → Graph → ℕ → ℕ → ℕ → Bool → Result Graph) where
  abbrev stepped : Sizes → Graph → ℕ → Call → Result Graph
  stepped s g w idle = step_call s g w idle
  stepped s g w (looking a i) = on_look s g w a i
  stepped s g w (linking a j i t) = on_link s g w a j i t
  stepped s g w (marking f) = step_call s g w (marking f)
  stepped s g w (notifying p k f) = on_notify s g w p k f

  abbrev pub system : Sizes → Graph → Item → Result Graph
  system laid g (post_add s w a) = perform laid g (post_add s w a)
  system laid g (post_finish s w f) = perform laid g (post_finish s w f)
  system laid g (step s w) = admitted laid s g w (stepped laid g w (g.workers w).call)
  system laid g (get s w) = perform laid g (get s w)
  system laid g (load s m) = perform laid g (load s m)

abbrev pub looks : Sizes → Graph → ℕ → Arguments → ℕ → Result Graph
looks s g w a i = step_call s g w (looking a i)

abbrev pub links : Sizes → Graph → ℕ → Arguments → ℕ → ℕ → Tally → Result Graph
links s g w a j i t = step_call s g w (linking a j i t)

abbrev pub notifies : Sizes → Graph → ℕ → ℕ → ℕ → Bool → Result Graph
notifies s g w p k f = step_call s g w (notifying p k f)

-- with these it is the rules
same_step : (s : Sizes) (g : Graph) (w : ℕ) (c : Call) → stepped looks links notifies s g w c ≡ step_call s g w c
same_step s g w idle = refl
same_step s g w (looking a i) = refl
same_step s g w (linking a j i t) = refl
same_step s g w (marking f) = refl
same_step s g w (notifying p k f) = refl

pub own_parts : (s : Sizes) (g : Graph) (i : Item) → system looks links notifies s g i ≡ perform s g i
unfolding perform
own_parts s g (post_add t w a) = refl
own_parts s g (post_finish t w f) = refl
own_parts s g (step t w) = ap (admitted s t g w) (same_step s g w (g.workers w).call)
own_parts s g (get t w) = refl
own_parts s g (load t m) = refl

-- the same result with another queue
abbrev pub queueing : Result Graph → List ℕ → Result Graph
queueing o q = result_of o.answer (with_queue o.state q)

-- links as by the rules, and settling that queues by a test of the settled job's count, the tally and the queue
abbrev pub settles_by : (ℕ → ℕ → Bool → Bool) → Sizes → Graph → ℕ → Arguments → ℕ → ℕ → Tally → Result Graph
settles_by test s g w a j i t =
    let o = links s g w a j i t in
    pick (ltb i a.count) o
    (queueing o
    (enqueue (test (job o.state j).count t.count (contains j g.queue)) g.queue j))

-- ---- what is told by the end: the answers, the jobs that wait last, and the entries
abbrev no_moment : Moment
no_moment = record { answer = Laid; waiting = []; tally = none }

abbrev no_told : Told
no_told = record { moments = []; entered = [] }

abbrev pub by_the_end : Told → List Answer × (List ℕ × List ℕ)
by_the_end t = (
  map (λ (m : Moment). m.answer) t.moments,
  ((get_or t.moments (length t.moments - 1) no_moment).waiting, t.entered),
)

module _ (m : Sizes → Graph → Item → Result Graph) where
  abbrev pub RightByTheEnd : Type 0
  RightByTheEnd =
      map (λ r. by_the_end (tells m seen (λ s. empty) r)) starred ≡ map (λ r. by_the_end (must_tell r)) starred

  abbrev pub TellsStarred : Type 0
  TellsStarred = Tells m seen (λ s. empty) starred

-- two lists of what is told differ by a number of a moment of a row
abbrev moment_in : ℕ → ℕ → List Told → Moment
moment_in row k l = get_or (get_or l row no_told).moments k no_moment

apart : {x y : List Told} (row k : ℕ) (f : Moment → ℕ) → eqb (f (moment_in row k x)) (f (moment_in row k y)) ≡ false
    → x ≡ y → ⊥
apart {x} {y} row k f e p =
    eqb-false (f (moment_in row k x)) (f (moment_in row k y)) e (ap (λ l. f (moment_in row k l)) p)

abbrev waiting_jobs : Moment → ℕ
waiting_jobs m = length m.waiting

abbrev tally_number : Option ℕ → ℕ
tally_number none = 0
tally_number (some t) = suc t

-- ---- an arc's step never queues, and settling queues whenever the count is 0
abbrev pub queues_late : Sizes → Graph → Item → Result Graph
queues_late = system looks (settles_by (λ count tally there. eqb count 0))
    (λ s g w p k f. queueing (notifies s g w p k f) g.queue)

pub queues_late_by_the_end : RightByTheEnd queues_late
unfolding telling
queues_late_by_the_end = refl

-- case 3: "the finish queues 4", and here 4 does not wait once the finish has ended
pub queues_late_lem : TellsStarred queues_late → ⊥
unfolding telling
queues_late_lem = apart 2 10 waiting_jobs refl

-- ---- a link to a finished prerequisite lowers the count at once, and settling queues what does not wait yet
abbrev lowers_to : Sizes → Graph → ℕ → Arguments → ℕ → ℕ → Tally → Found → Result Graph
lowers_to s g w a j i t (at p) =
    pick (eqb (label_number (job g p).label) 2)
    (result_of Going
    (with_jobs (with_call g w (linking a j (suc i) t))
    (set g.jobs j (lowered (job g j) ((job g j).count - 1) (job g p).failed))))
    (links s g w a j i t)
lowers_to s g w a j i t missing = links s g w a j i t

abbrev pub lowers_at_once : Sizes → Graph → Item → Result Graph
lowers_at_once = system looks
    (λ s g w a j i t. pick (ltb i a.count) (lowers_to s g w a j i t (find g (get_or (listed a) i 0)))
    (settles_by (λ count tally there. eqb count 0 && not there) s g w a j i t))
    notifies

pub lowers_at_once_by_the_end : RightByTheEnd lowers_at_once
unfolding telling
lowers_at_once_by_the_end = refl

-- case 2: "link tallies 1", and here the tally stays 0
pub lowers_at_once_lem : TellsStarred lowers_at_once → ⊥
unfolding telling
lowers_at_once_lem = apart 1 9 (λ m. tally_number m.tally) refl

-- ---- entering queues a job that needs none, and settling one whose tally is above 0
abbrev pub queues_early : Sizes → Graph → Item → Result Graph
queues_early = system
    (λ s g w a i. let o = looks s g w a i in
    queueing o (enqueue (eqb a.count 0 && ltb (length g.jobs) (length o.state.jobs)) g.queue
    (length g.jobs)))
    (settles_by (λ count tally there. eqb count 0 && ltb 0 tally)) notifies

pub queues_early_by_the_end : RightByTheEnd queues_early
unfolding telling
queues_early_by_the_end = refl

-- case 1: "two steps, then queued", and here it waits after the first
pub queues_early_lem : TellsStarred queues_early → ⊥
unfolding telling
queues_early_lem = apart 0 1 waiting_jobs refl
