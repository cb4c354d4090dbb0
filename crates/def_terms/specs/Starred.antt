-- The cases of docs/RULES.md, "Checked by hand", that concern the graph, as rows: items from a fresh graph, each beside
-- what it tells, its answer and just after it the jobs that wait and the tally of its worker; and the entries of jobs 0
-- to 3 into the queue. Any machine that answers items can be held to them.
use Rattle.std.specs.Prelude.{◌≡◌, false, List, [], ◌∷◌, ◌++◌, map, ℕ, zero, suc, length}
use Rattle.std.proofs.Math.Option.{Option, none, some}
use Rattle.def_terms.specs.Terms.{Arguments, finish_of}
use Rattle.def_terms.specs.Runs.{Item, post_add, post_finish, step, get, worker_of, Event, Result, queue_entries}
use Rattle.def_terms.specs.Seen.{CallSeen, idle, looking, linking, marking, notifying, Seen}
use Rattle.def_terms.specs.declared.Sizes.{Sizes}
use Rattle.def_terms.specs.declared.Answer.{Answer}
use Rattle.def_terms.specs.declared.Answer.TheVariants.{Posted, Going, Ended, Handed, Refused}

-- ---- a row
-- what an item tells: its answer, and just after it the jobs that wait and the tally of the item's worker, which it has
-- from the entering step to the settling
pub record Moment : Type 0 where
  pub answer : Answer
  pub waiting : List ℕ
  pub tally : Option ℕ

-- what a list of items tells: each moment, and the entries of jobs 0 to 3
pub record Told : Type 0 where
  pub moments : List Moment
  pub entered : List ℕ

-- an item beside what it must tell
pub record Line : Type 0 where
  pub item : Item
  pub tells : Moment

abbrev pub line : Item → Answer → List ℕ → Option ℕ → Line
line i a w t = record { item = i; tells = record { answer = a; waiting = w; tally = t } }

abbrev pub items_of : List Line → List Item
items_of l = map (λ (x : Line). x.item) l

-- the lines from a fresh graph of these sizes, and the entries by the end of them
pub record Row : Type 0 where
  pub sizes : Sizes
  pub lines : List Line
  pub entered : List ℕ

abbrev pub row : Sizes → List Line → List ℕ → Row
row s l e = record { sizes = s; lines = l; entered = e }

abbrev pub must_tell : Row → Told
must_tell r = record { moments = map (λ (x : Line). x.tells) r.lines; entered = r.entered }

-- ---- what a machine tells
abbrev pub tally_of : CallSeen → Option ℕ
tally_of idle = none
tally_of (looking r i) = none
tally_of (linking r j i t n) = some t
tally_of (marking f) = none
tally_of (notifying f l) = none

module _ {S : Type 0} (perform : S → Item → Result S) (seen : S → Seen) where
  abbrev pub moment_of : Item → Result S → Moment
  moment_of i o = record {
    answer = o.answer;
    waiting = (seen o.state).waiting;
    tally = tally_of ((seen o.state).call (worker_of i));
  }

  unfoldable pub moments : S → List Item → List Moment
  moments s [] = []
  moments s (i ∷ is) = moment_of i (perform s i) ∷ moments (perform s i).state is

  abbrev pub telling : S → List Item → Told
  telling s is =
      let entered = queue_entries perform (λ x. (seen x).waiting) s is in
      record { moments = moments s is; entered = entered 0 ∷ entered 1 ∷ entered 2 ∷ entered 3 ∷ [] }

-- a machine, which has a fresh graph of each size, tells the rows
module _ {S : Type 0} (perform : Sizes → S → Item → Result S) (seen : S → Seen) (fresh : Sizes → S) where
  abbrev pub tells : Row → Told
  tells r = telling (perform r.sizes) seen (fresh r.sizes) (items_of r.lines)

  abbrev pub Tells : List Row → Type 0
  Tells rows = map tells rows ≡ map must_tell rows

-- the answers of a list of items
unfoldable pub answers_of : List Event → List Answer
answers_of [] = []
answers_of (e ∷ es) = e.answer ∷ answers_of es

-- ---- sizes, arguments, whole calls
abbrev pub sizes : ℕ → ℕ → Sizes
sizes jobs arcs = record { jobs = jobs; arcs = arcs; bits = 2; workers = 2 }

abbrev pub S : Sizes
S = sizes 4 4

-- an add of class 0 and grower 0
abbrev pub job : ℕ → List ℕ → Arguments
job name list = record { name = name; count = length list; names = list; class = 0; grower = 0 }

-- k steps of a worker
unfoldable pub steps : ℕ → Sizes → ℕ → List Item
steps zero s w = []
steps (suc k) s w = step s w ∷ steps k s w

-- an add with its steps; one with no prerequisites that is accepted
abbrev pub add : Sizes → ℕ → ℕ → List ℕ → ℕ → List Item
add s w name list k = post_add s w (job name list) ∷ steps k s w

abbrev pub added : List Answer
added = Posted ∷ Going ∷ Ended ∷ []

-- a job that is not spoiled is handed out, by its number and name
abbrev pub hands : ℕ → ℕ → Answer
hands j name = Handed (record { job = j; name = name; spoiled = false })

-- ---- case 1: "d = 0: two steps, then queued once". The queue before, and after the second step
abbrev pub alone : Sizes → ℕ → ℕ → List ℕ → List ℕ → List Line
alone s w name before after =
    line (post_add s w (job name [])) Posted before none
    ∷ line (step s w) Going before (some 0)
    ∷ line (step s w) Ended after none
    ∷ []

abbrev pub case1 : Row
case1 = row S (alone S 0 9 [] (0 ∷ [])) (1 ∷ 0 ∷ 0 ∷ 0 ∷ [])

-- ---- case 2: "Worker 1 enters 4 needing 1; worker 0 marks 1; link tallies 1; settling queues 4"
-- before it job 1 is added and held by worker 0, whose finish is posted; then worker 1 looks 1 up and enters 4
abbrev pub preparing : List Line
preparing =
    alone S 0 1 [] (0 ∷ [])
    ++ (line (get S 0) (hands 0 1) [] none
    ∷ line (post_finish S 0 (finish_of 1 false)) Posted [] none
    ∷ line (post_add S 1 (job 4 (1 ∷ []))) Posted [] none
    ∷ line (step S 1) Going [] none
    ∷ line (step S 1) Going [] (some 0)
    ∷ [])

abbrev pub prepared : List Item
prepared = items_of preparing

-- the mark, which ends a finish of no arcs; the link; the settling
abbrev pub case2 : Row
case2 =
    row S
    (preparing
    ++ (line (step S 0) Ended [] none
    ∷ line (step S 1) Going [] (some 1)
    ∷ line (step S 1) Ended (1 ∷ []) none
    ∷ []))
    (1 ∷ 1 ∷ 0 ∷ 0 ∷ [])

-- ---- case 3: "As 2, but linked before the mark: the finish queues 4, settling adds nothing"
-- the link, the mark, the finish's step for the arc, the settling
abbrev pub case3 : Row
case3 =
    row S
    (preparing
    ++ (line (step S 1) Going [] (some 0)
    ∷ line (step S 0) Going [] none
    ∷ line (step S 0) Ended (1 ∷ []) none
    ∷ line (step S 1) Ended (1 ∷ []) none
    ∷ []))
    (1 ∷ 1 ∷ 0 ∷ 0 ∷ [])

-- ---- case 4: "7 needing 8 and 8 needing 7, posted together: both get 6, place 0, in every order"
-- every order of two workers' lines
unfoldable pub before : Line → List (List Line) → List (List Line)
before x [] = []
before x (l ∷ ls) = (x ∷ l) ∷ before x ls

unfoldable pub orders : ℕ → List Line → List Line → List (List Line)
orders zero a b = [] ∷ []
orders (suc k) [] b = b ∷ []
orders (suc k) (x ∷ a) [] = (x ∷ a) ∷ []
orders (suc k) (x ∷ a) (y ∷ b) = before x (orders k a (y ∷ b)) ++ before y (orders k (x ∷ a) b)

abbrev pub unknown : ℕ → ℕ → ℕ → List Line
unknown w name needed =
    line (post_add S w (job name (needed ∷ []))) Posted [] none ∷ line (step S w) (Refused 6 0) [] none ∷ []

abbrev pub case4 : List Row
case4 = map (λ l. row S l (0 ∷ 0 ∷ 0 ∷ 0 ∷ [])) (orders 4 (unknown 0 7 8) (unknown 1 8 7))

-- ---- case 5: "R = 1: the second add gets 8. A = 2: d = 2 enters, then d = 1 gets 8, then d = 0 enters"
abbrev pub R1 : Sizes
R1 = sizes 1 4

abbrev pub A2 : Sizes
A2 = sizes 4 2

abbrev pub case5_jobs : Row
case5_jobs =
    row R1
    (alone R1 0 1 [] (0 ∷ [])
    ++ (line (post_add R1 0 (job 2 [])) Posted (0 ∷ []) none ∷ line (step R1 0) (Refused 8 0) (0 ∷ []) none ∷ []))
    (1 ∷ 0 ∷ 0 ∷ 0 ∷ [])

-- jobs 1 and 2; 3 needing both, by two look-ups, entering, two links and settling; 4 needing 1; 5
abbrev pub case5_arcs : Row
case5_arcs =
    row A2
    (alone A2 0 1 [] (0 ∷ [])
    ++ (alone A2 0 2 (0 ∷ []) (0 ∷ 1 ∷ [])
    ++ (line (post_add A2 0 (job 3 (1 ∷ 2 ∷ []))) Posted (0 ∷ 1 ∷ []) none
    ∷ line (step A2 0) Going (0 ∷ 1 ∷ []) none
    ∷ line (step A2 0) Going (0 ∷ 1 ∷ []) none
    ∷ line (step A2 0) Going (0 ∷ 1 ∷ []) (some 0)
    ∷ line (step A2 0) Going (0 ∷ 1 ∷ []) (some 0)
    ∷ line (step A2 0) Going (0 ∷ 1 ∷ []) (some 0)
    ∷ line (step A2 0) Ended (0 ∷ 1 ∷ []) none
    ∷ line (post_add A2 0 (job 4 (1 ∷ []))) Posted (0 ∷ 1 ∷ []) none
    ∷ line (step A2 0) Going (0 ∷ 1 ∷ []) none
    ∷ line (step A2 0) (Refused 8 0) (0 ∷ 1 ∷ []) none
    ∷ alone A2 0 5 (0 ∷ 1 ∷ []) (0 ∷ 1 ∷ 3 ∷ []))))
    (1 ∷ 1 ∷ 0 ∷ 1 ∷ [])

-- ---- case 6: "Two workers post the same new name: the later to enter gets 7"
-- worker `one` enters first, and settles last
abbrev pub case6 : ℕ → ℕ → Row
case6 one other =
    row S
    (line (post_add S 0 (job 5 [])) Posted [] none
    ∷ line (post_add S 1 (job 5 [])) Posted [] none
    ∷ line (step S one) Going [] (some 0)
    ∷ line (step S other) (Refused 7 0) [] none
    ∷ line (step S one) Ended (0 ∷ []) none
    ∷ [])
    (1 ∷ 0 ∷ 0 ∷ 0 ∷ [])

-- ---- the rows
unfoldable pub starred : List Row
starred =
    case1 ∷ case2 ∷ case3 ∷ (case4 ++ (case5_jobs ∷ case5_arcs ∷ case6 1 0 ∷ case6 0 1 ∷ []))

-- ---- an addition, no case of the document: a job that needs two others, of which one is finished, does not wait yet;
-- once the other is finished too, it does
-- jobs 1 and 2, then 3 needing both; worker 0 is handed 1 and finishes it, by the mark and the arc; so does worker 1
-- with 2
unfoldable pub one_of_two : List Row
one_of_two =
    row S
    (alone S 0 1 [] (0 ∷ [])
    ++ (alone S 0 2 (0 ∷ []) (0 ∷ 1 ∷ [])
    ++ (line (post_add S 1 (job 3 (1 ∷ 2 ∷ []))) Posted (0 ∷ 1 ∷ []) none
    ∷ line (step S 1) Going (0 ∷ 1 ∷ []) none
    ∷ line (step S 1) Going (0 ∷ 1 ∷ []) none
    ∷ line (step S 1) Going (0 ∷ 1 ∷ []) (some 0)
    ∷ line (step S 1) Going (0 ∷ 1 ∷ []) (some 0)
    ∷ line (step S 1) Going (0 ∷ 1 ∷ []) (some 0)
    ∷ line (step S 1) Ended (0 ∷ 1 ∷ []) none
    ∷ line (get S 0) (hands 0 1) (1 ∷ []) none
    ∷ line (post_finish S 0 (finish_of 1 false)) Posted (1 ∷ []) none
    ∷ line (step S 0) Going (1 ∷ []) none
    ∷ line (step S 0) Ended (1 ∷ []) none
    ∷ line (get S 1) (hands 1 2) [] none
    ∷ line (post_finish S 1 (finish_of 2 false)) Posted [] none
    ∷ line (step S 1) Going [] none
    ∷ line (step S 1) Ended (2 ∷ []) none
    ∷ [])))
    (1 ∷ 1 ∷ 1 ∷ 0 ∷ [])
    ∷ []
