-- A right machine on a list of every kind of call: what it replies, and the clauses for the lists by which the wrong
-- machines of Wrong/Sheets.antt, Wrong/Turned.antt and Wrong/Whole.antt are refuted.
use Rattle.std.specs.Prelude.{◌≡◌, refl, true, false, List, [], ◌∷◌, ◌++◌, ℕ}
use Rattle.def_terms.specs.Terms.{finish_of}
use Rattle.def_terms.specs.Runs.{post_add, step, get, load, after, events, queue_entries}
use Rattle.def_terms.specs.Starred.{S, job, hands}
use Rattle.def_terms.specs.declared.Answer.TheVariants.{Loaded, Posted, Going, Ended, Refused}
use Rattle.def_rules.specs.Rules.{Graph, empty}
use Rattle.def_rules.specs.Observed.{seen}
use Rattle.def_call_order.specs.Calls.{reading}
use Rattle.def_demand.specs.Wrong.Loads.{district, equal_ones}
use Rattle.def_demand.specs.Spoiling.{hands_spoiled}
use Rattle.def_host_calls.specs.HostCalls.{HostCall, single, whole_add, whole_finish, sheet, Reply, one, each}
use Rattle.def_host_calls.specs.HostCalls.{Replied}
use Rattle.def_host_calls.specs.HostCalls.{worth, after_calls, queue_entries_by_calls}
use Rattle.def_host_calls.specs.CallsDemand.{turning_sheet, all_worth, items, read, at_end, Replies, Leaves}
use Rattle.def_host_calls.specs.Joined.{after_joined}
use Rattle.def_host_calls.specs.Wrong.Calls.{acts, turning, Answering, rightly, calling}
use Rattle.def_host_calls.specs.Wrong.Sheets.{refused_first, too_many}
use Rattle.def_host_calls.specs.Wrong.Whole.{held}

-- ---- the replies of a list of calls
module _ {X : Type 0} (answer : X → HostCall → Replied X) where
  unfoldable pub replies_to : X → List HostCall → List Reply
  replies_to x [] = []
  replies_to x (c ∷ cs) = (answer x c).reply ∷ replies_to (answer x c).state cs

-- minutes that do not rise are refused by 17, and a district's are loaded; worker 0 brings a sheet of 4 needing 1,
-- which 6 refuses, of 1, and of 4 again; worker 1 posts an add of 5, and a sheet of 65 that it brings meanwhile is
-- refused by 3; a load is refused by 18; worker 1 steps its add to the end; worker 0 gets 1 and finishes it as failed;
-- worker 1 gets 5, and worker 0 gets 4, which is spoiled: a good finish is refused by 19, and a failed one is not; 1 is
-- there already; a sheet of 65 is refused by 16; and one with no entry is served
abbrev pub every_kind : List HostCall
every_kind =
    single (load S equal_ones) ∷ single (load S district)
    ∷ sheet S 0 (job 4 (1 ∷ []) ∷ job 1 [] ∷ job 4 (1 ∷ []) ∷ []) ∷ single (post_add S 1 (job 5 [])) ∷ sheet S 1 too_many
    ∷ single (load S district) ∷ single (step S 1) ∷ single (step S 1) ∷ single (get S 0)
    ∷ whole_finish S 0 (finish_of 1 true) ∷ single (get S 1) ∷ single (get S 0) ∷ whole_finish S 0 (finish_of 4 false)
    ∷ whole_finish S 0 (finish_of 4 true) ∷ whole_add S 1 (job 1 []) ∷ sheet S 0 too_many ∷ sheet S 0 [] ∷ []

abbrev pub its_replies : List Reply
its_replies =
    one (Refused 17 0) ∷ one Loaded ∷ each 0 (Refused 6 0 ∷ Ended ∷ Ended ∷ []) ∷ one Posted ∷ each 3 []
    ∷ one (Refused 18 0) ∷ one Going ∷ one Ended ∷ one (hands 0 1) ∷ one Ended ∷ one (hands 2 5)
    ∷ one (hands_spoiled 1 4) ∷ one (Refused 19 0) ∷ one Ended ∷ one (Refused 7 0) ∷ each 16 [] ∷ each 0 [] ∷ []

abbrev pub right : Answering
right = rightly turning

pub replies_right : replies_to right empty every_kind ≡ its_replies
unfolding calling replies_to
replies_right = refl

pub replies_always : (calls : List HostCall) → Replies acts turning right seen S empty calls
replies_always calls c = refl

-- ---- where the wrong machines fail, it does not: what it leaves,
leaves_on : (calls : List HostCall) (g : Graph)
    → after_calls right g calls ≡ after acts g (all_worth acts turning right seen S empty g calls)
unfolding after_calls all_worth after
leaves_on [] g = refl
leaves_on (c ∷ cs) g = rw after_joined (leaves_on cs (after acts g (worth acts turning g c)))

pub leaves_always : (calls : List HostCall) → Leaves acts turning right seen S empty calls
leaves_always calls = leaves_on calls empty

-- what is read of it,
abbrev pub SameNames : List HostCall → Type 0
SameNames calls =
    let r = read acts turning right seen S empty calls in
    let q = reading (events acts empty (items acts turning right seen S empty calls)) in
    (r.added ≡ q.added) × (r.finished ≡ q.finished)

pub reads_sheet : SameNames (sheet S 0 refused_first ∷ [])
unfolding calling
reads_sheet = (refl, refl)

pub reads_finish : SameNames (whole_finish S 1 (finish_of 1 false) ∷ [])
unfolding calling
reads_finish = (refl, refl)

-- what turns sheets away,
abbrev pub TurnsRightly : List HostCall → Type 0
TurnsRightly calls =
    turning (at_end acts turning right seen S empty calls) S 0 too_many
    ≡ turning_sheet S (read acts turning right seen S empty calls) S 0 too_many

pub turns_by_three : TurnsRightly (single (post_add S 0 (job 1 [])) ∷ [])
unfolding calling
turns_by_three = refl

pub turns_by_sixteen : TurnsRightly []
unfolding calling
turns_by_sixteen = refl

-- and the jobs that enter the queue
abbrev pub EntersRightly : List HostCall → ℕ → Type 0
EntersRightly calls j =
    queue_entries_by_calls right (λ x. (seen x).waiting) empty calls j
    ≡ queue_entries acts (λ x. (seen x).waiting) empty (items acts turning right seen S empty calls) j

pub enters_at_once : EntersRightly (whole_add S 0 (job 1 []) ∷ []) 0
unfolding calling
enters_at_once = refl

pub enters_by_finish : EntersRightly (held ++ (whole_finish S 0 (finish_of 1 false) ∷ [])) 1
unfolding calling
enters_by_finish = refl
