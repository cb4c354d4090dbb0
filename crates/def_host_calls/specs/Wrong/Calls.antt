-- How a machine of calls is shown to be wrong: the clauses of the claim one by one, and the rules' machine of calls
-- with one part put otherwise. The machines stand in Wrong/Sheets.antt, Wrong/Turned.antt, Wrong/Whole.antt and
-- Wrong/Loads.antt.
use Rattle.std.specs.Prelude.{◌≡◌, refl, List, ℕ, ltb, leb, length}
use Rattle.def_numbers.specs.Numbers.{most_entries, wrong_size, no_such_worker, half_done, too_many_entries}
use Rattle.def_basics.specs.Base.{pick}
use Rattle.def_terms.specs.Terms.{Arguments, Finish, same_sizes}
use Rattle.def_terms.specs.Runs.{Item, Result, after}
use Rattle.def_terms.specs.Starred.{S}
use Rattle.def_terms.specs.declared.Sizes.{Sizes}
use Rattle.def_rules.specs.Rules.{Graph, Call, idle, looking, linking, marking, notifying, empty, perform}
use Rattle.def_rules.specs.Observed.{seen}
use Rattle.def_demand.specs.Demand.{Demand}
use Rattle.def_demand.specs.Wrong.Clauses.{booking}
use Rattle.def_host_calls.specs.HostCalls.{HostCall, single, whole_add, whole_finish, sheet, one, Replied, replied}
use Rattle.def_host_calls.specs.HostCalls.{last_answer, steps_made, call_made, add_made, finish_made, adds_made, last_of}
use Rattle.def_host_calls.specs.HostCalls.{adds_answer, sheet_worth, sheet_reply, worth, reply_worth, after_calls}
use Rattle.def_host_calls.specs.HostCalls.{queue_entries_by_calls}
use Rattle.def_host_calls.specs.CallsDemand.{note_adds, note_call, note_load, all_worth, read_calls, read_minutes}
use Rattle.def_host_calls.specs.CallsDemand.{items}
use Rattle.def_host_calls.specs.CallsDemand.{Replies, TurnsAway, Leaves, Reads, ReadsMinutes, Enters, CallsDemand}

-- ---- the rules' machine of calls, from a fresh graph of R 4, A 4, b 2 and P 2
abbrev pub acts : Graph → Item → Result Graph
acts = perform S

abbrev pub Turning : Type 0
Turning = Graph → Sizes → ℕ → List Arguments → ℕ

abbrev pub Answering : Type 0
Answering = Graph → HostCall → Replied Graph

abbrev pub of_idle : Call → ℕ → ℕ
of_idle idle n = n
of_idle (looking a i) n = half_done
of_idle (linking a j i t) n = half_done
of_idle (marking f) n = half_done
of_idle (notifying p k f) n = half_done

-- the number that turns a sheet away, or 0: 1, 2, 3, and then 16
abbrev pub turning : Turning
turning g s w l =
    pick (same_sizes s S)
    (pick (ltb w S.workers)
    (of_idle (g.workers w).call (pick (leb (length l) most_entries) 0 too_many_entries))
    no_such_worker)
    wrong_size

-- a machine that does what it should, given that number
abbrev pub rightly : Turning → Answering
rightly turned g c = replied (reply_worth acts turned g c) (after acts g (worth acts turned g c))

-- its parts: an add, a finish, and a sheet that a number turns away (0: none)
abbrev pub ran : Graph → List Item → Replied Graph
ran g is = replied (one (last_of acts is g)) (after acts g is)

abbrev pub adds : Graph → Sizes → ℕ → Arguments → Replied Graph
adds g s w a = ran g (add_made acts s w a g)

abbrev pub finishes : Graph → Sizes → ℕ → Finish → Replied Graph
finishes g s w f = ran g (finish_made acts s w f g)

abbrev pub sheets : ℕ → Graph → Sizes → ℕ → List Arguments → Replied Graph
sheets n g s w l = replied (sheet_reply acts n s w l g) (after acts g (sheet_worth acts n s w l g))

-- the machine of such parts
module _ (on_add : Graph → Sizes → ℕ → Arguments → Replied Graph) (on_finish : Graph → Sizes → ℕ → Finish → Replied Graph)
    (on_sheet : ℕ → Graph → Sizes → ℕ → List Arguments → Replied Graph) where
  unfoldable pub machine : Answering
  machine g (single i) = replied (one (acts g i).answer) (acts g i).state
  machine g (whole_add s w a) = on_add g s w a
  machine g (whole_finish s w f) = on_finish g s w f
  machine g (sheet s w l) = on_sheet (turning g s w l) g s w l

-- with the parts above it is right
pub own_parts : (g : Graph) (c : HostCall) → machine adds finishes sheets g c ≡ rightly turning g c
unfolding machine worth reply_worth after
own_parts g (single i) = refl
own_parts g (whole_add s w a) = refl
own_parts g (whole_finish s w f) = refl
own_parts g (sheet s w l) = refl

-- ---- the clauses of `CallsDemand`
pub data Clause : Type 0 where
  replies turns_away leaves reads reads_minutes enters demand : Clause

-- the clause does not hold of the machine for the calls
module _ (turned : Turning) (answer : Answering) (calls : List HostCall) where
  abbrev pub Lacks : Clause → Type 0
  Lacks replies = Replies acts turned answer seen S empty calls → ⊥
  Lacks turns_away = TurnsAway acts turned answer seen S empty calls → ⊥
  Lacks leaves = Leaves acts turned answer seen S empty calls → ⊥
  Lacks reads = Reads acts turned answer seen S empty calls → ⊥
  Lacks reads_minutes = ReadsMinutes acts turned answer seen S empty calls → ⊥
  Lacks enters = Enters acts turned answer seen S empty calls → ⊥
  Lacks demand = Demand acts seen S empty (items acts turned answer seen S empty calls) → ⊥

  -- a machine that lacks a clause does not meet the claim
  pub refuted : (c : Clause) → Lacks c → CallsDemand acts turned answer seen S empty calls → ⊥
  refuted replies lacks d = lacks d.replies
  refuted turns_away lacks d = lacks d.turns_away
  refuted leaves lacks d = lacks d.leaves
  refuted reads lacks d = lacks d.reads
  refuted reads_minutes lacks d = lacks d.reads_minutes
  refuted enters lacks d = lacks d.enters
  refuted demand lacks d = lacks d.demand

-- ---- what a run of calls computes with
unfoldable pub calling : ℕ
unfolding booking last_answer steps_made call_made adds_made adds_answer worth reply_worth after_calls queue_entries_by_calls
    note_adds
    note_call note_load all_worth read_calls read_minutes machine
calling = 0
