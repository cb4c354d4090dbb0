-- A FULL RUN, of lists of host calls, by calls and replies, and the steps that it takes, by the items that its calls
-- are worth: of any machine. Follows docs/RULES.md, "The room of a sheet". (Wrong/ has counts that are not met.)
use Rattle.std.specs.Prelude.{◌≡◌, List, [], ◌∷◌, ◌++◌, ℕ, ◌+◌, ◌*◌, ◌<◌, eqb, length}
use Rattle.def_basics.specs.Base.{pick, occurrences}
use Rattle.def_terms.specs.Terms.{Arguments}
use Rattle.def_terms.specs.Runs.{Item, post_add, post_finish, step, get, load, Result, Event, events}
use Rattle.def_terms.specs.Seen.{Seen}
use Rattle.def_terms.specs.Cases.{if_going, if_ended, if_handed}
use Rattle.def_terms.specs.declared.Sizes.{Sizes}
use Rattle.def_terms.specs.declared.Answer.{Answer}
use Rattle.def_book.specs.Book.{Call, add, finish, End, accepted, none_ready, handed, refused}
use Rattle.def_book.specs.Book as book
use Rattle.def_call_order.specs.Calls.{Reading, unread, adding, Quiet, accepted_adds, accepted_finishes}
use Rattle.def_demand.specs.Demand.{add_of}
use Rattle.def_host_calls.specs.HostCalls.{HostCall, Replied}
use Rattle.def_host_calls.specs.CallsDemand.{read_calls, all_worth}
use Rattle.def_audit.specs.Audit.{handed_in, told_by}
use Rattle.def_audit.specs.Served.{names_listed}

-- ---- the steps: each step of an add or a finish that goes on or ends, and each get that hands a job out. Posts,
-- loads, "gets that hand nothing out" and refused items are not counted.
abbrev pub counted : Item → Answer → ℕ
counted (step s w) x = if_going x 1 (if_ended x 1 0)
counted (get s w) x = if_handed x (λ h. 1) 0
counted (post_add s w a) x = 0
counted (post_finish s w f) x = 0
counted (load s m) x = 0

unfoldable pub steps_taken : List Event → ℕ
steps_taken [] = 0
steps_taken (e ∷ es) = counted e.item e.answer + steps_taken es

-- the look-ups of the adds that were refused on their way: 6 came after as many as its place says, 7 and 8 after all
unfoldable pub looked_up : List book.Ended → ℕ
looked_up [] = 0
looked_up (x ∷ l) = more x.call x.end + looked_up l
  where
    more : Call → End → ℕ
    more (add w a) (refused n i) = pick (eqb n 5) 0 (pick (eqb n 6) i a.count)
    more (add w a) accepted = 0
    more (add w a) none_ready = 0
    more (add w a) (handed h) = 0
    more (finish w f) e = 0
    more (Call.get w) e = 0

-- ---- the claim, of a machine that answers items and calls, the sizes laid out, the state that laying out left, and a
-- list of calls in two parts: the adds, and the work
module _ {S : Type 0} (perform : S → Item → Result S) (turned : S → Sizes → ℕ → List Arguments → ℕ)
    (answer : S → HostCall → Replied S) (see : S → Seen) (s : Sizes) (t : S) (adds work : List HostCall) where
  -- what is read of the first part, and of all
  abbrev pub first : Reading
  first = read_calls answer unread t adds

  abbrev pub all : Reading
  all = read_calls answer unread t (adds ++ work)

  -- the adds that were accepted
  abbrev pub entered : List Arguments
  entered = accepted_adds all.calls

  pub record FullRun : Type 0 where
    -- "all adds end before the first get" that hands a job out: in the first part none is handed out, at its end no
    -- worker is in an add, and no add is accepted later
    pub none_handed : handed_in (told_by answer t adds) ≡ []
    pub none_adding : (w : ℕ) (a : Arguments) (k : ℕ) → first.pending w ≡ adding a k → ⊥
    pub none_later : entered ≡ accepted_adds first.calls
    -- "every job is handed out and finished", and no call is half done
    pub quiet : Quiet all
    pub finished : (j : ℕ) → j < length entered
        → 0 < occurrences (add_of entered j).name (accepted_finishes all.calls)

  abbrev pub steps : ℕ
  steps = steps_taken (events perform t (all_worth perform turned answer see s t t (adds ++ work)))

  -- "4n + 3 times the arcs", and one for each look-up of an add that was refused on its way
  abbrev pub TakesSteps : Type 0
  TakesSteps = FullRun → steps ≡ 4 * length entered + 3 * names_listed entered + looked_up all.calls
