-- The auditor's question, of lists of host calls: could a job be handed out twice, or before what it rests on, or be
-- forgotten? By calls and replies alone, of any machine: no word here of how a machine keeps its jobs. Follows
-- docs/RULES.md, "Steps", "The plain book" and "Whole calls". (Wrong/Audit.antt has machines that do not meet it;
-- Served.antt says that nothing is refused at will.)
use Rattle.std.specs.Prelude.{◌≡◌, ◌↔◌, true, false, List, [], ◌∷◌, ◌++◌, ℕ, zero, suc, ◌≤◌, ◌<◌, length, get_or}
use Rattle.std.proofs.Math.Option.{Option, none, some}
use Rattle.def_basics.specs.Base.{pick, occurrences}
use Rattle.def_terms.specs.Terms.{Arguments, Finish}
use Rattle.def_terms.specs.Runs.{post_add, post_finish, get, sizes_of, worker_of, is_load}
use Rattle.def_terms.specs.Cases.{if_handed}
use Rattle.def_terms.specs.declared.Sizes.{Sizes}
use Rattle.def_terms.specs.declared.HandOut.{HandOut}
use Rattle.def_terms.specs.declared.Answer.{Answer}
use Rattle.def_terms.specs.declared.Answer.TheVariants.{NoneReady, Handed, Refused}
use Rattle.def_book.specs.Book.{finish, accepted}
use Rattle.def_book.specs.Book as book
use Rattle.def_call_order.specs.Calls.{Reading, unread, idle, Quiet, accepted_adds, accepted_finishes}
use Rattle.def_call_order.specs.Holds.{handed_after, held_read}
use Rattle.def_demand.specs.Demand.{add_of}
use Rattle.def_host_calls.specs.HostCalls.{HostCall, single, whole_add, whole_finish, sheet, Reply, one, each}
use Rattle.def_host_calls.specs.HostCalls.{Replied}
use Rattle.def_host_calls.specs.HostCalls.{after_calls}
use Rattle.def_host_calls.specs.CallsDemand.{read_calls, note_call}

-- ---- what a host is told
-- the answers in a reply: of a sheet each add's, or the number that turned the sheet away
abbrev pub answers_in : Reply → List Answer
answers_in (one x) = x ∷ []
answers_in (each zero xs) = xs
answers_in (each (suc n) xs) = Refused (suc n) 0 ∷ xs

-- an answer is one of them
pub data Among (x : Answer) : List Answer → Type 0 where
  here : {l : List Answer} → Among x (x ∷ l)
  later : {y : Answer} {l : List Answer} → Among x l → Among x (y ∷ l)

-- the hand-outs among some answers, in order, and the one at a place
unfoldable pub handed_in : List Answer → List HandOut
handed_in [] = []
handed_in (x ∷ l) = if_handed x (λ h. h ∷ handed_in l) (handed_in l)

abbrev pub hand_out_at : List HandOut → ℕ → HandOut
hand_out_at l i = get_or l i (record { job = 0; name = 0; spoiled = false })

-- all that a list of calls is answered, whatever the calls
unfoldable pub told_by : {S : Type 0} → (S → HostCall → Replied S) → S → List HostCall → List Answer
told_by answer x [] = []
told_by answer x (c ∷ cs) = answers_in (answer x c).reply ++ told_by answer (answer x c).state cs

-- the names of the accepted finishes that brought "failed"
unfoldable pub failed_finishes : List book.Ended → List ℕ
failed_finishes [] = []
failed_finishes (x ∷ l) = more x.call x.end (failed_finishes l)
  where
    more : book.Call → book.End → List ℕ → List ℕ
    more (finish w f) e rest = pick f.failed (book.if_accepted e (f.name ∷ rest) rest) rest
    more (book.add w a) e rest = rest
    more (book.get w) e rest = rest

-- a listed name of the add is one of them
pub record ListsFailed (calls : List book.Ended) (a : Arguments) : Type 0 where
  pub place : ℕ
  pub within : place < a.count
  pub failed : 0 < occurrences (get_or a.names place 0) (failed_finishes calls)

-- ---- a job that is handed out, by the calls decided before: it is that of an accepted add, under its own name; of
-- each name that this add lists one finish was accepted; and it is told to be spoiled exactly if one of them failed
pub record HandedFairly (calls : List book.Ended) (h : HandOut) : Type 0 where
  pub there : h.job < length (accepted_adds calls)
  pub named : h.name ≡ (add_of (accepted_adds calls) h.job).name
  pub finished : (i : ℕ) → i < (add_of (accepted_adds calls) h.job).count
      → occurrences (get_or (add_of (accepted_adds calls) h.job).names i 0) (accepted_finishes calls) ≡ 1
  pub told : (h.spoiled ≡ true) ↔ ListsFailed calls (add_of (accepted_adds calls) h.job)

-- an idle worker's get: "10 exactly if the worker holds a job. Else the answer is none ready, or a job"
pub data GetAnswered : Option ℕ → Answer → Type 0 where
  holding : {j : ℕ} → GetAnswered (some j) (Refused 10 0)
  none_ready_lem : GetAnswered none NoneReady
  taken : (h : HandOut) → GetAnswered none (Handed h)

-- who is handed a job: a worker that asks, is in no call and holds none
pub record Asks (s : Sizes) (r : Reading) (c : HostCall) : Type 0 where
  pub worker : ℕ
  pub asks : c ≡ single (get s worker)
  pub there : worker < s.workers
  pub in_no_call : r.pending worker ≡ idle
  pub holds_none : held_read r worker ≡ none

-- what a worker whose call is half done may not do: "3, post or get while that worker's call is half done", which turns
-- away calls run whole and sheets too
pub record TurnedByThree {S : Type 0} (answer : S → HostCall → Replied S) (s : Sizes) (x : S) (w : ℕ) : Type 0 where
  pub add_posted_lem : (a : Arguments) → (answer x (single (post_add s w a))).reply ≡ one (Refused 3 0)
  pub finish_posted_lem : (f : Finish) → (answer x (single (post_finish s w f))).reply ≡ one (Refused 3 0)
  pub asked : (answer x (single (get s w))).reply ≡ one (Refused 3 0)
  pub whole_add_lem : (a : Arguments) → (answer x (whole_add s w a)).reply ≡ one (Refused 3 0)
  pub whole_finish_lem : (f : Finish) → (answer x (whole_finish s w f)).reply ≡ one (Refused 3 0)
  pub adds_in_sheet : (l : List Arguments) → (answer x (sheet s w l)).reply ≡ each 3 []

-- what a call brings: its sizes, and its worker, if it has one
abbrev pub sizes_in : HostCall → Sizes
sizes_in (single i) = sizes_of i
sizes_in (whole_add q w a) = q
sizes_in (whole_finish q w f) = q
sizes_in (sheet q w l) = q

abbrev pub worker_in : HostCall → Option ℕ
worker_in (single i) = pick (is_load i) none (some (worker_of i))
worker_in (whole_add q w a) = some w
worker_in (whole_finish q w f) = some w
worker_in (sheet q w l) = some w

-- and the reply that turns it away whole: of a sheet no entry has an answer then
abbrev pub turned_by : ℕ → HostCall → Reply
turned_by n (single i) = one (Refused n 0)
turned_by n (whole_add q w a) = one (Refused n 0)
turned_by n (whole_finish q w f) = one (Refused n 0)
turned_by n (sheet q w l) = each n []

-- ---- the claim, of a machine that answers calls, the sizes laid out, the state that laying out left, and a list of
-- calls. Lists are of any length, so that what is said after the calls is said of every moment.
module _ {S : Type 0} (answer : S → HostCall → Replied S) (s : Sizes) (t : S) (calls : List HostCall) where
  abbrev pub at_end : S
  at_end = after_calls answer t calls

  abbrev pub read : Reading
  read = read_calls answer unread t calls

  abbrev pub adds : List Arguments
  adds = accepted_adds read.calls

  abbrev pub finishes : List ℕ
  finishes = accepted_finishes read.calls

  abbrev pub handed : List HandOut
  handed = handed_in (told_by answer t calls)

  -- the job is one of those handed out
  abbrev pub WasHanded : ℕ → Type 0
  WasHanded j = (i : ℕ) × (i < length handed) × ((hand_out_at handed i).job ≡ j)

  -- the next call, whatever it is, is told this
  abbrev pub next : HostCall → List Answer
  next c = answers_in (answer at_end c).reply

  -- "have it worked twice": no job is handed out twice, by its number or by its name, two accepted adds have different
  -- names, and no two finishes of one name are accepted
  abbrev pub HandedOnce : Type 0
  HandedOnce =
      (i k : ℕ) → i < length handed → k < length handed
      → ((hand_out_at handed i).job ≡ (hand_out_at handed k).job → i ≡ k)
      × ((hand_out_at handed i).name ≡ (hand_out_at handed k).name → i ≡ k)

  abbrev pub AddedOnce : Type 0
  AddedOnce = (i j : ℕ) → i < length adds → j < length adds → (add_of adds i).name ≡ (add_of adds j).name → i ≡ j

  abbrev pub FinishedOnce : Type 0
  FinishedOnce =
      (i k : ℕ) → i < length finishes → k < length finishes → get_or finishes i 0 ≡ get_or finishes k 0 → i ≡ k

  -- "bring a canal split forward of the reach it rests on": whatever hands a job out does so fairly
  abbrev pub NoneEarly : Type 0
  NoneEarly = (c : HostCall) (h : HandOut) → Among (Handed h) (next c) → HandedFairly read.calls h

  -- no job is forgotten: a worker in no call that asks is handed a job or told "none ready", unless it holds one;
  abbrev pub GetsAnswered : Type 0
  GetsAnswered =
      (w : ℕ) → w < s.workers → read.pending w ≡ idle
      → (x : Answer) × ((answer at_end (single (get s w))).reply ≡ one x) × GetAnswered (held_read read w) x

  -- and with no call half done it is told "none ready" only if every job has been handed out of which each prerequisite
  -- has an accepted finish
  abbrev pub NoneForgotten : Type 0
  NoneForgotten =
      Quiet read → (q : Sizes) (w : ℕ) → (answer at_end (single (get q w))).reply ≡ one NoneReady
      → (j : ℕ) → j < length adds
      → ((i : ℕ) → i < (add_of adds j).count → occurrences (get_or (add_of adds j).names i 0) finishes ≡ 1)
      → WasHanded j

  -- nor is one lost: only a worker that asks is handed a job, not by any other call and not one that cannot work it;
  abbrev pub HandedToAsker : Type 0
  HandedToAsker = (c : HostCall) (h : HandOut) → Among (Handed h) (next c) → Asks s read c

  -- a half done call of one worker keeps no job from the others: told "none ready", each job has been handed out whose
  -- add and a finish of each of whose prerequisites have ended;
  abbrev pub NoneHeldUp : Type 0
  NoneHeldUp =
      (q : Sizes) (w : ℕ) → (answer at_end (single (get q w))).reply ≡ one NoneReady
      → (j : ℕ) → j < length adds → 0 < occurrences (add_of adds j).name read.added
      → ((i : ℕ) → i < (add_of adds j).count → 0 < occurrences (get_or (add_of adds j).names i 0) read.finished)
      → WasHanded j

  -- and none is left at the end: with no call half done and no job held, "none ready" means that all are finished
  abbrev pub NoneLeft : Type 0
  NoneLeft =
      Quiet read → ((w : ℕ) → w < s.workers → held_read read w ≡ none)
      → (q : Sizes) (w : ℕ) → (answer at_end (single (get q w))).reply ≡ one NoneReady
      → (j : ℕ) → j < length adds → occurrences (add_of adds j).name finishes ≡ 1

  -- a finish that is accepted is that of the worker which was handed the job, and holds it: a reach that nobody routed
  -- is not finished;
  abbrev pub FinishedByHolder : Type 0
  FinishedByHolder =
      (before later : List book.Ended) (w : ℕ) (f : Finish)
      → read.calls ≡ before ++ (record { call = finish w f; end = accepted } ∷ later)
      → (h : HandOut) × (handed_after w none before ≡ some h) × (h.name ≡ f.name)

  -- no other call takes the place of one half done, which would be forgotten;
  abbrev pub NoneReplaced : Type 0
  NoneReplaced =
      (w : ℕ) → w < s.workers → (read.pending w ≡ idle → ⊥) → TurnedByThree answer s at_end w

  -- nor does a call that is not this graph's: one with other sizes is turned away by 1, and one of a worker that is not
  -- there by 2;
  abbrev pub StrangersTurned : Type 0
  StrangersTurned =
      (c : HostCall)
      → ((sizes_in c ≡ s → ⊥) → (answer at_end c).reply ≡ turned_by 1 c)
      × ((w : ℕ) → sizes_in c ≡ s → worker_in c ≡ some w → s.workers ≤ w → (answer at_end c).reply ≡ turned_by 2 c)

  -- and what was decided stays so: the next call withdraws nothing, and no job's number passes to another
  abbrev pub NoneWithdrawn : Type 0
  NoneWithdrawn =
      (c : HostCall)
      → (more : List book.Ended) × ((note_call read c (answer at_end c).reply).calls ≡ read.calls ++ more)

  -- ---- the question, in its three parts
  pub record HandsOutOnce : Type 0 where
    pub handed_once : HandedOnce
    pub added_once : AddedOnce
    pub finished_once : FinishedOnce
    pub none_withdrawn : NoneWithdrawn
    pub none_replaced : NoneReplaced
    pub strangers_turned : StrangersTurned

  pub record HandsOutFairly : Type 0 where
    pub none_early : NoneEarly
    pub to_asker : HandedToAsker
    pub by_holder : FinishedByHolder

  pub record ForgetsNone : Type 0 where
    pub gets_answered : GetsAnswered
    pub none_forgotten : NoneForgotten
    pub none_held_up : NoneHeldUp
    pub none_left : NoneLeft
