-- Demand 3: what is claimed of every list of items, of any machine that answers items and shows what is looked at in
-- its state. Read with docs/RULES.md, "Steps" and "The plain book". (Wrong/ has machines that do not meet it.)
use Rattle.std.specs.Prelude.{◌≡◌, ◌↔◌, Bool, true, false, ◌||◌, List, [], ◌∷◌, ℕ, ◌≤◌, ◌<◌, ltb, leb, eqb, length, get_or}
use Rattle.std.proofs.Math.Option.{none}
use Rattle.def_numbers.specs.Numbers.{wrong_size, no_such_worker, half_done, worker_idle, wrong_minutes, jobs_entered}
use Rattle.def_basics.specs.Base.{pick, contains, occurrences}
use Rattle.def_minutes.specs.Rising.{is_rising}
use Rattle.def_terms.specs.Terms.{no_arguments, Arguments, listed, label_number, unexecuted, finished, same_sizes, Finish}
use Rattle.def_terms.specs.Terms.{bit}
use Rattle.def_terms.specs.Runs.{Item, post_add, post_finish, step, get, load, Event, Result, after, events}
use Rattle.def_terms.specs.Runs.{queue_entries, sizes_of, worker_of, is_load}
use Rattle.def_terms.specs.Seen.{Seen, Same}
use Rattle.def_terms.specs.Cases.{if_handed, if_refused}
use Rattle.def_terms.specs.declared.Sizes.{Sizes}
use Rattle.def_terms.specs.declared.HandOut.{HandOut}
use Rattle.def_terms.specs.declared.Answer.{Answer}
use Rattle.def_terms.specs.declared.Answer.TheVariants.{Loaded, Posted, NoneReady, Handed, Refused}
use Rattle.def_rules.specs.Rules.{empty}
use Rattle.def_rules.specs.Rules as rules
use Rattle.def_rules.specs.Observed as rules_seen
use Rattle.def_book.specs.Book.{Book, blank, book_job, remaining, spoiled, finish_end, Ready, Follows}
use Rattle.def_book.specs.Book as book
use Rattle.def_call_order.specs.Calls.{Pending, idle, adding, finishing, Reading, reading, Quiet, accepted_adds}
use Rattle.def_call_order.specs.Calls.{accepted_finishes, minutes_loaded}

-- ---- the prerequisites of a job: "the jobs of the listed names", among the accepted adds
abbrev pub add_of : List Arguments → ℕ → Arguments
add_of adds j = get_or adds j no_arguments

-- the job of a name is marked finished
pub record MarkedFinished (x : Seen) (adds : List Arguments) (name : ℕ) : Type 0 where
  pub job : ℕ
  pub there : job < length adds
  pub named : (add_of adds job).name ≡ name
  pub marked : (x.job job).label ≡ label_number finished

-- each prerequisite of job j is
abbrev pub PrerequisitesFinished : Seen → List Arguments → ℕ → Type 0
PrerequisitesFinished x adds j =
    (i : ℕ) → i < (add_of adds j).count → MarkedFinished x adds (get_or (listed (add_of adds j)) i 0)

-- ---- "A job is spoiled if it has a prerequisite that failed"
-- k is a prerequisite of j: its name is one that j lists
pub record Prerequisite (adds : List Arguments) (j k : ℕ) : Type 0 where
  pub there : k < length adds
  pub place : ℕ
  pub within : place < (add_of adds j).count
  pub named : (add_of adds k).name ≡ get_or (listed (add_of adds j)) place 0

pub record PrerequisiteFailed (x : Seen) (adds : List Arguments) (j : ℕ) : Type 0 where
  pub job : ℕ
  pub needed : Prerequisite adds j job
  pub failed : (x.job job).outcome ≡ 1

-- "the words of outcome, mark … are 0 or 1" (the mark is the spoiled word): no job is spoiled for nothing, and none has
-- failed before its end
pub record SpoiledRightly (x : Seen) (adds : List Arguments) (j : ℕ) : Type 0 where
  pub spoiled_word_lem : (x.job j).spoiled ≤ 1
  pub outcome : (x.job j).outcome ≤ 1
  pub spoiled : (x.job j).spoiled ≡ 1 → PrerequisiteFailed x adds j
  pub failed : (x.job j).outcome ≡ 1 → (x.job j).label ≡ label_number finished

-- "a chain of prerequisites leads to" a job: one or more
pub data Chain (adds : List Arguments) : ℕ → ℕ → Type 0 where
  one : {j k : ℕ} → Prerequisite adds j k → Chain adds j k
  more : {j k l : ℕ} → Prerequisite adds j k → Chain adds k l → Chain adds j l

-- "to a job that failed without being spoiled"
pub record Source (x : Seen) (adds : List Arguments) (j : ℕ) : Type 0 where
  pub job : ℕ
  pub chain : Chain adds j job
  pub failed : (x.job job).outcome ≡ 1
  pub unspoiled : (x.job job).spoiled ≡ 0

-- a job that is handed out, by what was seen just before and by the calls decided so far: it waited; it is that of an
-- accepted add, under its own name; it is labelled unexecuted; each of its prerequisites is marked finished, and an
-- accepted finish of each was made; it is told to be spoiled exactly if one of them failed
pub record HandedRightly (x : Seen) (calls : List book.Ended) (h : HandOut) : Type 0 where
  pub waited : 0 < occurrences h.job x.waiting
  pub there : h.job < length (accepted_adds calls)
  pub named : h.name ≡ (add_of (accepted_adds calls) h.job).name
  pub unexecuted : (x.job h.job).label ≡ label_number unexecuted
  pub prerequisites : PrerequisitesFinished x (accepted_adds calls) h.job
  pub finishes : (i : ℕ) → i < (add_of (accepted_adds calls) h.job).count
      → contains (get_or (listed (add_of (accepted_adds calls) h.job)) i 0) (accepted_finishes calls) ≡ true
  pub told : (h.spoiled ≡ true) ↔ PrerequisiteFailed x (accepted_adds calls) h.job

-- a job that is finished: it is labelled so, and an accepted finish of it was made
pub record JobFinished (x : Seen) (calls : List book.Ended) (j : ℕ) : Type 0 where
  pub label : (x.job j).label ≡ label_number finished
  pub finish : contains (add_of (accepted_adds calls) j).name (accepted_finishes calls) ≡ true

-- ---- the equality with the book: "the jobs in order of entry, the labels", "the outcome", "what each worker holds",
-- at every moment, a call half done or not;
pub record JobKept (x : Seen) (b : Book) (j : ℕ) : Type 0 where
  pub name : (x.job j).name ≡ (book_job b j).name
  pub class : (x.job j).class ≡ (book_job b j).class
  pub grower : (x.job j).grower ≡ (book_job b j).grower
  pub label : (x.job j).label ≡ label_number (book_job b j).label
  pub outcome : (x.job j).outcome ≡ bit (book_job b j).failed

pub record Keeps (s : Sizes) (x : Seen) (b : Book) : Type 0 where
  pub made : x.made ≡ length b.jobs
  pub jobs : (j : ℕ) → j < length b.jobs → JobKept x b j
  pub holds : (w : ℕ) → w < s.workers → x.held w ≡ b.held w

-- "the remaining counts", "the mark", "the set of waiting jobs", with no call half done
pub record Shows (x : Seen) (b : Book) : Type 0 where
  pub counts : (j : ℕ) → j < length b.jobs → (x.job j).count ≡ remaining b j
  pub spoiled_jobs : (j : ℕ) → j < length b.jobs → (x.job j).spoiled ≡ bit (spoiled b j)
  pub waits : (j : ℕ) → (0 < occurrences j x.waiting) ↔ Ready b j

-- ---- numbers 1 to 4, which end no call, in their order: by the sizes laid out, the number of workers, and whether the
-- worker's call is half done
abbrev pub is_idle : Pending → Bool
is_idle idle = true
is_idle (adding a k) = false
is_idle (finishing f k) = false

abbrev pub by_call : Item → Bool → ℕ
by_call (step q w) b = pick b worker_idle 0
by_call (post_add q w a) b = pick b 0 half_done
by_call (post_finish q w f) b = pick b 0 half_done
by_call (get q w) b = pick b 0 half_done
by_call (load q m) b = 0

-- a load has no worker
abbrev pub has_worker : Sizes → Item → Bool
has_worker s i = is_load i || ltb (worker_of i) s.workers

-- the number that turns an item away, or 0
abbrev pub turning_away : Sizes → Reading → Item → ℕ
turning_away s r i =
    pick (same_sizes (sizes_of i) s)
    (pick (has_worker s i) (by_call i (is_idle (r.pending (worker_of i)))) no_such_worker)
    wrong_size

-- the number by which an answer turned an item away, or 0
abbrev pub turned_away_by : Answer → ℕ
turned_away_by x = if_refused x (λ n i. pick (leb n worker_idle) n 0) 0

-- ---- what the post of a call answers that ends so: a refusal of the post comes at once
abbrev pub post_end : book.End → Answer
post_end book.accepted = Posted
post_end book.none_ready = NoneReady
post_end (book.handed h) = Handed h
post_end (book.refused n i) = Refused n i

-- ---- what a load answers, by the values and by whether a job has entered: "the order is 1, 17, 9, 18", of which 9
-- never comes from a fresh graph
abbrev pub load_end : Sizes → List Arguments → Sizes → List ℕ → Answer
load_end s adds q m =
    pick (same_sizes q s)
    (pick (is_rising m) (pick (eqb (length adds) 0) Loaded (Refused jobs_entered 0)) (Refused wrong_minutes 0))
    (Refused wrong_size 0)

-- ---- the claim, of a machine, the sizes laid out, the state that laying out left, and a list of items. Lists are of
-- any length, so that what is said of the state after the items is said of every moment.
module _ {S : Type 0} (perform : S → Item → Result S) (see : S → Seen) (s : Sizes) (t : S) (items : List Item) where
  abbrev pub at_end : S
  at_end = after perform t items

  abbrev pub read : Reading
  read = reading (events perform t items)

  abbrev pub adds : List Arguments
  adds = accepted_adds read.calls

  -- the entries of a job into the queue
  abbrev pub queue_entries_of : ℕ → ℕ
  queue_entries_of j = queue_entries perform (λ x. (see x).waiting) t items j

  -- "each item of the list does and answers exactly what these rules say": the rules' answers, and after the items the
  -- rules' graph is seen
  abbrev pub Answers : Type 0
  Answers = events perform t items ≡ events (rules.perform s) empty items

  abbrev pub Does : Type 0
  Does = Same s (see at_end) (rules_seen.seen (after (rules.perform s) empty items))

  -- "for each job, the count of its entries into the ready queue is at most one,"
  abbrev pub Once : Type 0
  Once = (j : ℕ) → queue_entries_of j ≤ 1

  -- "is nought unless each prerequisite is marked finished,"
  abbrev pub AfterPrerequisites : Type 0
  AfterPrerequisites = (j : ℕ) → 0 < queue_entries_of j → (j < length adds) × PrerequisitesFinished (see at_end) adds j

  -- "and is one if its add and an accepted finish call of each prerequisite have ended."
  abbrev pub WhenEnded : Type 0
  WhenEnded =
      (j : ℕ) → j < length adds → contains (add_of adds j).name read.added ≡ true
      → ((i : ℕ) → i < (add_of adds j).count → contains (get_or (listed (add_of adds j)) i 0) read.finished ≡ true)
      → queue_entries_of j ≡ 1

  -- "A job is spoiled if it has a prerequisite that failed": it is not spoiled else,
  abbrev pub SpoiledForCause : Type 0
  SpoiledForCause = (j : ℕ) → j < length adds → SpoiledRightly (see at_end) adds j

  -- it is spoiled before it is queued,
  abbrev pub SpoiledOnceQueued : Type 0
  SpoiledOnceQueued =
      (j : ℕ) → 0 < queue_entries_of j → PrerequisiteFailed (see at_end) adds j → ((see at_end).job j).spoiled ≡ 1

  -- and once its add and the failed finish have ended
  abbrev pub SpoiledWhenEnded : Type 0
  SpoiledWhenEnded =
      (j k : ℕ) → contains (add_of adds j).name read.added ≡ true → Prerequisite adds j k
      → contains (add_of adds k).name read.finished ≡ true → ((see at_end).job k).outcome ≡ 1
      → ((see at_end).job j).spoiled ≡ 1

  -- a spoiled job "may only end as failed"
  abbrev pub EndsFailed : Type 0
  EndsFailed =
      (j : ℕ) → j < length adds → ((see at_end).job j).label ≡ label_number finished → ((see at_end).job j).spoiled ≡ 1
      → ((see at_end).job j).outcome ≡ 1

  -- "once no call is half done, a job whose prerequisites have all ended is spoiled exactly if a chain of prerequisites
  -- leads to a job that failed without being spoiled"
  abbrev pub Chains : Type 0
  Chains =
      Quiet read → (j : ℕ) → j < length adds → PrerequisitesFinished (see at_end) adds j
      → (((see at_end).job j).spoiled ≡ 1) ↔ Source (see at_end) adds j

  -- the book, "fed the same calls whole, one after another, ordered by their deciding steps", has each end as it did;
  abbrev pub FollowedBy : Book → Type 0
  FollowedBy b = Follows s blank read.calls b

  -- the jobs with their labels and outcomes, and the holds, are its own;
  abbrev pub KeptBy : Book → Type 0
  KeptBy b = Keeps s (see at_end) b

  -- a finish of an idle worker is posted, or refused by 11 or 19 at once, as the book has it end;
  abbrev pub PostsBy : Book → Type 0
  PostsBy b =
      (w : ℕ) → w < s.workers → read.pending w ≡ idle → (f : Finish)
      → (perform at_end (post_finish s w f)).answer ≡ post_end (finish_end b f (b.held w))

  -- "If then no call is half done", so are the counts, the spoiled words and the set of waiting jobs
  abbrev pub ShownBy : Book → Type 0
  ShownBy b = Quiet read → Shows (see at_end) b

  -- "None ready": "with no call half done it is given exactly if no unexecuted job has all prerequisites finished"
  abbrev pub NoneReadyBy : Book → Type 0
  NoneReadyBy b =
      Quiet read → (w : ℕ) → w < s.workers → b.held w ≡ none
      → ((perform at_end (get s w)).answer ≡ NoneReady) ↔ ((j : ℕ) → Ready b j → ⊥)

  -- "Posts, steps and gets refused by 1 to 4 … end no call, and the book below is not fed them": the next item is
  -- refused so exactly if it must be
  abbrev pub TurnsAway : Type 0
  TurnsAway = (i : Item) → turned_away_by (perform at_end i).answer ≡ turning_away s read i

  -- loads: each is accepted, or refused by its number, as its values and the jobs that entered say;
  abbrev pub Loads : Type 0
  Loads = (q : Sizes) (m : List ℕ) → (perform at_end (load q m)).answer ≡ load_end s adds q m

  -- the minutes are those of the last that was accepted, and "laying out anew brings the fixed ones back"
  abbrev pub Minutes : Type 0
  Minutes = (see at_end).minutes ≡ minutes_loaded (events perform t items)

  pub record Demand : Type 0 where
    pub answers : Answers
    pub does : Does
    pub once : Once
    pub after_prerequisites : AfterPrerequisites
    pub when_ended : WhenEnded
    pub spoiled_for_cause : SpoiledForCause
    pub spoiled_once_queued : SpoiledOnceQueued
    pub spoiled_when_ended : SpoiledWhenEnded
    pub ends_failed : EndsFailed
    pub chains : Chains
    pub book : Book
    pub follows : FollowedBy book
    pub keeps : KeptBy book
    pub finish_posts : PostsBy book
    pub shows : ShownBy book
    pub none_ready_lem : NoneReadyBy book
    pub turns_away : TurnsAway
    pub loads : Loads
    pub minutes : Minutes

-- ---- what else is claimed of every history
-- an answer by a number
abbrev pub is_number : ℕ → Answer → Bool
is_number n x = if_refused x (λ m i. eqb m n) false

unfoldable pub gives : ℕ → List Event → Bool
gives n [] = false
gives n (e ∷ es) = is_number n e.answer || gives n es

-- the jobs handed out, in order
abbrev pub or_handed : Answer → List ℕ → List ℕ
or_handed x l = if_handed x (λ h. h.job ∷ l) l

unfoldable pub handed_out : List Event → List ℕ
handed_out [] = []
handed_out (e ∷ es) = or_handed e.answer (handed_out es)
