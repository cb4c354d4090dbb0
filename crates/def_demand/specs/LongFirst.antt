-- Long jobs first: which waiting job a get takes, and when a job that waits is handed out. Claimed of any machine that
-- answers items and shows what is looked at in its state, at any state of it. Read with docs/RULES.md, "Steps".
-- (Wrong/Orders.antt has machines that do not meet it.)
use Rattle.std.specs.Prelude.{◌≡◌, ◌≢◌, true, List, ◌++◌, ℕ, ◌≤◌, ◌<◌, length, get_or}
use Rattle.std.proofs.Math.Option.{none}
use Rattle.def_basics.specs.Base.{occurrences}
use Rattle.def_minutes.specs.Minutes.{minutes_in}
use Rattle.def_terms.specs.Order.{Order, heavier_first, without, ahead, First}
use Rattle.def_terms.specs.Runs.{Item, get, Result, after, events, queue_entries}
use Rattle.def_terms.specs.Seen.{idle, Seen, hand_out}
use Rattle.def_terms.specs.declared.Sizes.{Sizes}
use Rattle.def_terms.specs.declared.HandOut.{HandOut}
use Rattle.def_terms.specs.declared.Answer.{Answer}
use Rattle.def_terms.specs.declared.Answer.TheVariants.{Handed}
use Rattle.def_demand.specs.Demand.{handed_out}

-- ---- THE ORDER of what is seen: more minutes go first, and equal minutes as they stand in the queue
abbrev pub minutes_seen : Seen → ℕ → ℕ
minutes_seen x j = minutes_in x.minutes (x.job j).class

abbrev pub long_first : Seen → Order
long_first x = heavier_first (minutes_seen x)

-- "Get takes the waiting job with the most minutes, equal minutes by earlier entry into the queue": the answer hands it
-- out, by its number and name, and it waits no more
pub record Takes (x : Seen) (answer : Answer) (y : Seen) : Type 0 where
  pub job : ℕ
  pub first : First (long_first x) x.waiting job
  pub handed : answer ≡ Handed (hand_out x job)
  pub left : y.waiting ≡ without job x.waiting

-- the queue is in the order of entry: all that waited waits as it stood, and what entered stands behind it
pub record Enters (x y : Seen) : Type 0 where
  pub entered : List ℕ
  pub behind : y.waiting ≡ x.waiting ++ entered

-- a job that was made stays, with its class, and no load is accepted any more, so that it keeps its minutes
pub record Stays (x y : Seen) (j : ℕ) : Type 0 where
  pub made : j < y.made
  pub class : (y.job j).class ≡ (x.job j).class
  pub minutes : y.minutes ≡ x.minutes

-- the k-th job handed out, counted from 0, is j, and none before it; until then j waits
pub record InTurn (j k : ℕ) (handed : List ℕ) (x : Seen) : Type 0 where
  pub kth : k < length handed → get_or handed k 0 ≡ j
  pub none_before : (i : ℕ) → i < k → i < length handed → get_or handed i 0 ≢ j
  pub waits : length handed ≤ k → 0 < occurrences j x.waiting

-- ---- the claims, of a machine, the sizes laid out, and a state that it is in
module _ {S : Type 0} (perform : S → Item → Result S) (see : S → Seen) (s : Sizes) (state : S) where
  abbrev pub now : Seen
  now = see state

  abbrev pub answer : Item → Answer
  answer i = (perform state i).answer

  abbrev pub next : Item → Seen
  next i = see (perform state i).state

  -- a worker that is idle and jobless takes a job, if one waits; whatever hands a job out takes it so; all else hands
  -- none out and lets jobs only enter; and what waits was made
  pub record TakesLongest : Type 0 where
    pub takes : (w : ℕ) → w < s.workers → now.call w ≡ idle → now.held w ≡ none → 0 < length now.waiting
        → Takes now (answer (get s w)) (next (get s w))
    pub only : (i : Item) (h : HandOut) → answer i ≡ Handed h → Takes now (answer i) (next i)
    pub enters : (i : Item) → ((h : HandOut) → answer i ≢ Handed h) → Enters now (next i)
    pub stays : (i : Item) (j : ℕ) → j < now.made → Stays now (next i) j
    pub there : (j : ℕ) → 0 < occurrences j now.waiting → j < now.made

  -- how many jobs are before j "in this order"
  abbrev pub jobs_before : ℕ → ℕ
  jobs_before j = ahead (long_first now) j now.waiting

  -- "only while no heavier job enters": none that goes before j, which are those with more minutes, has an entry into
  -- the queue by the items
  abbrev pub NoHeavierEnters : ℕ → List Item → Type 0
  NoHeavierEnters j later =
      let end : Seen = see (after perform state later) in
      (k : ℕ) → long_first end k j ≡ true → queue_entries perform (λ x. (see x).waiting) state later k ≡ 0

  -- "A job with k jobs before it in the queue is handed out by the (k+1)th get that hands one out", where "before it
  -- means before it in this order, and only while no heavier job enters"
  abbrev pub ByCount : Type 0
  ByCount =
      (j : ℕ) → 0 < occurrences j now.waiting → (later : List Item) → NoHeavierEnters j later
      → InTurn j (jobs_before j) (handed_out (events perform state later)) (see (after perform state later))
