-- The claims of demand 3 by the rules: a history is a graph that a list of items reached, with what was read off items
-- and answers and with the entries of each job into the queue. The statements alone; they are shown elsewhere.
use Rattle.std.specs.Prelude.{◌≡◌, ◌↔◌, true, List, [], ◌∷◌, ℕ, suc, ◌+◌, ◌-◌, ◌≤◌, ◌<◌, length, get_or}
use Rattle.std.proofs.Math.Option.{Option, none, some}
use Rattle.def_basics.specs.Base.{contains, occurrences}
use Rattle.def_terms.specs.Terms.{no_arguments, unexecuted, Arguments, listed, finish_of}
use Rattle.def_terms.specs.Runs.{Item}
use Rattle.def_terms.specs.declared.Sizes.{Sizes}
use Rattle.def_rules.specs.Rules.{Job, Call, idle, looking, linking, marking, notifying, Graph, empty, job, find, at}
use Rattle.def_rules.specs.Rules.{perform}
use Rattle.def_rules.specs.Sound.{Finished}
use Rattle.def_book.specs.Book.{Book, blank, BookJob, awaited_names, any_failed, Follows}
use Rattle.def_call_order.specs.Calls.{Pending, adding, finishing, Reading, unread, note, accepted_adds}

-- a graph, its reading, and the entries of each job, after a list of items from the empty graph
pub data History (s : Sizes) : Graph → Reading → (ℕ → ℕ) → Type 0 where
  start : History s empty unread (λ j. 0)
  then : {g : Graph} {r : Reading} {e : ℕ → ℕ} → History s g r e → (i : Item)
      → History s (perform s g i).state (note r i (perform s g i).answer)
      (λ j. e j + (occurrences j (perform s g i).state.queue - occurrences j g.queue))

-- the graph's jobs as the book has them
abbrev pub book_job_of : Job → BookJob
book_job_of x =
    record {
      name = x.name;
      list = x.list;
      class = x.class;
      grower = x.grower;
      label = x.label;
      failed = x.failed;
    }

unfoldable pub book_jobs_of : List Job → List BookJob
book_jobs_of [] = []
book_jobs_of (x ∷ l) = book_job_of x ∷ book_jobs_of l

-- ---- the entries
pub record Counted (g : Graph) (r : Reading) (e : ℕ → ℕ) : Type 0 where
  pub once : (j : ℕ) → e j ≤ 1
  pub there : (j : ℕ) → 0 < e j → j < length g.jobs
  pub after_prerequisites : (j : ℕ) → 0 < e j → (i : ℕ) → i < length (job g j).list
      → Finished g (get_or (job g j).list i 0)
  pub when_ended : (j : ℕ) → j < length g.jobs → contains (job g j).name r.added ≡ true
      → ((i : ℕ) → i < length (job g j).list → contains (get_or (job g j).list i 0) r.finished ≡ true)
      → e j ≡ 1

-- a job is spoiled once its add and the failed finish of a prerequisite have ended
abbrev pub Spoiled : Graph → Reading → Type 0
Spoiled g r =
    (j p i : ℕ) → j < length g.jobs → contains (job g j).name r.added ≡ true → i < length (job g j).list
    → find g (get_or (job g j).list i 0) ≡ at p → contains (job g p).name r.finished ≡ true
    → (job g p).failed ≡ true
    → (job g j).spoiled ≡ true

-- the j-th accepted add is that of job j
pub record Added (a : Arguments) (g : Graph) (j : ℕ) : Type 0 where
  pub name : a.name ≡ (job g j).name
  pub list : listed a ≡ (job g j).list
  pub class : a.class ≡ (job g j).class

-- the book that was fed the calls read so far has the graph's jobs, labels, outcomes and holds
pub record Booked (s : Sizes) (g : Graph) (r : Reading) : Type 0 where
  pub adds : length (accepted_adds r.calls) ≡ length g.jobs
  pub added : (j : ℕ) → j < length g.jobs → Added (get_or (accepted_adds r.calls) j no_arguments) g j
  pub book : Book
  pub follows : Follows s blank r.calls book
  pub jobs : book.jobs ≡ book_jobs_of g.jobs
  pub held : (w : ℕ) → book.held w ≡ (g.workers w).held

-- ---- with no call half done
abbrev pub AllIdle : Graph → Type 0
AllIdle g = (w : ℕ) → (g.workers w).call ≡ idle

-- a job that waits for nothing
pub record Free (g : Graph) (j : ℕ) : Type 0 where
  pub there : j < length g.jobs
  pub unexecuted : (job g j).label ≡ unexecuted
  pub none_left : (job g j).count ≡ 0

-- a job's count is how many of its listed names have jobs not finished, and it is spoiled if one of them has a job that
-- failed, and the jobs in the queue are those that wait for nothing
pub record Balanced (g : Graph) : Type 0 where
  pub counts : (j : ℕ) → j < length g.jobs → (job g j).count ≡ awaited_names (book_jobs_of g.jobs) (job g j).list
  pub spoiled_jobs : (j : ℕ) → j < length g.jobs
      → (job g j).spoiled ≡ any_failed (book_jobs_of g.jobs) (job g j).list
  pub waits : (j : ℕ) → (0 < occurrences j g.queue) ↔ Free g j

-- ---- the steps answered so far are those of the call that the worker is in
abbrev pub PacedCall : Graph → Option ℕ → Call → Pending → Type 0
PacedCall g h idle p = p ≡ Pending.idle
PacedCall g h (looking a i) p = p ≡ adding a i
PacedCall g h (linking a j i t) p = (p ≡ adding a (a.count + 1 + i)) × (a.name ≡ (job g j).name)
PacedCall g none (marking f) p = ⊥
PacedCall g (some j) (marking f) p = p ≡ finishing (finish_of (job g j).name f) 0
PacedCall g h (notifying j k f) p = p ≡ finishing (finish_of (job g j).name f) (suc k)

abbrev pub Paced : Graph → Reading → Type 0
Paced g r = (w : ℕ) → PacedCall g (g.workers w).held (g.workers w).call (r.pending w)
