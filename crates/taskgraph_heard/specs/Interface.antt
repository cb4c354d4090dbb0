-- WHAT THE CONTRACTS OF THE GRAPH'S CALLS SAY, of any contract: a struct and the five tables that a call leaves are
-- those of a definition's result, so that no call answers rightly and leaves its work undone; and the tables of a
-- contract are what lies behind the five references, each in its place, as the call begins and as it ends. Follows
-- docs/RULES.md, "Steps" and "Whole calls", and include/taskgraph.h. (proofs/Wrong/Contracts.antt has contracts
-- that say less.)
use Rattle.std.specs.Prelude.{◌≡◌, refl, List, ℕ}
use Rattle.std.proofs.Common.{ap}
use Rattle.std.specs.Borrow.{MutBor}
use Rattle.def_terms.specs.Runs.{Result}
use Rattle.def_words.specs.Layout.{Tables, Lent, as_lent, as_left}
use Rattle.def_whole_calls.specs.Sheet.{SheetResult}
use Rattle.def_sheet_rows.specs.SheetRows.{sheet_added, Added}
use Rattle.def_sheet_rows.specs.declared.SheetAdded.{SheetAdded}
use Rattle.taskgraph_answer.specs.Answers.{graph_answer, Gives}
use Rattle.taskgraph_answer.specs.WholeAnswers.{whole_of, told_whole, GivesWhole}
use Rattle.taskgraph_answer.specs.declared.GraphAnswer.{GraphAnswer}

-- each of the five tables is the same
pub record SameTables (t u : Tables) : Type 0 where
  pub jobs : t.jobs ≡ u.jobs
  pub arcs : t.arcs ≡ u.arcs
  pub buckets : t.buckets ≡ u.buckets
  pub queue : t.queue ≡ u.queue
  pub workers : t.workers ≡ u.workers

-- the five tables lie behind these references
pub record Behind (t : Tables) (j a b q w : MutBor (List ℕ)) : Type 0 where
  pub jobs : t.jobs ≡ j.now
  pub arcs : t.arcs ≡ a.now
  pub buckets : t.buckets ≡ b.now
  pub queue : t.queue ≡ q.now
  pub workers : t.workers ≡ w.now

-- a contract of a call that answers by the struct r and leaves the tables t: the outcome's answer is told by r, all of
-- it (what is heard in it: ToldApart.antt), and its tables are left
abbrev pub GivesAll : (GraphAnswer → Tables → Result Tables → Type 0) → Type 0
GivesAll gives =
    (r : GraphAnswer) (t : Tables) (o : Result Tables) → gives r t o
    → (r ≡ graph_answer o.answer) × SameTables t o.state

-- the same of a sheet: what is told is all of `sheet_added` (what is heard in it: thm_answers_heard,
-- specs/SheetHeard.antt)
abbrev pub AddsAll : (SheetAdded → Tables → ℕ → SheetResult → Type 0) → Type 0
AddsAll added =
    (r : SheetAdded) (t : Tables) (stop : ℕ) (o : SheetResult) → added r t stop o
    → (r ≡ sheet_added stop o) × SameTables t o.state

-- and of a call run whole, which tells too if damage stopped it half done: the tables u before it are read for that
abbrev pub GivesAllWhole : (GraphAnswer → Tables → Tables → ℕ → Result Tables → Type 0) → Type 0
GivesAllWhole gives =
    (r : GraphAnswer) (t u : Tables) (w : ℕ) (o : Result Tables) → gives r t u w o
    → (r ≡ told_whole (whole_of u w o)) × SameTables t o.state

pub record Contracts : Type 0 where
  pub gives : GivesAll Gives
  pub added : AddsAll Added
  pub gives_whole : GivesAllWhole GivesWhole
  pub begins : (j a b q w : Lent)
      → Behind (as_lent j a b q w) j.entry a.entry b.entry q.entry w.entry
  pub ends : (j a b q w : Lent) → Behind (as_left j a b q w) j.exit a.exit b.exit q.exit w.exit

-- ---- those of the library
same_tables : {t u : Tables} → t ≡ u → SameTables t u
same_tables e = record {
  jobs = ap (λ (x : Tables). x.jobs) e;
  arcs = ap (λ (x : Tables). x.arcs) e;
  buckets = ap (λ (x : Tables). x.buckets) e;
  queue = ap (λ (x : Tables). x.queue) e;
  workers = ap (λ (x : Tables). x.workers) e;
}

pub contracts : Contracts
contracts = record {
  gives = λ r t o g. (g.0, same_tables g.1);
  added = λ r t stop o g. (g.0, same_tables g.1);
  gives_whole = λ r t u w o g. (g.0, same_tables g.1);
  begins = λ j a b q w. record { jobs = refl; arcs = refl; buckets = refl; queue = refl; workers = refl };
  ends = λ j a b q w. record { jobs = refl; arcs = refl; buckets = refl; queue = refl; workers = refl };
}
