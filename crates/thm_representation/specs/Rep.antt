-- The relation between the words of the tables and the graph of the rules.
use Rattle.std.specs.Prelude.{◌≡◌, Bool, true, false, ◌&&◌, List, [], ◌∷◌, ◌++◌, ℕ, zero, suc, ◌+◌, ◌-◌, ◌^◌, ◌≤◌, ◌<◌, ltb, eqb, length, get_or}
use Rattle.std.proofs.Math.Option.{Option, none, some}
use Rattle.def_numbers.specs.Numbers.{most_names}
use Rattle.def_basics.specs.Base.{pick, update}
use Rattle.def_bucket.specs.Bucket.{bucket_of}
use Rattle.def_heap.proofs.Heap.{Heap, count}
use Rattle.def_terms.specs.Terms.{label_number, Arguments, listed, within_limits, bit, Tally, no_tally}
use Rattle.def_terms.specs.declared.Sizes.{Sizes}
use Rattle.def_words.specs.Columns.{Rows}
use Rattle.def_words.specs.Layout.{job_shape, NAME, LABEL, COUNT, CLASS, GROWER, FIRST, LAST, NEXT, OUTCOME, SPOILED}
use Rattle.def_words.specs.Layout.{arc_shape, DEPENDENT, NOTE, AFTER, bucket_shape, queue_shape, worker_shape, PHASE, HELD}
use Rattle.def_words.specs.Layout.{OWN_NAME, LIST_COUNT}
use Rattle.def_words.specs.Layout.{OWN_CLASS, OWN_GROWER, TALLY, PLACE, OWN_JOB, OWN_ARC, NAMES, IDLE, LOOKING, LINKING}
use Rattle.def_words.specs.Layout.{MARKING, NOTIFYING, QUEUED, SLOT, POSITION, view, sizes_kept, stored_minutes, Tables}
use Rattle.def_words.specs.Layout.{View}
use Rattle.def_words.specs.Layout.{NEWEST}
use Rattle.def_words.specs.Layout as words
use Rattle.def_words.specs.Index.{rank_of}
use Rattle.def_words.specs.Words.{is_place, first_arc}
use Rattle.def_words.specs.Observed.{jobs_in}
use Rattle.def_rules.specs.Rules.{Job, Call, idle, looking, linking, marking, notifying, Worker, Graph, job}
use Rattle.def_rules.specs.Sound.{started}

-- ---- a bucket: of the jobs below n, those whose bucket is k, newest first
abbrev pub Bucket : (ℕ → ℕ) → (ℕ → ℕ) → ℕ → ℕ → ℕ → Type 0
Bucket next bucket k at zero = at ≡ words.none
Bucket next bucket k at (suc n) =
    pick (eqb (bucket n) k) ((at ≡ n) × Bucket next bucket k (next n) n) (Bucket next bucket k at n)

-- ---- ghosts of the arcs: the arcs of each job's list, in order; of a linked arc the job whose list it is in, and its
-- place there; of a reserved arc the job that reserved it; of a job its first reserved arc, and how many of its names
-- were linked
pub record Ghost : Type 0 where
  pub via : ℕ → List ℕ
  pub source : ℕ → ℕ
  pub rank : ℕ → ℕ
  pub owner : ℕ → ℕ
  pub base : ℕ → ℕ
  pub linked : ℕ → ℕ

-- what entering, a link to a finished prerequisite, and a link that appends the arc x to the list of p do to them
abbrev pub enter_ghost : Ghost → ℕ → ℕ → Ghost
enter_ghost G n reserved = record {
  via = G.via;
  source = G.source;
  rank = G.rank;
  owner = λ a. pick (ltb a reserved) (G.owner a) n;
  base = update G.base n reserved;
  linked = update G.linked n 0;
}

abbrev pub tally_ghost : Ghost → ℕ → Ghost
tally_ghost G j = record {
  via = G.via;
  source = G.source;
  rank = G.rank;
  owner = G.owner;
  base = G.base;
  linked = update G.linked j (G.linked j + 1);
}

abbrev pub link_ghost : Ghost → ℕ → ℕ → ℕ → Ghost
link_ghost G j p x = record {
  via = update G.via p (G.via p ++ (x ∷ []));
  source = update G.source x p;
  rank = update G.rank x (length (G.via p));
  owner = G.owner;
  base = G.base;
  linked = update G.linked j (G.linked j + 1);
}

-- ---- a job's words, its arcs being l
pub record Row (f : ℕ → ℕ → ℕ) (j : ℕ) (l : List ℕ) (x : Job) : Type 0 where
  pub name : f NAME j ≡ x.name
  pub label : f LABEL j ≡ label_number x.label
  pub count : f COUNT j ≡ x.count
  pub class : f CLASS j ≡ x.class
  pub grower : f GROWER j ≡ x.grower
  pub first : f FIRST j ≡ get_or l 0 words.none
  pub last : f LAST j ≡ get_or l (length l - 1) words.none
  pub outcome : f OUTCOME j ≡ bit x.failed
  pub spoiled : f SPOILED j ≡ bit x.spoiled

-- the i-th arc a of p's list, whose next is n and dependent d
pub record Linked (f : ℕ → ℕ → ℕ) (G : Ghost) (reserved p i a n d : ℕ) : Type 0 where
  pub next : f AFTER a ≡ n
  pub dependent : f DEPENDENT a ≡ d
  pub below : a < reserved
  pub source : G.source a ≡ p
  pub rank : G.rank a ≡ i
  pub spent : a < G.base (G.owner a) + G.linked (G.owner a)

-- ---- the index: a heap of the cells that have a job, each in one of the n filled slots, which is its position
pub record Index (v : View) (n : ℕ) : Type 0 where
  pub in_one_slot : (p : ℕ) → count n (v.cell SLOT) p ≡ pick (ltb p v.put && is_place (v.cell QUEUED p)) 1 0
  pub positions : (k : ℕ) → k < n → v.cell POSITION (v.cell SLOT k) ≡ k
  pub heap : Heap (rank_of v) n (v.cell SLOT)

-- ---- the queue's words that are not in use, in R records: slots past the n filled ones, cells past those that were
-- put, and positions of cells with no job
pub record Unused (R put n : ℕ) (cell : ℕ → ℕ → ℕ) : Type 0 where
  pub slots : (k : ℕ) → n ≤ k → k < R → cell SLOT k ≡ words.none
  pub cells : (p : ℕ) → put ≤ p → p < R → cell QUEUED p ≡ words.none
  pub positions : (p : ℕ) → p < R → cell QUEUED p ≡ words.none → cell POSITION p ≡ words.none

-- ---- jobs, arcs, buckets and queue
pub record TablesRep (s : Sizes) (v : View) (g : Graph) (G : Ghost) : Type 0 where
  pub made : v.made ≡ length g.jobs
  pub reserved : v.reserved ≡ g.reserved
  pub taken : v.taken ≡ started g.jobs
  pub put : v.put ≡ v.taken + length g.queue
  pub queue : jobs_in (v.cell QUEUED) 0 v.put ≡ g.queue
  pub index : Index v (length g.queue)
  pub unused : Unused s.jobs v.put (length g.queue) v.cell
  pub rows : (j : ℕ) → j < s.jobs → Row v.job j (G.via j) (job g j)
  pub buckets : (k : ℕ) → k < 2 ^ s.bits
      → Bucket (v.job NEXT) (λ j. bucket_of (v.job NAME j) s.bits) k (v.bucket NEWEST k) (length g.jobs)
  pub lengths : (p : ℕ) → length (G.via p) ≡ length (job g p).dependents
  pub arcs : (p i : ℕ) → i < length (G.via p)
      → Linked v.arc G g.reserved p i (get_or (G.via p) i words.none) (get_or (G.via p) (suc i) words.none)
      (get_or (job g p).dependents i 0)
  pub mine : (j i : ℕ) → j < length g.jobs → i < length (job g j).list
      → (G.owner (G.base j + i) ≡ j) × (G.base j + i < g.reserved)

-- ---- a worker's words
abbrev pub hold_word : Option ℕ → ℕ
hold_word none = words.none
hold_word (some j) = j

-- the words of an add; the listed names end at the count, so that the names past it are kept as 0
pub record AddWords (f : ℕ → ℕ → ℕ) (w : ℕ) (a : Arguments) (ph : ℕ) (ta : Tally) (pl jo ar : ℕ) : Type 0 where
  pub phase : f PHASE w ≡ ph
  pub name : f OWN_NAME w ≡ a.name
  pub count : f LIST_COUNT w ≡ a.count
  pub class : f OWN_CLASS w ≡ a.class
  pub grower : f OWN_GROWER w ≡ a.grower
  pub tally : f TALLY w ≡ ta.count
  pub note : f NOTE w ≡ bit ta.noted
  pub place : f PLACE w ≡ pl
  pub job : f OWN_JOB w ≡ jo
  pub arc : f OWN_ARC w ≡ ar
  pub names : (q : ℕ) → q < most_names → f (NAMES + q) w ≡ get_or (listed a) q 0

-- the words of a call with no list, of which arc is the next arc, and which brings failed or not
pub record BareWords (f : ℕ → ℕ → ℕ) (w ph ar : ℕ) (fa : Bool) : Type 0 where
  pub phase : f PHASE w ≡ ph
  pub name : f OWN_NAME w ≡ 0
  pub count : f LIST_COUNT w ≡ 0
  pub class : f OWN_CLASS w ≡ 0
  pub grower : f OWN_GROWER w ≡ 0
  pub tally : f TALLY w ≡ 0
  pub note : f NOTE w ≡ bit fa
  pub place : f PLACE w ≡ 0
  pub job : f OWN_JOB w ≡ words.none
  pub arc : f OWN_ARC w ≡ ar
  pub names : (q : ℕ) → q < most_names → f (NAMES + q) w ≡ 0

abbrev pub CallRep : (ℕ → ℕ → ℕ) → Ghost → ℕ → Call → Type 0
CallRep f G w idle = BareWords f w IDLE words.none false
CallRep f G w (looking a i) = AddWords f w a LOOKING no_tally i words.none words.none
CallRep f G w (linking a j i t) = AddWords f w a LINKING t i j (first_arc a.count (G.base j)) × (G.linked j ≡ i)
CallRep f G w (marking fa) = BareWords f w MARKING words.none fa
CallRep f G w (notifying p k fa) = BareWords f w NOTIFYING (get_or (G.via p) k words.none) fa

pub record WorkerRep (f : ℕ → ℕ → ℕ) (G : Ghost) (w : ℕ) (x : Worker) : Type 0 where
  pub held : f HELD w ≡ hold_word x.held
  pub call : CallRep f G w x.call

-- ---- the tables stand for the graph
pub record Stands (s : Sizes) (t : Tables) (g : Graph) (G : Ghost) : Type 0 where
  pub limits : within_limits s ≡ true
  pub kept : sizes_kept s t.jobs ≡ true
  pub minutes : stored_minutes t.jobs ≡ g.minutes
  pub jobs : Rows job_shape s.jobs t.jobs
  pub arcs : Rows arc_shape s.arcs t.arcs
  pub buckets : Rows bucket_shape (2 ^ s.bits) t.buckets
  pub queue : Rows queue_shape s.jobs t.queue
  pub workers : Rows worker_shape s.workers t.workers
  pub rep : TablesRep s (view t) g G
  pub calls : (w : ℕ) → w < s.workers → WorkerRep (view t).worker G w (g.workers w)
