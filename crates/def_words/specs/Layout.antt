-- The five tables as words ("Tables and their measures"): their counters, their records, the fields of a record, and a
-- fresh graph.
use Rattle.std.specs.Prelude.{Bool, ◌&&◌, List, [], ◌∷◌, ◌++◌, ℕ, zero, suc, ◌+◌, ◌*◌, ◌^◌, leb, eqb, length, replicate}
use Rattle.std.proofs.lemmas.List.Edits.{sets}
use Rattle.std.specs.Borrow.{MutBor}
use denote.Triple.Both.{Both}
use Rattle.def_numbers.specs.Numbers.{most_names, classes}
use Rattle.def_minutes.specs.Minutes.{fixed_minutes}
use Rattle.def_terms.specs.Terms.{within_limits}
use Rattle.def_terms.specs.declared.Sizes.{Sizes}
use Rattle.def_words.specs.Columns.{Shape, columns, header, cells}

-- "None as a place is 4294967295"
abbrev pub none : ℕ
none = 4294967295

-- ---- the jobs table: the sizes laid out, the number of jobs made, the minutes of each class; then a record for each
-- job
abbrev pub job_shape : Shape
job_shape = record { head = 21; width = 10 }

abbrev pub JOBS : ℕ
JOBS = 0

abbrev pub ARCS : ℕ
ARCS = 1

abbrev pub BITS : ℕ
BITS = 2

abbrev pub WORKERS : ℕ
WORKERS = 3

abbrev pub MADE : ℕ
MADE = 4

-- the minutes of class 0; those of the other classes follow
abbrev pub MINUTES : ℕ
MINUTES = 5

abbrev pub NAME : ℕ
NAME = 0

abbrev pub LABEL : ℕ
LABEL = 1

abbrev pub COUNT : ℕ
COUNT = 2

abbrev pub CLASS : ℕ
CLASS = 3

abbrev pub GROWER : ℕ
GROWER = 4

abbrev pub FIRST : ℕ
FIRST = 5

abbrev pub LAST : ℕ
LAST = 6

abbrev pub NEXT : ℕ
NEXT = 7

-- 0 for good and for a job not finished, 1 for failed
abbrev pub OUTCOME : ℕ
OUTCOME = 8

-- 1 for a spoiled job
abbrev pub SPOILED : ℕ
SPOILED = 9

-- ---- the arcs table: the number of arcs reserved; then a record for each arc
abbrev pub arc_shape : Shape
arc_shape = record { head = 1; width = 2 }

abbrev pub RESERVED : ℕ
RESERVED = 0

abbrev pub DEPENDENT : ℕ
DEPENDENT = 0

abbrev pub AFTER : ℕ
AFTER = 1

-- ---- the buckets: the newest job of each, or none
abbrev pub bucket_shape : Shape
bucket_shape = record { head = 0; width = 1 }

abbrev pub NEWEST : ℕ
NEWEST = 0

-- ---- the queue, and the index beside it: how many jobs were taken and how many were put; then a record for each cell
-- of the queue
abbrev pub queue_shape : Shape
queue_shape = record { head = 2; width = 3 }

abbrev pub TAKEN : ℕ
TAKEN = 0

abbrev pub PUT : ℕ
PUT = 1

-- a cell's job: the one that was put there, or none once it is taken
abbrev pub QUEUED : ℕ
QUEUED = 0

-- a slot of the index, which shares the record with the cell of its number: the cell of a waiting job, or none
abbrev pub SLOT : ℕ
SLOT = 1

-- the position of a cell: the slot that holds it, or none
abbrev pub POSITION : ℕ
POSITION = 2

-- ---- a worker: its phase, its held job, and the call half done with its list of names
abbrev pub worker_shape : Shape
worker_shape = record { head = 0; width = 43 }

abbrev pub PHASE : ℕ
PHASE = 0

abbrev pub HELD : ℕ
HELD = 1

abbrev pub OWN_NAME : ℕ
OWN_NAME = 2

abbrev pub LIST_COUNT : ℕ
LIST_COUNT = 3

abbrev pub OWN_CLASS : ℕ
OWN_CLASS = 4

abbrev pub OWN_GROWER : ℕ
OWN_GROWER = 5

abbrev pub TALLY : ℕ
TALLY = 6

abbrev pub PLACE : ℕ
PLACE = 7

-- the job that the add entered
abbrev pub OWN_JOB : ℕ
OWN_JOB = 8

-- the first arc that the add reserved, or the arc that the finish notifies next
abbrev pub OWN_ARC : ℕ
OWN_ARC = 9

-- 1 once the add has linked to a failed job, or where the finish brings failed
abbrev pub NOTE : ℕ
NOTE = 10

abbrev pub NAMES : ℕ
NAMES = 11

-- the phases: an add that looks up (or enters) and one that links (or settles), a finish that marks and one that
-- notifies
abbrev pub IDLE : ℕ
IDLE = 0

abbrev pub LOOKING : ℕ
LOOKING = 1

abbrev pub LINKING : ℕ
LINKING = 2

abbrev pub MARKING : ℕ
MARKING = 3

abbrev pub NOTIFYING : ℕ
NOTIFYING = 4

-- ---- the five tables
pub record Tables : Type 0 where
  pub jobs : List ℕ
  pub arcs : List ℕ
  pub buckets : List ℕ
  pub queue : List ℕ
  pub workers : List ℕ

abbrev pub tables : List ℕ → List ℕ → List ℕ → List ℕ → List ℕ → Tables
tables j a b q w = record { jobs = j; arcs = a; buckets = b; queue = q; workers = w }

-- the tables behind the references that a call is lent
abbrev pub lent : MutBor (List ℕ) → MutBor (List ℕ) → MutBor (List ℕ) → MutBor (List ℕ) → MutBor (List ℕ) → Tables
lent j a b q w = tables j.now a.now b.now q.now w.now

-- a lent table, as a contract names it: what is lent as the call begins, and as it ends
abbrev pub Lent : Type 0
Lent = Both (MutBor (List ℕ)) (MutBor (List ℕ))

-- the tables as a call begins, and as it ends
abbrev pub as_lent : Lent → Lent → Lent → Lent → Lent → Tables
as_lent j a b q w = lent j.entry a.entry b.entry q.entry w.entry

abbrev pub as_left : Lent → Lent → Lent → Lent → Lent → Tables
as_left j a b q w = lent j.exit a.exit b.exit q.exit w.exit

-- what the steps read: the counters, and the fields of each record
pub record View : Type 0 where
  pub made : ℕ
  pub reserved : ℕ
  pub taken : ℕ
  pub put : ℕ
  pub job : ℕ → ℕ → ℕ
  pub arc : ℕ → ℕ → ℕ
  pub bucket : ℕ → ℕ → ℕ
  pub cell : ℕ → ℕ → ℕ
  pub worker : ℕ → ℕ → ℕ

abbrev pub view : Tables → View
view t =
    record {
      made = header t.jobs MADE;
      reserved = header t.arcs RESERVED;
      taken = header t.queue TAKEN;
      put = header t.queue PUT;
      job = columns job_shape t.jobs;
      arc = columns arc_shape t.arcs;
      bucket = columns bucket_shape t.buckets;
      cell = columns queue_shape t.queue;
      worker = columns worker_shape t.workers;
    }

-- ---- number 1
-- words that a table needs: its counters and its records
abbrev pub need : Shape → ℕ → ℕ
need s n = s.head + s.width * n

-- "a table shorter than its counters and records need"
unfoldable pub long_enough : Sizes → Tables → Bool
long_enough s t =
    leb (need job_shape s.jobs) (length t.jobs) && leb (need arc_shape s.arcs) (length t.arcs)
    && leb (need bucket_shape (2 ^ s.bits)) (length t.buckets)
    && leb (need queue_shape s.jobs) (length t.queue)
    && leb (need worker_shape s.workers) (length t.workers)

-- the sizes are the ones laid out
unfoldable pub sizes_kept : Sizes → List ℕ → Bool
sizes_kept s jobs =
    eqb (header jobs JOBS) s.jobs && eqb (header jobs ARCS) s.arcs && eqb (header jobs BITS) s.bits
    && eqb (header jobs WORKERS) s.workers

-- laying out asks for the first two, every other call for all
abbrev pub room_for : Sizes → Tables → Bool
room_for s t = within_limits s && long_enough s t

abbrev pub sizes_fit : Sizes → Tables → Bool
sizes_fit s t = room_for s t && sizes_kept s t.jobs

-- ---- the minutes of all classes, as they are stored, and a store of them
abbrev pub stored_minutes : List ℕ → List ℕ
stored_minutes jobs = cells (header jobs) MINUTES classes

abbrev pub put_minutes : List ℕ → List ℕ → List ℕ
put_minutes jobs m = sets jobs MINUTES m

-- ---- laying out: "no jobs, all workers idle and holding nothing, the fixed minutes, unused words 0, every place none"
unfoldable pub repeated : ℕ → List ℕ → List ℕ
repeated zero r = []
repeated (suc n) r = r ++ repeated n r

abbrev pub fresh_job : List ℕ
fresh_job = 0 ∷ 0 ∷ 0 ∷ 0 ∷ 0 ∷ none ∷ none ∷ none ∷ 0 ∷ 0 ∷ []

abbrev pub fresh_arc : List ℕ
fresh_arc = none ∷ none ∷ []

abbrev pub fresh_cell : List ℕ
fresh_cell = none ∷ none ∷ none ∷ []

-- a worker's words with a call that has no list, in a phase, with a hold and a note
abbrev pub bare_worker : ℕ → ℕ → ℕ → List ℕ
bare_worker phase held note =
    phase ∷ held ∷ 0 ∷ 0 ∷ 0 ∷ 0 ∷ 0 ∷ 0 ∷ none ∷ none ∷ note ∷ replicate most_names 0

abbrev pub fresh_jobs : Sizes → List ℕ
fresh_jobs s =
    s.jobs ∷ s.arcs ∷ s.bits ∷ s.workers ∷ 0 ∷ (fixed_minutes ++ repeated s.jobs fresh_job)

abbrev pub fresh_arcs : Sizes → List ℕ
fresh_arcs s = 0 ∷ repeated s.arcs fresh_arc

abbrev pub fresh_buckets : Sizes → List ℕ
fresh_buckets s = replicate (2 ^ s.bits) none

abbrev pub fresh_queue : Sizes → List ℕ
fresh_queue s = 0 ∷ 0 ∷ repeated s.jobs fresh_cell

abbrev pub fresh_workers : Sizes → List ℕ
fresh_workers s = repeated s.workers (bare_worker IDLE none 0)

-- words past a table's need stay
unfoldable pub fresh_tables : Sizes → Tables → Tables
fresh_tables s t =
    tables (sets t.jobs 0 (fresh_jobs s)) (sets t.arcs 0 (fresh_arcs s)) (sets t.buckets 0 (fresh_buckets s))
    (sets t.queue 0 (fresh_queue s))
    (sets t.workers 0 (fresh_workers s))
