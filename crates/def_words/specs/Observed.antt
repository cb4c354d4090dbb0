-- What is seen in the words of the tables: the queue ("A job waits while it has a place in the queue"), each job with
-- its own list of arcs, the holds and the calls half done.
use Rattle.std.specs.Prelude.{List, [], ◌∷◌, ℕ, zero, suc, ◌+◌, ltb, eqb}
use Rattle.std.proofs.Math.Option.{Option, some}
use Rattle.std.proofs.Math.Option as option
use Rattle.def_basics.specs.Base.{pick}
use Rattle.def_terms.specs.Seen.{Request, CallSeen, idle, looking, linking, marking, notifying, JobSeen, Seen}
use Rattle.def_words.specs.Columns.{cells}
use Rattle.def_words.specs.Layout.{none, NAME, LABEL, COUNT, CLASS, GROWER, FIRST, NEXT, OUTCOME, SPOILED}
use Rattle.def_words.specs.Layout.{DEPENDENT}
use Rattle.def_words.specs.Layout.{HELD, OWN_NAME, LIST_COUNT, OWN_CLASS, OWN_GROWER, TALLY, PLACE, OWN_JOB}
use Rattle.def_words.specs.Layout.{OWN_ARC}
use Rattle.def_words.specs.Layout.{NAMES, IDLE, LOOKING, LINKING, MARKING, QUEUED, SLOT, Tables, View, view}
use Rattle.def_words.specs.Layout.{stored_minutes, AFTER, PHASE, NOTE}
use Rattle.def_words.specs.Index.{filled}

-- the jobs in n cells from the i-th on; a job that was taken is there no more
unfoldable pub jobs_in : (ℕ → ℕ) → ℕ → ℕ → List ℕ
jobs_in f i zero = []
jobs_in f i (suc n) = pick (eqb (f i) none) (jobs_in f (suc i) n) (f i ∷ jobs_in f (suc i) n)

-- the jobs that wait, in the order in which they entered the queue
abbrev pub waiting : Tables → List ℕ
waiting t = jobs_in ((view t).cell QUEUED) 0 (view t).put

-- the job in a cell of the queue that was put, and none at any other number
abbrev pub job_at : View → ℕ → ℕ
job_at v p = pick (ltb p v.put) (v.cell QUEUED p) none

-- the jobs in the index, slot by slot
abbrev pub indexed : Tables → List ℕ
indexed t = cells (λ k. job_at (view t) ((view t).cell SLOT k)) 0 (filled (view t))

-- the dependents along a list of arcs from the arc x on, which are at most n
unfoldable pub dependents_from : ℕ → View → ℕ → List ℕ
dependents_from zero v x = []
dependents_from (suc n) v x = pick (eqb x none) [] (v.arc DEPENDENT x ∷ dependents_from n v (v.arc AFTER x))

-- no list has more arcs than were reserved, so that one step more comes to its end
abbrev pub arcs_from : View → ℕ → List ℕ
arcs_from v x = dependents_from (v.reserved + 1) v x

-- the jobs of a bucket along its list from the job j on, which are at most n
unfoldable pub chain_from : ℕ → View → ℕ → List ℕ
chain_from zero v j = []
chain_from (suc n) v j = pick (eqb j none) [] (j ∷ chain_from n v (v.job NEXT j))

-- and no bucket more jobs than were made
abbrev pub bucket_from : View → ℕ → List ℕ
bucket_from v j = chain_from (v.made + 1) v j

-- "at the head of its bucket": of the first n jobs those of the bucket k, newest first
unfoldable pub newest_first : (ℕ → ℕ) → ℕ → ℕ → List ℕ
newest_first bucket k zero = []
newest_first bucket k (suc n) = pick (eqb (bucket n) k) (n ∷ newest_first bucket k n) (newest_first bucket k n)

abbrev pub job_seen : View → ℕ → JobSeen
job_seen v j = record {
  name = v.job NAME j;
  label = v.job LABEL j;
  count = v.job COUNT j;
  class = v.job CLASS j;
  grower = v.job GROWER j;
  arcs = arcs_from v (v.job FIRST j);
  outcome = v.job OUTCOME j;
  spoiled = v.job SPOILED j;
}

-- a place, or none
abbrev pub place_seen : ℕ → Option ℕ
place_seen p = pick (eqb p none) option.none (some p)

-- the call that a worker is in
abbrev pub request_seen : View → ℕ → Request
request_seen v w = record {
  name = v.worker OWN_NAME w;
  list = cells (λ q. v.worker (NAMES + q) w) 0 (v.worker LIST_COUNT w);
  class = v.worker OWN_CLASS w;
  grower = v.worker OWN_GROWER w;
}

unfoldable pub call_seen : View → ℕ → CallSeen
call_seen v w =
    pick (eqb (v.worker PHASE w) IDLE) idle
    (pick (eqb (v.worker PHASE w) LOOKING) (looking (request_seen v w) (v.worker PLACE w))
    (pick (eqb (v.worker PHASE w) LINKING)
    (linking (request_seen v w) (v.worker OWN_JOB w) (v.worker PLACE w) (v.worker TALLY w) (v.worker NOTE w))
    (pick (eqb (v.worker PHASE w) MARKING) (marking (v.worker NOTE w))
    (notifying (v.worker NOTE w) (arcs_from v (v.worker OWN_ARC w))))))

abbrev pub seen : Tables → Seen
seen t = record {
  made = (view t).made;
  reserved = (view t).reserved;
  minutes = stored_minutes t.jobs;
  job = job_seen (view t);
  waiting = waiting t;
  held = λ w. place_seen ((view t).worker HELD w);
  call = call_seen (view t);
}
