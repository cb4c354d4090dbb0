-- Laying out: the fresh tables stand for the graph with no jobs, for every content that the tables had before. Follows
-- docs/RULES.md: "no jobs, all workers idle and holding nothing, the fixed minutes, unused words 0, every place none".
use Rattle.std.specs.Prelude.{◌≡◌, Bool, true, ◌&&◌, List, [], ◌∷◌, ℕ, ◌+◌, ◌^◌, ◌<◌, leb, length, get_or}
use Rattle.std.proofs.Math.Path.{refl}
use Rattle.std.proofs.Common.{◌∙◌, arith}
use Rattle.std.proofs.lemmas.List.Edits.{sets}
use borrow.Author.Tests.{eq-eqb, le-ltb}
use Rattle.def_basics.specs.Counting.{sum}
use Rattle.def_basics.specs.Laws.{get_d_past}
use Rattle.def_minutes.specs.Minutes.{fixed_minutes}
use Rattle.def_terms.specs.Terms.{within_limits}
use Rattle.def_terms.specs.declared.Sizes.{Sizes}
use Rattle.def_words.specs.Columns.{rows, Rows, columns, header, cells_list}
use Rattle.std.proofs.Math.Option.{none}
use Rattle.def_words.specs.Layout as words
use Rattle.def_words.specs.Layout.{job_shape, JOBS, ARCS, BITS, WORKERS, MADE, NAME, LABEL, COUNT, CLASS, GROWER, FIRST}
use Rattle.def_words.specs.Layout.{LAST, arc_shape, RESERVED, bucket_shape, queue_shape, TAKEN, PUT, worker_shape, PHASE}
use Rattle.def_words.specs.Layout.{HELD}
use Rattle.def_words.specs.Layout.{OWN_NAME, LIST_COUNT, OWN_CLASS, OWN_GROWER, TALLY, PLACE, OWN_JOB, OWN_ARC, IDLE}
use Rattle.def_words.specs.Layout.{need}
use Rattle.def_words.specs.Layout.{long_enough, sizes_kept, room_for, fresh_job, fresh_arc, fresh_cell, bare_worker, fresh_jobs}
use Rattle.def_words.specs.Layout.{fresh_arcs, fresh_buckets, fresh_queue, fresh_workers, fresh_tables, tables, view, Tables}
use Rattle.def_words.specs.Layout.{MINUTES, NAMES, QUEUED, SLOT, POSITION, stored_minutes, OUTCOME, SPOILED, NOTE}
use Rattle.def_words.specs.Layout.{NEWEST}
use Rattle.def_words.specs.Observed.{jobs_in}
use Rattle.def_rules.specs.Rules.{idle, no_job, empty}
use Rattle.def_rules.specs.Sound.{started}
use Rattle.thm_representation.specs.Rep.{Ghost, Row, TablesRep, WorkerRep, Stands}
use Rattle.thm_representation_kept.specs.Lists.{repeated_one, bare_name}
use Rattle.thm_representation_kept.specs.Records.{rows_sets, laid_at, laid_header}
use Rattle.thm_representation_kept.specs.Stand.{both}

-- no arc is in any list
abbrev pub no_ghost : Ghost
no_ghost =
    record { via = λ p. []; source = λ a. 0; rank = λ a. 0; owner = λ a. 0; base = λ j. 0; linked = λ j. 0 }

-- each table is long enough
record Long (s : Sizes) (t : Tables) : Type 0 where
  jobs : Rows job_shape s.jobs t.jobs
  arcs : Rows arc_shape s.arcs t.arcs
  buckets : Rows bucket_shape (2 ^ s.bits) t.buckets
  queue : Rows queue_shape s.jobs t.queue
  workers : Rows worker_shape s.workers t.workers

long_of : (s : Sizes) (t : Tables) → long_enough s t ≡ true → Long s t
unfolding long_enough rows
long_of s t e = record { jobs = two.0; arcs = two.1; buckets = three.1; queue = four.1; workers = five.1 }
  where
    a : Bool
    a = leb (need job_shape s.jobs) (length t.jobs)

    b : Bool
    b = leb (need arc_shape s.arcs) (length t.arcs)

    c : Bool
    c = leb (need bucket_shape (2 ^ s.bits)) (length t.buckets)

    d : Bool
    d = leb (need queue_shape s.jobs) (length t.queue)

    f : Bool
    f = leb (need worker_shape s.workers) (length t.workers)

    five : (a && b && c && d ≡ true) × (f ≡ true)
    five = both (a && b && c && d) f e

    four : (a && b && c ≡ true) × (d ≡ true)
    four = both (a && b && c) d five.0

    three : (a && b ≡ true) × (c ≡ true)
    three = both (a && b) c four.0

    two : (a ≡ true) × (b ≡ true)
    two = both a b three.0

module _ (s : Sizes) (t : Tables) (L : Long s t) where
  -- ---- the words after
  abbrev J : List ℕ
  J = sets t.jobs 0 (fresh_jobs s)

  abbrev A : List ℕ
  A = sets t.arcs 0 (fresh_arcs s)

  abbrev B : List ℕ
  B = sets t.buckets 0 (fresh_buckets s)

  abbrev Q : List ℕ
  Q = sets t.queue 0 (fresh_queue s)

  abbrev W : List ℕ
  W = sets t.workers 0 (fresh_workers s)

  abbrev job_head : List ℕ
  job_head = s.jobs ∷ s.arcs ∷ s.bits ∷ s.workers ∷ 0 ∷ fixed_minutes

  size : (q : ℕ) → q < job_shape.head → header J q ≡ get_or job_head q 0
  unfolding fixed_minutes
  size q h = laid_header job_shape s.jobs t.jobs job_head fresh_job refl refl L.jobs q h

  job_word_lem : (j q : ℕ) → j < s.jobs → q < job_shape.width → columns job_shape J q j ≡ get_or fresh_job q 0
  unfolding fixed_minutes
  job_word_lem j q = laid_at job_shape s.jobs t.jobs job_head fresh_job refl refl L.jobs j q

  reserved : header A RESERVED ≡ 0
  reserved = laid_header arc_shape s.arcs t.arcs (0 ∷ []) fresh_arc refl refl L.arcs RESERVED (omega arith)

  bucket_word : (k : ℕ) → k < 2 ^ s.bits → columns bucket_shape B NEWEST k ≡ words.none
  bucket_word k h =
      rw (repeated_one (2 ^ s.bits) words.none)
      (laid_at bucket_shape (2 ^ s.bits) t.buckets [] (words.none ∷ []) refl refl L.buckets k 0 h (omega arith))

  counter : (q : ℕ) → q < 2 → header Q q ≡ get_or (0 ∷ 0 ∷ []) q 0
  counter q h = laid_header queue_shape s.jobs t.queue (0 ∷ 0 ∷ []) fresh_cell refl refl L.queue q h

  cell_word : (p q : ℕ) → p < s.jobs → q < queue_shape.width → columns queue_shape Q q p ≡ get_or fresh_cell q 0
  cell_word p q = laid_at queue_shape s.jobs t.queue (0 ∷ 0 ∷ []) fresh_cell refl refl L.queue p q

  worker_word : (w q : ℕ) → w < s.workers → q < worker_shape.width
      → columns worker_shape W q w ≡ get_or (bare_worker IDLE words.none 0) q 0
  worker_word w q = laid_at worker_shape s.workers t.workers [] (bare_worker IDLE words.none 0) refl refl
      L.workers w q

  -- ---- what they stand for
  kept : sizes_kept s J ≡ true
  unfolding sizes_kept
  kept =
      rw (
        size JOBS (omega arith),
        size ARCS (omega arith),
        size BITS (omega arith),
        size WORKERS (omega arith),
        eq-eqb s.jobs s.jobs refl,
        eq-eqb s.arcs s.arcs refl,
        eq-eqb s.bits s.bits refl,
        eq-eqb s.workers s.workers refl,
      )

  minutes : stored_minutes J ≡ fixed_minutes
  unfolding fixed_minutes
  minutes = cells_list (header J) MINUTES fixed_minutes
      (λ k h. size (MINUTES + k) (omega arith)
      ∙ get_d_past (s.jobs ∷ s.arcs ∷ s.bits ∷ s.workers ∷ 0 ∷ []) fixed_minutes k)

  fresh_row : (j : ℕ) → j < s.jobs → Row (columns job_shape J) j [] no_job
  fresh_row j h = record {
    name = job_word_lem j NAME h (omega arith);
    label = job_word_lem j LABEL h (omega arith);
    count = job_word_lem j COUNT h (omega arith);
    class = job_word_lem j CLASS h (omega arith);
    grower = job_word_lem j GROWER h (omega arith);
    first = job_word_lem j FIRST h (omega arith);
    last = job_word_lem j LAST h (omega arith);
    outcome = job_word_lem j OUTCOME h (omega arith);
    spoiled = job_word_lem j SPOILED h (omega arith);
  }

  idle_worker_lem : (w : ℕ) → w < s.workers
      → WorkerRep (columns worker_shape W) no_ghost w (record { held = none; call = idle })
  idle_worker_lem w h = record {
    held = worker_word w HELD h (omega arith);
    call = record {
      phase = worker_word w PHASE h (omega arith);
      name = worker_word w OWN_NAME h (omega arith);
      count = worker_word w LIST_COUNT h (omega arith);
      class = worker_word w OWN_CLASS h (omega arith);
      grower = worker_word w OWN_GROWER h (omega arith);
      tally = worker_word w TALLY h (omega arith);
      note = worker_word w NOTE h (omega arith);
      place = worker_word w PLACE h (omega arith);
      job = worker_word w OWN_JOB h (omega arith);
      arc = worker_word w OWN_ARC h (omega arith);
      names = λ q b. worker_word w (NAMES + q) h (omega arith) ∙ bare_name IDLE words.none 0 q b;
    };
  }

  fresh_rep : TablesRep s (view (tables J A B Q W)) empty no_ghost
  unfolding empty started jobs_in sum
  fresh_rep = record {
    made = size MADE (omega arith);
    reserved = reserved;
    taken = counter TAKEN (omega arith);
    put = omega (arith, counter PUT (omega arith), counter TAKEN (omega arith));
    queue = rw (counter PUT (omega arith)) refl;
    index = record {
      in_one_slot = λ p. rw (counter PUT (omega arith), le-ltb p 0 (omega arith)) refl;
      positions = λ k h. absurd (omega arith);
      heap = record { ordered = λ a b h. absurd (omega arith) };
    };
    unused = record {
      slots = λ k h b. cell_word k SLOT b (omega arith);
      cells = λ p h b. cell_word p QUEUED b (omega arith);
      positions = λ p b e. cell_word p POSITION b (omega arith);
    };
    rows = fresh_row;
    buckets = bucket_word;
    lengths = λ p. refl;
    arcs = λ p i h. absurd (omega arith);
    mine = λ j i h. absurd (omega arith);
  }

  fresh_all : within_limits s ≡ true → Stands s (tables J A B Q W) empty no_ghost
  unfolding empty
  fresh_all e = record {
    limits = e;
    kept = kept;
    minutes = minutes;
    jobs = rows_sets job_shape s.jobs t.jobs 0 (fresh_jobs s) ∙ L.jobs;
    arcs = rows_sets arc_shape s.arcs t.arcs 0 (fresh_arcs s) ∙ L.arcs;
    buckets = rows_sets bucket_shape (2 ^ s.bits) t.buckets 0 (fresh_buckets s) ∙ L.buckets;
    queue = rows_sets queue_shape s.jobs t.queue 0 (fresh_queue s) ∙ L.queue;
    workers = rows_sets worker_shape s.workers t.workers 0 (fresh_workers s) ∙ L.workers;
    rep = fresh_rep;
    calls = idle_worker_lem;
  }

pub fresh_stands : (s : Sizes) (t : Tables) → room_for s t ≡ true → Stands s (fresh_tables s t) empty no_ghost
unfolding fresh_tables
fresh_stands s t e =
    let p = both (within_limits s) (long_enough s t) e in
    fresh_all s t (long_of s t p.1) p.0
