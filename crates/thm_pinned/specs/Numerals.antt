-- The numbers, limits and offsets of the rules, by numerals, what is read of the tables, and the tests of sizes and of
-- settling, both ways: one record with a row for each, and one theorem that the definitions which the contracts cite
-- have them. Follows docs/RULES.md, "Tables and their measures", "Turned-away calls" and "Steps"; docs/TABLES.md;
-- docs/NUMBERS.md.
use Rattle.std.specs.Prelude.{◌≡◌, refl, ◌↔◌, Bool, true, false, ◌||◌, List, [], ◌∷◌, ℕ, ◌+◌, ◌*◌, ◌≤◌, ◌<◌, ltb, eqb, get_or, replicate}
use Rattle.std.proofs.Common.{ap, arith, eqb-true, eq-eqb, ltb-true, lt-ltb}
use Rattle.std.proofs.Math.ListN.{get_or-eq_default}
use Rattle.def_numbers.specs.Numbers.{most_names, most_class, most_grower, classes, most_minutes, most_jobs, most_arcs}
use Rattle.def_numbers.specs.Numbers.{most_bits}
use Rattle.def_numbers.specs.Numbers.{most_workers, most_entries, wrong_size, no_such_worker, half_done, worker_idle}
use Rattle.def_numbers.specs.Numbers.{wrong_arguments, unknown_name, name_present, tables_full, damaged, already_holding}
use Rattle.def_numbers.specs.Numbers.{not_held, too_many_entries, wrong_minutes, jobs_entered, good_for_spoiled, most_records}
use Rattle.def_numbers.specs.Numbers.{cut}
use Rattle.def_numbers.specs.Numbers.{wrong_map, wrong_value, no_room, name_bytes, count_bytes, class_bytes, grower_bytes}
use Rattle.def_basics.specs.Laws.{and_left, and_right}
use Rattle.def_minutes.specs.Minutes.{fixed_minutes, minutes_in}
use Rattle.def_terms.specs.Terms.{within_limits, same_sizes, label_number, unexecuted, executing, finished, bit, settles}
use Rattle.def_terms.specs.declared.Sizes.{Sizes}
use Rattle.def_totals.specs.Board as board
use Rattle.def_words.specs.Columns.{Shape, columns, header}
use Rattle.def_words.specs.Layout.{Tables, View, view, bare_worker}
use Rattle.def_words.specs.Layout.{none, job_shape, arc_shape, bucket_shape, queue_shape, worker_shape}
use Rattle.def_words.specs.Layout.{JOBS, ARCS, BITS, WORKERS, MADE, MINUTES, NAME, LABEL, COUNT, CLASS, GROWER, FIRST}
use Rattle.def_words.specs.Layout.{LAST}
use Rattle.def_words.specs.Layout.{NEXT, OUTCOME, SPOILED, RESERVED, DEPENDENT, AFTER, TAKEN, PUT, QUEUED, SLOT}
use Rattle.def_words.specs.Layout.{POSITION}
use Rattle.def_words.specs.Layout.{PHASE}
use Rattle.def_words.specs.Layout.{HELD, OWN_NAME, LIST_COUNT, OWN_CLASS, OWN_GROWER, TALLY, PLACE, OWN_JOB, OWN_ARC}
use Rattle.def_words.specs.Layout.{NOTE}
use Rattle.def_words.specs.Layout.{NAMES, IDLE, LOOKING, LINKING, MARKING, NOTIFYING}
use Rattle.def_words.specs.Sized.{limited_means}
use Rattle.thm_arguments.specs.Lists.{or_cases, or_first_lem, or_second}
use Rattle.thm_words_tests.specs.Tests.{parts}

-- ---- the numbers of "Turned-away calls", and those of later requests
pub record Refusals : Type 0 where
  pub by_1 : wrong_size ≡ 1
  pub by_2 : no_such_worker ≡ 2
  pub by_3 : half_done ≡ 3
  pub by_4 : worker_idle ≡ 4
  pub by_5 : wrong_arguments ≡ 5
  pub by_6 : unknown_name ≡ 6
  pub by_7 : name_present ≡ 7
  pub by_8 : tables_full ≡ 8
  pub by_9 : damaged ≡ 9
  pub by_10 : already_holding ≡ 10
  pub by_11 : not_held ≡ 11
  pub by_12 : cut ≡ 12
  pub by_13 : wrong_map ≡ 13
  pub by_14 : wrong_value ≡ 14
  pub by_15 : no_room ≡ 15
  pub by_16 : too_many_entries ≡ 16
  pub by_17 : wrong_minutes ≡ 17
  pub by_18 : jobs_entered ≡ 18
  pub by_19 : good_for_spoiled ≡ 19

-- ---- limits: "R jobs 1 to 4,096; A arcs 0 to 32,768; b bucket bits 1 to 8; P workers 1 to 16"; "at most 32 names",
-- "class 0 to 15, grower 0 to 65,535"; "up to 64 entries"; "more than 4,096 board records"; minutes "from 1 to 1,440"
pub record Limits : Type 0 where
  pub jobs : most_jobs ≡ 4096
  pub arcs : most_arcs ≡ 32768
  pub bits : most_bits ≡ 8
  pub workers : most_workers ≡ 16
  pub names : most_names ≡ 32
  pub class : most_class ≡ 15
  pub grower : most_grower ≡ 65535
  pub entries : most_entries ≡ 64
  pub records : most_records ≡ 4096
  pub classes : classes ≡ 16
  pub minutes : most_minutes ≡ 1440

-- "1, 2, 3, 5, 8, 10, 15, 20, 30, 45, 60, 90, 120, 180, 240, 480"
abbrev pub sixteen_minutes : List ℕ
sixteen_minutes = 1 ∷ 2 ∷ 3 ∷ 5 ∷ 8 ∷ 10 ∷ 15 ∷ 20 ∷ 30 ∷ 45 ∷ 60 ∷ 90 ∷ 120 ∷ 180 ∷ 240 ∷ 480 ∷ []

-- of a class its own, and 0 "where there is no such class"
pub record TellsMinutes (tell : ℕ → ℕ) : Type 0 where
  pub of_class : (class : ℕ) → class < 16 → tell class ≡ get_or sixteen_minutes class 0
  pub no_class : (class : ℕ) → 16 ≤ class → tell class ≡ 0

-- "label (0 unexecuted, 1 executing, 2 finished)", and the board's labels; "are 0 or 1"
pub record Labels : Type 0 where
  pub unexecuted : label_number unexecuted ≡ 0
  pub executing : label_number executing ≡ 1
  pub finished : label_number finished ≡ 2
  pub board : board.unexecuted ∷ board.executing ∷ board.finished ∷ [] ≡ 0 ∷ 1 ∷ 2 ∷ []
  pub good : bit false ≡ 0
  pub failed : bit true ≡ 1

-- ---- docs/TABLES.md: how many words each table's heading and its records have, and where each stands
abbrev pub shaped : Shape → List ℕ
shaped s = s.head ∷ s.width ∷ []

pub record Offsets : Type 0 where
  pub none : none ≡ 4294967295
  pub jobs_table : shaped job_shape ≡ 21 ∷ 10 ∷ []
  pub arcs_table : shaped arc_shape ≡ 1 ∷ 2 ∷ []
  pub buckets_table : shaped bucket_shape ≡ 0 ∷ 1 ∷ []
  pub queue_table : shaped queue_shape ≡ 2 ∷ 3 ∷ []
  pub workers_table : shaped worker_shape ≡ 0 ∷ 43 ∷ []
  -- R, A, b, P, made, and the first of the sixteen minutes
  pub jobs_heading : JOBS ∷ ARCS ∷ BITS ∷ WORKERS ∷ MADE ∷ MINUTES ∷ [] ≡ 0 ∷ 1 ∷ 2 ∷ 3 ∷ 4 ∷ 5 ∷ []
  -- name, label, count, class, grower, first, last, next, outcome, spoiled
  pub job :
      NAME ∷ LABEL ∷ COUNT ∷ CLASS ∷ GROWER ∷ FIRST ∷ LAST ∷ NEXT ∷ OUTCOME ∷ SPOILED ∷ []
      ≡ 0 ∷ 1 ∷ 2 ∷ 3 ∷ 4 ∷ 5 ∷ 6 ∷ 7 ∷ 8 ∷ 9 ∷ []
  pub arcs_heading : RESERVED ≡ 0
  pub arc : DEPENDENT ∷ AFTER ∷ [] ≡ 0 ∷ 1 ∷ []
  pub queue_heading : TAKEN ∷ PUT ∷ [] ≡ 0 ∷ 1 ∷ []
  pub cell : QUEUED ∷ SLOT ∷ POSITION ∷ [] ≡ 0 ∷ 1 ∷ 2 ∷ []
  -- phase, held, name, count, class, grower, tally, place, job, arc, note, and the first of the 32 names
  pub worker :
      PHASE ∷ HELD ∷ OWN_NAME ∷ LIST_COUNT ∷ OWN_CLASS ∷ OWN_GROWER ∷ TALLY ∷ PLACE ∷ OWN_JOB ∷ OWN_ARC ∷ NOTE
      ∷ NAMES ∷ []
      ≡ 0 ∷ 1 ∷ 2 ∷ 3 ∷ 4 ∷ 5 ∷ 6 ∷ 7 ∷ 8 ∷ 9 ∷ 10 ∷ 11 ∷ []
  pub phases : IDLE ∷ LOOKING ∷ LINKING ∷ MARKING ∷ NOTIFYING ∷ [] ≡ 0 ∷ 1 ∷ 2 ∷ 3 ∷ 4 ∷ []

-- what a step reads of the five tables, word by word: word k of record i stands behind the heading and the records
-- before it
pub record ReadsWords (see : Tables → View) (t : Tables) : Type 0 where
  pub made : (see t).made ≡ get_or t.jobs 4 0
  pub reserved : (see t).reserved ≡ get_or t.arcs 0 0
  pub taken : (see t).taken ≡ get_or t.queue 0 0
  pub put : (see t).put ≡ get_or t.queue 1 0
  pub job : (j k : ℕ) → k < 10 → (see t).job k j ≡ get_or t.jobs (21 + 10 * j + k) 0
  pub arc : (i k : ℕ) → k < 2 → (see t).arc k i ≡ get_or t.arcs (1 + 2 * i + k) 0
  pub bucket : (i : ℕ) → (see t).bucket 0 i ≡ get_or t.buckets i 0
  pub cell : (i k : ℕ) → k < 3 → (see t).cell k i ≡ get_or t.queue (2 + 3 * i + k) 0
  pub worker : (w k : ℕ) → k < 43 → (see t).worker k w ≡ get_or t.workers (43 * w + k) 0

-- a worker's 43 words in a call that has no list, and in none: "A posted finish leaves phase 3, the hold as it was, the
-- outcome in `note`, none in job and arc, and 0 in all else. The end of a call … stores all 43 words: phase 0, none in
-- job and arc, 0 in all else, and the hold"
abbrev pub Bares : (ℕ → ℕ → ℕ → List ℕ) → Type 0
Bares bare =
    (phase hold note : ℕ)
    → bare phase hold note
    ≡ phase ∷ hold ∷ 0 ∷ 0 ∷ 0 ∷ 0 ∷ 0 ∷ 0 ∷ 4294967295 ∷ 4294967295 ∷ note ∷ replicate 32 0

-- docs/SHEETS.md: a name has 4 bytes, a count 1, a class 1, a grower 2
pub record FieldBytes : Type 0 where
  pub name : name_bytes ≡ 4
  pub count : count_bytes ≡ 1
  pub class : class_bytes ≡ 1
  pub grower : grower_bytes ≡ 2

-- ---- tests, both ways
-- sizes in their limits
pub record InLimits (s : Sizes) : Type 0 where
  pub jobs_least : 1 ≤ s.jobs
  pub jobs_most : s.jobs ≤ 4096
  pub arcs_most : s.arcs ≤ 32768
  pub bits_least : 1 ≤ s.bits
  pub bits_most : s.bits ≤ 8
  pub workers_least : 1 ≤ s.workers
  pub workers_most : s.workers ≤ 16

abbrev pub JudgesSizes : (Sizes → Bool) → Type 0
JudgesSizes judge = (s : Sizes) → (judge s ≡ true) ↔ InLimits s

-- "a later call must bring the same": each of the four
pub record FourSame (s t : Sizes) : Type 0 where
  pub jobs : s.jobs ≡ t.jobs
  pub arcs : s.arcs ≡ t.arcs
  pub bits : s.bits ≡ t.bits
  pub workers : s.workers ≡ t.workers

abbrev pub ComparesSizes : (Sizes → Sizes → Bool) → Type 0
ComparesSizes same = (s t : Sizes) → (same s t ≡ true) ↔ FourSame s t

-- settling: "the job enters the queue if the count is then 0 and either the tally is above 0 or d is 0"
pub data Queues (count tally d : ℕ) : Type 0 where
  tallied : count ≡ 0 → 0 < tally → Queues count tally d
  alone : count ≡ 0 → d ≡ 0 → Queues count tally d

abbrev pub Settles : (ℕ → ℕ → ℕ → Bool) → Type 0
Settles test = (count tally d : ℕ) → (test count tally d ≡ true) ↔ Queues count tally d

-- ---- all of it
pub record Pinned : Type 0 where
  pub refusals : Refusals
  pub limits : Limits
  pub minutes : fixed_minutes ≡ sixteen_minutes
  pub class_minutes : TellsMinutes (minutes_in fixed_minutes)
  pub labels : Labels
  pub offsets : Offsets
  pub reads : (t : Tables) → ReadsWords view t
  pub bares : Bares bare_worker
  pub fields : FieldBytes
  pub judges_sizes : JudgesSizes within_limits
  pub compares_sizes : ComparesSizes same_sizes
  pub settles : Settles settles

-- ---- the definitions have it
judges_sizes : JudgesSizes within_limits
judges_sizes s = (
  λ e. let l = (limited_means s).0 e in record {
    jobs_least = l.jobs.0;
    jobs_most = l.jobs.1;
    arcs_most = l.arcs;
    bits_least = l.bits.0;
    bits_most = l.bits.1;
    workers_least = l.workers.0;
    workers_most = l.workers.1;
  },
  λ h. (limited_means s).1 (record {
    jobs = (h.jobs_least, h.jobs_most);
    arcs = h.arcs_most;
    bits = (h.bits_least, h.bits_most);
    workers = (h.workers_least, h.workers_most);
  }),
)

compares_sizes : ComparesSizes same_sizes
unfolding same_sizes
compares_sizes s t = (
  λ e. record {
    jobs = eqb-true s.jobs t.jobs (search parts);
    arcs = eqb-true s.arcs t.arcs (search parts);
    bits = eqb-true s.bits t.bits (search parts);
    workers = eqb-true s.workers t.workers (search parts);
  },
  λ h. rw (
    eq-eqb s.jobs t.jobs h.jobs,
    eq-eqb s.arcs t.arcs h.arcs,
    eq-eqb s.bits t.bits h.bits,
    eq-eqb s.workers t.workers h.workers,
  ),
)

queues : (count tally d : ℕ) → Queues count tally d → settles count tally d ≡ true
queues count tally d (tallied e h) = rw (eq-eqb count 0 e) (or_first_lem (ltb 0 tally) (eqb d 0) (lt-ltb 0 tally h))
queues count tally d (alone e h) = rw (eq-eqb count 0 e) (or_second (ltb 0 tally) (eqb d 0) (eq-eqb d 0 h))

settled : Settles settles
settled count tally d = (
  λ e.
      let z = eqb-true count 0 (and_left (eqb count 0) (ltb 0 tally || eqb d 0) e) in
      or_cases (ltb 0 tally) (eqb d 0) (λ h. tallied z (ltb-true 0 tally h)) (λ h. alone z (eqb-true d 0 h))
      (and_right (eqb count 0) (ltb 0 tally || eqb d 0) e),
  queues count tally d,
)

reads : (t : Tables) → ReadsWords view t
unfolding columns header
reads t = record {
  made = refl;
  reserved = refl;
  taken = refl;
  put = refl;
  job = λ j k h. rw (lt-ltb k 10 h);
  arc = λ i k h. rw (lt-ltb k 2 h);
  bucket = λ i. ap (λ n. get_or t.buckets n 0) {x = 0 + 1 * i + 0} {y = i} (omega arith);
  cell = λ i k h. rw (lt-ltb k 3 h);
  worker = λ w k h. rw (lt-ltb k 43 h)
      (ap (λ n. get_or t.workers n 0) {x = 0 + 43 * w + k} {y = 43 * w + k} (omega arith));
}

pub pinned : Pinned
unfolding fixed_minutes minutes_in
pinned = record {
  refusals = record {
    by_1 = refl;
    by_2 = refl;
    by_3 = refl;
    by_4 = refl;
    by_5 = refl;
    by_6 = refl;
    by_7 = refl;
    by_8 = refl;
    by_9 = refl;
    by_10 = refl;
    by_11 = refl;
    by_12 = refl;
    by_13 = refl;
    by_14 = refl;
    by_15 = refl;
    by_16 = refl;
    by_17 = refl;
    by_18 = refl;
    by_19 = refl;
  };
  limits = record {
    jobs = refl;
    arcs = refl;
    bits = refl;
    workers = refl;
    names = refl;
    class = refl;
    grower = refl;
    entries = refl;
    records = refl;
    classes = refl;
    minutes = refl;
  };
  minutes = refl;
  class_minutes = record {
    of_class = λ class h. refl;
    no_class = λ class h. get_or-eq_default sixteen_minutes 0 {n = class} h;
  };
  labels = record {
    unexecuted = refl;
    executing = refl;
    finished = refl;
    board = refl;
    good = refl;
    failed = refl;
  };
  offsets = record {
    none = refl;
    jobs_table = refl;
    arcs_table = refl;
    buckets_table = refl;
    queue_table = refl;
    workers_table = refl;
    jobs_heading = refl;
    job = refl;
    arcs_heading = refl;
    arc = refl;
    queue_heading = refl;
    cell = refl;
    worker = refl;
    phases = refl;
  };
  reads = reads;
  bares = λ phase hold note. refl;
  fields = record { name = refl; count = refl; class = refl; grower = refl };
  judges_sizes = judges_sizes;
  compares_sizes = compares_sizes;
  settles = settled;
}
