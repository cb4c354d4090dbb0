-- For ALL tables: what the tests mean that come before the words of a step, both ways: the sizes, a worker's own words
-- and the counters. Follows docs/TABLES.md, "What each step reads and writes", and docs/RULES.md, "Turned-away calls".
use Rattle.std.specs.Prelude.{◌≡◌, ◌↔◌, ◌≢◌, true, ℕ, ◌+◌, ◌*◌, ◌^◌, ◌≤◌, ◌<◌, eqb, length}
use Rattle.std.proofs.Common.{arith}
use borrow.Author.Tests.{ltb-true, leb-true, eqb-false, lt-ltb, le-ltb, le-leb, ne_eqb}
use Rattle.def_basics.specs.Laws.{never, fails}
use Rattle.def_terms.specs.Runs.{Result, result_of}
use Rattle.def_terms.specs.declared.Sizes.{Sizes}
use Rattle.def_words.specs.Layout.{none, PHASE, HELD, LIST_COUNT, OWN_CLASS, OWN_GROWER, TALLY, PLACE, OWN_JOB, OWN_ARC}
use Rattle.def_words.specs.Layout.{NOTE, Tables, View, view, long_enough, room_for, sizes_fit}
use Rattle.def_words.specs.Words.{is_place, place_ok, counters_ok, own_ok, admitted, answer_of, applied}
use Rattle.def_words.specs.declared.Plan.{Plan}
use Rattle.def_words.specs.Sized.{Limited, limited_means, Kept, kept_means}
use Rattle.thm_words_tests.specs.Tests.{test, parts}

-- ---- what laying out asks for: sizes in their limits, and each table as long as its counters and records need
pub record Roomy (s : Sizes) (t : Tables) : Type 0 where
  pub limits : Limited s
  pub jobs_long : 21 + 10 * s.jobs ≤ length t.jobs
  pub arcs_long : 1 + 2 * s.arcs ≤ length t.arcs
  pub buckets_long : 2 ^ s.bits ≤ length t.buckets
  pub queue_long : 2 + 3 * s.jobs ≤ length t.queue
  pub workers_long : 43 * s.workers ≤ length t.workers

pub room_means : (s : Sizes) (t : Tables) → (room_for s t ≡ true) ↔ Roomy s t
unfolding long_enough
room_means s t = (
  λ e. record {
    limits = (limited_means s).0 (search parts);
    jobs_long = leb-true (21 + 10 * s.jobs) (length t.jobs) (search parts);
    arcs_long = leb-true (1 + 2 * s.arcs) (length t.arcs) (search parts);
    buckets_long = omega (arith, leb-true (0 + 1 * 2 ^ s.bits) (length t.buckets) (search parts));
    queue_long = leb-true (2 + 3 * s.jobs) (length t.queue) (search parts);
    workers_long = omega (arith, leb-true (0 + 43 * s.workers) (length t.workers) (search parts));
  },
  λ h. rw (
    (limited_means s).1 h.limits,
    le-leb (21 + 10 * s.jobs) (length t.jobs) h.jobs_long,
    le-leb (1 + 2 * s.arcs) (length t.arcs) h.arcs_long,
    le-leb (0 + 1 * 2 ^ s.bits) (length t.buckets) (omega (arith, h.buckets_long)),
    le-leb (2 + 3 * s.jobs) (length t.queue) h.queue_long,
    le-leb (0 + 43 * s.workers) (length t.workers) (omega (arith, h.workers_long)),
  ),
)

-- every other call also asks for the sizes that laying out kept
pub record Sized (s : Sizes) (t : Tables) : Type 0 where
  pub room : Roomy s t
  pub kept : Kept s t.jobs

pub sized_means : (s : Sizes) (t : Tables) → (sizes_fit s t ≡ true) ↔ Sized s t
sized_means s t = (
  λ e. record { room = (room_means s t).0 (search parts); kept = (kept_means s t.jobs).0 (search parts) },
  λ h. rw ((room_means s t).1 h.room, (kept_means s t.jobs).1 h.kept),
)

-- ---- "a place is none, or in use: below its counter and below R or A"
abbrev pub NoneOrUsed : ℕ → ℕ → ℕ → Type 0
NoneOrUsed p counter size = p ≢ none → (p < counter) × (p < size)

pub place_means : (p counter size : ℕ) → (place_ok p counter size ≡ true) ↔ NoneOrUsed p counter size
place_means p counter size = (
  λ e n.
      let f = rw (ne_eqb p none n) at e in
      (ltb-true p counter (search parts), ltb-true p size (search parts)),
  λ h. test (eqb p none) (λ e. rw e)
      (λ e. let u = h (eqb-false p none e) in rw (e, lt-ltb p counter u.0, lt-ltb p size u.1)),
)

-- a place that is one
pub place_some : (p : ℕ) → is_place p ≡ true → p ≢ none
place_some p e z = let i = rw z at e in never cc

-- ---- "the worker's own words": "phase, hold, list count, class, grower, tally, list place, the call's job and arc",
-- and the note, which is 0 or 1
pub record Own (s : Sizes) (v : View) (w : ℕ) : Type 0 where
  pub phase : v.worker PHASE w ≤ 4
  pub hold : NoneOrUsed (v.worker HELD w) v.made s.jobs
  pub count : v.worker LIST_COUNT w ≤ 32
  pub class : v.worker OWN_CLASS w ≤ 15
  pub grower : v.worker OWN_GROWER w ≤ 65535
  pub tally : v.worker TALLY w ≤ v.worker LIST_COUNT w
  pub place : v.worker PLACE w ≤ v.worker LIST_COUNT w
  pub job : NoneOrUsed (v.worker OWN_JOB w) v.made s.jobs
  pub arc : NoneOrUsed (v.worker OWN_ARC w) v.reserved s.arcs
  pub note : v.worker NOTE w ≤ 1

pub own_means : (s : Sizes) (v : View) (w : ℕ) → (own_ok s v w ≡ true) ↔ Own s v w
unfolding own_ok
own_means s v w = (
  λ e. record {
    phase = leb-true (v.worker PHASE w) 4 (search parts depth 10);
    hold = (place_means (v.worker HELD w) v.made s.jobs).0 (search parts depth 10);
    count = leb-true (v.worker LIST_COUNT w) 32 (search parts depth 10);
    class = leb-true (v.worker OWN_CLASS w) 15 (search parts depth 10);
    grower = leb-true (v.worker OWN_GROWER w) 65535 (search parts);
    tally = leb-true (v.worker TALLY w) (v.worker LIST_COUNT w) (search parts);
    place = leb-true (v.worker PLACE w) (v.worker LIST_COUNT w) (search parts);
    job = (place_means (v.worker OWN_JOB w) v.made s.jobs).0 (search parts);
    arc = (place_means (v.worker OWN_ARC w) v.reserved s.arcs).0 (search parts);
    note = leb-true (v.worker NOTE w) 1 (search parts);
  },
  λ h. rw (
    le-leb (v.worker PHASE w) 4 h.phase,
    (place_means (v.worker HELD w) v.made s.jobs).1 h.hold,
    le-leb (v.worker LIST_COUNT w) 32 h.count,
    le-leb (v.worker OWN_CLASS w) 15 h.class,
    le-leb (v.worker OWN_GROWER w) 65535 h.grower,
    le-leb (v.worker TALLY w) (v.worker LIST_COUNT w) h.tally,
    le-leb (v.worker PLACE w) (v.worker LIST_COUNT w) h.place,
    (place_means (v.worker OWN_JOB w) v.made s.jobs).1 h.job,
    (place_means (v.worker OWN_ARC w) v.reserved s.arcs).1 h.arc,
    le-leb (v.worker NOTE w) 1 h.note,
  ),
)

-- ---- "`made`, at most R, and `reserved`, at most A"
pub record Counters (s : Sizes) (v : View) : Type 0 where
  pub made : v.made ≤ s.jobs
  pub reserved : v.reserved ≤ s.arcs

pub counters_mean : (s : Sizes) (v : View) → (counters_ok s v ≡ true) ↔ Counters s v
counters_mean s v = (
  λ e. record {
    made = leb-true v.made s.jobs (search parts);
    reserved = leb-true v.reserved s.arcs (search parts);
  },
  λ h. rw (le-leb v.made s.jobs h.made, le-leb v.reserved s.arcs h.reserved),
)

-- ---- what every call with a worker is judged by first, and by which number it is turned away
pub record Admitted (s : Sizes) (t : Tables) (w : ℕ) : Type 0 where
  pub sizes : Sized s t
  pub known : w < s.workers
  pub own : Own s (view t) w

pub data TurnedAway (s : Sizes) (t : Tables) (w : ℕ) : ℕ → Type 0 where
  by_1 : (Sized s t → ⊥) → TurnedAway s t w 1
  by_2 : Sized s t → s.workers ≤ w → TurnedAway s t w 2
  by_9 : Sized s t → w < s.workers → (Own s (view t) w → ⊥) → TurnedAway s t w 9

module _ {A : Type 0} (s : Sizes) (t : Tables) (w : ℕ) (refuse : ℕ → A) (plan : A) where
  pub admits : Admitted s t w → admitted s t w refuse plan ≡ plan
  unfolding admitted
  admits a =
      rw (
        (sized_means s t).1 a.sizes,
        lt-ltb w s.workers a.known,
        (own_means s (view t) w).1 a.own,
      )

  pub turns_away : (n : ℕ) → TurnedAway s t w n → admitted s t w refuse plan ≡ refuse n
  unfolding admitted
  turns_away n (by_1 f) = rw (fails (sizes_fit s t) (sized_means s t).0 f)
  turns_away n (by_2 h o) = rw ((sized_means s t).1 h, le-ltb w s.workers o)
  turns_away n (by_9 h o f) =
      rw (
        (sized_means s t).1 h,
        lt-ltb w s.workers o,
        fails (own_ok s (view t) w) (own_means s (view t) w).0 f,
      )

-- ---- what is carried out of a plan
abbrev pub did : Plan → Tables → ℕ → Result Tables
did p t w = result_of (answer_of p) (applied p t w)
