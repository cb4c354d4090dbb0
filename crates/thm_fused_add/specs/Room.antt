-- What the sizes that fit say of each table: that it has its records, and how large it is at most. Follows
-- docs/RULES.md, "Tables and their measures".
use Rattle.std.specs.Prelude.{◌≡◌, Bool, true, ◌&&◌, ◌^◌, ◌≤◌, leb, length}
use Rattle.std.proofs.Common.{leb-true}
use Rattle.def_numbers.specs.Numbers.{most_jobs, most_arcs, most_bits, most_workers}
use Rattle.def_basics.specs.Laws.{and_left, and_right}
use Rattle.def_terms.specs.Terms.{within_limits}
use Rattle.def_terms.specs.declared.Sizes.{Sizes}
use Rattle.def_words.specs.Columns.{rows, Rows}
use Rattle.def_words.specs.Layout.{Tables, need, job_shape, arc_shape, bucket_shape, queue_shape, worker_shape, long_enough}
use Rattle.def_words.specs.Layout.{sizes_kept, room_for, sizes_fit}

pub record Room (s : Sizes) (t : Tables) : Type 0 where
  pub few : s.jobs ≤ most_jobs
  pub short : s.arcs ≤ most_arcs
  pub jobs : Rows job_shape s.jobs t.jobs
  pub arcs : Rows arc_shape s.arcs t.arcs
  pub buckets : Rows bucket_shape (2 ^ s.bits) t.buckets

pub room : (s : Sizes) (t : Tables) → sizes_fit s t ≡ true → Room s t
unfolding within_limits long_enough rows
room s t e = record {
  few = leb-true s.jobs most_jobs (and_right (leb 1 s.jobs) (leb s.jobs most_jobs) first);
  short = leb-true s.arcs most_arcs (and_right j (leb s.arcs most_arcs) second);
  jobs = and_left J A two;
  arcs = and_right J A two;
  buckets = and_right (J && A) B three;
}
  where
    j : Bool
    j = leb 1 s.jobs && leb s.jobs most_jobs

    b : Bool
    b = leb 1 s.bits && leb s.bits most_bits

    w : Bool
    w = leb 1 s.workers && leb s.workers most_workers

    both : within_limits s && long_enough s t ≡ true
    both = and_left (room_for s t) (sizes_kept s t.jobs) e

    second : j && leb s.arcs most_arcs ≡ true
    second = and_left (j && leb s.arcs most_arcs) b
        (and_left (j && leb s.arcs most_arcs && b) w (and_left (within_limits s) (long_enough s t) both))

    first : j ≡ true
    first = and_left j (leb s.arcs most_arcs) second

    J : Bool
    J = leb (need job_shape s.jobs) (length t.jobs)

    A : Bool
    A = leb (need arc_shape s.arcs) (length t.arcs)

    B : Bool
    B = leb (need bucket_shape (2 ^ s.bits)) (length t.buckets)

    Q : Bool
    Q = leb (need queue_shape s.jobs) (length t.queue)

    W : Bool
    W = leb (need worker_shape s.workers) (length t.workers)

    three : J && A && B ≡ true
    three = and_left (J && A && B) Q
        (and_left (J && A && B && Q) W (and_right (within_limits s) (long_enough s t) both))

    two : J && A ≡ true
    two = and_left (J && A) B three
