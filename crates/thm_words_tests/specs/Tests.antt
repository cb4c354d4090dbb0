-- Tests, and what a passed test is made of; tables that have the words that the sizes need. Follows docs/RULES.md,
-- "Tables and their measures".
use Rattle.std.specs.Prelude.{◌≡◌, refl, Bool, true, false, List, ℕ, ◌+◌, ◌*◌, ◌^◌, ◌≤◌, ltb, length}
use Rattle.std.proofs.Common.{arith, mul-suc, mul-le-mul_left, ltb-true, leb-true}
use Rattle.def_basics.specs.Laws.{and_left, and_right}
use Rattle.def_terms.specs.declared.Sizes.{Sizes}
use Rattle.def_words.specs.Columns.{Shape, offset, Rows, rows}
use Rattle.def_words.specs.Layout.{job_shape, arc_shape, bucket_shape, queue_shape, worker_shape, Tables, long_enough}

-- ---- tests, and what a passed test is made of
pub test : {A : Type 0} (b : Bool) → (b ≡ true → A) → (b ≡ false → A) → A
test true f g = f refl
test false f g = g refl

-- for `search`
pub ruleset parts = (and_left, and_right)

-- each table has the words that the sizes need
pub record Long (s : Sizes) (t : Tables) : Type 0 where
  pub jobs : Rows job_shape s.jobs t.jobs
  pub arcs : Rows arc_shape s.arcs t.arcs
  pub buckets : Rows bucket_shape (2 ^ s.bits) t.buckets
  pub queue : Rows queue_shape s.jobs t.queue
  pub workers : Rows worker_shape s.workers t.workers

pub long : {s : Sizes} {t : Tables} → long_enough s t ≡ true → Long s t
unfolding long_enough rows
long {s} {t} e =
    record {
      jobs = search parts;
      arcs = search parts;
      buckets = search parts;
      queue = search parts;
      workers = search parts;
    }

-- ---- a whole record is within its table
pub record_ends : (s : Shape) (R : ℕ) (l : List ℕ) (i : ℕ) → Rows s R l → ltb i R ≡ true
    → offset s i 0 + s.width ≤ length l
unfolding rows
record_ends s R l i r h =
    let fits = leb-true (s.head + s.width * R) (length l) r in
    omega (arith, mul-suc s.width i, mul-le-mul_left s.width (ltb-true i R h))
