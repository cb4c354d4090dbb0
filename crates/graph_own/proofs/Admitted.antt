-- The tests that come first, for a worker that is known: the code looks at its own words only within the table, where
-- they always are.
use mathlib.Core.Path.{◌≡◌, sym, ◌∙◌}
use mathlib.Core.Bool.{Bool, true, false, ◌&&◌}
use Prim.Native.Nat.{ℕ, ◌^◌}
use native.Mathlib.Omega.{arith}
use lib.Dec.{ltb, leb}
use lib.ListN.{length}
use borrow.Author.Tests.{ltb-true, leb-true, le-leb}
use Rattle.def_numbers.specs.Numbers.{wrong_size, no_such_worker, damaged}
use Rattle.def_basics.specs.Laws.{and_left, and_right}
use Rattle.def_terms.specs.Terms.{within_limits}
use Rattle.def_terms.specs.declared.Sizes.{Sizes}
use Rattle.def_words.specs.Columns.{offset}
use Rattle.def_words.specs.Layout.{job_shape, arc_shape, bucket_shape, queue_shape, worker_shape, NAMES, need, long_enough}
use Rattle.def_words.specs.Layout.{sizes_kept, Tables, view, sizes_fit}
use Rattle.def_words.specs.Words.{own_ok, admitted}

-- a known worker's words before its list are within a table that is long enough
own_within : (s : Sizes) (t : Tables) (w : ℕ) → sizes_fit s t ≡ true → ltb w s.workers ≡ true
    → leb (offset worker_shape w NAMES) (length t.workers) ≡ true
unfolding long_enough
own_within s t w fit known =
    let room = and_right (within_limits s) (long_enough s t)
    (and_left (within_limits s && long_enough s t) (sizes_kept s t.jobs) fit) in
    let rest =
    leb (need job_shape s.jobs) (length t.jobs) && leb (need arc_shape s.arcs) (length t.arcs)
    && leb (need bucket_shape (2 ^ s.bits)) (length t.buckets)
    && leb (need queue_shape s.jobs) (length t.queue) in
    let fits = leb (need worker_shape s.workers) (length t.workers) in
    let long = leb-true (need worker_shape s.workers) (length t.workers) (and_right rest fits room) in
    let below = ltb-true w s.workers known in
    le-leb (offset worker_shape w NAMES) (length t.workers) (omega (arith, long, below))

and_known : (r a b : Bool) → r ≡ (a && b) → a ≡ true → b ≡ r
and_known r true b e h = sym e
and_known r false b e h = cc

-- so of a known worker the code finds what the definition asks for
pub own_is : (s : Sizes) (t : Tables) (w : ℕ) {own : Bool} → sizes_fit s t ≡ true → ltb w s.workers ≡ true
    → own ≡ (leb (offset worker_shape w NAMES) (length t.workers) && own_ok s (view t) w) → own_ok s (view t) w ≡ own
own_is s t w {own} fits known o =
    and_known own (leb (offset worker_shape w NAMES) (length t.workers)) (own_ok s (view t) w) o
    (own_within s t w fits known)

-- each way through the tests that come first: `fit` and `own` are what the code finds of the sizes and of the worker's
-- own words
module _ (s : Sizes) (t : Tables) (w : ℕ) {A : Type 0} (refuse : ℕ → A) (plan : A) {r : A} {fit : Bool}
    (f : fit ≡ sizes_fit s t) where
  pub wrong_sizes : fit ≡ false → r ≡ refuse wrong_size → r ≡ admitted s t w refuse plan
  unfolding admitted
  wrong_sizes left e = rw (sym f ∙ left) e

  pub no_such_worker_lem : fit ≡ true → ltb w s.workers ≡ false → r ≡ refuse no_such_worker
      → r ≡ admitted s t w refuse plan
  unfolding admitted
  no_such_worker_lem taken unknown e = rw (sym f ∙ taken, unknown) e

  pub unsound : {own : Bool} → own ≡ (leb (offset worker_shape w NAMES) (length t.workers) && own_ok s (view t) w)
      → fit ≡ true → ltb w s.workers ≡ true → own ≡ false → r ≡ refuse damaged → r ≡ admitted s t w refuse plan
  unfolding admitted
  unsound o taken known left e = rw (sym f ∙ taken, known, own_is s t w (sym f ∙ taken) known o, left) e

  pub admits : {own : Bool} → own ≡ (leb (offset worker_shape w NAMES) (length t.workers) && own_ok s (view t) w)
      → fit ≡ true → ltb w s.workers ≡ true → own ≡ true → r ≡ plan → r ≡ admitted s t w refuse plan
  unfolding admitted
  admits o taken known sound e = rw (sym f ∙ taken, known, own_is s t w (sym f ∙ taken) known o, sound) e
