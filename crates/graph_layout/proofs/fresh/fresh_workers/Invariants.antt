-- `graph_layout::fresh::fresh_workers` meets its contract: what is left to store, from the present record on, makes the same
-- table as all of it.
use Prim.Native.Nat.{◌-◌}
use mathlib.Core.Path.{◌≡◌}
use lib.ListN.{length}
use lib.Seq.{sets}
use Rattle.def_words.specs.Columns.{offset}
use Rattle.def_words.specs.Layout.{none, worker_shape, IDLE, repeated, bare_worker}
use Rattle.graph_layout.proofs.fresh.fresh_workers.Given as goal

abbrev pub invariant-loop-worker : goal.invariant-loop-worker
invariant-loop-worker l =
    (sets l.workers (offset worker_shape l.worker 0) (repeated (l.count - l.worker) (bare_worker IDLE none 0))
    ≡ sets l.initial.workers (offset worker_shape 0 0) (repeated l.count (bare_worker IDLE none 0)))
    × (length l.workers ≡ length l.initial.workers)
