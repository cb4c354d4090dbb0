-- `graph_drained::all_free` meets its contract. The loop's invariant: the test of the workers passed so far.
use mathlib.Core.Path.{◌≡◌}
use Rattle.def_words.specs.Columns.{columns}
use Rattle.def_words.specs.Layout.{worker_shape}
use Rattle.def_worker_state.specs.Drained.{every, free}
use Rattle.graph_drained.proofs.all_free.Given as goal

abbrev pub invariant-loop-worker : goal.invariant-loop-worker
invariant-loop-worker l = l.all ≡ every (free (columns worker_shape l.workers)) l.worker
