-- `graph_drained::all_free` meets its contract. The loop's invariant: the test of the workers passed so far.
use mathlib.Core.Path.{refl}
use Rattle.def_words.specs.Columns.{columns}
use Rattle.def_words.specs.Layout.{worker_shape}
use Rattle.def_worker_state.specs.Drained.{every, free}
use Rattle.graph_drained.proofs.Every.{every_suc}
use Rattle.graph_drained.proofs.all_free.Goals as goal

pub loop-worker-init : goal.loop-worker-init
unfolding every
loop-worker-init c = refl

pub loop-worker-preserved : goal.loop-worker-preserved
loop-worker-preserved c =
    rw (
      every_suc (free (columns worker_shape c.args.workers.now)) c.loop-worker.worker,
      ← c.worker_word.ensures,
      ← c.worker_word-in-loop-worker.ensures,
      ← c.loop-worker.invariant,
    )
