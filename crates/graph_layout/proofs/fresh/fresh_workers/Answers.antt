-- `graph_layout::fresh::fresh_workers` meets its contract: what is left to store, from the present record on, makes the same
-- table as all of it.
use mathlib.Core.Path.{refl, ◌∙◌}
use native.Mathlib.Omega.{arith}
use Rattle.def_words.specs.Layout.{none, worker_shape, IDLE, bare_worker}
use Rattle.graph_layout.proofs.fresh.Laws.{record_one, record_none}
use Rattle.graph_layout.proofs.fresh.fresh_workers.Goals as goal

pub loop-worker-preserved : goal.loop-worker-preserved
loop-worker-preserved c =
    let one = record_one worker_shape (bare_worker IDLE none 0) refl _ c.loop-worker.worker c.args.count
    (omega arith) in (
      rw c.put_bare_worker.ensures (one ∙ c.loop-worker.invariant.0),
      c.put_bare_worker.auto.workers
          ∙ c.loop-worker.invariant.1,
    )

pub returns : goal.returns
returns c = record_none worker_shape (bare_worker IDLE none 0) refl _ c.loop-worker.worker c.args.count (omega arith)
    ∙ c.loop-worker.invariant.0
