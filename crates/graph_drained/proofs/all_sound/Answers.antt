-- `graph_drained::all_sound` meets its contract. The loop's invariant: the test of the workers passed so far.
use mathlib.Core.Path.{refl}
use native.Mathlib.Omega.{arith}
use borrow.Author.Tests.{lt-ltb}
use Rattle.def_words.specs.Layout.{tables, view}
use Rattle.def_words.specs.Words.{own_ok}
use Rattle.def_worker_state.specs.Drained.{every}
use Rattle.graph_own.proofs.Admitted.{own_is}
use Rattle.graph_drained.proofs.Every.{every_suc}
use Rattle.graph_drained.proofs.all_sound.Goals as goal

pub loop-worker-init : goal.loop-worker-init
unfolding every
loop-worker-init c = refl

pub loop-worker-preserved : goal.loop-worker-preserved
loop-worker-preserved c =
    let a = c.args in
    let t = tables a.jobs.now a.arcs.now a.buckets.now a.queue.now a.workers.now in
    let worker = c.loop-worker.worker in
    let own = own_is a.sizes t worker c.requires (lt-ltb worker a.sizes.workers (omega arith))
    (c.own_ok-sound.ensures a.buckets.now a.queue.now) in
    rw (every_suc (own_ok a.sizes (view t)) worker, own, ← c.loop-worker.invariant)
