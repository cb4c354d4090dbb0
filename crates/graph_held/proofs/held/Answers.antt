-- `graph_held::held` meets its contract: each way through the code is a case of the definition.
use Rattle.std.proofs.Common.{lt-ltb, le-ltb}
use Rattle.graph_own.proofs.Admitted.{wrong_sizes, no_such_worker_lem, unsound, admits}
use Rattle.def_worker_state.specs.Held.{held_words}
use Rattle.graph_held.proofs.held.Goals as goal

pub returns : goal.returns
unfolding held_words
returns c =
    admits _ _ _ _ _ c.sizes_fit.ensures (c.own_ok.ensures _ _)
    c.if-not-sizes_fit.false (lt-ltb _ _ c.if-sizes-worker.false) c.if-not-own_ok.false
    (rw (← c.counted.ensures))

pub returns-then-not-own_ok : goal.returns-then-not-own_ok
unfolding held_words
returns-then-not-own_ok c =
    unsound _ _ _ _ _ c.sizes_fit.ensures (c.own_ok.ensures _ _)
    c.if-not-sizes_fit.false (lt-ltb _ _ c.if-sizes-worker.false) c.if-not-own_ok.true c.refused-then-not-own_ok.ensures

pub returns-then-sizes-worker : goal.returns-then-sizes-worker
unfolding held_words
returns-then-sizes-worker c =
    no_such_worker_lem _ _ _ _ _ c.sizes_fit.ensures c.if-not-sizes_fit.false (le-ltb _ _ c.if-sizes-worker.true)
    c.refused-then-sizes-worker.ensures

pub returns-then-not-sizes_fit : goal.returns-then-not-sizes_fit
unfolding held_words
returns-then-not-sizes_fit c =
    wrong_sizes _ _ _ _ _ c.sizes_fit.ensures c.if-not-sizes_fit.true c.refused.ensures
