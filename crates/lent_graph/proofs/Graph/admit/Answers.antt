-- `lent_graph::Graph::admit` meets its contract: its tests are the definition's, in its order.
use mathlib.Core.Path.{refl}
use borrow.Author.Tests.{lt-ltb, le-ltb}
use Rattle.graph_own.proofs.Admitted.{wrong_sizes, no_such_worker_lem, unsound, admits}
use Rattle.lent_graph.proofs.Graph.admit.Goals as goal

pub returns-then-not-sizes_fit : goal.returns-then-not-sizes_fit
returns-then-not-sizes_fit c = wrong_sizes _ _ _ _ _ c.sizes_fit.ensures c.if-not-sizes_fit.true refl

pub returns-then-worker-self : goal.returns-then-worker-self
returns-then-worker-self c =
    no_such_worker_lem _ _ _ _ _ c.sizes_fit.ensures c.if-not-sizes_fit.false (le-ltb _ _ c.if-worker-self.true) refl

pub returns-then-not-own_ok : goal.returns-then-not-own_ok
returns-then-not-own_ok c =
    unsound _ _ _ _ _ c.sizes_fit.ensures (c.own_ok.ensures _ _) c.if-not-sizes_fit.false
    (lt-ltb _ _ c.if-worker-self.false) c.if-not-own_ok.true refl

pub returns : goal.returns
returns c =
    admits _ _ _ _ _ c.sizes_fit.ensures (c.own_ok.ensures _ _) c.if-not-sizes_fit.false
    (lt-ltb _ _ c.if-worker-self.false) c.if-not-own_ok.false refl
