-- `graph_held::counted` meets its contract: each way through the code is a case of the definition.
use Rattle.def_worker_state.specs.Held.{counted}
use Rattle.graph_held.proofs.counted.Goals as goal

pub returns-then-counters_ok : goal.returns-then-counters_ok
unfolding counted
returns-then-counters_ok c =
    λ buckets queue.
    rw (← c.counters_ok.ensures, c.if-counters_ok.true, ← c.holding_of.ensures)

pub returns-else-counters_ok : goal.returns-else-counters_ok
unfolding counted
returns-else-counters_ok c =
    λ buckets queue.
    rw (← c.counters_ok.ensures, c.if-counters_ok.false, ← c.refused.ensures)
