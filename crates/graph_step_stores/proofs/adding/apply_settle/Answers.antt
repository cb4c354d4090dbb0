-- `graph_step_stores::adding::apply_settle` meets its contract: each arm's stores are those of its plan.
use Rattle.std.proofs.Common.{ap}
use Rattle.def_words.specs.Words.{applied}
use Rattle.thm_counters_fit.specs.Fitting.{Fitting}
use Rattle.graph_step_stores.proofs.adding.apply_settle.Goals as goal

pub returns-in-SettleQueue-clause-stores : goal.returns-in-SettleQueue-clause-stores
unfolding Fitting
returns-in-SettleQueue-clause-stores c =
    λ g h.
    let e = c.in-SettleQueue.is
    in
    let k = rw e at h in
    rw e (c.settle_queue.ensures.stores k)

pub returns-in-Settle-clause-rest : goal.returns-in-Settle-clause-rest
unfolding applied
returns-in-Settle-clause-rest c =
    let e = c.settle.ensures.stores in
    (ap (λ t. t.arcs) e, ap (λ t. t.buckets) e)
