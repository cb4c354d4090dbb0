-- `graph_step_stores::finishing::apply_finish` meets its contract: each arm's stores are those of its plan.
use Rattle.std.proofs.Common.{ap}
use Rattle.def_words.specs.Words.{applied}
use Rattle.thm_counters_fit.specs.Fitting.{Fitting}
use Rattle.graph_step_stores.proofs.finishing.apply_finish.Goals as goal

pub returns-in-NotifyQueue-clause-stores : goal.returns-in-NotifyQueue-clause-stores
unfolding Fitting
returns-in-NotifyQueue-clause-stores c =
    λ g h.
    let e = c.in-NotifyQueue.is
    in
    let k = rw e at h in
    rw e (c.notify_queue.ensures.stores k)

pub returns-in-Mark-clause-rest : goal.returns-in-Mark-clause-rest
unfolding applied
returns-in-Mark-clause-rest c =
    let e = c.mark.ensures.stores in
    (ap (λ t. t.arcs) e, ap (λ t. t.buckets) e)

pub returns-in-Notify-clause-rest : goal.returns-in-Notify-clause-rest
unfolding applied
returns-in-Notify-clause-rest c =
    let e = c.notify.ensures.stores in
    (ap (λ t. t.arcs) e, ap (λ t. t.buckets) e)
