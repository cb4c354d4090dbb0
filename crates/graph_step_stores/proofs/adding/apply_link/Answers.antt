-- `graph_step_stores::adding::apply_link` meets its contract: each arm's stores are those of its plan.
use Rattle.thm_counters_fit.specs.Fitting.{Fitting}
use Rattle.graph_step_stores.proofs.adding.apply_link.Goals as goal

pub returns-in-LinkFirst-clause-stores : goal.returns-in-LinkFirst-clause-stores
unfolding Fitting
returns-in-LinkFirst-clause-stores c =
    λ g h.
    let e = c.in-LinkFirst.is in
    let k = rw e at h in
    rw e (c.link_first.ensures.stores k)

pub returns-in-LinkAfter-clause-stores : goal.returns-in-LinkAfter-clause-stores
unfolding Fitting
returns-in-LinkAfter-clause-stores c =
    λ g h.
    let e = c.in-LinkAfter.is
    in
    let k = rw e at h in
    rw e (c.link_after.ensures.stores k)
