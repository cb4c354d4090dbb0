-- `graph_get::stores::apply_get` meets its contract: each arm's stores are those of its plan.
use Rattle.def_words.specs.Words.{applied_get}
use Rattle.thm_counters_fit.specs.Fitting.{FittingGet}
use Rattle.graph_get.proofs.stores.apply_get.Goals as goal

pub returns-in-RefuseGet-clause-stores : goal.returns-in-RefuseGet-clause-stores
unfolding applied_get
returns-in-RefuseGet-clause-stores c = λ h. rw c.in-RefuseGet.is

pub returns-in-Wait-clause-stores : goal.returns-in-Wait-clause-stores
unfolding applied_get
returns-in-Wait-clause-stores c = λ h. rw c.in-Wait.is

pub returns-in-Take-clause-stores : goal.returns-in-Take-clause-stores
unfolding FittingGet
returns-in-Take-clause-stores c =
    λ h.
    let e = c.in-Take.is in
    rw e (c.take.ensures.stores (rw e at h))
