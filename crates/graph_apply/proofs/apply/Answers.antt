-- `graph_apply::apply` meets its contract: a plan is stored by the function of its kind.
use Rattle.def_words.specs.Words.{applied}
use Rattle.thm_counters_fit.specs.Fitting.{Fitting}
use Rattle.graph_apply.proofs.apply.Goals as goal

pub returns-in-Refuse-clause-stores : goal.returns-in-Refuse-clause-stores
unfolding applied
returns-in-Refuse-clause-stores c = λ h. rw c.in-Refuse.is

pub returns-in-Enter-clause-stores : goal.returns-in-Enter-clause-stores
unfolding Fitting
returns-in-Enter-clause-stores c =
    λ h.
    let e = c.in-Enter.is in
    let k = rw e at h in
    rw e (c.enter.ensures.stores k.0 k.1)
