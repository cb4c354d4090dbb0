-- `graph_apply::apply_own` meets its contract: each arm's stores are those of its plan.
use Rattle.def_words.specs.Words.{applied}
use Rattle.thm_counters_fit.specs.Fitting.{Fitting}
use Rattle.graph_apply.proofs.apply_own.Goals as goal

pub returns-in-Quit-clause-stores : goal.returns-in-Quit-clause-stores
unfolding applied
returns-in-Quit-clause-stores c =
    λ g h.
    rw (c.in-Quit.is, c.idle_worker.ensures)

pub returns-in-Pass-clause-stores : goal.returns-in-Pass-clause-stores
unfolding applied Fitting
returns-in-Pass-clause-stores c =
    λ g h.
    let e = c.in-Pass.is in
    rw (e, c.count_place.ensures (rw e at h))

pub returns-in-Tally-clause-stores : goal.returns-in-Tally-clause-stores
unfolding applied Fitting
returns-in-Tally-clause-stores c =
    λ g h.
    let e = c.in-Tally.is in
    let k = rw e at h in
    rw (e, c.count_tally.ensures k.0 k.1)
