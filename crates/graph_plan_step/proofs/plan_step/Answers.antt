-- `graph_plan_step::plan_step` meets its contract: the tests that come first, and then what the worker's words ask for.
use Rattle.lent_graph.proofs.Admits.{refused, passed}
use Rattle.graph_plan_step.proofs.plan_step.Goals as goal

pub returns-in-Err : goal.returns-in-Err
returns-in-Err c = rw c.into.ensures (refused _ _ _ _ _ c.admit.ensures c.in-Err.is)

pub returns-in-Ok : goal.returns-in-Ok
returns-in-Ok c = rw c.plan_phase.ensures (passed _ _ _ _ _ c.admit.ensures c.in-Ok.is)
