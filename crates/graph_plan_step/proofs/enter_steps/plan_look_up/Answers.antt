-- `graph_plan_step::enter_steps::plan_look_up` meets its contract: each way through the code is a case of the definition.
use Rattle.def_words.specs.Words.{plan_look_up}
use Rattle.graph_plan_step.proofs.enter_steps.plan_look_up.Goals as goal

pub returns-in-At : goal.returns-in-At
unfolding plan_look_up
returns-in-At c =
    rw
    c.in-At.is

pub returns-in-Missing : goal.returns-in-Missing
unfolding plan_look_up
returns-in-Missing c =
    rw
    c.in-Missing.is

pub returns-in-Damaged : goal.returns-in-Damaged
unfolding plan_look_up
returns-in-Damaged c =
    rw
    c.in-Damaged.is
