-- `add_if_idle` meets its contract: each plan is a case of the definition; where the job is to enter there is room, and
-- both counters stay words.
use mathlib.Core.Path.{refl, sym, ◌∙◌}
use native.Mathlib.Omega.{arith}
use Rattle.fused_add.proofs.Laws.{rejected, turned_away_lem, stopped, entered, has_room}
use Rattle.fused_add.proofs.add_if_idle.Goals as goal

pub returns-in-Reject : goal.returns-in-Reject
returns-in-Reject c =
    rejected _ _ _ _ (c.plan_add-plan.ensures _).0 c.worker_word-held.ensures c.in-Reject.is
    refl

pub returns-in-TurnAway : goal.returns-in-TurnAway
returns-in-TurnAway c =
    turned_away_lem _ _ _ _ (c.plan_add-plan.ensures _).0 c.worker_word-held.ensures
    c.in-TurnAway.is (c.turn_away.ensures _ _ _ _)

pub returns-in-Stop : goal.returns-in-Stop
returns-in-Stop c =
    stopped _ _ _ _ (c.plan_add-plan.ensures _).0 c.worker_word-held.ensures
    c.in-Stop.is (c.stop_looking.ensures _ _ _ _)

pub returns-in-EnterJob : goal.returns-in-EnterJob
returns-in-EnterJob c =
    let plan = c.plan_add-plan.ensures _ in
    let enters = c.in-EnterJob.is in
    let new = c.enter_job-new.ensures in
    let g = c.well_formed.0 in
    let k = has_room c.args.sizes _ _ _ (sym plan.0 ∙ enters) in
    entered _ _ _ _ plan.0 c.worker_word-held.ensures enters (c.settle_add.ensures _ _)
    (c.link_all-links.ensures _ _ _) (new.2 (omega (arith, k.0, g)) (omega (arith, k.1, g)) _ _)
    new.0 new.1 (plan.1 (omega arith) enters)
