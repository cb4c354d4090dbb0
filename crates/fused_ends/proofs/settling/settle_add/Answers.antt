-- `settle_add` meets its contract: its job settles, or the add stops.
use mathlib.Core.Path.{◌∙◌}
use Rattle.def_sheet_rows.specs.Arguments.{arguments_of}
use Rattle.fused_ends.proofs.Laws.{stopped, settles_as}
use Rattle.fused_ends.proofs.settling.settle_add.Goals as goal

pub returns-in-Ok : goal.returns-in-Ok
returns-in-Ok c =
    λ arcs buckets.
    let a = c.args in
    let e = arguments_of a.entry in
    rw c.put_bare_worker.ensures
    (rw c.in-Ok.is at (c.settle.ensures arcs buckets a.workers.now a.worker a.held
    (stopped a.sizes a.worker e a.held a.new.job a.new.arc))
    ∙ settles_as a.sizes a.worker e a.held a.new.job a.new.arc a.linked _)

pub returns-in-Err : goal.returns-in-Err
returns-in-Err c =
    λ arcs buckets.
    let a = c.args in
    let e = arguments_of a.entry in
    rw (c.stop.ensures, c.first_arc.ensures)
    (rw c.in-Err.is at (c.settle.ensures arcs buckets a.workers.now a.worker a.held
    (stopped a.sizes a.worker e a.held a.new.job a.new.arc))
    ∙ settles_as a.sizes a.worker e a.held a.new.job a.new.arc a.linked _)
