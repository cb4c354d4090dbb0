-- `graph_totals::minutes_of_graph` meets its contract: the part that is judged are the stored minutes.
use Rattle.std.proofs.Common.{arith, sym, ◌∙◌}
use Rattle.def_minutes.specs.Served.{judged_told}
use Rattle.def_numbers.specs.declared.refusal.Refusal.TheVariants.{Damaged}
use Rattle.def_graph_board.specs.Board.{graph_minutes}
use Rattle.graph_totals.proofs.Stored.{cells_part, fit_room}
use Rattle.graph_totals.proofs.minutes_of_graph.Goals as goal

pub returns-then-not-jobs_fit : goal.returns-then-not-jobs_fit
unfolding graph_minutes
returns-then-not-jobs_fit c = simp (sym c.jobs_fit.ensures ∙ c.if-not-jobs_fit.true)

pub slice_bounds-rising-end : goal.slice_bounds-rising-end
slice_bounds-rising-end c =
    let a = c.args in
    omega (arith, fit_room a.sizes a.jobs.now (sym c.jobs_fit.ensures ∙ c.if-not-jobs_fit.false))

pub returns : goal.returns
unfolding graph_minutes
returns c =
    let fit = sym c.jobs_fit.ensures ∙ c.if-not-jobs_fit.false in
    let room = fit_room c.args.sizes c.args.jobs.now fit in
    rw (fit, ← (cells_part c.args.jobs.now 5 16 (omega arith)), c.ok_or.ensures.value, c.rising.ensures)
    (judged_told Damaged _)
