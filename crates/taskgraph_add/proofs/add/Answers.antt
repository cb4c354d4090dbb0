-- `taskgraph_add::add` meets its contract: what `add_whole` answers, as C has it, or that damage stopped the
-- call half done, by the worker's phase before and after; and the tables that it leaves.
use lib.Dec.{ltb}
use Rattle.def_sheet_rows.specs.Arguments.{arguments_of}
use Rattle.def_stops.specs.Known.{unknown_add}
use Rattle.lent_graph.specs.Lent.{words}
use Rattle.taskgraph_answer.specs.WholeAnswers.{whole_in_c}
use Rattle.taskgraph_add.proofs.add.Goals as goal

pub returns-clause-told : goal.returns-clause-told
returns-clause-told c =
    let a = c.args in
    let g = a.graph.now in
    let t = words g in
    whole_in_c t a.worker (ltb a.worker g.sizes.workers) c.add_whole-made.ensures.answered
    (λ e. unknown_add g.sizes t a.worker e (arguments_of a.entry)) c.from-answer.ensures c.phase_in-before.ensures
    (rw c.add_whole-made.ensures.same.sizes at c.phase_in-after.ensures) c.stopped_as.ensures c.whole_answered.ensures
