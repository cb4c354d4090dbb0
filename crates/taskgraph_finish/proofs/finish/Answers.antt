-- `taskgraph_finish::finish` meets its contract: what `finish_whole` answers, as C has it, or that damage stopped the
-- call half done, by the worker's phase before and after; and the tables that it leaves.
use lib.Dec.{ltb}
use Rattle.taskgraph_answer.specs.Answers.{finish_taken}
use Rattle.def_stops.specs.Known.{unknown_finish}
use Rattle.lent_graph.specs.Lent.{words}
use Rattle.taskgraph_answer.specs.WholeAnswers.{whole_in_c}
use Rattle.taskgraph_finish.proofs.finish.Goals as goal

pub returns-clause-told : goal.returns-clause-told
returns-clause-told c =
    let a = c.args in
    let g = a.graph.now in
    let t = words g in
    whole_in_c t a.worker (ltb a.worker g.sizes.workers) c.finish_whole-made.ensures.answered
    (λ e. unknown_finish g.sizes t a.worker e (finish_taken a.name a.outcome)) c.from-answer.ensures
    c.phase_in-before.ensures
    (rw c.finish_whole-made.ensures.same.sizes at c.phase_in-after.ensures) c.stopped_as.ensures c.whole_answered.ensures
