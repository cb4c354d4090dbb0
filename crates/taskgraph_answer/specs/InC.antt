-- From what a call of the graph ensures to what its function of the C interface does: one law for all of them.
use Rattle.std.specs.Prelude.{◌≡◌}
use Rattle.std.proofs.Common.{ap, ◌∙◌}
use Rattle.def_terms.specs.Runs.{Result}
use Rattle.def_words.specs.Layout.{Tables}
use Rattle.taskgraph_answer.specs.Answers.{graph_answer, Gives}
use Rattle.taskgraph_answer.specs.declared.GraphAnswer.{GraphAnswer}

pub in_c : {made said : Result Tables} {r : GraphAnswer} → made ≡ said → r ≡ graph_answer made.answer
    → Gives r made.state said
in_c told e = (
  e ∙ ap (λ (o : Result Tables). graph_answer o.answer) told,
  ap (λ (o : Result Tables). o.state) told,
)
