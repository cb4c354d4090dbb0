-- `graph_judge::judge_add` meets its contract: the tests that come first, and then what the worker's words ask for.
use mathlib.Core.Path.{refl, ◌∙◌}
use Rattle.std.specs.Prelude.{Ok, Err}
use Rattle.std.proofs.lemmas.Result.{err_from_is_err_and}
use Rattle.lent_graph.proofs.Admits.{refused, passed}
use Rattle.graph_judge.proofs.judge_add.Goals as goal

pub returns-in_err-admit : goal.returns-in_err-admit
returns-in_err-admit c =
    let p = err_from_is_err_and c.from_residual.result c.from_residual.ensures.1 in
    rw (p.1, p.2) (refused _ _ _ _ _ {told = Err _} c.in_err-admit.ensures refl)

pub returns : goal.returns
returns c =
    rw (← c.counters_ok-counted.ensures _ _ _) c.judge_admitted_add.ensures
    ∙ passed _ _ _ _ _ {told = Ok tt} c.in_ok-admit.ensures refl
