-- `sheet_judge::judge_sheet` meets its contract: the tests that come first, and then what the worker's phase and the
-- entries ask for.
use mathlib.Core.Path.{refl, ◌∙◌}
use Rattle.std.specs.Prelude.{Ok, Err}
use Rattle.std.proofs.lemmas.Result.{err_from_is_err_and}
use Rattle.lent_graph.proofs.Admits.{refused, passed}
use Rattle.sheet_judge.proofs.judge_sheet.Goals as goal

pub returns-in_err-admit : goal.returns-in_err-admit
returns-in_err-admit c =
    let p = err_from_is_err_and c.from_residual.result c.from_residual.ensures.1 in
    rw (p.1, p.2) (refused _ _ _ _ _ {told = Err _} c.in_err-admit.ensures refl)

pub returns : goal.returns
returns c = c.judge_admitted_sheet.ensures ∙ passed _ _ _ _ _ {told = Ok tt} c.in_ok-admit.ensures refl
