-- `finish_whole` runs a finish whole: the tests that come first, and then a finish of an idle worker in one go.
use mathlib.Core.Path.{sym, ◌∙◌}
use Rattle.lent_graph.proofs.Admits.{refused, passed}
use Rattle.thm_fused_finish.specs.Finish.{whole_finish_lem}
use Rattle.whole_finish.proofs.finish_whole.Goals as goal

pub returns-in-Err-clause-answered : goal.returns-in-Err-clause-answered
returns-in-Err-clause-answered c =
    rw c.into.ensures (refused _ _ _ _ _ c.admit.ensures c.in-Err.is) ∙ sym (whole_finish_lem _ _ _ _)

pub returns-in-Ok-clause-answered : goal.returns-in-Ok-clause-answered
returns-in-Ok-clause-answered c =
    rw c.finish_if_idle.ensures (passed _ _ _ _ _ c.admit.ensures c.in-Ok.is) ∙ sym (whole_finish_lem _ _ _ _)
