-- `add_whole` runs an add whole: the tests that come first, and then an add of an idle worker in one go.
use mathlib.Core.Path.{sym, ◌∙◌}
use Rattle.lent_graph.proofs.Admits.{refused, passed}
use Rattle.thm_fused_add.specs.Adds.{whole_add_lem}
use Rattle.whole_add.proofs.add_whole.Goals as goal

pub returns-in-Err-clause-answered : goal.returns-in-Err-clause-answered
returns-in-Err-clause-answered c =
    rw c.into.ensures (refused _ _ _ _ _ c.admit.ensures c.in-Err.is) ∙ sym (whole_add_lem _ _ _ _)

pub returns-in-Ok-clause-answered : goal.returns-in-Ok-clause-answered
returns-in-Ok-clause-answered c =
    rw c.add_if_idle.ensures (passed _ _ _ _ _ c.admit.ensures c.in-Ok.is) ∙ sym (whole_add_lem _ _ _ _)
