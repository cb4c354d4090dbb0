-- `graph_arguments::listed_from` meets its contract. The loop's invariant: whether the name is among those left
-- is whether it is among all.
-- The measure is the number of names left.
use mathlib.Core.Path.{◌∙◌}
use native.Mathlib.Omega.{arith}
use Rattle.graph_arguments.proofs.Listed.{found, passed, not_found}
use Rattle.graph_arguments.proofs.listed_from.Goals as goal

pub returns-then-names-i : goal.returns-then-names-i
returns-then-names-i c =
    found _ _ _ _ c.loop-i-test.true c.if-names-i.true ∙ c.loop-i.invariant.1

pub loop-i-preserved : goal.loop-i-preserved
loop-i-preserved c = (
  omega arith,
  passed _ _ _ _ c.loop-i-test.true c.if-names-i.false ∙ c.loop-i.invariant.1,
)

pub returns : goal.returns
returns c =
    not_found _ _ _ _ c.loop-i-test.false c.loop-i.invariant.0 ∙ c.loop-i.invariant.1
