-- `graph_arguments::any_repeats` meets its contract. The loop's invariant: whether one of the names left comes
-- again is whether one of all does.
-- The measure is the number of names left.
use mathlib.Core.Path.{sym, ◌∙◌}
use native.Mathlib.Omega.{arith}
use Rattle.graph_arguments.proofs.Listed.{again, once, not_again}
use Rattle.graph_arguments.proofs.any_repeats.Goals as goal

pub returns-then-again : goal.returns-then-again
returns-then-again c =
    again _ _ _ c.loop-i-test.true (sym c.listed_from-again.ensures ∙ c.if-again.true)
    ∙ c.loop-i.invariant.1

pub loop-i-preserved : goal.loop-i-preserved
loop-i-preserved c = (
  omega arith,
  once _ _ _ c.loop-i-test.true (sym c.listed_from-again.ensures ∙ c.if-again.false)
      ∙ c.loop-i.invariant.1,
)

pub returns : goal.returns
returns c = not_again _ _ _ c.loop-i-test.false c.loop-i.invariant.0 ∙ c.loop-i.invariant.1
