-- `minutes::is_rising` meets its contract: what is left of the test, from the present value on, says the same as all of
-- it.
use Rattle.std.proofs.Common.{arith}
use Rattle.std.proofs.lemmas.Grind.{common_steps}
use Rattle.def_minutes.specs.Rising.{rises_above, is_rising}
use Rattle.def_minutes.proofs.Rises.{left_at}
use Rattle.def_minutes.proofs.is_rising.Goals as goal

pub returns-then-table-ne-CLASSES : goal.returns-then-table-ne-CLASSES
unfolding is_rising
returns-then-table-ne-CLASSES c = grind (arith, common_steps)

pub loop-value-init : goal.loop-value-init
unfolding is_rising
loop-value-init c = grind (arith, common_steps)

pub returns-then-value-before : goal.returns-then-value-before
returns-then-value-before c = grind (arith, common_steps, left_at, c.loop-value.invariant)

pub loop-value-preserved : goal.loop-value-preserved
loop-value-preserved c = grind (arith, common_steps, left_at, c.loop-value.invariant)

pub returns : goal.returns
unfolding rises_above
returns c = grind (arith, common_steps, c.loop-value.invariant)
