-- `minutes::is_rising` meets its contract: what is left of the test, from the present value on, says the same as all of
-- it.
use Rattle.std.proofs.Common.{◌≡◌, drop}
use Rattle.def_minutes.specs.Rising.{rises_above, is_rising}
use Rattle.def_minutes.proofs.is_rising.Given as goal

abbrev pub invariant-loop-value : goal.invariant-loop-value
invariant-loop-value l = rises_above l.before (drop l.value-index l.table) ≡ is_rising l.table
