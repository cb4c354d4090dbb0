-- `graph_arguments::any_repeats` meets its contract. The loop's invariant: whether one of the names left comes
-- again is whether one of all does.
-- The measure is the number of names left.
use mathlib.Core.Path.{◌≡◌}
use Prim.Native.Nat.{◌≤◌, ◌-◌}
use lib.ListN.{drop}
use Rattle.def_basics.specs.Base.{repeats, prefix}
use Rattle.graph_arguments.proofs.any_repeats.Given as goal

abbrev pub invariant-loop-i : goal.invariant-loop-i
invariant-loop-i l = (l.i ≤ l.count) × (repeats (drop l.i (prefix l.count l.names)) ≡ repeats (prefix l.count l.names))

abbrev pub decreases-loop-i : goal.decreases-loop-i
decreases-loop-i l = l.count - l.i
