-- `graph_arguments::listed_from` meets its contract. The loop's invariant: whether the name is among those left
-- is whether it is among all.
-- The measure is the number of names left.
use mathlib.Core.Path.{◌≡◌}
use Prim.Native.Nat.{◌≤◌, ◌-◌}
use lib.ListN.{drop}
use Rattle.def_basics.specs.Base.{contains, prefix}
use Rattle.graph_arguments.proofs.listed_from.Given as goal

abbrev pub invariant-loop-i : goal.invariant-loop-i
invariant-loop-i l =
    (l.i ≤ l.count) × (contains l.name (drop l.i (prefix l.count l.names)) ≡ contains l.name (drop l.start (prefix l.count l.names)))

abbrev pub decreases-loop-i : goal.decreases-loop-i
decreases-loop-i l = l.count - l.i
