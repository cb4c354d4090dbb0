-- `graph_posted_add::put_names` meets its contract: what is left to store, from the present name on, makes the same
-- record as all of it; past the last listed name that is 0.
use Prim.Native.Nat.{◌+◌}
use mathlib.Core.Path.{◌≡◌}
use lib.ListN.{length, drop}
use lib.Seq.{sets}
use Rattle.def_numbers.specs.Numbers.{most_names}
use Rattle.def_basics.specs.Base.{prefix}
use Rattle.graph_posted_add.proofs.put_names.Given as goal

abbrev pub invariant-loop-i : goal.invariant-loop-i
invariant-loop-i l =
    (sets l.workers (l.from + l.i) (drop l.i (prefix most_names (prefix l.entry.count l.entry.names)))
    ≡ sets l.initial.workers l.from (prefix most_names (prefix l.entry.count l.entry.names)))
    × (length l.workers ≡ length l.initial.workers)
