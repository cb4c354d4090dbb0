-- `graph_records::fill` meets its contract. The loop's invariant: what is left to store, from the present word on, makes
-- the same table as all of it.
use Prim.Native.Nat.{◌-◌}
use mathlib.Core.Path.{◌≡◌}
use lib.ListN.{length, replicate}
use lib.Seq.{sets}
use Rattle.graph_records.proofs.fill.Given as goal

abbrev pub invariant-loop-i : goal.invariant-loop-i
invariant-loop-i l =
    (sets l.s l.i (replicate (l.end - l.i) l.value) ≡ sets l.initial.s l.from (replicate (l.end - l.from) l.value))
    × (length l.s ≡ length l.initial.s)
