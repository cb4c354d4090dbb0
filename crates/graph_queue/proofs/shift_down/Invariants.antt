-- `graph_queue::shift_down` meets its contract. The loop's invariant: what is left to shift makes the same table as all
-- of it.
use mathlib.Core.Path.{◌≡◌}
use Prim.Native.Nat.{◌-◌}
use lib.ListN.{length}
use Rattle.def_words.specs.Index.{levels, shifted_down}
use Rattle.graph_queue.proofs.shift_down.Given as goal

abbrev pub invariant-loop : goal.invariant-loop
invariant-loop l =
    (shifted_down (levels - l.counter) l.queue l.cell l.at l.to
    ≡ shifted_down levels l.initial.queue l.cell l.from l.to)
    × (length l.queue ≡ length l.initial.queue)
