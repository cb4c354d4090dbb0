-- `graph_queue::shift_up` meets its contract. The loop's invariant: what is left to shift makes the same table as all
-- of it.
use mathlib.Core.Path.{◌≡◌}
use Prim.Native.Nat.{◌-◌}
use lib.ListN.{length}
use Rattle.def_words.specs.Index.{levels, shifted_up}
use Rattle.graph_queue.proofs.shift_up.Given as goal

abbrev pub invariant-loop : goal.invariant-loop
invariant-loop l =
    (shifted_up (levels - l.counter) l.queue l.moved l.at ≡ shifted_up levels l.initial.queue l.cell l.slot)
    × (length l.queue ≡ length l.initial.queue)
