-- `graph_records::put_words` meets its contract: what is left to store, from the present word on, makes the same table
-- as all of it.
use Prim.Native.Nat.{◌+◌}
use mathlib.Core.Path.{◌≡◌}
use lib.ListN.{length, drop}
use lib.Seq.{sets}
use Rattle.graph_records.proofs.put_words.Given as goal

abbrev pub invariant-loop-i : goal.invariant-loop-i
invariant-loop-i l =
    (sets l.s (l.from + l.i) (drop l.i l.words) ≡ sets l.initial.s l.from l.words) × (length l.s ≡ length l.initial.s)
