-- `graph_find::walk_from` meets its contract. The loop's invariant: what is left of the walk answers as the whole walk
-- does.
use mathlib.Core.Path.{◌≡◌}
use Prim.Native.Nat.{◌-◌}
use Rattle.def_words.specs.Columns.{columns}
use Rattle.def_words.specs.Layout.{job_shape}
use Rattle.def_words.specs.Words.{walk}
use Rattle.graph_find.proofs.walk_from.Given as goal

abbrev pub invariant-loop : goal.invariant-loop
invariant-loop l =
    walk (l.made - l.counter) (columns job_shape l.jobs) l.made l.name l.at
    ≡ walk l.made (columns job_shape l.jobs) l.made l.name l.newest
