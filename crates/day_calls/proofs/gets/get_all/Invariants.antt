-- `get_all` has every worker get. The loop's invariant: the gets that are left, after those made, make the whole.
use Prim.Native.Nat.{◌-◌, ◌≤◌}
use mathlib.Core.Path.{◌≡◌}
use lib.ListN.{length}
use Rattle.def_day.specs.Rounds.{get_all}
use Rattle.lent_graph.specs.Lent.{words, Same}
use Rattle.day_calls.proofs.gets.Laws.{onto}
use Rattle.day_calls.proofs.gets.get_all.Given as goal

abbrev pub invariant-loop-worker : goal.invariant-loop-worker
invariant-loop-worker l =
    let s = l.initial.graph.sizes in
    Same l.initial.graph l.graph
    × (length l.holders ≤ l.worker)
    × (onto l.holders (get_all s (s.workers - l.worker) l.worker (words l.graph))
    ≡ get_all s s.workers 0 (words l.initial.graph))
