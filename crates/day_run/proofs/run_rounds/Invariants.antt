-- `run_rounds` runs rounds until one hands out nothing. The loop's invariant: the rounds that are left, after those
-- made, make the whole.
use Prim.Native.Nat.{◌+◌, ◌-◌, ◌*◌, ◌≤◌}
use mathlib.Core.Path.{◌≡◌}
use Rattle.def_numbers.specs.Numbers.{most_workers}
use Rattle.def_day.specs.Rounds.{rounds, run_day}
use Rattle.lent_graph.specs.Lent.{words, Same}
use Rattle.day_run.specs.Kept.{run_kept}
use Rattle.day_run.proofs.run_rounds.Given as goal

abbrev pub invariant-loop : goal.invariant-loop
invariant-loop l =
    let s = l.initial.graph.sizes in
    Same l.initial.graph l.graph
    × (l.handed ≤ most_workers * l.counter)
    × (run_kept l.handed l.row (rounds (s.jobs + 1 - l.counter) s (words l.graph))
    ≡ run_kept 0 l.initial.row (run_day s (words l.initial.graph)))
