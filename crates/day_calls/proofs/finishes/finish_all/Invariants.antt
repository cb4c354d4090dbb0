-- `finish_all` has each holder finish. The loop's invariant: the holders passed have finished.
use mathlib.Core.Path.{◌≡◌}
use lib.ListN.{take}
use Rattle.def_day.specs.Rounds.{finish_all}
use Rattle.lent_graph.specs.Lent.{words, Same}
use Rattle.day_calls.proofs.finishes.finish_all.Given as goal

abbrev pub invariant-loop-holder : goal.invariant-loop-holder
invariant-loop-holder l =
    Same l.initial.graph l.graph
    × (words l.graph ≡ finish_all l.initial.graph.sizes (take l.holder-index l.holder-items) (words l.initial.graph))
