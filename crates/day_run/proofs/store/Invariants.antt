-- `store` stores the hand-outs of a round. The loop's invariant: those passed are stored.
use mathlib.Core.Path.{◌≡◌}
use lib.ListN.{take}
use Rattle.def_day.specs.Rows.{stored}
use Rattle.day_run.proofs.store.Given as goal

abbrev pub invariant-loop-i : goal.invariant-loop-i
invariant-loop-i l = l.row ≡ stored l.initial.row l.at (take l.i l.holders)
