-- `judge` answers the verdict on an entry. The loop's invariant: the listed names from place `i` on decide it.
use Rattle.std.proofs.Common.{◌≡◌, ◌≤◌, drop}
use Rattle.def_numbers.specs.Numbers.{most_jobs, most_arcs, most_names}
use Rattle.def_basics.specs.Base.{prefix}
use Rattle.def_room.specs.Room.{first_unknown, judged_entering, judged}
use Rattle.sheet_room.specs.Verdicts.{arguments}
use Rattle.sheet_room.proofs.judge.Given as goal

abbrev pub invariant-loop-i : goal.invariant-loop-i
invariant-loop-i l =
    (l.numbers.count ≤ most_names)
    × (judged_entering most_jobs most_arcs l.names l.arcs (arguments l.numbers l.list)
    (first_unknown l.names (drop l.i (prefix l.numbers.count l.list)) l.i)
    ≡ judged most_jobs most_arcs l.names l.arcs (arguments l.numbers l.list))
