-- `end_day` runs the rounds, and prints their lines and the last.
use Rattle.day_end.proofs.Laws.{end_parts}
use Rattle.day_end.proofs.end_day.Goals as goal

pub returns-clause-printed : goal.returns-clause-printed
returns-clause-printed c =
    end_parts _ _ _ _ _ _ _ _ _
    c.run_rounds-handed.ensures.run c.print_hand_outs-listed.ensures
    c.count_unfinished.ensures c.left_line.ensures
