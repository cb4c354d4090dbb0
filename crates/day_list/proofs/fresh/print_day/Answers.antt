-- `print_day` lends tables that just suffice, and a row for the hand-outs.
use Rattle.day_list.specs.Pages.{day_page}
use Rattle.day_list.proofs.fresh.print_day.Goals as goal

pub returns : goal.returns
unfolding day_page
returns c =
    rw (← c.begin_day-at.ensures.printed) (rw c.begin_day-at.ensures.same.sizes at c.end_day.ensures.printed)
