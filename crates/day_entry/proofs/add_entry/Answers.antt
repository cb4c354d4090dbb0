-- `add_entry` adds an entry whole, and prints its refusal.
use Rattle.day_entry.specs.Entered.{entered, wrote}
use Rattle.day_entry.proofs.add_entry.Goals as goal

pub returns-clause-printed : goal.returns-clause-printed
unfolding entered wrote
returns-clause-printed c =
    rw (← c.add_whole-answer.ensures.answered, c.print_refusal.ensures)
