-- The rules tell what docs/RULES.md's rows say ("Checked by hand", cases 1 to 6), moment by moment, and hold a job back
-- while one of its two prerequisites is not finished.
use Rattle.std.specs.Prelude.{◌≡◌, refl, List, ℕ, length}
use Rattle.def_basics.specs.Base.{update, contains, repeats, occurrences, prefix}
use Rattle.def_minutes.specs.Minutes.{minutes_in, fixed_minutes}
use Rattle.def_terms.specs.Terms.{arguments_wrong, same_sizes}
use Rattle.def_terms.specs.Order.{earliest, first_by, without}
use Rattle.def_terms.specs.Runs.{queue_entries}
use Rattle.def_terms.specs.Starred.{Row, Tells, moments, before, orders, case4, starred, one_of_two}
use Rattle.def_rules.specs.Rules.{empty, seek, look_up, enter, link_to, link, mark_dependents, mark, notify}
use Rattle.def_rules.specs.Rules.{step_call, when_idle, add_posted, finish_posted, take_next, get_job, admitted}
use Rattle.def_rules.specs.Rules.{perform}
use Rattle.def_rules.specs.Observed.{seen}

-- what the rows compute with
unfoldable pub telling : ℕ
unfolding update contains repeats occurrences prefix earliest first_by without arguments_wrong same_sizes queue_entries
    moments
    before orders starred one_of_two empty seek look_up enter link_to link mark_dependents mark notify step_call when_idle
    add_posted finish_posted take_next get_job admitted perform minutes_in fixed_minutes
telling = 0

abbrev pub RulesTell : List Row → Type 0
RulesTell = Tells perform seen (λ s. empty)

pub starred_rows : RulesTell starred
unfolding telling
starred_rows = refl

-- case 4 has two items of each worker, and so six orders
pub six_orders : length case4 ≡ 6
unfolding telling
six_orders = refl

pub one_of_two_rows : RulesTell one_of_two
unfolding telling
one_of_two_rows = refl
