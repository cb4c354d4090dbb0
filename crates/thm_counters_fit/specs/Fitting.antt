-- The plans whose stores are words: every counter that a plan raises stays at most the largest word. Follows
-- docs/RULES.md, "Tables and their measures"; specs/Fits shows that every plan of a step and of a get is one.
use Rattle.std.specs.Prelude.{ℕ, ◌+◌, ◌<◌, ◌≤◌}
use Rattle.def_words.specs.Layout.{none, PLACE, TALLY, LIST_COUNT, View}
use Rattle.def_words.specs.declared.Plan.{Plan}
use Rattle.def_words.specs.declared.Plan.TheVariants.{Refuse, Quit, Pass, Enter, Tally, LinkFirst, LinkAfter, Settle}
use Rattle.def_words.specs.declared.Plan.TheVariants.{SettleQueue, Mark, Notify, NotifyQueue}
use Rattle.def_words.specs.declared.GetPlan.{GetPlan}
use Rattle.def_words.specs.declared.GetPlan.TheVariants.{RefuseGet, Wait, Take}

-- what a step raises: the place in the list, the tally, the jobs made, the arcs reserved, the jobs put in the queue
unfoldable pub Fitting : Plan → View → ℕ → Type 0
Fitting (Refuse n) v w = Unit {0}
Fitting (Quit n i) v w = Unit {0}
Fitting Pass v w = v.worker PLACE w < none
Fitting (Enter j k h x) v w = (j < none) × (x + v.worker LIST_COUNT w ≤ none)
Fitting (Tally o) v w = (v.worker PLACE w < none) × (v.worker TALLY w < none)
Fitting (LinkFirst p x j) v w = v.worker PLACE w < none
Fitting (LinkAfter p l x j) v w = v.worker PLACE w < none
Fitting (Settle j c) v w = Unit {0}
Fitting (SettleQueue j c e) v w = e.cell < none
Fitting (Mark p x) v w = Unit {0}
Fitting (Notify j c x) v w = Unit {0}
Fitting (NotifyQueue j c x e) v w = e.cell < none

-- what a get raises: the jobs taken out of the queue
unfoldable pub FittingGet : GetPlan → View → Type 0
FittingGet (RefuseGet n) v = Unit {0}
FittingGet Wait v = Unit {0}
FittingGet (Take h e) v = v.taken < none
