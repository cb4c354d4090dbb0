-- `graph_arguments::arguments_wrong` meets its contract: past the first test the count is at most 32.
use mathlib.Core.Path.{◌≡◌}
use mathlib.Core.Bool.{false, ◌||◌}
use Prim.Native.Nat.{ℕ, ◌≤◌}
use lib.Dec.{ltb}
use borrow.Author.Tests.{ltb-false}
use Rattle.def_numbers.specs.Numbers.{most_names, most_class, most_grower}
use Rattle.def_basics.specs.Laws.{or_right}
use Rattle.def_terms.specs.Terms.{arguments_wrong}
use Rattle.graph_arguments.proofs.arguments_wrong.Goals as goal

few : (class grower count : ℕ) → (ltb most_class class || ltb most_grower grower || ltb most_names count) ≡ false
    → count ≤ most_names
few class grower count e =
    ltb-false most_names count (or_right (ltb most_class class || ltb most_grower grower) (ltb most_names count) e)

pub returns-then-over : goal.returns-then-over
unfolding arguments_wrong
returns-then-over c = rw c.if-over.true

pub returns-else-over : goal.returns-else-over
unfolding arguments_wrong
returns-else-over c =
    rw (
      c.if-over.false,
      ← c.listed_from.ensures,
      ← c.any_repeats.ensures,
    )
