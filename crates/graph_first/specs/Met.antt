-- What a way through a heap meets in the slots, as the code looks, and how many pairs of ranks it compares there.
use Rattle.std.specs.Prelude.{Bool, ℕ, ltb, leb, Option, Some, None}
use Rattle.def_basics.specs.Base.{pick}
use Rattle.def_heap.specs.Sift.{left, right}
use Rattle.graph_index.specs.Looked.{looked}
use Rattle.graph_index.specs.declared.Ranked.{Ranked}
use Rattle.graph_first.specs.declared.Met.{Met}

abbrev pub meets : Option Ranked → ℕ → Met
meets x n = record { looked = x; compared = n }

-- of two slots the one whose number has the lower rank
abbrev pub earlier : Option Ranked → Option Ranked → Met
earlier (Some x) (Some y) = meets (Some (pick (ltb y.rank x.rank) y x)) 1
earlier (Some x) None = meets None 0
earlier None y = meets None 0

module _ (rank : ℕ → ℕ) (sound : ℕ → Bool) (slot : ℕ → ℕ) where
  -- in the slots below i, of which the left one is filled; m slots are filled
  abbrev pub met : ℕ → ℕ → Met
  met m i =
      pick (leb m (right i)) (meets (looked rank sound slot (left i)) 0)
      (earlier (looked rank sound slot (left i)) (looked rank sound slot (right i)))
