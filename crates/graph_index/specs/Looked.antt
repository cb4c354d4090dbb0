-- What a look at a slot of a heap tells, as the code looks.
use Rattle.std.specs.Prelude.{Bool, ℕ, Option, Some, None}
use Rattle.def_basics.specs.Base.{pick}
use Rattle.graph_index.specs.declared.Ranked.{Ranked}

-- a slot, and the rank of the number in it
abbrev pub ranked : ℕ → ℕ → Ranked
ranked i r = record { slot = i; rank = r }

module _ (rank : ℕ → ℕ) (sound : ℕ → Bool) (slot : ℕ → ℕ) where
  abbrev pub looked : ℕ → Option Ranked
  looked i = pick (sound i) (Some (ranked i (rank (slot i)))) None
