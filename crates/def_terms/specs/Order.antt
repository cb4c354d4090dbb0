-- The order in which waiting jobs are handed out: the first of a list by an order, and the list without it. An order
-- says of two numbers whether the one goes before the other; of those that it leaves equal the first in the list goes
-- first.
use Rattle.std.specs.Prelude.{◌≡◌, Bool, true, false, List, [], ◌∷◌, ◌++◌, ℕ, ◌+◌, ◌<◌, ltb, eqb}
use Rattle.std.proofs.Math.Option.{Option, none, some}
use Rattle.def_basics.specs.Base.{pick, occurrences}

abbrev pub Order : Type 0
Order = ℕ → ℕ → Bool

-- the order by a weight: the heavier goes before the lighter
abbrev pub heavier_first : (ℕ → ℕ) → Order
heavier_first weight j k = ltb (weight k) (weight j)

-- the first of j and a list that follows it
unfoldable pub earliest : Order → ℕ → List ℕ → ℕ
earliest order j [] = j
earliest order j (k ∷ l) = earliest order (pick (order k j) k j) l

unfoldable pub first_by : Order → List ℕ → Option ℕ
first_by order [] = none
first_by order (j ∷ l) = some (earliest order j l)

-- the list without the first j in it
unfoldable pub without : ℕ → List ℕ → List ℕ
without j [] = []
without j (k ∷ l) = pick (eqb k j) l (k ∷ without j l)

-- how many of a list go before j
unfoldable pub before : Order → ℕ → List ℕ → ℕ
before order j [] = 0
before order j (k ∷ l) = pick (order k j) 1 0 + before order j l

-- how many are handed out before j, which is in the list: of those in front of it all that it does not go before, of
-- those behind it the ones that go before it
unfoldable pub ahead : Order → ℕ → List ℕ → ℕ
ahead order j [] = 0
ahead order j (k ∷ l) = pick (eqb k j) (before order j l) (pick (order j k) 0 1 + ahead order j l)

-- j is first in a list by an order: it goes before all in front of it, and none behind goes before it
pub record First (order : Order) (l : List ℕ) (j : ℕ) : Type 0 where
  pub front : List ℕ
  pub back : List ℕ
  pub parts : l ≡ front ++ (j ∷ back)
  pub in_front_lem : (k : ℕ) → 0 < occurrences k front → order j k ≡ true
  pub behind : (k : ℕ) → 0 < occurrences k back → order k j ≡ false
