-- Choice by a test, a map changed at one place, membership and occurrences in a list.
use Rattle.std.specs.Prelude.{Bool, true, false, ◌||◌, List, [], ◌∷◌, ℕ, zero, suc, ◌+◌, eqb}

abbrev pub pick {ℓ} : {A : Type ℓ} → Bool → A → A → A
pick true a b = a
pick false a b = b

-- a map changed at one place
unfoldable pub update : {A : Type 0} → (ℕ → A) → ℕ → A → ℕ → A
update f i v j = pick (eqb j i) v (f j)

-- a number is in a list
unfoldable pub contains : ℕ → List ℕ → Bool
contains x [] = false
contains x (y ∷ l) = eqb x y || contains x l

-- a list holds a number twice
unfoldable pub repeats : List ℕ → Bool
repeats [] = false
repeats (x ∷ l) = contains x l || repeats l

-- how often a number is in a list
unfoldable pub occurrences : ℕ → List ℕ → ℕ
occurrences x [] = 0
occurrences x (y ∷ l) = pick (eqb x y) 1 0 + occurrences x l

-- the first n numbers of a list, and 0 where it is shorter
unfoldable pub prefix : ℕ → List ℕ → List ℕ
prefix zero l = []
prefix (suc n) [] = 0 ∷ prefix n []
prefix (suc n) (x ∷ l) = x ∷ prefix n l
