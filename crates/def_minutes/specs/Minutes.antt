-- The minutes of a job by its class: a table of one value for each class, and the fixed table. Follows docs/RULES.md,
-- "Tables and their measures": "Minutes by class".
use Rattle.std.specs.Prelude.{List, [], ◌∷◌, ℕ, get_or}

-- the minutes that a table has for a class. No class has 0 minutes, so the answer 0 says that the table has no such
-- class.
unfoldable pub minutes_in : List ℕ → ℕ → ℕ
minutes_in table class = get_or table class 0

-- the fixed minutes, of class 0 first
unfoldable pub fixed_minutes : List ℕ
fixed_minutes = 1 ∷ 2 ∷ 3 ∷ 5 ∷ 8 ∷ 10 ∷ 15 ∷ 20 ∷ 30 ∷ 45 ∷ 60 ∷ 90 ∷ 120 ∷ 180 ∷ 240 ∷ 480 ∷ []
