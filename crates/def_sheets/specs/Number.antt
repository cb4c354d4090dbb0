-- Numbers of several bytes, least byte first (docs/SHEETS.md), at every width.
use Rattle.std.specs.Prelude.{ℕ, zero, suc, ◌+◌, ◌*◌, ◌/◌, ◌%◌, List, [], ◌∷◌, get_or}

-- the number in w bytes at an offset of the input
unfoldable pub number_at : ℕ → List ℕ → ℕ → ℕ
number_at zero s at = 0
number_at (suc w) s at = get_or s at 0 + 256 * number_at w s (at + 1)

-- the w bytes of a number
unfoldable pub spelt : ℕ → ℕ → List ℕ
spelt zero n = []
spelt (suc w) n = n % 256 ∷ spelt w (n / 256)
