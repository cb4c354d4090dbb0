-- Lines of text: numbers in decimal, single spaces between words, a newline at the end.
use Rattle.std.specs.Prelude.{List, [], ◌∷◌, ◌++◌, ℕ, zero, suc, ◌+◌, ◌/◌, ◌%◌, ltb}
use Rattle.def_basics.specs.Base.{pick}

abbrev pub space : ℕ
space = 32

abbrev pub newline : ℕ
newline = 10

-- a number below 10 to the power k, in decimal, before the text that follows
unfoldable pub digits : ℕ → ℕ → List ℕ → List ℕ
digits zero n rest = rest
digits (suc k) n rest = pick (ltb n 10) ((48 + n) ∷ rest) (digits k (n / 10) ((48 + n % 10) ∷ rest))

-- a word or an offset has at most 20 digits
abbrev pub decimal : ℕ → List ℕ
decimal n = digits 20 n []

-- the words of the day list
abbrev pub jobs_word : List ℕ
jobs_word = 106 ∷ 111 ∷ 98 ∷ 115 ∷ []

abbrev pub workers_word : List ℕ
workers_word = 119 ∷ 111 ∷ 114 ∷ 107 ∷ 101 ∷ 114 ∷ 115 ∷ []

abbrev pub left_word : List ℕ
left_word = 108 ∷ 101 ∷ 102 ∷ 116 ∷ []

abbrev pub refused_word : List ℕ
refused_word = 114 ∷ 101 ∷ 102 ∷ 117 ∷ 115 ∷ 101 ∷ 100 ∷ []

abbrev pub broken_word : List ℕ
broken_word = 98 ∷ 114 ∷ 111 ∷ 107 ∷ 101 ∷ 110 ∷ []

-- one space between two words
infixr 20 ◌␣◌
abbrev pub ◌␣◌ : List ℕ → List ℕ → List ℕ
a ␣ b = a ++ (space ∷ b)

abbrev pub line : List ℕ → List ℕ
line l = l ++ (newline ∷ [])
