-- A job of a sheet, and how it is spelt (docs/SHEETS.md).
use Rattle.std.specs.Prelude.{ℕ, zero, suc, ◌+◌, ◌*◌, ◌≤◌, ◌<◌, ◌^◌, List, [], ◌∷◌, ◌++◌, length}
use Rattle.def_numbers.specs.Numbers.{most_names, most_class, most_grower, name_bytes, count_bytes, class_bytes, grower_bytes}
use Rattle.def_sheets.specs.Number.{spelt}

-- what an entry says: the job's name, the names of its prerequisites, its class and its grower
pub record Job : Type 0 where
  pub name : ℕ
  pub list : List ℕ
  pub class : ℕ
  pub grower : ℕ

-- every number of a list is below a bound
pub data Below (bound : ℕ) : List ℕ → Type 0 where
  none : Below bound []
  more : {x : ℕ} {xs : List ℕ} → x < bound → Below bound xs → Below bound (x ∷ xs)

-- a job that a sheet can hold
pub record Valid (j : Job) : Type 0 where
  pub name : j.name < 2 ^ 32
  pub names : Below (2 ^ 32) j.list
  pub count : length j.list ≤ most_names
  pub class : j.class ≤ most_class
  pub grower : j.grower ≤ most_grower

-- "Only fields whose bit stands follow": an empty list, class 0 and grower 0 are left out, and their bit is 0
abbrev pub bit_of : ℕ → ℕ
bit_of zero = 0
bit_of (suc n) = 1

abbrev pub spelt_unless_zero : ℕ → ℕ → List ℕ
spelt_unless_zero w zero = []
spelt_unless_zero w (suc n) = spelt w (suc n)

-- names of w bytes each, one after the other
unfoldable pub spelt_names : ℕ → List ℕ → List ℕ
spelt_names w [] = []
spelt_names w (x ∷ xs) = spelt w x ++ spelt_names w xs

-- a list: its count, then its names
abbrev pub spelt_list : ℕ → List ℕ → List ℕ
spelt_list w [] = []
spelt_list w (x ∷ xs) = spelt count_bytes (length (x ∷ xs)) ++ spelt_names w (x ∷ xs)

-- the map byte: bit 0 name, bit 1 prerequisites, bit 2 class, bit 3 grower
unfoldable pub map_byte : Job → ℕ
map_byte j = 1 + 2 * bit_of (length j.list) + 4 * bit_of j.class + 8 * bit_of j.grower

-- an entry: the map byte, then the fields in their order
unfoldable pub encode : Job → List ℕ
encode j =
    map_byte j
    ∷ (spelt name_bytes j.name
    ++ (spelt_list name_bytes j.list
    ++ (spelt_unless_zero class_bytes j.class ++ spelt_unless_zero grower_bytes j.grower)))

-- a sheet: "Entries follow each other with nothing between"
unfoldable pub encode_sheet : List Job → List ℕ
encode_sheet [] = []
encode_sheet (j ∷ js) = encode j ++ encode_sheet js
