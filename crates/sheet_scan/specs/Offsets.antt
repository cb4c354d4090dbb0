-- Where the last fields of an entry stand, and what an entry's numbers are by the bits of its map byte
-- (docs/SHEETS.md).
use Rattle.std.specs.Prelude.{ℕ, ◌+◌, ◌*◌, ◌/◌, ◌%◌, List}
use Rattle.def_numbers.specs.Numbers.{name_bytes, count_bytes, class_bytes, grower_bytes}
use Rattle.def_sheets.specs.Number.{number_at}
use Rattle.def_sheets.specs.Decode.{scanned}
use Rattle.def_sheets.specs.declared.Scanned.{Scanned}

-- where the class and the grower of the entry at an offset stand, by its map byte and its count
abbrev pub class_offset : ℕ → ℕ → ℕ → ℕ
class_offset at map count = at + (1 + name_bytes) + count_bytes * (map / 2 % 2) + name_bytes * count

abbrev pub grower_offset : ℕ → ℕ → ℕ → ℕ
grower_offset at map count = class_offset at map count + class_bytes * (map / 4 % 2)

-- the numbers of the entry at an offset, by its map byte and its count: a field whose bit is clear is 0
abbrev pub fields_by_bits : (s : List ℕ) (at map count : ℕ) → Scanned
fields_by_bits s at map count =
    scanned (number_at name_bytes s (at + 1)) count
    ((map / 4 % 2) * number_at class_bytes s (class_offset at map count))
    ((map / 8 % 2) * number_at grower_bytes s (grower_offset at map count))
    (grower_offset at map count + grower_bytes * (map / 8 % 2))
