-- A table of words, judged by its length: at most 4,096 records, which stand in it.
use Rattle.std.specs.Prelude.{ℕ, ◌+◌, ◌*◌, Bool, ◌&&◌, nat_le, nat_lt}
use Rattle.def_numbers.specs.Numbers.{most_records}

abbrev pub standing : (head width label class length count : ℕ) → Bool
standing head width label class length count =
    nat_le count most_records && (nat_lt label width && (nat_lt class width && nat_le (head + width * count) length))
