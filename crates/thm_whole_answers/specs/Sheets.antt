-- What a sheet in one call leaves: turned away nothing, served as many answers as entries; and after an entry that left
-- the worker half done every later answer is 3 and the tables stay. For ALL tables. Follows docs/RULES.md, "Whole
-- calls".
use Rattle.std.specs.Prelude.{◌≡◌, length, drop, replicate}
use mathlib.Core.List.{List}
use Prim.Native.Nat.{ℕ, ◌-◌}
use Rattle.def_numbers.specs.Numbers.{half_done}
use Rattle.def_terms.specs.Terms.{Arguments}
use Rattle.def_terms.specs.declared.Answer.TheVariants.{Refused}
use Rattle.def_words.specs.Layout.{Tables}
use Rattle.def_whole_calls.specs.Sheet.{SheetResult}

-- after the first i adds the worker is half done: every later answer is 3, and the tables stay
abbrev pub Stuck : ℕ → List Arguments → Tables → SheetResult → Type 0
Stuck i l u o = (drop i o.answers ≡ replicate (length l - i) (Refused half_done 0)) × (o.state ≡ u)
