-- The minutes of all classes, as they are handed out: a table that passes the rising rule, or a refusal. Follows
-- docs/RULES.md, "Tables and their measures".
use Rattle.std.specs.Prelude.{◌≡◌, refl, List, Bool, true, false, ℕ, replicate}
use Rattle.def_numbers.specs.Numbers.{classes}
use Rattle.def_minutes.specs.Minutes.{fixed_minutes}
use Rattle.def_minutes.specs.Rising.{rises_above, is_rising}
use Rattle.def_minutes.specs.declared.GraphMinutes.{GraphMinutes}

-- minutes that are served
abbrev pub all_minutes : List ℕ → GraphMinutes
all_minutes table = record { number = 0; minutes = table }

-- a refusal hands out its number alone
abbrev pub no_minutes : ℕ → GraphMinutes
no_minutes number = record { number = number; minutes = replicate classes 0 }

abbrev pub judged_as : Bool → ℕ → List ℕ → GraphMinutes
judged_as true refusal table = all_minutes table
judged_as false refusal table = no_minutes refusal

unfoldable pub judged_minutes : ℕ → List ℕ → GraphMinutes
judged_minutes refusal table = judged_as (is_rising table) refusal table

-- the fixed minutes pass the rising rule
pub fixed_passes : is_rising fixed_minutes ≡ true
unfolding is_rising rises_above fixed_minutes
fixed_passes = refl
