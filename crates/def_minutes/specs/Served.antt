-- The minutes of all classes where they are served, or why they are not; and how C is told either. Follows
-- docs/RULES.md, "Tables and their measures".
use Rattle.std.specs.Prelude.{◌≡◌, refl, Bool, true, false, List, ℕ, Option, Some, None, Result, Ok, Err}
use Rattle.std.specs.Option.{ok_or}
use Rattle.def_numbers.specs.Refusals.{refusal_number}
use Rattle.def_minutes.specs.Rising.{is_rising}
use Rattle.def_minutes.specs.Judged.{all_minutes, no_minutes, judged_as, judged_minutes}
use Rattle.def_minutes.specs.declared.GraphMinutes.{GraphMinutes}
use Rattle.def_numbers.specs.declared.refusal.Refusal.{Refusal}

-- a table that passes a test
abbrev pub served_if : Bool → List ℕ → Option (List ℕ)
served_if true table = Some table
served_if false table = None

-- what C is told
abbrev pub told_minutes : Result (List ℕ) Refusal → GraphMinutes
told_minutes (Ok table) = all_minutes table
told_minutes (Err refusal) = no_minutes (refusal_number refusal)

-- a table is served if it rises, and else refused
pub judged_told : (refusal : Refusal) (table : List ℕ)
    → told_minutes (ok_or (served_if (is_rising table) table) refusal) ≡ judged_minutes (refusal_number refusal) table
unfolding judged_minutes
judged_told refusal table = go (is_rising table)
  where
    go : (b : Bool) → told_minutes (ok_or (served_if b table) refusal) ≡ judged_as b (refusal_number refusal) table
    go true = refl
    go false = refl
