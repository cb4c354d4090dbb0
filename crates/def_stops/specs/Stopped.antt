-- Whether damage stopped a call run whole half done: it answers 9, and its worker, idle before it, is not idle after.
-- Follows docs/RULES.md, "Whole calls".
use Rattle.std.specs.Prelude.{Bool, ◌&&◌, not, ℕ, eqb}
use Rattle.def_numbers.specs.Numbers.{damaged}
use Rattle.def_terms.specs.Runs.{Result}
use Rattle.def_words.specs.Layout.{Tables, view, PHASE, IDLE}
use Rattle.def_sheet_rows.specs.SheetRows.{number_of}

-- by the number that the call answers, and its worker's phase before and after it
abbrev pub stopped_as : ℕ → ℕ → ℕ → Bool
stopped_as number before after = eqb number damaged && (eqb before IDLE && not (eqb after IDLE))

-- "9 in the middle of a call run whole": a call of worker w on the tables t that has this result
abbrev pub stopped_by : Tables → ℕ → Result Tables → Bool
stopped_by t w o = stopped_as (number_of o.answer) ((view t).worker PHASE w) ((view o.state).worker PHASE w)
