-- The words' machine of calls: single items, adds and finishes run whole, and sheets, over the words of the tables
-- (docs/RULES.md, "Whole calls"). Definitions alone.
use Rattle.std.specs.Prelude.{List, ℕ, length}
use Rattle.def_terms.specs.Terms.{Arguments}
use Rattle.def_terms.specs.Runs.{Result}
use Rattle.def_terms.specs.declared.Sizes.{Sizes}
use Rattle.def_words.specs.Layout.{Tables}
use Rattle.def_words.specs.Words.{perform}
use Rattle.def_whole_calls.specs.Whole as whole
use Rattle.def_whole_calls.specs.Sheet.{SheetResult, judged_sheet, sheet_words}
use Rattle.def_host_calls.specs.HostCalls.{HostCall, single, whole_add, whole_finish, sheet, one, each, Replied, replied}

-- the number that turns a sheet away, or 0
abbrev pub turned_words : Tables → Sizes → ℕ → List Arguments → ℕ
turned_words t s w l = judged_sheet s t w (length l)

abbrev pub replied_one : Result Tables → Replied Tables
replied_one o = replied (one o.answer) o.state

abbrev pub replied_each : SheetResult → Replied Tables
replied_each o = replied (each o.number o.answers) o.state

unfoldable pub answer_words : Tables → HostCall → Replied Tables
answer_words t (single i) = replied_one (perform t i)
answer_words t (whole_add s w a) = replied_one (whole.whole_add s t w a)
answer_words t (whole_finish s w f) = replied_one (whole.whole_finish s t w f)
answer_words t (sheet s w l) = replied_each (sheet_words s t w l)
