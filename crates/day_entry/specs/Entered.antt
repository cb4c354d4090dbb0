-- An entry of a sheet, added whole, and what is printed of it.
use Rattle.std.specs.Prelude.{ℕ}
use Rattle.def_terms.specs.Terms.{Arguments}
use Rattle.def_terms.specs.declared.Sizes.{Sizes}
use Rattle.def_words.specs.Layout.{Tables}
use Rattle.def_whole_calls.specs.Whole.{whole_add}
use Rattle.def_day.specs.Rounds.{Added, added, refusal}
use Rattle.def_day_lines.specs.Day.{refusal_lines}
use Rattle.day_text.specs.Page.{Page, print_lines}

-- added whole, as entry i
unfoldable pub entered : Sizes → ℕ → Tables → Arguments → Added
entered s i t a = added (whole_add s t 0 a).state (refusal i (whole_add s t 0 a).answer)

-- ---- what adding leaves: the tables, and the page that was printed on
pub record Printout : Type 0 where
  pub state : Tables
  pub paper : Page

abbrev pub printout : Tables → Page → Printout
printout t p = record { state = t; paper = p }

unfoldable pub wrote : ℕ → Page → Added → Printout
wrote limit p a = printout a.state (print_lines limit p (refusal_lines a.refusals))
