-- The parts of the first half of a day.
use mathlib.Core.Path.{◌≡◌}
use mathlib.Core.List.{List}
use Prim.Native.Nat.{ℕ}
use Rattle.def_terms.specs.declared.Sizes.{Sizes}
use Rattle.def_words.specs.Columns.{header}
use Rattle.def_words.specs.Layout.{Tables, MADE}
use Rattle.def_words.specs.Words.{lay_out}
use Rattle.def_sheets.specs.Job.{Job}
use Rattle.def_day.specs.Rounds.{add_all}
use Rattle.def_day_lines.specs.Text.{decimal, jobs_word, workers_word, ◌␣◌, line}
use Rattle.day_text.specs.Page.{Page, print_line}
use Rattle.day_entry.specs.Entered.{Printout, printout, wrote}
use Rattle.day_begin.specs.Begun.{begun}

pub begin_parts : (limit : ℕ) (p : Page) (s : Sizes) (t u : Tables) (js : List Job) (a : Printout) (n : ℕ) (q : Page)
    → u ≡ (lay_out s t).state
    → a ≡ wrote limit p (add_all s 0 js u)
    → n ≡ header a.state.jobs MADE
    → q ≡ print_line limit a.paper (line (jobs_word ␣ (decimal n ␣ (workers_word ␣ decimal s.workers))))
    → printout a.state q ≡ begun limit p s t js
unfolding begun wrote
begin_parts limit p s t u js a n q eu ea en eq = rw (eq, en, ea, eu)
