-- The first half of a day on lent tables, with its lines.
use Rattle.std.specs.Prelude.{List, ℕ}
use Rattle.def_terms.specs.declared.Sizes.{Sizes}
use Rattle.def_words.specs.Layout.{Tables}
use Rattle.def_words.specs.Words.{lay_out}
use Rattle.def_sheets.specs.Job.{Job}
use Rattle.def_day.specs.Rounds.{add_all}
use Rattle.def_day_lines.specs.Day.{refusal_lines, jobs_line}
use Rattle.day_text.specs.Page.{Page, print_line, print_lines}
use Rattle.day_entry.specs.Entered.{Printout, printout}

unfoldable pub begun : ℕ → Page → Sizes → Tables → List Job → Printout
begun limit p s t js =
    let a = add_all s 0 js (lay_out s t).state in
    let q = print_lines limit p (refusal_lines a.refusals) in
    printout a.state (print_line limit q (jobs_line a.state s.workers))
