-- The second half of a day on lent tables, with its lines: what is left, and the page.
use Rattle.std.specs.Prelude.{List, ℕ, length}
use Rattle.def_terms.specs.declared.Sizes.{Sizes}
use Rattle.def_words.specs.Layout.{Tables}
use Rattle.def_day.specs.Rounds.{run_day, hand_outs}
use Rattle.def_day.specs.Rows.{stored, in_row}
use Rattle.def_day_lines.specs.Day.{hand_out_lines, left_line}
use Rattle.day_text.specs.Page.{Page, print_line, print_lines}

-- the hand-outs are printed from the row in which they were stored
unfoldable pub ended : ℕ → Page → Sizes → Tables → List ℕ → Page
ended limit p s t row =
    let r = run_day s t in
    let hs = hand_outs r.rounds in
    print_line limit (print_lines limit p (hand_out_lines 0 (in_row (length hs) (stored row 0 hs)))) (left_line r.state)
