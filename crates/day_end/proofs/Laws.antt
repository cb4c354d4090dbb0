-- The parts of the second half of a day.
use mathlib.Core.Path.{◌≡◌, ◌∙◌}
use mathlib.Core.List.{List}
use Prim.Native.Nat.{ℕ}
use native.Mathlib.Nat.{zero-add}
use Rattle.def_terms.specs.declared.Sizes.{Sizes}
use Rattle.def_words.specs.Columns.{columns, header}
use Rattle.def_words.specs.Layout.{Tables, job_shape, LABEL, MADE}
use Rattle.def_day.specs.Rounds.{run_day, unfinished}
use Rattle.def_day.specs.Rows.{in_row}
use Rattle.def_day_lines.specs.Text.{decimal, left_word, ◌␣◌, line}
use Rattle.def_day_lines.specs.Day.{hand_out_lines}
use Rattle.day_text.specs.Page.{Page, print_line, print_lines}
use Rattle.day_run.specs.Kept.{Kept, run_kept}
use Rattle.day_end.specs.Ended.{ended}

pub end_parts : (limit : ℕ) (p : Page) (s : Sizes) (t : Tables) (row : List ℕ) (k : Kept) (x : Page) (n : ℕ) (q : Page)
    → k ≡ run_kept 0 row (run_day s t)
    → x ≡ print_lines limit p (hand_out_lines 0 (in_row k.handed k.row))
    → n ≡ unfinished (columns job_shape k.state.jobs LABEL) (header k.state.jobs MADE)
    → q ≡ print_line limit x (line (left_word ␣ decimal n))
    → q ≡ ended limit p s t row
unfolding ended run_kept
end_parts limit p s t row k x n q ek ex en eq = eq ∙ rw (en, ex, ek, zero-add)
