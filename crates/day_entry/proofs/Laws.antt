-- The line of a refused entry.
use mathlib.Core.Path.{◌≡◌, ◌∙◌}
use Rattle.std.specs.Prelude.{Some, None}
use Prim.Native.Nat.{ℕ}
use Rattle.def_terms.specs.declared.Answer.{Answer}
use Rattle.def_day.specs.Rounds.{refusal}
use Rattle.def_day_lines.specs.Text.{decimal, refused_word, ◌␣◌, line}
use Rattle.def_day_lines.specs.Day.{refusal_lines}
use Rattle.day_text.specs.Page.{Page, print_line, print_lines, no_lines, one_line}
use Rattle.day_told.specs.Told.{number_refused, refusal_told, no_refusal_told}

module _ (limit : ℕ) (p : Page) (i : ℕ) (a : Answer) where
  pub refusal_printed : (q : Page) (n : ℕ) → number_refused a ≡ Some n
      → q ≡ print_line limit p (line (refused_word ␣ (decimal i ␣ decimal n)))
      → q ≡ print_lines limit p (refusal_lines (refusal i a))
  unfolding refusal_lines
  refusal_printed q n e h = h ∙ rw (refusal_told i a n e, one_line)

  pub nothing_printed_lem : number_refused a ≡ None → p ≡ print_lines limit p (refusal_lines (refusal i a))
  unfolding refusal_lines
  nothing_printed_lem e = rw (no_refusal_told i a e, no_lines)
