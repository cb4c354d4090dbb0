-- The hand-outs of a row, printed one after the other.
use mathlib.Core.Path.{◌≡◌}
use mathlib.Core.List.{List, []}
use Prim.Native.Nat.{ℕ, suc, ◌+◌, ◌*◌}
use lib.ListN.{get_or}
use Rattle.def_day.specs.Rounds.{holder}
use Rattle.def_day.specs.Rows.{from_row}
use Rattle.def_day_lines.specs.Day.{hand_out_line, hand_out_lines}
use Rattle.day_text.specs.Page.{Page, print_line, print_lines, no_lines}

-- n hand-outs from number i on, printed
abbrev pub rest : ℕ → Page → ℕ → ℕ → List ℕ → Page
rest limit p n i row = print_lines limit p (hand_out_lines i (from_row n i row))

pub print_first : (limit : ℕ) (p q : Page) (n i : ℕ) (row : List ℕ)
    → q ≡ print_line limit p (hand_out_line i (holder (get_or row (2 * i + 1) 0) (get_or row (2 * i) 0)))
    → rest limit q n (suc i) row ≡ rest limit p (suc n) i row
unfolding from_row hand_out_lines print_lines
print_first limit p q n i row e = rw e

pub print_none : (limit : ℕ) (p : Page) (i : ℕ) (row : List ℕ) → rest limit p 0 i row ≡ p
unfolding from_row hand_out_lines
print_none limit p i row = no_lines limit p

pub none_held : (limit : ℕ) (p : Page) → print_lines limit p (hand_out_lines 0 []) ≡ p
unfolding hand_out_lines
none_held limit p = no_lines limit p
