-- The board of a lent row of records by minutes that were judged: a refusal of the minutes is one of the board, after
-- number 1. docs/RULES.md, "The board and the day list".
use Rattle.std.specs.Prelude.{◌≡◌, refl, Bool, true, false, List, ℕ, eqb, ltb, length}
use Rattle.std.proofs.Common.{◌∙◌, arith}
use Rattle.def_numbers.specs.Numbers.{wrong_size, wrong_minutes, most_records}
use Rattle.def_basics.specs.Base.{pick}
use Rattle.def_minutes.specs.Minutes.{fixed_minutes}
use Rattle.def_minutes.specs.Rising.{is_rising}
use Rattle.def_minutes.specs.Judged.{all_minutes, judged_as, judged_minutes, fixed_passes}
use Rattle.def_minutes.specs.declared.GraphMinutes.{GraphMinutes}
use Rattle.def_totals.specs.declared.JobRecord.{JobRecord}
use Rattle.def_totals.specs.declared.Totals.{Totals}
use Rattle.def_totals.specs.Board.{refused, totals_of, totals_by}

-- minutes that are served rise
abbrev pub Judged : GraphMinutes → Type 0
Judged by = by.number ≡ 0 → is_rising by.minutes ≡ true

-- the totals of a row, or the refusal of the minutes
abbrev pub unless_refused : GraphMinutes → List JobRecord → Totals
unless_refused by rows = pick (eqb by.number 0) (totals_of by.minutes rows) (refused by.number)

unfoldable pub totals_with : GraphMinutes → List JobRecord → Totals
totals_with by rows = pick (ltb most_records (length rows)) (refused wrong_size) (unless_refused by rows)

-- the fixed minutes
pub with_fixed : (by : GraphMinutes) (rows : List JobRecord) {t : Totals} → by ≡ all_minutes fixed_minutes
    → (Judged by → t ≡ totals_with by rows) → t ≡ totals_of fixed_minutes rows
unfolding totals_with totals_of
with_fixed by rows {t} is said = e ∙ go (ltb most_records (length rows)) _
  where
    e : t ≡ totals_with (all_minutes fixed_minutes) rows
    e = rw is at (said (λ z. rw is fixed_passes))

    go : (many : Bool) (rest : Totals)
        → pick many (refused wrong_size) (pick many (refused wrong_size) rest) ≡ pick many (refused wrong_size) rest
    go true rest = refl
    go false rest = refl

-- the minutes of a table
pub with_table : (by : GraphMinutes) (table : List ℕ) (rows : List JobRecord) {t : Totals}
    → by ≡ judged_minutes wrong_minutes table → (Judged by → t ≡ totals_with by rows) → t ≡ totals_by table rows
unfolding totals_with totals_by judged_minutes
with_table by table rows {t} is said = go (is_rising table) refl is
  where
    go : (b : Bool) → is_rising table ≡ b → by ≡ judged_as b wrong_minutes table
        → t ≡ pick (ltb most_records (length rows)) (refused wrong_size)
        (pick b (totals_of table rows) (refused wrong_minutes))
    go true passes e = rw e at (said (λ z. rw e passes))
    go false fails e = rw e at (said (λ z. absurd (let w : ◌≡◌ {A = ℕ} 0 17 = cc in omega arith)))
