-- A row of records by minutes that were judged: where the minutes are served, its totals are those by their table.
-- docs/RULES.md, "The board and the day list".
use Rattle.std.proofs.Common.{◌≡◌, List, ◌<◌, ◌≤◌, true, le-ltb, lt-ltb, eq-eqb, length}
use borrow.Author.Tests.{ne_eqb}
use Rattle.def_numbers.specs.Numbers.{wrong_size, most_records}
use Rattle.def_minutes.specs.Rising.{is_rising}
use Rattle.def_minutes.specs.declared.GraphMinutes.{GraphMinutes}
use Rattle.def_totals.specs.declared.JobRecord.{JobRecord}
use Rattle.def_totals.specs.declared.Totals.{Totals}
use Rattle.def_totals.specs.Board.{refused, totals_of}
use Rattle.totals_of_records.specs.By.{Judged, totals_with}

module _ (by : GraphMinutes) (rows : List JobRecord) {t : Totals} where
  pub too_many : most_records < length rows → t ≡ refused wrong_size → t ≡ totals_with by rows
  unfolding totals_with
  too_many h e = rw (lt-ltb most_records (length rows) h) e

  -- minutes that are refused refuse the board
  pub not_served : length rows ≤ most_records → (by.number ≡ 0 → ⊥) → t ≡ refused by.number → t ≡ totals_with by rows
  unfolding totals_with
  not_served few is e = rw (le-ltb most_records (length rows) few, ne_eqb by.number 0 is) e

  -- minutes that are served are those of their table
  pub served : length rows ≤ most_records → by.number ≡ 0
      → (is_rising by.minutes ≡ true → t ≡ totals_of by.minutes rows)
      → Judged by
      → t ≡ totals_with by rows
  unfolding totals_with
  served few is said judged =
      rw (le-ltb most_records (length rows) few, eq-eqb by.number 0 is) (said (judged is))
