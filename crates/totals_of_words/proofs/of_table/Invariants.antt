-- `totals_of_words::of_table` meets its contract: every word that is read stands in the table, and the loop's running
-- totals are those of the records that it has passed.
use Rattle.std.specs.Prelude.{Ok}
use Rattle.std.proofs.Common.{◌≡◌, true, length}
use Rattle.def_minutes.specs.Rising.{is_rising}
use Rattle.def_totals.specs.Told.{told_totals}
use Rattle.totals_of_words.proofs.Tables.{Stands, Passed}
use Rattle.totals_of_words.proofs.of_table.Given as goal

abbrev pub invariant-loop-i : goal.invariant-loop-i
invariant-loop-i l =
    Stands l.shape (length l.words) l.count
    × (is_rising l.by ≡ true → Passed l.by l.shape l.words l.count (told_totals (Ok l.board)) l.i)
