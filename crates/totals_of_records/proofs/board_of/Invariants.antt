-- `totals_of_records::board_of` meets its contract: the loop's running totals are those of the records that it has
-- passed.
use Rattle.std.specs.Prelude.{Ok}
use Rattle.std.proofs.Common.{◌≡◌, true}
use Rattle.def_minutes.specs.Rising.{is_rising}
use Rattle.def_totals.specs.Told.{told_totals}
use Rattle.totals_step.proofs.Running.{Running}
use Rattle.totals_of_records.proofs.board_of.Given as goal

abbrev pub invariant-loop-job : goal.invariant-loop-job
invariant-loop-job l =
    is_rising l.by ≡ true → Running l.by l.records (told_totals (Ok l.board)) l.job-index
