-- The board over the graph's own row: the label and class of each job that was made (docs/RULES.md, "The board and the
-- day list").
use Rattle.std.specs.Prelude.{Bool, ◌&&◌, List, [], ◌∷◌, ℕ, zero, suc, ◌+◌, leb, length}
use Rattle.def_numbers.specs.Numbers.{damaged, wrong_size}
use Rattle.def_basics.specs.Base.{pick}
use Rattle.def_minutes.specs.Minutes.{minutes_in}
use Rattle.def_minutes.specs.Rising.{is_rising}
use Rattle.def_minutes.specs.Judged.{no_minutes, judged_minutes}
use Rattle.def_minutes.specs.declared.GraphMinutes.{GraphMinutes}
use Rattle.def_terms.specs.Terms.{Arguments, within_limits}
use Rattle.def_terms.specs.declared.Sizes.{Sizes}
use Rattle.def_words.specs.Columns.{columns, header}
use Rattle.def_words.specs.Layout.{job_shape, need, sizes_kept, stored_minutes, MADE, LABEL, CLASS}
use Rattle.def_totals.specs.Board.{totals_of, refused}
use Rattle.def_totals.specs.declared.JobRecord.{JobRecord}
use Rattle.def_totals.specs.declared.Totals.{Totals}

-- n jobs from job j on, as records of the board
unfoldable pub rows_from : (ℕ → ℕ → ℕ) → ℕ → ℕ → List JobRecord
rows_from f j zero = []
rows_from f j (suc n) = record { label = f LABEL j; class = f CLASS j } ∷ rows_from f (suc j) n

abbrev pub graph_rows : List ℕ → List JobRecord
graph_rows jobs = rows_from (columns job_shape jobs) 0 (header jobs MADE)

-- number 1 for the sizes and the table, as in every call of the graph
unfoldable pub jobs_fit : Sizes → List ℕ → Bool
jobs_fit s jobs = within_limits s && leb (need job_shape s.jobs) (length jobs) && sizes_kept s jobs

-- the stored minutes: number 9 where they do not rise or leave their limits
unfoldable pub graph_minutes : Sizes → List ℕ → GraphMinutes
graph_minutes s jobs = pick (jobs_fit s jobs) (judged_minutes damaged (stored_minutes jobs)) (no_minutes wrong_size)

-- number 9 for a counter over R, stored minutes that do not rise or leave their limits, or a wrong label or class; the
-- minutes are the stored ones
unfoldable pub graph_totals : Sizes → List ℕ → Totals
graph_totals s jobs =
    pick (jobs_fit s jobs)
    (pick (leb (header jobs MADE) s.jobs && is_rising (stored_minutes jobs))
    (totals_of (stored_minutes jobs) (graph_rows jobs))
    (refused damaged))
    (refused wrong_size)

-- the minutes of the jobs that ever entered, by their adds
unfoldable pub minutes_entered : List ℕ → List Arguments → ℕ
minutes_entered table [] = 0
minutes_entered table (a ∷ l) = minutes_in table a.class + minutes_entered table l
