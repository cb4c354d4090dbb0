-- Boards of a lent row that have other totals than the graph's, and a board of the graph that looks past the need, each
-- refuted by one table.
use Rattle.std.specs.Prelude.{◌≡◌, refl, List, [], ◌∷◌, ◌++◌, ℕ, zero, suc, ◌+◌, ◌*◌, ◌<◌, eqb, get_or}
use Rattle.std.proofs.Common.{ap, arith}
use Rattle.def_numbers.specs.Numbers.{damaged}
use Rattle.def_basics.specs.Base.{pick}
use Rattle.def_minutes.specs.Minutes.{minutes_in, fixed_minutes}
use Rattle.def_minutes.specs.Rising.{is_rising, rises_above}
use Rattle.def_minutes.specs.Judged.{judged_minutes}
use Rattle.def_terms.specs.Terms.{within_limits}
use Rattle.def_words.specs.Columns.{columns, header, cells}
use Rattle.def_words.specs.Layout.{sizes_kept}
use Rattle.def_totals.specs.Board.{sum_over, all_well_formed, counted, totals_of, totals_by, refused}
use Rattle.def_totals.proofs.Exactly.{no_record}
use Rattle.def_totals.specs.declared.JobRecord.{JobRecord}
use Rattle.def_totals.specs.declared.Totals.{Totals}
use Rattle.def_graph_board.specs.Board.{rows_from, jobs_fit, graph_minutes, graph_totals}
use Rattle.def_graph_board.specs.Accounted.{Board}
use Rattle.taskgraph_heard.specs.Lent.{OwnRow, LendsAlike}
use Rattle.taskgraph_heard.specs.BoardWithin.{WithinNeed}
use Rattle.def_graph_board.specs.Wrong.Boards.{one_job, district, sizes}

-- the row of the one job, unexecuted and of class 1
abbrev row : List JobRecord
row = record { label = 0; class = 1 } ∷ []

row_is_own : OwnRow (one_job district) row
row_is_own = record { made = refl; label = one_label; class = one_class }
  where
    one_label : (j : ℕ) → j < 1 → (get_or row j no_record).label ≡ get_or (one_job district) (21 + 10 * j + 1) 0
    one_label zero h = refl
    one_label (suc j) h = absurd (omega arith)

    one_class : (j : ℕ) → j < 1 → (get_or row j no_record).class ≡ get_or (one_job district) (21 + 10 * j + 3) 0
    one_class zero h = refl
    one_class (suc j) h = absurd (omega arith)

-- the fixed minutes, after a load: this is what `tg_totals_of_records` does
pub fixed_minutes_are_not_the_graphs : LendsAlike (λ m rows. totals_of fixed_minutes rows) sizes (one_job district) → ⊥
unfolding columns header minutes_in fixed_minutes jobs_fit sizes_kept within_limits rows_from totals_of counted
    all_well_formed sum_over graph_totals is_rising rises_above cells
fixed_minutes_are_not_the_graphs h =
    let z : ◌≡◌ {A = ℕ} 2 4 = ap (λ (t : Totals). get_or t.minutes 0 0) (h row row_is_own refl) in omega arith

-- the last record is left out
abbrev but_last : List JobRecord → List JobRecord
but_last [] = []
but_last (r ∷ []) = []
but_last (r ∷ q ∷ rows) = r ∷ []

pub a_record_left_out : LendsAlike (λ m rows. totals_by m (but_last rows)) sizes (one_job district) → ⊥
unfolding columns header minutes_in jobs_fit sizes_kept within_limits rows_from totals_of totals_by counted graph_minutes
    judged_minutes all_well_formed sum_over graph_totals is_rising rises_above cells
a_record_left_out h =
    let z : ◌≡◌ {A = ℕ} 0 1 = ap (λ (t : Totals). get_or t.jobs 0 0) (h row row_is_own refl) in omega arith

-- ---- a board that takes the first word past the need for a mark of its own
abbrev peeks : Board
peeks s jobs = pick (eqb (get_or jobs (21 + 10 * s.jobs) 0) 0) (graph_totals s jobs) (refused damaged)

pub past_the_need : WithinNeed peeks → ⊥
unfolding columns header minutes_in fixed_minutes jobs_fit sizes_kept within_limits rows_from totals_of counted
    all_well_formed sum_over graph_totals is_rising rises_above cells
past_the_need h =
    let z : ◌≡◌ {A = ℕ} 0 9 =
    ap (λ (t : Totals). t.number)
    (h sizes (one_job district ++ (0 ∷ [])) (one_job district ++ (1 ∷ [])) refl) in
    omega arith
