-- What a board over the graph's own row must answer from a fresh graph on, said of any board and by the number of the
-- job: "the number of jobs and the sum of minutes under each label", and "the three sums together equal the minutes of
-- all jobs that ever entered". (Wrong/Boards.antt has boards that do not.)
use Rattle.std.specs.Prelude.{◌≡◌, refl, Bool, true, false, ◌&&◌, List, [], ◌∷◌, ℕ, zero, suc, ◌+◌, eqb, leb, ltb, length}
use Rattle.std.proofs.Common.{arith}
use Rattle.def_numbers.specs.Numbers.{damaged, wrong_size, accepted, most_records}
use Rattle.def_basics.specs.Base.{pick}
use Rattle.def_basics.specs.Laws.{never}
use Rattle.def_minutes.specs.Minutes.{minutes_in}
use Rattle.def_minutes.specs.Rising.{is_rising}
use Rattle.def_terms.specs.Terms.{Label, unexecuted, executing, finished, label_number, Arguments}
use Rattle.def_terms.specs.declared.Sizes.{Sizes}
use Rattle.def_words.specs.Columns.{columns, header}
use Rattle.def_words.specs.Layout.{job_shape, stored_minutes, MADE, LABEL, CLASS}
use Rattle.def_totals.specs.Board.{refused, sum_over, under, one_job, its_minutes, all_well_formed, counted, totals_of}
use Rattle.def_totals.proofs.AllJobs.{together}
use Rattle.def_totals.proofs.Exactly.{over_jobs}
use Rattle.def_totals.specs.declared.JobRecord.{JobRecord}
use Rattle.def_totals.specs.declared.Totals.{Totals}
use Rattle.def_graph_board.specs.Board.{rows_from, graph_rows, jobs_fit, graph_totals, minutes_entered}

-- ---- sums over jobs by their number: how many of the first n have a label, and their minutes, by the columns of the
-- jobs table
abbrev pub jobs_of : (ℕ → ℕ → ℕ) → ℕ → Label → ℕ
jobs_of f n l = over_jobs (λ j. pick (eqb (f LABEL j) (label_number l)) 1 0) n

abbrev pub minutes_of : List ℕ → (ℕ → ℕ → ℕ) → ℕ → Label → ℕ
minutes_of table f n l = over_jobs (λ j. pick (eqb (f LABEL j) (label_number l)) (minutes_in table (f CLASS j)) 0) n

-- a number for each label
abbrev pub by_label : (Label → ℕ) → List ℕ
by_label amount = amount unexecuted ∷ amount executing ∷ amount finished ∷ []

-- ---- the claim of a board, by the words of the jobs table and by the accepted adds
pub record UnderLabels (table words : List ℕ) (t : Totals) : Type 0 where
  pub jobs : t.jobs ≡ by_label (jobs_of (columns job_shape words) (header words MADE))
  pub minutes : t.minutes ≡ by_label (minutes_of table (columns job_shape words) (header words MADE))

abbrev pub Board : Type 0
Board = Sizes → List ℕ → Totals

-- by the minutes that were loaded, a table
pub record Accounted (board : Board) (table : List ℕ) (s : Sizes) (words : List ℕ) (adds : List Arguments)
    : Type 0 where
  pub answered : (board s words).number ≡ accepted
  pub under_labels : UnderLabels table words (board s words)
  pub all_minutes_lem : together (board s words).minutes ≡ minutes_entered table adds

-- ---- the graph's board has them: a sum over the row is the sum over its jobs
abbrev record_of : (ℕ → ℕ → ℕ) → ℕ → JobRecord
record_of f j = record { label = f LABEL j; class = f CLASS j }

last_row : (f : ℕ → ℕ → ℕ) (amount : JobRecord → ℕ) (j n : ℕ)
    → sum_over amount (rows_from f j (suc n)) ≡ sum_over amount (rows_from f j n) + amount (record_of f (j + n))
unfolding sum_over rows_from
last_row f amount j zero = let e : j + 0 ≡ j = omega arith in rw e (omega arith)
last_row f amount j (suc n) =
    let e : j + suc n ≡ suc j + n = omega arith in rw e (omega (arith, last_row f amount (suc j) n))

row_sum : (f : ℕ → ℕ → ℕ) (amount : JobRecord → ℕ) (n : ℕ)
    → sum_over amount (rows_from f 0 n) ≡ over_jobs (λ j. amount (record_of f j)) n
unfolding over_jobs sum_over rows_from
row_sum f amount zero = refl
row_sum f amount (suc n) =
    let e : 0 + n ≡ n = omega arith in omega (arith, rw e at (last_row f amount 0 n), row_sum f amount n)

-- the board of the graph's own row, if it is served, by the minutes that stand in the table
pub graph_counts : (s : Sizes) (words : List ℕ) → (graph_totals s words).number ≡ accepted
    → UnderLabels (stored_minutes words) words (graph_totals s words)
unfolding graph_totals totals_of counted
graph_counts s words =
    by (jobs_fit s words) (leb (header words MADE) s.jobs && is_rising (stored_minutes words))
    (ltb most_records (length rows)) (all_well_formed rows)
  where
    f : ℕ → ℕ → ℕ
    f = columns job_shape words

    table : List ℕ
    table = stored_minutes words

    rows : List JobRecord
    rows = graph_rows words

    given : Bool → Bool → Bool → Bool → Totals
    given fit right many formed =
        let row = pick many (refused wrong_size) (pick formed (counted table rows) (refused damaged)) in
        pick fit (pick right row (refused damaged)) (refused wrong_size)

    by : (fit right many formed : Bool) → (given fit right many formed).number ≡ accepted
        → UnderLabels table words (given fit right many formed)
    by false right many formed e = never (cc)
    by true false many formed e = never (cc)
    by true true true formed e = never (cc)
    by true true false false e = never (cc)
    by true true false true e = record {
      jobs = rw (row_sum f (under 0 one_job), row_sum f (under 1 one_job), row_sum f (under 2 one_job));
      minutes =
          let amount : ℕ → JobRecord → ℕ = λ l. under l (its_minutes table) in
          rw (row_sum f (amount 0), row_sum f (amount 1), row_sum f (amount 2));
    }
