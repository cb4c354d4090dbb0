-- A host that lends the board its own row: the label and class of each job made, copied off the jobs table, by the
-- minutes that the graph tells, have the graph's own totals, also after a load. Follows docs/RULES.md, "The board and
-- the day list" and "A district's minutes". (proofs/Wrong/Lent.antt has a board that keeps the fixed
-- minutes.)
use Rattle.std.proofs.Math.Path.{◌≡◌}
use Rattle.std.specs.Prelude.{refl, List, ℕ, zero, suc, ◌+◌, ◌*◌, ◌<◌, leb, ltb, length, get_or}
use Rattle.std.proofs.Common.{sym, ◌∙◌, arith, lit<, ext_get_or}
use Rattle.std.proofs.Math.Bool.{Bool, true, false}
use Rattle.def_numbers.specs.Numbers.{damaged, wrong_size, most_records}
use Rattle.def_basics.specs.Base.{pick}
use Rattle.def_minutes.specs.Rising.{is_rising}
use Rattle.def_minutes.specs.Judged.{judged_minutes}
use Rattle.def_terms.specs.declared.Sizes.{Sizes}
use Rattle.def_words.specs.Columns.{columns, header}
use Rattle.def_words.specs.Layout.{job_shape, stored_minutes, MADE, LABEL, CLASS}
use Rattle.def_words.specs.Stored.{job_by_words}
use Rattle.def_totals.specs.Board.{all_well_formed, counted, refused, totals_of, totals_by}
use Rattle.def_totals.proofs.Exactly.{no_record}
use Rattle.def_totals.specs.declared.JobRecord.{JobRecord}
use Rattle.def_totals.specs.declared.Totals.{Totals}
use Rattle.def_graph_board.specs.Board.{rows_from, graph_rows, jobs_fit, graph_minutes, graph_totals}
use Rattle.def_graph_board.specs.Exactly.{rows_length}

-- the graph's own row, as a host reads it off the jobs table: as many records as jobs were made (word 4), each with the
-- label and the class of a job, words 1 and 3 of its record
pub record OwnRow (jobs : List ℕ) (rows : List JobRecord) : Type 0 where
  pub made : length rows ≡ get_or jobs 4 0
  pub label : (j : ℕ) → j < get_or jobs 4 0 → (get_or rows j no_record).label ≡ get_or jobs (21 + 10 * j + 1) 0
  pub class : (j : ℕ) → j < get_or jobs 4 0 → (get_or rows j no_record).class ≡ get_or jobs (21 + 10 * j + 3) 0

-- of any board by minutes and a lent row: where the graph's board is served, the row that a host copies has the same
-- totals, by the minutes that the graph tells
abbrev pub LendsAlike : (List ℕ → List JobRecord → Totals) → Sizes → List ℕ → Type 0
LendsAlike lend s jobs =
    (rows : List JobRecord) → OwnRow jobs rows → (graph_totals s jobs).number ≡ 0
    → lend (graph_minutes s jobs).minutes rows ≡ graph_totals s jobs

-- ---- the row is the graph's
row_at : (f : ℕ → ℕ → ℕ) (j n k : ℕ) → k < n
    → get_or (rows_from f j n) k no_record ≡ record { label = f LABEL (j + k); class = f CLASS (j + k) }
unfolding rows_from
row_at f j zero k h = absurd (omega arith)
row_at f j (suc n) zero h = let z : j + 0 ≡ j = omega arith in rw z
row_at f j (suc n) (suc k) h =
    let e : j + suc k ≡ suc j + k = omega arith in rw e (row_at f (suc j) n k (omega arith))

own_row : (jobs : List ℕ) (rows : List JobRecord) → OwnRow jobs rows → rows ≡ graph_rows jobs
unfolding header
own_row jobs rows o = ext_get_or no_record rows (graph_rows jobs) same each
  where
    f : ℕ → ℕ → ℕ
    f = columns job_shape jobs

    same : length rows ≡ length (graph_rows jobs)
    same = o.made ∙ sym (rows_length f 0 (get_or jobs 4 0))

    each : (j : ℕ) → j < length rows → get_or rows j no_record ≡ get_or (graph_rows jobs) j no_record
    each j h =
        let k : j < get_or jobs 4 0 = omega (arith, o.made) in
        let z : 0 + j ≡ j = omega arith in
        let l = o.label j k ∙ sym (job_by_words jobs j 1 (lit< tt)).0 in
        let c = o.class j k ∙ sym (job_by_words jobs j 3 (lit< tt)).0 in
        rw (row_at f 0 (get_or jobs 4 0) j k, z) λ i. record { label = l i; class = c i }

-- ---- and so are its totals
module _ (s : Sizes) (jobs : List ℕ) where
  rows : List JobRecord
  rows = graph_rows jobs

  table : List ℕ
  table = stored_minutes jobs

  by_row : totals_of table rows ≡ pick (ltb most_records (length rows)) (refused wrong_size) (totals_of table rows)
  unfolding totals_of
  by_row = go (ltb most_records (length rows))
    where
      given : Bool → Totals
      given many = pick many (refused wrong_size) (pick (all_well_formed rows) (counted table rows) (refused damaged))

      go : (many : Bool) → given many ≡ pick many (refused wrong_size) (given many)
      go true = refl
      go false = refl

  by_tests : (fit few rises : Bool) → jobs_fit s jobs ≡ fit → leb (header jobs MADE) s.jobs ≡ few
      → is_rising (stored_minutes jobs) ≡ rises
      → (graph_totals s jobs).number ≡ 0
      → totals_by (graph_minutes s jobs).minutes (graph_rows jobs) ≡ graph_totals s jobs
  unfolding graph_totals graph_minutes judged_minutes totals_by rows table
  by_tests true true true x y z e = rw (x, z, y, z) (sym by_row)
  by_tests true true false x y z e = let n : ◌≡◌ {A = ℕ} 9 0 = rw (x, y, z) at e in absurd (omega arith)
  by_tests true false rises x y z e = let n : ◌≡◌ {A = ℕ} 9 0 = rw (x, y) at e in absurd (omega arith)
  by_tests false few rises x y z e = let n : ◌≡◌ {A = ℕ} 1 0 = rw x at e in absurd (omega arith)

pub lends_alike : (s : Sizes) (jobs : List ℕ) → LendsAlike totals_by s jobs
lends_alike s jobs rows o e =
    rw (own_row jobs rows o)
    (by_tests s jobs (jobs_fit s jobs) (leb (header jobs MADE) s.jobs) (is_rising (stored_minutes jobs)) refl refl refl
    e)
