-- `graph_totals::totals_of_graph` meets its contract: the code's tests are the definition's, and the graph's row stands
-- in its table of jobs.
use mathlib.Core.Path.{◌≡◌, refl}
use mathlib.Core.Bool.{true}
use mathlib.Core.List.{List}
use Prim.Native.Nat.{ℕ, zero, suc, ◌+◌, ◌*◌, ◌≤◌}
use native.Mathlib.Nat.{mul-le-mul_left}
use native.Mathlib.Omega.{arith}
use borrow.Author.Tests.{le-leb, lt-leb}
use lib.ListN.{length}
use Rattle.def_terms.specs.declared.Sizes.{Sizes}
use Rattle.std.specs.Prelude.{Ok, Err}
use Rattle.std.proofs.lemmas.Result.{err_from_is_err_and}
use Rattle.def_numbers.proofs.Refused as number
use Rattle.def_minutes.specs.Served.{told_minutes}
use Rattle.def_totals.specs.Board.{records_from, record_at, stands_in_table, totals_of_table}
use Rattle.def_words.specs.Columns.{columns}
use Rattle.def_words.specs.Layout.{job_shape, LABEL, CLASS}
use Rattle.def_graph_board.specs.Board.{rows_from, jobs_fit, graph_totals}
use Rattle.graph_totals.proofs.Stored.{fit_room, served, not_served}
use Rattle.graph_totals.proofs.totals_of_graph.Goals as goal

-- a job's record stands in the columns of its label and its class
graph-rows : (jobs : List ℕ) (j n : ℕ)
    → records_from (record_at job_shape.head job_shape.width LABEL CLASS jobs) j n
    ≡ rows_from (columns job_shape jobs) j n
unfolding records_from rows_from columns
graph-rows jobs j zero = refl
graph-rows jobs j (suc n) = rw (graph-rows jobs (suc j) n)

-- a table with room for all jobs has room for those that were made
made-stand : (s : Sizes) (jobs : List ℕ) (made : ℕ) → jobs_fit s jobs ≡ true → made ≤ s.jobs
    → stands_in_table job_shape.head job_shape.width LABEL CLASS jobs made ≡ true
made-stand s jobs made fit few =
    le-leb (job_shape.head + job_shape.width * made) (length jobs)
    (omega (arith, fit_room s jobs fit, mul-le-mul_left job_shape.width few))

pub returns-in_err-by : goal.returns-in_err-by
returns-in_err-by c =
    let e = c.in_err-by.field-0.0 in
    let p = err_from_is_err_and c.from_residual.result c.from_residual.ensures.1 in
    not_served _ _ (told_minutes (Err e)) c.in_err-by.ensures (number.refused e) (rw (p.1, p.2))

pub returns-then-sizes-made : goal.returns-then-sizes-made
unfolding graph_totals
returns-then-sizes-made c =
    let a = c.args in
    let by = told_minutes (Ok c.in_ok-by.by) in
    let ok = served a.sizes a.jobs.now by c.in_ok-by.ensures refl in
    rw (ok.fit, ← c.header-made.ensures, lt-leb _ a.sizes.jobs c.if-sizes-made.true)

pub returns : goal.returns
unfolding graph_totals totals_of_table
returns c =
    let a = c.args in
    let made = c.header-made.result in
    let by = told_minutes (Ok c.in_ok-by.by) in
    let ok = served a.sizes a.jobs.now by c.in_ok-by.ensures refl in
    rw (
      ok.fit,
      ← c.header-made.ensures,
      le-leb made a.sizes.jobs (omega arith),
      ok.passes,
      ← (graph-rows _ 0 _),
    )
    (rw (made-stand a.sizes _ made ok.fit (omega arith), ok.stored) at
    (c.of_table.ensures (rw ok.stored ok.passes)))
