-- `day_list` answers what the definition says, for every sheet, number of workers and output.
use Rattle.std.proofs.Common.{arith}
use borrow.Author.Tests.{le-leb, lt-leb}
use Rattle.def_numbers.specs.Numbers.{most_workers}
use Rattle.def_day_lines.specs.Day.{day_list}
use Rattle.day_list.proofs.Measure.{few_workers, too_short_lem, written}
use Rattle.day_list.proofs.day_list.Goals as goal
use Rattle.day_list.proofs.day_list.Goals.{then-workers-lt1-via-then-workers-lt1, then-workers-lt1-via-else-workers-lt1+then-workers-gt-MOST_WORKERS}

pub returns-then-out-bytes : goal.returns-then-out-bytes
returns-then-out-bytes c =
    let a = c.args in
    too_short_lem a.workers a.sheet.now a.out.now _ _ (few_workers a.workers (omega arith) (omega arith))
    c.print_list-bytes.ensures c.if-out-bytes.true

pub returns : goal.returns
returns c =
    let a = c.args in
    written a.workers a.sheet.now a.out.now _ _
    (few_workers a.workers (omega arith) (omega arith))
    c.print_list-bytes.ensures _ _
    c.if-out-bytes.false c.print_list.ensures

pub returns-then-workers-lt1 : goal.returns-then-workers-lt1
unfolding day_list
returns-then-workers-lt1 c =
    let n = c.args.workers in
    elim c.then-workers-lt1.branch [
      | then-workers-lt1-via-then-workers-lt1 w ↦ rw (lt-leb 1 n w.if-workers-lt1.true)
      | then-workers-lt1-via-else-workers-lt1+then-workers-gt-MOST_WORKERS w ↦
          rw (le-leb 1 n w.if-workers-lt1.false, lt-leb n most_workers w.if-workers-gt-MOST_WORKERS.true)
    ]
