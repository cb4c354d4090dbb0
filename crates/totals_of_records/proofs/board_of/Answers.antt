-- `totals_of_records::board_of` meets its contract: record i is what the loop's next turn adds, and a record that is
-- refused refuses the row.
use Rattle.std.proofs.Common.{arith}
use Rattle.def_minutes.specs.Rising.{rising}
use Rattle.totals_step.proofs.Running.{nothing_yet, start, next, last, leaves_with}
use Rattle.totals_of_records.proofs.board_of.Goals as goal

pub loop-job-init : goal.loop-job-init
loop-job-init c = λ rises. start (omega arith) (nothing_yet c.default-board.result c.default-board.ensures.0 c.default-board.ensures.1)

pub returns-in_err-with_record : goal.returns-in_err-with_record
returns-in_err-with_record c =
    λ rises. leaves_with _ c.args.records.now c.loop-job.board c.loop-job.job-index _ _ c.in_err-with_record.field-0.0
    (omega arith) (omega arith) c.in_err-with_record.ensures.counted c.from_residual.ensures.1

pub loop-job-preserved : goal.loop-job-preserved
loop-job-preserved c =
    λ rises. next (rising _ rises) _ (c.loop-job.invariant rises) (omega arith) c.in_ok-with_record.ensures.counted

pub returns : goal.returns
returns c = λ rises. last (c.loop-job.invariant rises) (omega arith)
