-- `totals_of_records::of_records` meets its contract: a longer row is refused, and so is one by minutes that are.
use Rattle.std.proofs.Common.{arith, ap, ◌∙◌}
use Rattle.def_totals.specs.Board.{refused}
use Rattle.totals_of_records.proofs.Counting.{too_many, not_served, served}
use Rattle.totals_of_records.proofs.of_records.Goals as goal

pub returns-then-records-gt-MOST_RECORDS : goal.returns-then-records-gt-MOST_RECORDS
returns-then-records-gt-MOST_RECORDS c =
    λ judged. too_many c.args.by c.args.records.now c.if-records-gt-MOST_RECORDS.true c.from.ensures

pub returns-then-by-ne-ACCEPTED : goal.returns-then-by-ne-ACCEPTED
returns-then-by-ne-ACCEPTED c =
    λ judged. not_served c.args.by c.args.records.now (omega arith) c.if-by-ne-ACCEPTED.true (ap refused (omega arith))

pub returns : goal.returns
returns c =
    served c.args.by c.args.records.now (omega arith) c.if-by-ne-ACCEPTED.false
    (λ rises. c.into.ensures ∙ c.board_of.ensures rises)
