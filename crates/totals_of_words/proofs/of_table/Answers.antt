-- `totals_of_words::of_table` meets its contract: every word that is read stands in the table, and the loop's running
-- totals are those of the records that it has passed.
use Rattle.std.proofs.Common.{arith, refl}
use Rattle.def_minutes.specs.Rising.{rising}
use Rattle.totals_step.proofs.Running.{nothing_yet}
use Rattle.totals_of_words.proofs.Tables.{stands_as, none_stands}
use Rattle.totals_of_words.proofs.Tables.{start_table, next_table, last_table, wrong_table}
use Rattle.totals_of_words.proofs.of_table.Goals as goal

pub returns-then-not-stands : goal.returns-then-not-stands
returns-then-not-stands c = λ rises. none_stands _ c.args.shape _ _ c.stands.ensures c.if-not-stands.true refl

pub loop-i-init : goal.loop-i-init
loop-i-init c =
    let row = stands_as c.args.shape _ _ c.stands.ensures c.if-not-stands.false in (
      row,
      λ rises. start_table _ c.args.shape _ _ row
          (nothing_yet _ c.default-board.ensures.0 c.default-board.ensures.1),
    )

pub returns-in_err-with_record : goal.returns-in_err-with_record
returns-in_err-with_record c =
    let l = c.loop-i in
    λ rises. wrong_table _ c.args.shape _ _ l.board l.i _ c.in_err-with_record.field-0.0 l.invariant.0 (omega arith)
    c.in_err-with_record.ensures.counted c.from_residual.ensures.1

pub loop-i-preserved : goal.loop-i-preserved
loop-i-preserved c =
    let l = c.loop-i in (
      l.invariant.0,
      λ rises. next_table _ c.args.shape _ _ (rising _ rises) l.i (l.invariant.1 rises) (omega arith)
          c.in_ok-with_record.ensures.counted,
    )

pub returns : goal.returns
returns c = λ rises. last_table _ c.args.shape _ _ _ (c.loop-i.invariant.1 rises) (omega arith)
