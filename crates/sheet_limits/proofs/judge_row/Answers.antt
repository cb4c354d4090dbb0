-- `judge_row` judges the entry that a row of words holds.
use Rattle.sheet_limits.proofs.Rows.{names_all}
use Rattle.sheet_limits.proofs.judge_row.Goals as goal

pub returns : goal.returns
returns c =
    c.judge.ensures _ _ (names_all c.args.rows.now c.args.i c.requires)
