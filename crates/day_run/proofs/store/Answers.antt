-- `store` stores the hand-outs of a round. The loop's invariant: those passed are stored.
use Rattle.std.proofs.Common.{sym}
use Rattle.def_day.specs.Rounds.{holder}
use Rattle.def_day.specs.Rows.{stored_none, stored_more}
use Rattle.day_run.proofs.store.Goals as goal

pub loop-i-init : goal.loop-i-init
loop-i-init c = sym (stored_none _ _)

pub loop-i-preserved : goal.loop-i-preserved
loop-i-preserved c =
    let l = c.loop-i in
    rw (stored_more _ c.args.at l.i c.args.holders.now (holder 0 0) c.loop-i-test.true, ← l.invariant, ← c.put_word.ensures)
    c.put_word-in-loop-i.ensures
