-- `graph_queue::shift_down` meets its contract: what is left to shift makes the same table as all of it.
use mathlib.Core.Path.{◌∙◌}
use Prim.Native.Nat.{◌-◌}
use native.Mathlib.Omega.{arith}
use borrow.Author.Tests.{eq-eqb, ne_eqb}
use Rattle.def_words.specs.Index.{levels}
use Rattle.graph_queue.proofs.Laws.{down_on, down_there, down_out}
use Rattle.graph_queue.proofs.shift_down.Goals as goal
use Rattle.graph_queue.proofs.shift_down.Goals.{else-loop-test, then-loop-test+then-at-to}

pub loop-preserved : goal.loop-preserved
loop-preserved c = (
  rw (c.put_slot.ensures, c.queue_word-moved.ensures, c.above-up.ensures)
      (down_on _ _ _ _ _ _ (omega arith) (ne_eqb _ _ c.if-at-to.false) ∙ c.loop.invariant.0),
  c.put_slot.auto.queue ∙ c.loop.invariant.1,
)

pub returns : goal.returns
returns c =
    rw c.put_slot-2.ensures
    (elim c.loop-test.branch [
      | else-loop-test w ↦ down_out _ _ _ (levels - c.loop.counter) _ (omega arith)
      | then-loop-test+then-at-to w ↦ down_there _ _ _ _ _ (eq-eqb _ _ w.if-at-to.true)
    ]
    ∙ c.loop.invariant.0)
