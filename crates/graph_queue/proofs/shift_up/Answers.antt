-- `graph_queue::shift_up` meets its contract: what is left to shift makes the same table as all of it.
use mathlib.Core.Path.{◌∙◌}
use Prim.Native.Nat.{◌-◌}
use native.Mathlib.Omega.{arith}
use borrow.Author.Tests.{eq-eqb, ne_eqb}
use Rattle.def_words.specs.Index.{levels}
use Rattle.graph_queue.proofs.Laws.{up_on, up_there, up_out}
use Rattle.graph_queue.proofs.shift_up.Goals as goal
use Rattle.graph_queue.proofs.shift_up.Goals.{else-loop-test, then-loop-test+then-at-eq0}

pub loop-preserved : goal.loop-preserved
loop-preserved c = (
  rw (c.above-at.ensures, c.put_slot.ensures, c.queue_word-next.ensures)
      (up_on _ _ _ _ _ (omega arith) (ne_eqb _ _ c.if-at-eq0.false) ∙ c.loop.invariant.0),
  c.put_slot.auto.queue ∙ c.loop.invariant.1,
)

pub returns : goal.returns
returns c =
    rw c.put_slot-2.ensures
    (elim c.loop-test.branch [
      | else-loop-test w ↦ up_out _ _ _ (levels - c.loop.counter) (omega arith)
      | then-loop-test+then-at-eq0 w ↦ up_there _ _ _ _ (eq-eqb _ _ w.if-at-eq0.true)
    ]
    ∙ c.loop.invariant.0)
