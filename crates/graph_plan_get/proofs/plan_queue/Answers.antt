-- `graph_plan_get::plan_queue` meets its contract: each way through the code is a case of the definition.
use borrow.Author.Tests.{eq-eqb, ne_eqb}
use Rattle.def_words.specs.Words.{plan_queue}
use Rattle.graph_plan_get.proofs.plan_queue.Goals as goal

pub returns-then-not-sound : goal.returns-then-not-sound
unfolding plan_queue
returns-then-not-sound c =
    rw (← c.header-taken.ensures, ← c.header-put.ensures, ← c.counters_ok.ensures _ _ _, c.if-not-sound.true)

pub returns-then-taken-put : goal.returns-then-taken-put
unfolding plan_queue
returns-then-taken-put c =
    rw (
      ← c.header-taken.ensures,
      ← c.header-put.ensures,
      ← c.counters_ok.ensures _ _ _,
      c.if-not-sound.false,
      eq-eqb _ _ c.if-taken-put.true,
    )

pub returns : goal.returns
unfolding plan_queue
returns c =
    rw (
      c.plan_take.ensures,
      ← c.header-taken.ensures,
      ← c.header-put.ensures,
      ← c.counters_ok.ensures _ _ _,
      c.if-not-sound.false,
      ne_eqb _ _ c.if-taken-put.false,
    )
