-- `graph_plan_get::plan_admitted_get` meets its contract: each way through the code is a case of the definition.
use borrow.Author.Tests.{eq-eqb, ne_eqb}
use Rattle.def_words.specs.Words.{plan_get}
use Rattle.graph_plan_get.proofs.plan_admitted_get.Goals as goal

pub returns-then-worker_word-ne-IDLE : goal.returns-then-worker_word-ne-IDLE
unfolding plan_get
returns-then-worker_word-ne-IDLE c = rw (← c.worker_word.ensures, ne_eqb _ _ c.if-worker_word-ne-IDLE.true)

pub returns-then-worker_word : goal.returns-then-worker_word
unfolding plan_get
returns-then-worker_word c =
    rw (← c.worker_word.ensures, eq-eqb _ _ c.if-worker_word-ne-IDLE.false, ← c.worker_word-2.ensures, ne_eqb _ _ c.if-worker_word.true)

pub returns : goal.returns
unfolding plan_get
returns c =
    rw (
      ← c.worker_word.ensures,
      eq-eqb _ _ c.if-worker_word-ne-IDLE.false,
      ← c.worker_word-2.ensures,
      eq-eqb _ _ c.if-worker_word.false,
      ← c.plan_queue.ensures,
    )
