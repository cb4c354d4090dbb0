-- `graph_plan_step::enter_steps::plan_add` meets its contract: each way through the code is a case of the definition.
use borrow.Author.Tests.{lt-ltb, le-ltb}
use Rattle.def_words.specs.Words.{plan_add}
use Rattle.graph_plan_step.proofs.enter_steps.plan_add.Goals as goal

pub returns-then-place-count : goal.returns-then-place-count
unfolding plan_add
returns-then-place-count c =
    rw (
      ← c.worker_word-place.ensures,
      ← c.worker_word-count.ensures,
      lt-ltb _ _ c.if-place-count.true,
      ← c.name_word-name.ensures,
      ← c.find.ensures _ _ _,
      ← c.plan_look_up.ensures,
    )

pub returns : goal.returns
unfolding plan_add
returns c =
    rw (
      ← c.worker_word-place.ensures,
      ← c.worker_word-count.ensures,
      le-ltb _ _ c.if-place-count.false,
      ← c.worker_word-name.ensures,
      ← c.find-found.ensures _ _ _,
      ← c.plan_enter.ensures,
    )
