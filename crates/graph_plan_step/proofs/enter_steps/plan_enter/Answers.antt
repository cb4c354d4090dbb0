-- `graph_plan_step::enter_steps::plan_enter` meets its contract: each way through the code is a case of the definition.
use Rattle.def_words.specs.Words.{plan_enter}
use Rattle.graph_plan_step.proofs.enter_steps.plan_enter.Goals as goal

pub returns-in-At : goal.returns-in-At
unfolding plan_enter
returns-in-At c =
    rw c.in-At.is

pub returns-then-full : goal.returns-then-full
unfolding plan_enter
returns-then-full c =
    rw (
      c.in-Missing.is,
      ← c.header-made.ensures,
      ← c.header-reserved.ensures,
      c.if-full.true,
    )

pub returns-else-full : goal.returns-else-full
unfolding plan_enter
returns-else-full c =
    rw (
      c.in-Missing.is,
      ← c.header-made.ensures,
      ← c.header-reserved.ensures,
      c.if-full.false,
      ← c.bucket-bucket.ensures,
      ← c.bucket_word.ensures,
    )

pub returns-in-Damaged : goal.returns-in-Damaged
unfolding plan_enter
returns-in-Damaged c =
    rw c.in-Damaged.is
