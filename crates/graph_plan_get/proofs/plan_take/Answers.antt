-- `graph_plan_get::plan_take` meets its contract: each way through the code is a case of the definition.
use Rattle.def_words.specs.Words.{plan_take}
use Rattle.graph_plan_get.proofs.plan_take.Goals as goal

pub returns-then-not-sound : goal.returns-then-not-sound
unfolding plan_take
returns-then-not-sound c =
    rw (
      ← c.first_seat.ensures _ _ _,
      c.in-Seated.is,
      ← c.queue_word-cell.ensures,
      ← c.queue_word-job.ensures,
      ← c.job_word-spoiled.ensures,
      ← c.job_word.ensures,
      c.if-not-sound.true,
    )

pub returns-else-not-sound : goal.returns-else-not-sound
unfolding plan_take
returns-else-not-sound c =
    rw (
      ← c.first_seat.ensures _ _ _,
      c.in-Seated.is,
      ← c.queue_word-cell.ensures,
      ← c.queue_word-job.ensures,
      ← c.job_word-spoiled.ensures,
      ← c.job_word.ensures,
      c.if-not-sound.false,
      ← c.job_word-in-Seated.ensures,
    )

pub returns-in-Unseated : goal.returns-in-Unseated
unfolding plan_take
returns-in-Unseated c = rw (← c.first_seat.ensures _ _ _, c.in-Unseated.is)
