-- `graph_finish_steps::plan_mark` meets its contract: each way through the code is a case of the definition.
use borrow.Author.Rules.{rules}
use Rattle.def_words.specs.Words.{plan_mark}
use Rattle.graph_finish_steps.proofs.plan_mark.Goals as goal

pub returns-then-none : goal.returns-then-none
unfolding plan_mark
returns-then-none c =
    λ buckets queue workers.
    rw
    c.if-none.true

pub returns-then-sound : goal.returns-then-sound
unfolding plan_mark
returns-then-sound c =
    λ buckets queue workers.
    rw (
      c.if-none.false-raw,
      ← c.job_word-label.ensures,
      ← c.job_word-first.ensures,
      ← c.header.ensures,
      ← c.place_ok-kept.ensures,
      c.if-sound.true,
    )

pub returns-else-sound : goal.returns-else-sound
unfolding plan_mark
returns-else-sound c =
    λ buckets queue workers.
    rw (
      c.if-none.false-raw,
      ← c.job_word-label.ensures,
      ← c.job_word-first.ensures,
      ← c.header.ensures,
      ← c.place_ok-kept.ensures,
      c.if-sound.false,
    )
