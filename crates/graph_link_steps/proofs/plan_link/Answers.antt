-- `graph_link_steps::plan_link` meets its contract: each way through the code is a case of the definition.
use borrow.Author.Rules.{rules}
use Rattle.def_words.specs.Words.{plan_tally, plan_link}
use Rattle.graph_link_steps.proofs.plan_link.Goals as goal

pub returns-then-told : goal.returns-then-told
unfolding plan_tally plan_link
returns-then-told c =
    λ buckets queue workers.
    rw (
      c.in-At.is,
      ← c.job_word-label.ensures,
      c.if-sound.true-raw,
      c.if-finished.true-raw,
      ← c.job_word-outcome.ensures,
      c.if-told.true-raw,
    )

pub returns-else-told : goal.returns-else-told
unfolding plan_tally plan_link
returns-else-told c =
    λ buckets queue workers.
    rw (
      c.in-At.is,
      ← c.job_word-label.ensures,
      c.if-sound.true-raw,
      c.if-finished.true-raw,
      ← c.job_word-outcome.ensures,
      c.if-told.false-raw,
    )

pub returns-else-finished : goal.returns-else-finished
unfolding plan_tally plan_link
returns-else-finished c =
    λ buckets queue workers.
    rw (
      c.in-At.is,
      ← c.job_word-label.ensures,
      c.if-sound.true-raw,
      c.if-finished.false-raw,
      ← c.plan_append.ensures,
    )

pub returns-else-sound : goal.returns-else-sound
unfolding plan_tally plan_link
returns-else-sound c =
    λ buckets queue workers.
    rw (
      c.in-At.is,
      ← c.job_word-label.ensures,
      c.if-sound.false-raw,
    )

pub returns-in-Missing : goal.returns-in-Missing
unfolding plan_tally plan_link
returns-in-Missing c =
    λ buckets queue workers.
    rw c.in-Missing.is

pub returns-in-Damaged : goal.returns-in-Damaged
unfolding plan_tally plan_link
returns-in-Damaged c =
    λ buckets queue workers.
    rw c.in-Damaged.is
