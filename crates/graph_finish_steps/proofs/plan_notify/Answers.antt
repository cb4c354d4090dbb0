-- `graph_finish_steps::plan_notify` meets its contract: each way through the code is a case of the definition.
use borrow.Author.Rules.{rules}
use Rattle.def_words.specs.Words.{plan_notify}
use Rattle.graph_finish_steps.proofs.plan_notify.Goals as goal

pub returns-then-none : goal.returns-then-none
unfolding plan_notify
returns-then-none c =
    λ buckets workers.
    rw
    c.if-none.true

pub returns-else-known : goal.returns-else-known
unfolding plan_notify
returns-else-known c =
    λ buckets workers.
    rw (
      c.if-none.false-raw,
      ← c.arc_word-job.ensures,
      ← c.arc_word-next.ensures,
      ← c.header.ensures,
      c.if-known.false-raw,
    )

pub returns-then-last : goal.returns-then-last
unfolding plan_notify
returns-then-last c =
    λ buckets workers.
    let a = c.args in
    rw (
      c.notify_queue.ensures a.arcs.now buckets workers,
      c.if-none.false-raw,
      ← c.arc_word-job.ensures,
      ← c.arc_word-next.ensures,
      ← c.header.ensures,
      c.if-known.true-raw,
      ← c.job_word-count.ensures,
      ← c.header-2.ensures,
      ← c.place_ok-kept.ensures,
      c.if-sound.true,
      ← c.less-left.ensures,
      c.if-last.true-raw,
    )

pub returns-else-last : goal.returns-else-last
unfolding plan_notify
returns-else-last c =
    λ buckets workers.
    rw (
      c.if-none.false-raw,
      ← c.arc_word-job.ensures,
      ← c.arc_word-next.ensures,
      ← c.header.ensures,
      c.if-known.true-raw,
      ← c.job_word-count.ensures,
      ← c.header-2.ensures,
      ← c.place_ok-kept.ensures,
      c.if-sound.true,
      ← c.less-left.ensures,
      c.if-last.false-raw,
    )

pub returns-else-sound : goal.returns-else-sound
unfolding plan_notify
returns-else-sound c =
    λ buckets workers.
    rw (
      c.if-none.false-raw,
      ← c.arc_word-job.ensures,
      ← c.arc_word-next.ensures,
      ← c.header.ensures,
      c.if-known.true-raw,
      ← c.job_word-count.ensures,
      ← c.header-2.ensures,
      ← c.place_ok-kept.ensures,
      c.if-sound.false,
    )
