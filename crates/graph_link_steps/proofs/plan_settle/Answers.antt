-- `graph_link_steps::plan_settle` meets its contract: each way through the code is a case of the definition.
use borrow.Author.Rules.{rules}
use Rattle.def_words.specs.Words.{plan_settle}
use Rattle.graph_link_steps.proofs.plan_settle.Goals as goal

pub returns-then-none : goal.returns-then-none
unfolding plan_settle
returns-then-none c =
    λ arcs buckets workers.
    rw
    c.if-none.true

pub returns-then-settles : goal.returns-then-settles
unfolding plan_settle
returns-then-settles c =
    λ arcs buckets workers.
    rw (
      c.if-none.false-raw,
      ← c.job_word-count.ensures,
      c.if-sound.true,
      ← c.less-left.ensures,
      c.if-settles.true,
      ← c.settle_queue.ensures,
    )

pub returns-else-settles : goal.returns-else-settles
unfolding plan_settle
returns-else-settles c =
    λ arcs buckets workers.
    rw (
      c.if-none.false-raw,
      ← c.job_word-count.ensures,
      c.if-sound.true,
      ← c.less-left.ensures,
      c.if-settles.false,
    )

pub returns-else-sound : goal.returns-else-sound
unfolding plan_settle
returns-else-sound c =
    λ arcs buckets workers.
    rw (
      c.if-none.false-raw,
      ← c.job_word-count.ensures,
      c.if-sound.false,
    )
