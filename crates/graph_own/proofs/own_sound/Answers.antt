-- `graph_own::own_sound` meets its contract: each way through the code is a case of the definition.
use Rattle.def_words.specs.Words.{own_ok}
use Rattle.graph_own.proofs.own_sound.Goals as goal

pub returns-then-arc : goal.returns-then-arc
unfolding own_ok
returns-then-arc c =
    λ buckets queue.
    rw (
      ← c.header-made.ensures,
      ← c.worker_word-count.ensures,
      ← c.worker_word-phase.ensures,
      c.if-phase.true-raw,
      ← c.worker_word.ensures,
      ← c.place_ok-held.ensures,
      c.if-held.true,
      ← c.worker_word-then-held.ensures,
      ← c.worker_word-then-held-2.ensures,
      ← c.worker_word-then-held-3.ensures,
      ← c.worker_word-then-held-4.ensures,
      c.if-call.true,
      ← c.worker_word-then-call.ensures,
      ← c.place_ok-job.ensures,
      c.if-job.true,
      ← c.worker_word-then-job.ensures,
      ← c.header.ensures,
      ← c.place_ok-arc.ensures,
      c.if-arc.true,
      ← c.worker_word-then-arc.ensures,
    )

pub returns-else-arc : goal.returns-else-arc
unfolding own_ok
returns-else-arc c =
    λ buckets queue.
    rw (
      ← c.header-made.ensures,
      ← c.worker_word-count.ensures,
      ← c.worker_word-phase.ensures,
      c.if-phase.true-raw,
      ← c.worker_word.ensures,
      ← c.place_ok-held.ensures,
      c.if-held.true,
      ← c.worker_word-then-held.ensures,
      ← c.worker_word-then-held-2.ensures,
      ← c.worker_word-then-held-3.ensures,
      ← c.worker_word-then-held-4.ensures,
      c.if-call.true,
      ← c.worker_word-then-call.ensures,
      ← c.place_ok-job.ensures,
      c.if-job.true,
      ← c.worker_word-then-job.ensures,
      ← c.header.ensures,
      ← c.place_ok-arc.ensures,
      c.if-arc.false,
    )

pub returns-else-job : goal.returns-else-job
unfolding own_ok
returns-else-job c =
    λ buckets queue.
    rw (
      ← c.header-made.ensures,
      ← c.worker_word-count.ensures,
      ← c.worker_word-phase.ensures,
      c.if-phase.true-raw,
      ← c.worker_word.ensures,
      ← c.place_ok-held.ensures,
      c.if-held.true,
      ← c.worker_word-then-held.ensures,
      ← c.worker_word-then-held-2.ensures,
      ← c.worker_word-then-held-3.ensures,
      ← c.worker_word-then-held-4.ensures,
      c.if-call.true,
      ← c.worker_word-then-call.ensures,
      ← c.place_ok-job.ensures,
      c.if-job.false,
    )

pub returns-else-call : goal.returns-else-call
unfolding own_ok
returns-else-call c =
    λ buckets queue.
    rw (
      ← c.header-made.ensures,
      ← c.worker_word-count.ensures,
      ← c.worker_word-phase.ensures,
      c.if-phase.true-raw,
      ← c.worker_word.ensures,
      ← c.place_ok-held.ensures,
      c.if-held.true,
      ← c.worker_word-then-held.ensures,
      ← c.worker_word-then-held-2.ensures,
      ← c.worker_word-then-held-3.ensures,
      ← c.worker_word-then-held-4.ensures,
      c.if-call.false,
    )

pub returns-else-held : goal.returns-else-held
unfolding own_ok
returns-else-held c =
    λ buckets queue.
    rw (
      ← c.header-made.ensures,
      ← c.worker_word-count.ensures,
      ← c.worker_word-phase.ensures,
      c.if-phase.true-raw,
      ← c.worker_word.ensures,
      ← c.place_ok-held.ensures,
      c.if-held.false,
    )

pub returns-else-phase : goal.returns-else-phase
unfolding own_ok
returns-else-phase c =
    λ buckets queue.
    rw (
      ← c.header-made.ensures,
      ← c.worker_word-count.ensures,
      ← c.worker_word-phase.ensures,
      c.if-phase.false-raw,
    )
