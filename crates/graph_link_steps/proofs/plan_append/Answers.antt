-- `graph_link_steps::plan_append` meets its contract: the arc is below the number reserved, so that it fits 32 bits.
use native.Mathlib.Omega.{arith}
use lib.Dec.{ltb}
use borrow.Author.Tests.{ltb-true}
use borrow.Author.Rules.{rules}
use Rattle.def_words.specs.Words.{plan_append}
use Rattle.graph_link_steps.proofs.Tests.{second}
use Rattle.graph_link_steps.proofs.plan_append.Goals as goal

pub returns-then-first : goal.returns-then-first
unfolding plan_append
returns-then-first c =
    λ buckets queue workers.
    rw (
      ← c.header-made.ensures,
      ← c.header-reserved.ensures,
      ← c.job_word-last.ensures,
      ← c.place_ok-kept.ensures,
      c.if-sound.true,
      c.if-first.true-raw,
    )

pub returns-else-first : goal.returns-else-first
unfolding plan_append
returns-else-first c =
    λ buckets queue workers.
    rw (
      ← c.header-made.ensures,
      ← c.header-reserved.ensures,
      ← c.job_word-last.ensures,
      ← c.place_ok-kept.ensures,
      c.if-sound.true,
      c.if-first.false-raw,
    )

pub returns-else-sound : goal.returns-else-sound
unfolding plan_append
returns-else-sound c =
    λ buckets queue workers.
    rw (
      ← c.header-made.ensures,
      ← c.header-reserved.ensures,
      ← c.job_word-last.ensures,
      ← c.place_ok-kept.ensures,
      c.if-sound.false,
    )
