-- `graph_link_steps::plan_links` meets its contract: each way through the code is a case of the definition.
use borrow.Author.Tests.{lt-ltb, le-ltb}
use Rattle.def_words.specs.Words.{plan_links}
use Rattle.graph_link_steps.proofs.plan_links.Goals as goal

pub returns-then-place-count : goal.returns-then-place-count
unfolding plan_links
returns-then-place-count c =
    rw (
      ← c.worker_word-place.ensures,
      ← c.worker_word-count.ensures,
      ← c.worker_word-job.ensures,
      lt-ltb _ _ c.if-place-count.true,
      ← c.worker_word-first.ensures,
      ← c.name_word-name.ensures,
      ← c.find-found.ensures _ _ _,
      ← c.plan_link.ensures _ _ _,
    )

pub returns : goal.returns
unfolding plan_links
returns c =
    rw (
      ← c.worker_word-place.ensures,
      ← c.worker_word-count.ensures,
      ← c.worker_word-job.ensures,
      le-ltb _ _ c.if-place-count.false,
      ← c.worker_word-tally.ensures,
      ← c.plan_settle.ensures _ _ _,
    )
