-- `graph_index::look` meets its contract: each way through the code is a case of the definition.
use borrow.Author.Tests.{eq-eqb, ne_eqb, lt-ltb, le-ltb, le-leb, lt-leb}
use Rattle.def_words.specs.Index.{waits}
use Rattle.graph_index.proofs.look.Goals as goal

pub returns-then-cell-header : goal.returns-then-cell-header
unfolding waits
returns-then-cell-header c =
    λ arcs buckets workers.
    rw (
      ← c.queue_word-cell.ensures,
      ← c.header.ensures,
      le-ltb _ _ c.if-cell-header.true,
    )

pub returns-then-position-slot : goal.returns-then-position-slot
unfolding waits
returns-then-position-slot c =
    λ arcs buckets workers.
    rw (
      ← c.queue_word-cell.ensures,
      ← c.header.ensures,
      lt-ltb _ _ c.if-cell-header.false,
      ← c.queue_word-position.ensures,
      ne_eqb _ _ c.if-position-slot.true,
    )

pub returns-then-job-header : goal.returns-then-job-header
unfolding waits
returns-then-job-header c =
    λ arcs buckets workers.
    rw (
      ← c.queue_word-cell.ensures,
      ← c.header.ensures,
      lt-ltb _ _ c.if-cell-header.false,
      ← c.queue_word-position.ensures,
      eq-eqb _ _ c.if-position-slot.false,
      ← c.queue_word-job.ensures,
      ← c.header-2.ensures,
      le-ltb _ _ c.if-job-header.true,
    )

pub returns-then-class-gt-MOST_CLASS : goal.returns-then-class-gt-MOST_CLASS
unfolding waits
returns-then-class-gt-MOST_CLASS c =
    λ arcs buckets workers.
    rw (
      ← c.queue_word-cell.ensures,
      ← c.header.ensures,
      lt-ltb _ _ c.if-cell-header.false,
      ← c.queue_word-position.ensures,
      eq-eqb _ _ c.if-position-slot.false,
      ← c.queue_word-job.ensures,
      ← c.header-2.ensures,
      lt-ltb _ _ c.if-job-header.false,
      ← c.job_word-class.ensures,
      lt-leb _ _ c.if-class-gt-MOST_CLASS.true,
    )

pub returns : goal.returns
unfolding waits
returns c =
    λ arcs buckets workers.
    rw (
      ← c.queue_word-cell.ensures,
      ← c.header.ensures,
      lt-ltb _ _ c.if-cell-header.false,
      ← c.queue_word-position.ensures,
      eq-eqb _ _ c.if-position-slot.false,
      ← c.queue_word-job.ensures,
      ← c.header-2.ensures,
      lt-ltb _ _ c.if-job-header.false,
      ← c.job_word-class.ensures,
      le-leb _ _ c.if-class-gt-MOST_CLASS.false,
      ← c.rank.ensures,
    )
