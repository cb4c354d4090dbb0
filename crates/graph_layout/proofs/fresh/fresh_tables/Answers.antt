-- `graph_layout::fresh::fresh_tables` meets its contract: one table after another.
use Rattle.def_words.specs.Layout.{fresh_tables}
use Rattle.graph_layout.proofs.fresh.fresh_tables.Goals as goal

pub returns-clause-fresh : goal.returns-clause-fresh
unfolding fresh_tables
returns-clause-fresh c =
    λ h.
    rw (
      c.fresh_workers.ensures,
      c.fresh_queue.ensures,
      c.fresh_buckets.ensures h,
      c.fresh_arcs.ensures,
      c.fresh_jobs.ensures,
    )
