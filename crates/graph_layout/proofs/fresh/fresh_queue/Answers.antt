-- `graph_layout::fresh::fresh_queue` meets its contract: the counters, then cells of three equal words as one run.
use Rattle.def_words.specs.Columns.{put_header}
use Rattle.def_words.specs.Layout.{none}
use Rattle.graph_layout.proofs.fresh.Laws.{repeated_same}
use Rattle.graph_layout.proofs.fresh.fresh_queue.Goals as goal

pub returns : goal.returns
unfolding put_header
returns c =
    rw (
      c.fill.ensures,
      c.put_header-2.ensures,
      c.put_header.ensures,
      repeated_same 3 c.args.sizes.jobs none,
    )
