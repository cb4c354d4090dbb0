-- `graph_layout::fresh::fresh_arcs` meets its contract: arcs of two equal words are one run.
use Rattle.def_words.specs.Columns.{put_header}
use Rattle.def_words.specs.Layout.{none}
use Rattle.graph_layout.proofs.fresh.Laws.{repeated_same}
use Rattle.graph_layout.proofs.fresh.fresh_arcs.Goals as goal

pub returns : goal.returns
unfolding put_header
returns c =
    rw (
      c.fill.ensures,
      c.put_header.ensures,
      repeated_same 2 c.args.sizes.arcs none,
    )
