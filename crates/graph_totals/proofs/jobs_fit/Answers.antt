-- `graph_totals::jobs_fit` meets its contract: the code's test is the definition's.
use Rattle.def_words.specs.Layout.{sizes_kept}
use Rattle.def_graph_board.specs.Board.{jobs_fit}
use Rattle.graph_totals.proofs.jobs_fit.Goals as goal

pub returns : goal.returns
unfolding jobs_fit sizes_kept
returns c =
    rw (
      ← c.within_limits.ensures,
      ← c.need.ensures,
      ← c.header.ensures,
      ← c.header-2.ensures,
      ← c.header-3.ensures,
      ← c.header-4.ensures,
    )
