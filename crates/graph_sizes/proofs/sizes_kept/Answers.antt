-- `graph_sizes::sizes_kept` meets its contract: the code's test is the definition's.
use Rattle.def_words.specs.Layout.{sizes_kept}
use Rattle.graph_sizes.proofs.sizes_kept.Goals as goal

pub returns : goal.returns
unfolding sizes_kept
returns c =
    rw (
      ← c.header.ensures,
      ← c.header-2.ensures,
      ← c.header-3.ensures,
      ← c.header-4.ensures,
    )
