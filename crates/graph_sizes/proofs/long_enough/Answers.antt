-- `graph_sizes::long_enough` meets its contract: within the limits 2 to the power of the bits is a word.
use Rattle.def_words.specs.Layout.{long_enough}
use Rattle.graph_sizes.proofs.Laws.{bits_within}
use Rattle.graph_sizes.proofs.long_enough.Goals as goal

pub two_to-requires : goal.two_to-requires
two_to-requires c =
    bits_within _ c.requires

pub returns : goal.returns
unfolding long_enough
returns c =
    rw (
      ← c.need.ensures,
      ← c.need-2.ensures,
      ← c.two_to.ensures,
      ← c.need-3.ensures,
      ← c.need-4.ensures,
      ← c.need-5.ensures,
    )
