-- `graph_layout::words_needed` meets its contract: the code's test and sums are the definition's.
use mathlib.Core.Path.{sym, ◌∙◌}
use Rattle.graph_sizes.proofs.Laws.{bits_within}
use Rattle.graph_layout.proofs.Laws.{buckets_need}
use Rattle.graph_layout.proofs.words_needed.Goals as goal

pub returns : goal.returns
returns c =
    let within = sym c.within_limits.ensures ∙ c.if-not-within_limits.false in
    rw (
      within,
      c.need-4.ensures,
      c.need-3.ensures,
      c.buckets_of.ensures (bits_within _ within),
      c.need-2.ensures,
      c.need.ensures,
      buckets_need,
    )
