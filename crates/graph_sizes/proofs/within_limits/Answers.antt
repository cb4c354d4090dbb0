-- `graph_sizes::within_limits` meets its contract: the code's test is the definition's.
use mathlib.Core.Path.{refl}
use Rattle.def_terms.specs.Terms.{within_limits}
use Rattle.graph_sizes.proofs.within_limits.Goals as goal

pub returns : goal.returns
unfolding within_limits
returns c = refl
