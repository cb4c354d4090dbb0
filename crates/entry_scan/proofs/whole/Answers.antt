use Rattle.std.proofs.Common.{rules}
use Rattle.def_sheets.specs.Decode.{name_at}
use Rattle.entry_scan.proofs.whole.Goals as goal

pub returns-then-s-at : goal.returns-then-s-at
unfolding name_at
returns-then-s-at g c = search rules

pub returns : goal.returns
unfolding name_at
returns g c = search rules
