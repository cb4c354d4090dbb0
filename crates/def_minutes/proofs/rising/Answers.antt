-- `minutes::rising` meets its contract: a table that passes the test has a value for each class.
use Rattle.std.proofs.Common.{arith}
use Rattle.std.proofs.lemmas.Grind.{common_steps}
use Rattle.def_minutes.proofs.Rises.{right_length}
use Rattle.def_minutes.proofs.rising.Goals as goal

pub returns-then-is_rising : goal.returns-then-is_rising
returns-then-is_rising c = grind (arith, common_steps, right_length)
