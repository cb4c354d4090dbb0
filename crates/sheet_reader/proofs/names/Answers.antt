-- `names` answers the names with 0 behind them.
use Rattle.std.proofs.Common.{arith, length-take-le}
use Rattle.def_numbers.specs.Numbers.{name_bytes}
use Rattle.sheet_reader.proofs.Stores.{names_before}
use Rattle.sheet_reader.proofs.names.Goals as goal

pub returns : goal.returns
returns c = rw c.store_names.ensures (names_before name_bytes _ _ _ _ (length-take-le _ _ (omega arith)))
