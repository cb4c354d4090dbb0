-- `new` makes a table of no name.
use Rattle.std.proofs.Common.{refl}
use Rattle.def_numbers.specs.Numbers.{most_jobs}
use Rattle.sheet_room.proofs.Entering.{indexed_none}
use Rattle.sheet_room.proofs.table.Names.new.Goals as goal

pub invariant_of-result : goal.invariant_of-result
invariant_of-result c = indexed_none most_jobs refl
