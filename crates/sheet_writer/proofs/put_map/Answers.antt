-- `put_map` stores the map byte.
use native.Mathlib.Omega.{arith}
use Rattle.sheet_writer.proofs.Puts.{part_fits}
use Rattle.sheet_writer.proofs.put_map.Goals as goal

pub bounds-out-offset : goal.bounds-out-offset
bounds-out-offset c = omega (arith, part_fits c.requires)
