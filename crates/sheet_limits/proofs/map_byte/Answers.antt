-- `map_byte` is the map byte of every job with such numbers, whatever its name and its list are.
use Rattle.def_sheets.specs.Job.{map_byte}
use Rattle.sheet_limits.proofs.map_byte.Goals as goal

pub returns : goal.returns
unfolding map_byte
returns c = λ name list many.
    rw (many, c.bit.ensures.0, c.bit-2.ensures.0, c.bit-3.ensures.0)
