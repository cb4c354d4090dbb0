-- `put_own_name` stores the job's own name.
use native.Mathlib.Omega.{arith}
use Rattle.def_numbers.specs.Numbers.{name_bytes}
use Rattle.def_sheets.proofs.NumberLaws.{length_spelt}
use Rattle.sheet_writer.proofs.Puts.{part_fits, was_put}
use Rattle.sheet_writer.proofs.put_own_name.Goals as goal

pub put_number-requires : goal.put_number-requires
put_number-requires c =
    let k = length_spelt name_bytes c.args.fields.name in
    (omega arith, omega (arith, part_fits c.requires))

pub returns : goal.returns
returns c = was_put c.put_number.ensures
