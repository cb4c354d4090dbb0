-- `put_grower` stores the two bytes of a grower, and nothing for grower 0.
use native.Mathlib.Omega.{arith}
use Rattle.def_numbers.specs.Numbers.{grower_bytes}
use Rattle.def_sheets.proofs.EntryTrip.{length_optional}
use Rattle.sheet_limits.proofs.Sizes.{bit_some, spelt_some}
use Rattle.sheet_writer.proofs.Puts.{part_fits, was_put}
use Rattle.sheet_writer.proofs.put_grower.Goals as goal

pub put_number-requires : goal.put_number-requires
put_number-requires c =
    let k = length_optional grower_bytes c.args.fields.grower in
    (omega arith, omega (arith, part_fits c.requires, bit_some _ c.if-fields-eq0.false))

pub returns : goal.returns
returns c = rw (spelt_some _ c.if-fields-eq0.false) (was_put c.put_number.ensures)
