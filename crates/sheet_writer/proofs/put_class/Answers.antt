-- `put_class` stores the byte of a class, and nothing for class 0.
use native.Mathlib.Omega.{arith}
use Rattle.def_numbers.specs.Numbers.{class_bytes}
use Rattle.def_sheets.proofs.EntryTrip.{length_optional}
use Rattle.sheet_limits.proofs.Sizes.{bit_some, spelt_some}
use Rattle.sheet_writer.proofs.Puts.{part_fits, was_put}
use Rattle.sheet_writer.proofs.put_class.Goals as goal

pub put_number-requires : goal.put_number-requires
put_number-requires c =
    let k = length_optional class_bytes c.args.fields.class in
    (omega arith, omega (arith, part_fits c.requires, bit_some _ c.if-fields-eq0.false))

pub returns : goal.returns
returns c = rw (spelt_some _ c.if-fields-eq0.false) (was_put c.put_number.ensures)
