-- `put_names` stores names one after the other. The loop's invariant: those so far are stored.
use native.Mathlib.Omega.{arith}
use Rattle.std.proofs.Common.{refl, take, length-take-le}
use Rattle.def_numbers.specs.Numbers.{name_bytes}
use Rattle.def_sheets.specs.Job.{spelt_names}
use Rattle.def_sheets.proofs.NumberLaws.{length_spelt_names}
use Rattle.sheet_writer.proofs.Puts.{after, one_name_more}
use Rattle.sheet_writer.proofs.put_names.Goals as goal

pub loop-name-init : goal.loop-name-init
unfolding spelt_names
loop-name-init c = record { stored = refl; past = omega arith }

pub put_number-next-requires : goal.put_number-next-requires
put_number-next-requires c =
    let l = c.loop-name in
    let k = length_spelt_names name_bytes (take l.name-index c.args.names.now) in
    let t = length-take-le l.name-index c.args.names.now (omega arith) in
    (omega arith, omega (arith, l.invariant.past))

pub loop-name-preserved : goal.loop-name-preserved
loop-name-preserved c =
    let l = c.loop-name in
    rw (one_name_more c.args.names.now l.name-index c.loop-name-test.true)
    (after l.invariant c.put_number-next.ensures)
