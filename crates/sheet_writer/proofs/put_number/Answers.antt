-- `put_number` stores the low bytes of a number, least first.
use Prim.Native.Nat.{◌+◌, ◌-◌}
use mathlib.Core.Path.{◌≡◌, ◌∙◌}
use native.Mathlib.Omega.{arith}
use lib.ListN.{length}
use Rattle.def_sheets.specs.Number.{spelt}
use Rattle.def_sheets.proofs.NumberLaws.{length_spelt}
use Rattle.sheet_writer.proofs.Puts.{low_bytes, copied}
use Rattle.sheet_writer.proofs.put_number.Goals as goal

pub returns : goal.returns
returns g c =
    let a = c.args in
    let n = g.row.N in
    let k = length_spelt n a.number in
    let e = c.copy_from_slice.ensures.after in
    let b = low_bytes n a.number c.requires.0 in
    let m : a.offset + n - a.offset ≡ length (spelt n a.number) = omega arith in
    copied a.out.now (spelt n a.number) _ a.offset _ _ (e ∙ rw c.to_le_bytes.ensures b) m (omega arith) (omega arith)
