-- `put_list` stores a list, its count first, and nothing for the empty list.
use Prim.Native.Nat.{ℕ, ◌+◌, ◌-◌, ◌*◌, ◌≤◌}
use Rattle.def_sheets.proofs.NumberLaws.{length_spelt}
use mathlib.Core.Path.{◌≡◌}
use mathlib.Core.List.{List}
use native.Mathlib.Omega.{arith}
use lib.ListN.{length, take, drop}
use Rattle.def_numbers.specs.Numbers.{name_bytes, count_bytes}
use Rattle.def_sheets.specs.Offset.{Part}
use Rattle.sheet_limits.proofs.Sizes.{bytes_some, list_bytes_lem, list_some, taken}
use Rattle.sheet_writer.specs.declared.Fields.{Fields}
use Rattle.sheet_writer.specs.Put.{Due}
use Rattle.sheet_writer.proofs.Puts.{after, part_fits, was_put}
use Rattle.sheet_writer.proofs.put_list.Goals as goal

-- room for the count and the names
room : (words : List ℕ) (fields : Fields) (offset : ℕ) (out : List ℕ)
    → Due Part.list words fields offset out → (fields.count ≡ 0 → ⊥)
    → offset + (count_bytes + name_bytes * fields.count) ≤ length out
room words fields offset out due some =
    let f = fields in
    let k = list_bytes_lem words f.first f.count f.class f.grower due.fits.names in
    omega (arith, part_fits due, bytes_some _ some)

pub put_number-offset-requires : goal.put_number-offset-requires
put_number-offset-requires c =
    let r = room c.args.words.now c.args.fields c.args.offset c.args.out.now c.requires c.if-fields-eq0.false in
    (omega arith, omega arith)

pub put_names-requires : goal.put_names-requires
put_names-requires c =
    let f = c.args.fields in
    let words = c.args.words.now in
    let r = room words f c.args.offset c.args.out.now c.requires c.if-fields-eq0.false in
    let p = c.put_number-offset.ensures.past in
    let k = length_spelt count_bytes f.count in
    let q : f.first + f.count - f.first ≡ f.count = omega arith in
    let t = taken words f.first f.count c.requires.fits.names in
    rw (q, t) (omega arith)

pub returns : goal.returns
returns c =
    let words = c.args.words.now in
    let f = c.args.fields in
    let q : f.first + f.count - f.first ≡ f.count = omega arith in
    rw (list_some f.count c.if-fields-eq0.false _ (take f.count (drop f.first words))
    (taken words f.first f.count c.requires.fits.names))
    (was_put (after c.put_number-offset.ensures (rw q at c.put_names.ensures)))
