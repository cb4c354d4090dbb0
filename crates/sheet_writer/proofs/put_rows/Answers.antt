-- `put_rows` stores the entries of the rows one after the other. The loop's invariant: what is left to store, stored
-- from the running offset on, makes the whole.
use Prim.Native.Nat.{◌+◌}
use mathlib.Core.Path.{refl, ap}
use native.Mathlib.Omega.{arith}
use native.Mathlib.Nat.{sub-zero}
use lib.ListN.{length}
use Rattle.def_sheets.specs.Job.{encode_sheet}
use Rattle.def_sheets.specs.Write.{entries_from}
use Rattle.thm_sheets.specs.SheetOffset.{so_far_length}
use Rattle.sheet_writer.proofs.Puts.{onward}
use Rattle.sheet_limits.proofs.Rows.{next_bytes, next_length, next_sound, end_bytes}
use Rattle.sheet_writer.proofs.put_rows.Goals as goal

pub loop-i-init : goal.loop-i-init
unfolding entries_from encode_sheet
loop-i-init c = (
  simp sub-zero c.requires.1,
  refl,
  simp sub-zero,
)

pub put_row-next-requires : goal.put_row-next-requires
put_row-next-requires c =
    let rows = c.args.rows.now in
    let i = c.loop-i.i in
    let a = so_far_length rows i c.args.n (omega arith) in
    let b = next_length rows i c.args.n (omega arith) in (
      omega arith,
      (next_sound rows i c.args.n (omega arith) c.loop-i.invariant.0).0,
      c.loop-i.invariant.1,
      omega arith,
    )

pub loop-i-preserved : goal.loop-i-preserved
loop-i-preserved c =
    let rows = c.args.rows.now in
    let i = c.loop-i.i in
    let a = so_far_length rows i c.args.n (omega arith) in
    let a' = so_far_length rows (i + 1) c.args.n (omega arith) in
    let b = next_length rows i c.args.n (omega arith) in
    let f = c.put_row-next.ensures in (
      (next_sound rows i c.args.n (omega arith) c.loop-i.invariant.0).1,
      omega (arith, f.past),
      onward _ f (next_bytes rows i c.args.n (omega arith)) c.loop-i.invariant.2,
    )

pub returns : goal.returns
returns c =
    let e = end_bytes c.args.rows.now c.loop-i.i c.args.n (omega arith) in
    let a = so_far_length c.args.rows.now c.loop-i.i c.args.n (omega arith) in
    let b = ap length e in
    record { stored = rw e at c.loop-i.invariant.2; past = omega arith }
