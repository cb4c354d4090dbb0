-- `put_rows` stores the entries of the rows one after the other. The loop's invariant: what is left to store, stored
-- from the running offset on, makes the whole.
use mathlib.Core.Path.{◌≡◌}
use lib.ListN.{length}
use lib.Seq.{sets}
use Rattle.def_sheets.specs.Write.{sheet_fault, SheetFault}
use Rattle.thm_sheets.specs.SheetOffset.{sheet_so_far}
use Rattle.sheet_limits.proofs.Rows.{rest, rest_bytes}
use Rattle.sheet_writer.proofs.put_rows.Given as goal

abbrev pub invariant-loop-i : goal.invariant-loop-i
invariant-loop-i l =
    (sheet_fault l.i (rest l.rows l.i l.n) ≡ SheetFault.none)
    × (l.next ≡ length (sheet_so_far l.rows l.i))
    × (sets l.out l.next (rest_bytes l.rows l.i l.n) ≡ sets l.initial.out 0 (sheet_so_far l.rows l.n))
