-- `write_digits` writes a number's digits from the last on. The loop's invariant: what is left of the number, before
-- the digits written, makes the whole.
use Prim.Native.Nat.{◌≤◌}
use mathlib.Core.Path.{◌≡◌}
use lib.ListN.{length, drop}
use Rattle.def_day_lines.specs.Text.{digits, decimal}
use Rattle.day_text.proofs.write_digits.Given as goal

abbrev pub invariant-loop-from : goal.invariant-loop-from
invariant-loop-from l =
    (l.from ≤ 20) × (length l.bytes ≡ 20) × (digits l.from l.rest (drop l.from l.bytes) ≡ decimal l.number)
