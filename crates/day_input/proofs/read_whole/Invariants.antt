-- `read_whole` counts bytes at the start of the buffer: each read adds at most what is left, and the buffer keeps its
-- length.
use mathlib.Core.Path.{◌≡◌}
use Prim.Native.Nat.{◌-◌, ◌≤◌}
use lib.ListN.{length}
use Rattle.day_input.proofs.read_whole.Given as goal

abbrev pub invariant-loop-bytes : goal.invariant-loop-bytes
invariant-loop-bytes g l = (length l.buf ≡ length l.initial.buf) × (l.bytes ≤ length l.buf)

abbrev pub decreases-loop-bytes : goal.decreases-loop-bytes
decreases-loop-bytes g l = length l.buf - l.bytes
