-- What the limits say of the bucket bits.
use mathlib.Core.Path.{◌≡◌}
use mathlib.Core.Bool.{Bool, true, ◌&&◌}
use Prim.Native.Nat.{◌≤◌}
use lib.Dec.{leb}
use borrow.Author.Tests.{leb-true}
use Rattle.def_numbers.specs.Numbers.{most_jobs, most_arcs, most_bits, most_workers}
use Rattle.def_basics.specs.Laws.{and_left, and_right}
use Rattle.def_terms.specs.Terms.{within_limits}
use Rattle.def_terms.specs.declared.Sizes.{Sizes}

-- the fourth of five tests
within : (a b c d e : Bool) → (a && b && c && d && e) ≡ true → d ≡ true
within a b c d e h = and_right (a && b && c) d (and_left (a && b && c && d) e h)

pub bits_within : (s : Sizes) → within_limits s ≡ true → s.bits ≤ most_bits
unfolding within_limits
bits_within s h =
    leb-true s.bits most_bits
    (and_right (leb 1 s.bits) (leb s.bits most_bits)
    (within (leb 1 s.jobs) (leb s.jobs most_jobs) (leb s.arcs most_arcs)
    (leb 1 s.bits && leb s.bits most_bits)
    (leb 1 s.workers && leb s.workers most_workers)
    h))
