-- The bucket bits of sizes that have room, and how many words buckets need.
use mathlib.Core.Path.{◌≡◌}
use mathlib.Core.Bool.{Bool, true, ◌&&◌}
use Prim.Native.Nat.{ℕ, ◌≤◌}
use native.Mathlib.Omega.{arith}
use Rattle.def_numbers.specs.Numbers.{most_bits}
use Rattle.def_basics.specs.Laws.{and_left}
use Rattle.def_terms.specs.Terms.{within_limits}
use Rattle.def_terms.specs.declared.Sizes.{Sizes}
use Rattle.def_words.specs.Layout.{bucket_shape, need}
use Rattle.graph_sizes.proofs.Laws.{bits_within}

pub room_bits : (s : Sizes) (long : Bool) → (within_limits s && long) ≡ true → s.bits ≤ most_bits
room_bits s long h = bits_within s (and_left (within_limits s) long h)

-- a bucket is one word, and there are no counters before it
pub buckets_need : (n : ℕ) → need bucket_shape n ≡ n
buckets_need n = omega arith
