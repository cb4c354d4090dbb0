-- `bucket::bucket` meets its contract: the shift is the definition's division by a power of two, and where 32 bits or
-- more are asked for nothing is shifted.
use mathlib.Core.Path.{◌∙◌, sym}
use native.Mathlib.Nat.{lt_of_le_of_lt}
use borrow.Author.Rules.{rules}
use lib.Pow.{shr_le}
use Rattle.def_bucket.specs.Bucket.{bucket_of}
use Rattle.def_bucket.specs.Laws.{all_bits}
use Rattle.def_bucket.proofs.bucket.Goals as goal

pub overflow_cast-result-then-bits-lt-WORD_BITS-2 : goal.overflow_cast-result-then-bits-lt-WORD_BITS-2
overflow_cast-result-then-bits-lt-WORD_BITS-2 c = record { fits = lt_of_le_of_lt (shr_le c.product-mixed.result _) (search rules) }

pub returns-then-bits-lt-WORD_BITS : goal.returns-then-bits-lt-WORD_BITS
unfolding bucket_of
returns-then-bits-lt-WORD_BITS c = rw c.product-mixed.ensures

pub returns-else-bits-lt-WORD_BITS : goal.returns-else-bits-lt-WORD_BITS
returns-else-bits-lt-WORD_BITS c = c.product-mixed.ensures ∙ sym (all_bits _ _ c.if-bits-lt-WORD_BITS.false)
