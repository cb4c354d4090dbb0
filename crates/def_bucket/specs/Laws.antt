-- The laws of the bucket: it is below the bucket count, for any number of bits; what no bits and all bits give;
-- docs/RULES.md's five buckets, and those of large names. Follows docs/RULES.md, "Tables and their measures", and
-- "Checked by hand", case 7.
use Rattle.std.specs.Prelude.{List, [], ◌∷◌, map, ◌≡◌, refl, ℕ, ◌+◌, ◌*◌, ◌-◌, ◌/◌, ◌%◌, ◌^◌, ◌≤◌, ◌<◌, get_or}
use Rattle.std.proofs.Common.{ap, lt_of_lt_of_le, mod-lt, div-one, arith, pow_mono, pow_pos, shr_lt}
use Rattle.std.proofs.lemmas.Bool.{eqb-false}
use Rattle.def_bucket.specs.Bucket.{word_bits, multiplier, product_of, bucket_of}

-- a product kept to 32 bits is a word
pub product_below : (x y : ℕ) → product_of x y < 2 ^ word_bits
unfolding product_of
product_below x y = mod-lt (x * y) (pow_pos word_bits)

-- the bucket count is 2 ^ bits, and each bucket lies below it
pub below : (name bits : ℕ) → bucket_of name bits < 2 ^ bits
unfolding bucket_of
below name bits =
    shr_lt bits (word_bits - bits)
    (lt_of_lt_of_le (product_below name multiplier)
    (pow_mono {i = word_bits} {j = bits + (word_bits - bits)} (omega arith)))

-- no bits: the one bucket, 0
pub no_bits : (name : ℕ) → bucket_of name 0 ≡ 0
no_bits name = omega (arith, below name 0)

-- as many bits as a word has, or more: the whole product
pub all_bits : (name bits : ℕ) → word_bits ≤ bits → bucket_of name bits ≡ product_of name multiplier
unfolding bucket_of
all_bits name bits h =
    let none : word_bits - bits ≡ 0 = omega arith in
    rw (none, div-one)

-- "With b = 2 the names 1, 2, 3, 4, 5 fall in buckets 2, 0, 3, 1, 0."
pub five_buckets : map (λ (name : ℕ). bucket_of name 2) (1 ∷ 2 ∷ 3 ∷ 4 ∷ 5 ∷ []) ≡ 2 ∷ 0 ∷ 3 ∷ 1 ∷ 0 ∷ []
unfolding bucket_of product_of
five_buckets = refl

-- the same by its numbers: "the top b bits of its product with 2654435769, kept to 32 bits"
pub by_numbers : (name bits : ℕ) → bucket_of name bits ≡ name * 2654435769 % 4294967296 / 2 ^ (32 - bits)
unfolding bucket_of product_of
by_numbers name bits = refl

-- the buckets of four large names, with b = 8 and b = 4
abbrev pub large_names : List ℕ
large_names = 4294967295 ∷ 3000000000 ∷ 123456789 ∷ 65536 ∷ []

abbrev pub Large : (ℕ → ℕ → ℕ) → Type 0
Large bucket =
    (map (λ (name : ℕ). bucket name 8) large_names ≡ 97 ∷ 231 ∷ 186 ∷ 121 ∷ [])
    × (map (λ (name : ℕ). bucket name 4) large_names ≡ 6 ∷ 14 ∷ 11 ∷ 7 ∷ [])

pub large_buckets : Large bucket_of
unfolding bucket_of product_of
large_buckets = (refl, refl)

-- they tell apart what the five do not: another multiplier near this one has the same five, and not these
abbrev pub other_bucket : ℕ → ℕ → ℕ
other_bucket name bits = name * 2654435761 % 4294967296 / 2 ^ (32 - bits)

pub same_five : map (λ (name : ℕ). other_bucket name 2) (1 ∷ 2 ∷ 3 ∷ 4 ∷ 5 ∷ []) ≡ 2 ∷ 0 ∷ 3 ∷ 1 ∷ 0 ∷ []
same_five = refl

pub other_large : Large other_bucket → ⊥
other_large h = eqb-false 80 231 refl (ap (λ l. get_or l 1 0) h.0)
