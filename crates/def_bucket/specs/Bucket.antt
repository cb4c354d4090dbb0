-- The bucket of a name: what the word product and the bucket function answer. Follows docs/RULES.md, "Tables and their
-- measures": "The bucket of a name is the top b bits of its product with 2654435769, kept to 32 bits".
use Rattle.std.specs.Prelude.{ℕ, ◌*◌, ◌-◌, ◌/◌, ◌%◌, ◌^◌}

-- a word has 32 bits
abbrev pub word_bits : ℕ
word_bits = 32

-- what a name is multiplied by: 2 ^ 32 over the golden ratio, rounded down, which spreads neighbouring names
abbrev pub multiplier : ℕ
multiplier = 2654435769

-- a product "kept to 32 bits"
unfoldable pub product_of : ℕ → ℕ → ℕ
product_of x y = x * y % 2 ^ word_bits

-- "the top b bits" of that product. docs/RULES.md has b from 1 to 8; the other numbers have an answer too, because the
-- public function takes every word: no bits give 0, and 32 bits or more give the whole product, since 32 - bits is then
-- 0.
unfoldable pub bucket_of : ℕ → ℕ → ℕ
bucket_of name bits = product_of name multiplier / 2 ^ (word_bits - bits)
