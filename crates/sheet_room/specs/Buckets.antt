-- The table of names that have entered: where the newest name of a bucket stands, and the next older one of each name's
-- bucket. There are as many buckets as places.
use Rattle.std.specs.Prelude.{◌≡◌, List, ℕ, zero, suc, ◌≤◌, ◌<◌, eqb, length, get_or}
use Rattle.def_numbers.specs.Numbers.{most_jobs}
use Rattle.def_basics.specs.Base.{pick}
use Rattle.def_bucket.specs.Bucket.{bucket_of}

abbrev pub table_bits : ℕ
table_bits = 12

abbrev pub table_bucket : ℕ → ℕ
table_bucket name = bucket_of name table_bits

-- one more than the place of the newest of the first k names that is in bucket b, or 0
unfoldable pub last : ℕ → List ℕ → ℕ → ℕ
last b names zero = 0
last b names (suc k) = pick (eqb (table_bucket (get_or names k 0)) b) (suc k) (last b names k)

-- the heads and the links are those of the first `made` names
pub record Indexed (names heads links : List ℕ) (made : ℕ) : Type 0 where
  pub places : length names ≡ most_jobs
  pub buckets : length heads ≡ most_jobs
  pub chains : length links ≡ most_jobs
  pub room : made ≤ most_jobs
  pub newest : (b : ℕ) → b < most_jobs → get_or heads b 0 ≡ last b names made
  pub older : (i : ℕ) → i < made → get_or links i 0 ≡ last (table_bucket (get_or names i 0)) names i
