-- The stored minutes, and a job's fields, by the words of the jobs table. Follows docs/TABLES.md: "Word 5 + c has the
-- minutes of class c".
use Rattle.std.specs.Prelude.{◌≡◌, refl, List, ℕ, zero, suc, ◌+◌, ◌*◌, ◌<◌, length, get_or}
use Rattle.std.proofs.Common.{ap, ◌∙◌, arith, lt-ltb}
use Rattle.def_words.specs.Columns.{columns, header, cells}
use Rattle.def_words.specs.Layout.{job_shape, stored_minutes, MINUTES}

-- n words from the i-th on: how many they are, and each of them
pub length_cells : (f : ℕ → ℕ) (i n : ℕ) → length (cells f i n) ≡ n
unfolding cells
length_cells f i zero = refl
length_cells f i (suc n) = ap suc (length_cells f (suc i) n)

pub get_d_cells : (f : ℕ → ℕ) (i n k : ℕ) → k < n → get_or (cells f i n) k 0 ≡ f (i + k)
unfolding cells
get_d_cells f i zero k h = absurd (omega arith)
get_d_cells f i (suc n) zero h = let z : i ≡ i + 0 = omega arith in ap f z
get_d_cells f i (suc n) (suc k) h =
    let e : suc i + k ≡ i + suc k = omega arith in get_d_cells f (suc i) n k (omega arith) ∙ ap f e

pub minutes_by_words : (jobs : List ℕ)
    → (length (stored_minutes jobs) ≡ 16) × ((c : ℕ) → c < 16 → get_or (stored_minutes jobs) c 0 ≡ get_or jobs (5 + c) 0)
unfolding header
minutes_by_words jobs = (length_cells (header jobs) MINUTES 16, λ c h. get_d_cells (header jobs) MINUTES 16 c h)

-- and a job's words, and those of the header
pub job_by_words : (jobs : List ℕ) (j k : ℕ) → k < 10
    → (columns job_shape jobs k j ≡ get_or jobs (21 + 10 * j + k) 0) × (header jobs k ≡ get_or jobs k 0)
unfolding columns header
job_by_words jobs j k h = (rw (lt-ltb k 10 h), refl)
