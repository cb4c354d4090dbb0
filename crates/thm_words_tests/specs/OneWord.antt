-- For ALL tables: a single word of a worker, of a job and of the counters, by the places of docs/TABLES.md; and when a
-- worker may post.
use Rattle.std.specs.Prelude.{◌≡◌, ℕ, ◌+◌, ◌*◌, ◌≤◌, ◌<◌, get_or}
use Rattle.std.proofs.Common.{ap, arith, lt-ltb}
use Rattle.def_terms.specs.declared.Sizes.{Sizes}
use Rattle.def_words.specs.Columns.{columns}
use Rattle.def_words.specs.Layout.{Tables, view}
use Rattle.thm_words_tests.specs.Judged.{Admitted}

-- ---- the words: word k of worker w's 43, and of job j's 10
abbrev pub own_word : Tables → ℕ → ℕ → ℕ
own_word t w k = get_or t.workers (43 * w + k) 0

abbrev pub job_word : Tables → ℕ → ℕ → ℕ
job_word t j k = get_or t.jobs (21 + 10 * j + k) 0

pub own_by_word : (t : Tables) (w k : ℕ) → k < 43 → (view t).worker k w ≡ own_word t w k
unfolding columns
own_by_word t w k h =
    rw (lt-ltb k 43 h) (ap (λ n. get_or t.workers n 0) {x = 0 + 43 * w + k} {y = 43 * w + k} (omega arith))

pub job_by_word : (t : Tables) (j k : ℕ) → k < 10 → (view t).job k j ≡ job_word t j k
unfolding columns
job_by_word t j k h = rw (lt-ltb k 10 h)

-- the counters of jobs made and arcs reserved
pub record Counted (s : Sizes) (t : Tables) : Type 0 where
  pub made : get_or t.jobs 4 0 ≤ s.jobs
  pub reserved : get_or t.arcs 0 0 ≤ s.arcs

-- word 9 of the held job: its spoiled word
abbrev pub spoiled_word : Tables → ℕ → ℕ
spoiled_word t w = job_word t (own_word t w 1) 9

-- the worker is idle and none of its own words turns it away
pub record MayPost (s : Sizes) (t : Tables) (w : ℕ) : Type 0 where
  pub admitted : Admitted s t w
  pub idle : own_word t w 0 ≡ 0
