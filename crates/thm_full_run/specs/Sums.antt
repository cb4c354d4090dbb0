-- Sums over the jobs of a graph and over its workers, and what a change of one job or of one worker's call does to
-- them.
use Rattle.std.specs.Prelude.{◌≡◌, ◌≢◌, length, get_or, set}
use mathlib.Core.List.{List, [], ◌∷◌, ◌++◌}
use Prim.Native.Nat.{ℕ, zero, suc, ◌+◌, ◌≤◌, ◌<◌}
use native.Mathlib.Omega.{arith}
use Rattle.def_basics.specs.Base.{update}
use Rattle.def_basics.specs.Laws.{update_same, update_other}
use Rattle.def_basics.specs.Counting.{sum, sum_at}
use Rattle.def_rules.specs.Rules.{Job, no_job, Call, Worker}

-- ---- over the jobs
unfoldable pub total : (Job → ℕ) → List Job → ℕ
total f [] = 0
total f (x ∷ l) = f x + total f l

module _ (f : Job → ℕ) where
  pub total_set : (l : List Job) (j : ℕ) (y : Job) → j < length l
      → total f (set l j y) + f (get_or l j no_job) ≡ total f l + f y
  unfolding total
  total_set [] j y h = absurd (omega arith)
  total_set (x ∷ l) zero y h = omega arith
  total_set (x ∷ l) (suc j) y h = omega (arith, total_set l j y (omega arith))

  pub total_snoc : (l : List Job) (y : Job) → total f (l ++ (y ∷ [])) ≡ total f l + f y
  unfolding total
  total_snoc [] y = omega arith
  total_snoc (x ∷ l) y = omega (arith, total_snoc l y)

  -- no job has more than all have
  pub total_one : (l : List Job) (j : ℕ) → j < length l → f (get_or l j no_job) ≤ total f l
  unfolding total
  total_one [] j h = absurd (omega arith)
  total_one (x ∷ l) zero h = omega arith
  total_one (x ∷ l) (suc j) h = omega (arith, total_one l j (omega arith))

-- ---- over the workers: the call of worker w changes, and what the others' calls count stays
pub sum_turned : (n : ℕ) (f k : Call → ℕ) (before : ℕ → Worker) (w : ℕ) (y : Worker) → w < n
    → ((v : ℕ) → v ≢ w → k (before v).call ≡ f (before v).call)
    → sum n (λ v. k (update before w y v).call) + f (before w).call ≡ sum n (λ v. f (before v).call) + k y.call
sum_turned n f k before w y h same =
    rw (update_same before w y) at
    (sum_at n (λ v. f (before v).call) (λ v. k (update before w y v).call) w h
    (λ v z. rw (update_other before w y v z) (same v z)))
