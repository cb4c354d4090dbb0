-- Jobs not finished, counted one by one.
use mathlib.Core.Path.{◌≡◌, refl}
use mathlib.Core.Logic.{◌≢◌}
use Prim.Native.Nat.{ℕ, suc, ◌+◌}
use native.Mathlib.Omega.{arith}
use borrow.Author.Tests.{eq-eqb, ne_eqb}
use Rattle.def_day.specs.Rounds.{unfinished}

pub unfinished_done : (label : ℕ → ℕ) (n : ℕ) → label n ≡ 2 → unfinished label (suc n) ≡ unfinished label n
unfolding unfinished
unfinished_done label n e = rw (eq-eqb (label n) 2 e) (omega arith)

pub unfinished_more : (label : ℕ → ℕ) (n : ℕ) → label n ≢ 2 → unfinished label (suc n) ≡ 1 + unfinished label n
unfolding unfinished
unfinished_more label n e = rw (ne_eqb (label n) 2 e)

pub unfinished_none : (label : ℕ → ℕ) → 0 ≡ unfinished label 0
unfolding unfinished
unfinished_none label = refl
