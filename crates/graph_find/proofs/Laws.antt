-- The walk along a bucket, one job at a time, for a number of jobs that is known only to be above 0 or not.
use mathlib.Core.Path.{◌≡◌}
use Prim.Native.Nat.{ℕ, zero, suc, ◌≤◌, ◌<◌, ◌-◌}
use native.Mathlib.Omega.{arith}
use native.Mathlib.Numerals.{sub-one}
use borrow.Author.Tests.{eq-eqb, ne_eqb, lt-ltb, le-ltb}
use Rattle.def_words.specs.Layout.{none, NAME, NEXT}
use Rattle.def_words.specs.Words.{walk}
use Rattle.def_words.specs.declared.Found.TheVariants.{At, Missing, Damaged}

module _ (f : ℕ → ℕ → ℕ) (made name at : ℕ) where
  pub ends : (n : ℕ) → at ≡ none → Missing ≡ walk n f made name at
  unfolding walk
  ends zero e = rw (eq-eqb at none e)
  ends (suc k) e = rw (eq-eqb at none e)

  pub spent : (n : ℕ) → n ≤ 0 → (at ≡ none → ⊥) → Damaged ≡ walk n f made name at
  unfolding walk
  spent zero h e = rw (ne_eqb at none e)
  spent (suc k) h e = absurd (omega arith)

  pub outside : (n : ℕ) → (at ≡ none → ⊥) → made ≤ at → Damaged ≡ walk n f made name at
  unfolding walk
  outside zero e h = rw (ne_eqb at none e)
  outside (suc k) e h = rw (ne_eqb at none e, le-ltb at made h)

  pub here : (n : ℕ) → 0 < n → (at ≡ none → ⊥) → at < made → f NAME at ≡ name → At at ≡ walk n f made name at
  unfolding walk
  here zero p e h q = absurd (omega arith)
  here (suc k) p e h q = rw (ne_eqb at none e, lt-ltb at made h, eq-eqb (f NAME at) name q)

  pub on : (n : ℕ) → 0 < n → (at ≡ none → ⊥) → at < made → (f NAME at ≡ name → ⊥)
      → walk (n - 1) f made name (f NEXT at) ≡ walk n f made name at
  unfolding walk
  on zero p e h q = absurd (omega arith)
  on (suc k) p e h q = rw (sub-one, ne_eqb at none e, lt-ltb at made h, ne_eqb (f NAME at) name q)
