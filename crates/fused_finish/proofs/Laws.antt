-- Where nothing turns a finish away it is the mark's, and a number that does is answered.
use mathlib.Core.Path.{◌≡◌, refl}
use mathlib.Core.Bool.{true, false}
use Prim.Native.Nat.{ℕ, zero, suc}
use lib.Dec.{eqb}
use Rattle.def_terms.specs.Terms.{Finish, bit}
use Rattle.def_terms.specs.Runs.{Result, result_of}
use Rattle.def_terms.specs.declared.Sizes.{Sizes}
use Rattle.def_terms.specs.declared.Answer.TheVariants.{Refused}
use Rattle.def_words.specs.Layout.{Tables, view, none, NAME, PHASE, IDLE}
use Rattle.def_words.specs.Words.{judged_outcome, plan_mark}
use Rattle.def_fused.specs.FusedWorker.{hold_of}
use Rattle.def_fused.specs.FusedFinish.{mark_in, mark_if, finish_in, finish_if_idle}

marks : (n : ℕ) (s : Sizes) (t : Tables) (w o : ℕ) → n ≡ 0
    → mark_if n s t w o ≡ mark_in s t w o (plan_mark s (view t) (hold_of t w))
unfolding mark_if
marks zero s t w o h = refl
marks (suc n) s t w o h = cc

turns : (n : ℕ) (s : Sizes) (t : Tables) (w o : ℕ) → (n ≡ 0 → ⊥) → mark_if n s t w o ≡ result_of (Refused n 0) t
unfolding mark_if
turns zero s t w o h = absurd (h refl)
turns (suc n) s t w o h = refl

-- with what the code finds of the worker's phase and hold, of the held job's name, and the number that it is judged by
module _ (s : Sizes) (t : Tables) (w : ℕ) (f : Finish) {phase held called n : ℕ} {r : Result Tables}
    (p : phase ≡ (view t).worker PHASE w) (idle : eqb phase IDLE ≡ true) (h : held ≡ hold_of t w)
    (some : eqb held none ≡ false) (c : called ≡ (view t).job NAME held) (holds : eqb called f.name ≡ true)
    (k : n ≡ judged_outcome s (view t) held f.failed) where
  pub goes : n ≡ 0 → r ≡ mark_in s t w (bit f.failed) (plan_mark s (view t) held) → r ≡ finish_if_idle s t w f
  unfolding finish_if_idle finish_in
  goes z e = rw (← p, idle, ← h, some, ← c, holds, ← k, marks n s t w (bit f.failed) z, ← h) e

  pub judged : (n ≡ 0 → ⊥) → r ≡ result_of (Refused n 0) t → r ≡ finish_if_idle s t w f
  unfolding finish_if_idle finish_in
  judged z e = rw (← p, idle, ← h, some, ← c, holds, ← k, turns n s t w (bit f.failed) z) e
