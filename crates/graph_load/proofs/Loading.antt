-- What a load does where a number refuses it.
use mathlib.Core.Path.{◌≡◌, refl}
use mathlib.Core.List.{List}
use Prim.Native.Nat.{ℕ, zero, suc}
use Rattle.def_terms.specs.Runs.{result_of}
use Rattle.def_terms.specs.declared.Answer.TheVariants.{Refused}
use Rattle.def_words.specs.Layout.{Tables}
use Rattle.def_words.specs.Words.{loading}

pub loading_not : (n : ℕ) (t : Tables) (m : List ℕ) → (n ≡ 0 → ⊥) → loading n t m ≡ result_of (Refused n 0) t
unfolding loading
loading_not zero t m h = absurd (h refl)
loading_not (suc n) t m h = refl
