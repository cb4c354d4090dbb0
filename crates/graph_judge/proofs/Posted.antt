-- What a post does where a number refuses it.
use mathlib.Core.Path.{◌≡◌, refl}
use mathlib.Core.List.{List}
use Prim.Native.Nat.{ℕ, zero, suc}
use Rattle.def_terms.specs.Runs.{result_of}
use Rattle.def_terms.specs.declared.Answer.TheVariants.{Refused}
use Rattle.def_words.specs.Layout.{Tables}
use Rattle.def_words.specs.Words.{posted}

pub posted_not : (n : ℕ) (t : Tables) (w : ℕ) (r : List ℕ) → (n ≡ 0 → ⊥) → posted n t w r ≡ result_of (Refused n 0) t
unfolding posted
posted_not zero t w r h = absurd (h refl)
posted_not (suc n) t w r h = refl
