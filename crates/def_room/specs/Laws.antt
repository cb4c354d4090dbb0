-- The listed names of an add are those of its job, also where other names stand past its count.
use Rattle.std.specs.Prelude.{◌≡◌, refl, List, [], ◌∷◌, ◌++◌, ℕ, length}
use Rattle.std.proofs.Common.{ap}
use Rattle.def_basics.specs.Base.{prefix}

pub prefix_front : (l m : List ℕ) → prefix (length l) (l ++ m) ≡ l
unfolding prefix
prefix_front [] m = refl
prefix_front (x ∷ l) m = ap (λ k. x ∷ k) (prefix_front l m)

pub prefix_all : (l : List ℕ) → prefix (length l) l ≡ l
unfolding prefix
prefix_all [] = refl
prefix_all (x ∷ l) = ap (λ k. x ∷ k) (prefix_all l)
