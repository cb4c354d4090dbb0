-- Texts that are not their number in decimal, by the statement of Decimal.antt: the least figure first, a 0 in front,
-- nothing for 0.
use Rattle.std.specs.Prelude.{◌≡◌, refl, [], ◌∷◌, ℕ, length}
use Rattle.std.proofs.Common.{ap, arith, lit≤}
use Rattle.thm_day_cases.specs.Decimal.{worth, Decimal}

-- 12 as 21
pub backwards : Decimal 12 (50 ∷ 49 ∷ []) → ⊥
unfolding worth
backwards d = let z : ◌≡◌ {A = ℕ} 21 12 = d.worth in omega arith

-- 7 as 07
pub padded : Decimal 7 (48 ∷ 55 ∷ []) → ⊥
padded d = omega (arith, d.leading (lit≤ tt))

-- 0 as nothing
pub nothing : Decimal 0 [] → ⊥
nothing d = let z : ◌≡◌ {A = ℕ} 0 1 = ap length (d.nought refl) in omega arith
