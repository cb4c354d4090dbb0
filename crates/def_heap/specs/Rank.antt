-- The order of ranks, by two numbers: the greater weight has the lower rank, and of equal weights the smaller name.
-- Neither number has a limit, so no two ranks are taken for one.
use Rattle.std.specs.Prelude.{◌≡◌, Bool, ◌&&◌, ◌||◌, ◌≤◌, ◌<◌}
use Rattle.std.proofs.Math.Path.{refl}
use Rattle.std.proofs.Common.{sym}
use Rattle.std.proofs.Math.Bool.{true, false}
use native.Mathlib.Omega.{arith}
use Rattle.std.proofs.Math.Dec.{ltb, eqb}
use borrow.Author.Tests.{eqb-true, eqb-false, ltb-true, ltb-false, lt-ltb, le-ltb, eq-eqb}
use Rattle.def_basics.specs.Laws.{never}
use Rattle.def_heap.specs.declared.Rank.{Rank}

unfoldable pub lower : Rank → Rank → Bool
lower a b = ltb b.weight a.weight || (eqb a.weight b.weight && ltb a.name b.name)

abbrev pub Lower : Rank → Rank → Type 0
Lower a b = lower a b ≡ true

-- a rank is at most another: the other is not lower
abbrev pub AtMost : Rank → Rank → Type 0
AtMost a b = lower b a ≡ false

-- ---- what both mean, by the numbers
module _ (a b : Rank) where
  pub lower_means : Lower a b → (b.weight ≤ a.weight) × (a.weight ≡ b.weight → a.name < b.name)
  unfolding lower
  lower_means =
      go (ltb b.weight a.weight) refl (eqb a.weight b.weight) refl (ltb a.name b.name) refl
    where
      go : (x : Bool) → ltb b.weight a.weight ≡ x → (y : Bool) → eqb a.weight b.weight ≡ y → (z : Bool)
          → ltb a.name b.name ≡ z → (x || (y && z)) ≡ true
          → (b.weight ≤ a.weight) × (a.weight ≡ b.weight → a.name < b.name)
      go true e y f z g h = let less = ltb-true b.weight a.weight e in (omega arith, λ same. absurd (omega arith))
      go false e true f true g h =
          (omega (arith, eqb-true a.weight b.weight f), λ same. ltb-true a.name b.name g)
      go false e true f false g h = never (cc)
      go false e false f z g h = never (cc)

  pub means_lower : b.weight ≤ a.weight → (a.weight ≡ b.weight → a.name < b.name) → Lower a b
  unfolding lower
  means_lower h names = go (ltb b.weight a.weight) refl
    where
      go : (x : Bool) → ltb b.weight a.weight ≡ x
          → (x || (eqb a.weight b.weight && ltb a.name b.name)) ≡ true
      go true e = refl
      go false e =
          let same : a.weight ≡ b.weight = omega (arith, ltb-false b.weight a.weight e) in
          rw (eq-eqb a.weight b.weight same, lt-ltb a.name b.name (names same)) refl

  pub at_most_means : AtMost a b → (b.weight ≤ a.weight) × (a.weight ≡ b.weight → a.name ≤ b.name)
  unfolding lower
  at_most_means =
      go (ltb a.weight b.weight) refl (eqb b.weight a.weight) refl (ltb b.name a.name) refl
    where
      go : (x : Bool) → ltb a.weight b.weight ≡ x → (y : Bool) → eqb b.weight a.weight ≡ y → (z : Bool)
          → ltb b.name a.name ≡ z → (x || (y && z)) ≡ false
          → (b.weight ≤ a.weight) × (a.weight ≡ b.weight → a.name ≤ b.name)
      go true e y f z g h = never (cc)
      go false e true f true g h = never (cc)
      go false e true f false g h =
          (ltb-false a.weight b.weight e, λ same. ltb-false b.name a.name g)
      go false e false f z g h =
          (ltb-false a.weight b.weight e, λ same. absurd (eqb-false b.weight a.weight f (sym same)))

  pub means_at_most : b.weight ≤ a.weight → (a.weight ≡ b.weight → a.name ≤ b.name) → AtMost a b
  unfolding lower
  means_at_most h names = rw (le-ltb a.weight b.weight h) (go (eqb b.weight a.weight) refl)
    where
      go : (y : Bool) → eqb b.weight a.weight ≡ y → (y && ltb b.name a.name) ≡ false
      go true e = le-ltb b.name a.name (names (sym (eqb-true b.weight a.weight e)))
      go false e = refl

-- ---- laws
pub at_most_same : (a : Rank) → AtMost a a
at_most_same a = means_at_most a a (omega arith) (λ _. omega arith)

pub at_most_on : (a b c : Rank) → AtMost a b → AtMost b c → AtMost a c
at_most_on a b c f g =
    let x = at_most_means a b f in
    let y = at_most_means b c g in
    means_at_most a c (omega (arith, x.0, y.0))
    (λ same.
    let one : a.weight ≡ b.weight = omega (arith, x.0, y.0) in
    let two : b.weight ≡ c.weight = omega (arith, x.0, y.0) in
    omega (arith, x.1 one, y.1 two))

pub lower_at_most : (a b : Rank) → Lower a b → AtMost a b
lower_at_most a b h =
    let x = lower_means a b h in
    means_at_most a b x.0 (λ same. omega (arith, x.1 same))

-- a rank that is at most another is lower, where they differ in weight or name
pub at_most_lower : (a b : Rank) → AtMost a b → (a.weight ≡ b.weight → a.name ≡ b.name → ⊥) → Lower a b
at_most_lower a b h differ =
    let x = at_most_means a b h in
    means_lower a b x.0 (λ same. omega (arith, x.1 same, differ same))
