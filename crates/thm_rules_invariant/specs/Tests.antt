-- Laws of tests, and of the numbers 0 and 1 that stand for them.
use Rattle.std.specs.Prelude.{◌≡◌, refl, Bool, true, false, ◌||◌, ◌+◌, ◌≤◌, ◌<◌}
use Rattle.std.proofs.Common.{sym, arith}
use Rattle.def_terms.specs.Terms.{bit}

-- two tests that hold together
pub same_test : (a b : Bool) → (a ≡ true → b ≡ true) → (b ≡ true → a ≡ true) → a ≡ b
same_test true b f g = sym (f refl)
same_test false true f g = g refl
same_test false false f g = refl

-- one of two tests holds
pub or-true : {P : Type 0} (a b : Bool) → (a || b) ≡ true → (a ≡ true → P) → (b ≡ true → P) → P
or-true true b e f g = f refl
or-true false b e f g = g e

pub or_none : (a b : Bool) → b ≡ false → (a || b) ≡ a
or_none true b e = refl
or_none false b e = e

-- ---- as numbers
pub lit : (b : Bool) → 0 < bit b → b ≡ true
lit true h = refl
lit false h = absurd (omega arith)

pub dark : (b : Bool) → bit b ≡ 0 → b ≡ false
dark true h = absurd (omega arith)
dark false h = refl

pub bit_left : (a b : Bool) → bit a ≤ bit (a || b)
bit_left true b = omega arith
bit_left false b = omega arith

pub bit_right : (a b : Bool) → bit b ≤ bit (a || b)
bit_right true true = omega arith
bit_right true false = omega arith
bit_right false b = omega arith

pub bit_both : (a b : Bool) → bit (a || b) ≤ bit a + 1
bit_both true b = omega arith
bit_both false true = omega arith
bit_both false false = omega arith
