-- What a test chose: the laws of `pick`, by which every definition of reading and writing chooses between an answer and
-- a refusal.
use Rattle.std.specs.Prelude.{◌≡◌, refl, Bool, true, false, ◌&&◌}
use Rattle.def_basics.specs.Base.{pick}
use Rattle.def_basics.specs.Laws.{never}

pub both : (a b : Bool) → a && b ≡ true → (a ≡ true) × (b ≡ true)
both true b h = (refl, h)
both false b h = never (cc)

-- the test held if what it chose has a value that its second choice has not
pub held : {A B : Type 0} (value : A → B) (b : B) (test : Bool) (x y : A) → (value y ≡ b → ⊥)
    → value (pick test x y) ≡ b
    → (test ≡ true) × (value x ≡ b)
held value b true x y other h = (refl, h)
held value b false x y other h = absurd (other h)

-- what holds of both choices holds of the chosen one
pub picked : {A : Type 0} (P : A → Type 0) (test : Bool) (x y : A) → P x → P y → P (pick test x y)
picked P true x y p q = p
picked P false x y p q = q

-- by what the test is
pub by_test : {A X : Type 0} (test : Bool) (x y a : A) → pick test x y ≡ a → (test ≡ true → x ≡ a → X)
    → (test ≡ false → y ≡ a → X) → X
by_test true x y a h held_x held_y = held_x refl h
by_test false x y a h held_x held_y = held_y refl h
