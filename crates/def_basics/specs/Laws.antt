-- Laws of choice by a test, of maps changed at one place and of lists, said once for all crates.
use Rattle.std.specs.Prelude.{◌≡◌, refl, ◌≢◌, Bool, true, false, ◌&&◌, ◌||◌, List, [], ◌∷◌, ◌++◌, ℕ, zero, suc, ◌+◌, ◌<◌, length, get_or, set}
use Rattle.std.proofs.Common.{ap, ◌∙◌, arith, length-append, get_or-set_same, get_or-set_other, eq-eqb, ne_eqb}
use Rattle.std.proofs.Math.Decide.{ℕ_discrete, dec_lt}
use Rattle.std.proofs.Math.ListN.{get_or-append, get_or-eq_default}
use Rattle.std.proofs.Math.Seq.{get_or-append_seam}
use Rattle.def_basics.specs.Base.{pick, update, prefix}

-- anything follows where two constructors are said to be equal: then so are 0 and 1
pub never : {A : Type 0} → ◌≡◌ {A = ℕ} 0 1 → A
never e = absurd (omega arith)

-- ---- tests
pub and_left : (a b : Bool) → (a && b) ≡ true → a ≡ true
and_left true b e = refl
and_left false b e = e

pub and_right : (a b : Bool) → (a && b) ≡ true → b ≡ true
and_right true b e = e
and_right false b e = cc

-- a test that means P fails where P does not hold
pub fails : {P : Type 0} (b : Bool) → (b ≡ true → P) → (P → ⊥) → b ≡ false
fails true f g = absurd (g (f refl))
fails false f g = refl

pub or_left : (a b : Bool) → (a || b) ≡ false → a ≡ false
or_left true b e = e
or_left false b e = refl

pub or_right : (a b : Bool) → (a || b) ≡ false → b ≡ false
or_right true b e = cc
or_right false b e = e

-- what holds of both sides of a choice holds of the choice
pub pick_by : {A : Type 0} (Q : A → Type 0) (b : Bool) {x y : A} → (b ≡ true → Q x) → (b ≡ false → Q y) → Q (pick b x y)
pick_by Q true f g = f refl
pick_by Q false f g = g refl

-- ---- a map changed at one place
pub update_same : {A : Type 0} (f : ℕ → A) (i : ℕ) (v : A) → update f i v i ≡ v
unfolding update
update_same f i v = rw (eq-eqb i i refl)

pub update_at : {A : Type 0} (f : ℕ → A) (i : ℕ) (v : A) (j : ℕ) → j ≡ i → update f i v j ≡ v
unfolding update
update_at f i v j e = rw (eq-eqb j i e)

pub update_other : {A : Type 0} (f : ℕ → A) (i : ℕ) (v : A) (j : ℕ) → j ≢ i → update f i v j ≡ f j
unfolding update
update_other f i v j e = rw (ne_eqb j i e)

-- ---- lists
pub length_prefix : (n : ℕ) (l : List ℕ) → length (prefix n l) ≡ n
unfolding prefix
length_prefix zero l = refl
length_prefix (suc n) [] = ap suc (length_prefix n [])
length_prefix (suc n) (x ∷ l) = ap suc (length_prefix n l)

pub get_d_prefix : (n : ℕ) (l : List ℕ) (i : ℕ) → i < n → get_or (prefix n l) i 0 ≡ get_or l i 0
unfolding prefix
get_d_prefix zero l i h = absurd (omega arith)
get_d_prefix (suc n) [] zero h = refl
get_d_prefix (suc n) [] (suc i) h = get_d_prefix n [] i (omega arith)
get_d_prefix (suc n) (x ∷ l) zero h = refl
get_d_prefix (suc n) (x ∷ l) (suc i) h = get_d_prefix n l i (omega arith)

-- past the first of two lists stands the second
pub get_d_past : (l k : List ℕ) (m : ℕ) → get_or (l ++ k) (length l + m) 0 ≡ get_or k m 0
get_d_past [] k m = ap (λ z. get_or k z 0) {x = 0 + m} {y = m} (omega arith)
get_d_past (x ∷ l) k m =
    ap (λ z. get_or (x ∷ (l ++ k)) z 0) {x = suc (length l) + m} {y = suc (length l + m)} (omega arith) ∙ get_d_past l k m

-- ---- a fact of all places after a change: of the changed place, and of the others
pub set_all : {A : Type 0} (P : ℕ → A → Type 0) (l : List A) (j : ℕ) (x d : A) → j < length l → P j x
    → ((k : ℕ) → k ≢ j → P k (get_or l k d))
    → (k : ℕ) → P k (get_or (set l j x) k d)
set_all P l j x d h a b k = elim (ℕ_discrete k j) [
  | yes e ↦ rw (e, get_or-set_same l j x d h) a
  | no e ↦ rw (get_or-set_other l j k x d e) (b k e)
]

pub snoc_all : {A : Type 0} (P : ℕ → A → Type 0) (l : List A) (x d : A) → P (length l) x
    → ((k : ℕ) → k ≢ length l → P k (get_or l k d))
    → (k : ℕ) → P k (get_or (l ++ (x ∷ [])) k d)
snoc_all P l x d a b k = elim (ℕ_discrete k (length l)) [
  | yes e ↦ rw (e, get_or-append_seam l x [] d) a
  | no e ↦ elim (dec_lt k (length l)) [
    | yes z ↦ rw (get_or-append l (x ∷ []) d k z) (b k e)
    | no z ↦ rw (
      get_or-eq_default (l ++ (x ∷ [])) d {n = k} (omega (arith, length-append l (x ∷ []))),
      ← (get_or-eq_default l d {n = k} (omega arith)),
    ) (b k e)
  ]
]
