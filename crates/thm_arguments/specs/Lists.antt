-- What the tests over lists mean, both ways, by the places of a list and what stands there: that a number is in it,
-- that one is there twice, and how often one is there. Number 5 and the promises that say "at most once" cite these
-- tests (docs/RULES.md, "Turned-away calls" and "The plain book").
use Rattle.std.specs.Prelude.{◌≡◌, refl, ◌↔◌, ◌≢◌, Bool, true, false, ◌||◌, List, [], ◌∷◌, ℕ, zero, suc, ◌+◌, ◌≤◌, ◌<◌, eqb, length, get_or}
use Rattle.std.proofs.Common.{sym, arith, eqb-true, eq-eqb, ne_eqb}
use Rattle.std.proofs.Math.Decide.{ℕ_discrete}
use Rattle.def_basics.specs.Base.{contains, repeats, occurrences}
use Rattle.def_basics.specs.Laws.{never}

-- ---- tests
-- one of two tests is met
pub or_cases : {A : Type 0} (a b : Bool) → (a ≡ true → A) → (b ≡ true → A) → (a || b) ≡ true → A
or_cases true b f g e = f refl
or_cases false b f g e = g e

pub or_first_lem : (a b : Bool) → a ≡ true → (a || b) ≡ true
or_first_lem a b e = rw e

pub or_second : (a b : Bool) → b ≡ true → (a || b) ≡ true
or_second true b e = refl
or_second false b e = e

-- ---- a number is in a list: it stands at a place of it
pub record Inside (x : ℕ) (l : List ℕ) : Type 0 where
  pub place : ℕ
  pub below : place < length l
  pub there : get_or l place 0 ≡ x

further : (x y : ℕ) (l : List ℕ) → Inside x l → Inside x (y ∷ l)
further x y l p = record { place = suc p.place; below = omega arith; there = p.there }

found : (x : ℕ) (l : List ℕ) → contains x l ≡ true → Inside x l
unfolding contains
found x [] e = never cc
found x (y ∷ l) e =
    or_cases (eqb x y) (contains x l)
    (λ h. record { place = 0; below = omega arith; there = sym (eqb-true x y h) })
    (λ h. further x y l (found x l h)) e

at_place : (x : ℕ) (l : List ℕ) (i : ℕ) → i < length l → get_or l i 0 ≡ x → contains x l ≡ true
unfolding contains
at_place x [] i h e = absurd (omega arith)
at_place x (y ∷ l) zero h e = or_first_lem (eqb x y) (contains x l) (eq-eqb x y (sym e))
at_place x (y ∷ l) (suc i) h e = or_second (eqb x y) (contains x l) (at_place x l i (omega arith) e)

pub contains_means : (x : ℕ) (l : List ℕ) → (contains x l ≡ true) ↔ Inside x l
contains_means x l = (found x l, λ p. at_place x l p.place p.below p.there)

-- ---- a list holds a number twice: it stands at two places of it
pub record Twice (l : List ℕ) : Type 0 where
  pub first : ℕ
  pub second : ℕ
  pub order : first < second
  pub below : second < length l
  pub same : get_or l first 0 ≡ get_or l second 0

twice_from : (x : ℕ) (l : List ℕ) → Inside x l → Twice (x ∷ l)
twice_from x l p = record {
  first = 0;
  second = suc p.place;
  order = omega arith;
  below = omega arith;
  same = sym p.there;
}

twice_further : (x : ℕ) (l : List ℕ) → Twice l → Twice (x ∷ l)
twice_further x l p = record {
  first = suc p.first;
  second = suc p.second;
  order = omega arith;
  below = omega arith;
  same = p.same;
}

repeated : (l : List ℕ) → repeats l ≡ true → Twice l
unfolding repeats
repeated [] e = never cc
repeated (x ∷ l) e =
    or_cases (contains x l) (repeats l) (λ h. twice_from x l (found x l h)) (λ h. twice_further x l (repeated l h)) e

at_places : (l : List ℕ) (i k : ℕ) → i < k → k < length l → get_or l i 0 ≡ get_or l k 0 → repeats l ≡ true
unfolding repeats
at_places [] i k o h e = absurd (omega arith)
at_places (x ∷ l) zero zero o h e = absurd (omega arith)
at_places (x ∷ l) zero (suc k) o h e = or_first_lem (contains x l) (repeats l) (at_place x l k (omega arith) (sym e))
at_places (x ∷ l) (suc i) zero o h e = absurd (omega arith)
at_places (x ∷ l) (suc i) (suc k) o h e =
    or_second (contains x l) (repeats l) (at_places l i k (omega arith) (omega arith) e)

pub repeats_means : (l : List ℕ) → (repeats l ≡ true) ↔ Twice l
repeats_means l = (repeated l, λ p. at_places l p.first p.second p.order p.below p.same)

-- ---- how often a number is in a list: each place counts that holds it, and no other
pub data Times (x : ℕ) : List ℕ → ℕ → Type 0 where
  nowhere : Times x [] 0
  here : {l : List ℕ} {n : ℕ} → Times x l n → Times x (x ∷ l) (suc n)
  other : {y : ℕ} {l : List ℕ} {n : ℕ} → y ≢ x → Times x l n → Times x (y ∷ l) n

times : (x : ℕ) (l : List ℕ) → Times x l (occurrences x l)
unfolding occurrences
times x [] = nowhere
times x (y ∷ l) = elim (ℕ_discrete x y) [
  | yes e ↦ rw (eq-eqb x y e, ← e)
      (let z : 1 + occurrences x l ≡ suc (occurrences x l) = omega arith in rw z (here (times x l)))
  | no e ↦ rw (ne_eqb x y e)
      (let z : 0 + occurrences x l ≡ occurrences x l = omega arith in rw z (other (λ h. e (sym h)) (times x l)))
]

counted : {x n : ℕ} {l : List ℕ} → Times x l n → occurrences x l ≡ n
unfolding occurrences
counted nowhere = refl
counted {x} (here t) = rw (eq-eqb x x refl, counted t) (omega arith)
counted {x} (other {y} e t) = rw (ne_eqb x y (λ h. e (sym h)), counted t) (omega arith)

pub occurrences_mean : (x : ℕ) (l : List ℕ) (n : ℕ) → (occurrences x l ≡ n) ↔ Times x l n
occurrences_mean x l n = (λ e. rw e at (times x l), counted)

-- so it is there at least once exactly if it is in the list,
occurs : (x : ℕ) (l : List ℕ) (i : ℕ) → i < length l → get_or l i 0 ≡ x → 0 < occurrences x l
unfolding occurrences
occurs x [] i h e = absurd (omega arith)
occurs x (y ∷ l) zero h e = rw (eq-eqb x y (sym e)) (omega arith)
occurs x (y ∷ l) (suc i) h e = omega (arith, occurs x l i (omega arith) e)

somewhere : {x n : ℕ} {l : List ℕ} → Times x l n → 0 < n → Inside x l
somewhere nowhere h = absurd (omega arith)
somewhere (here t) h = record { place = 0; below = omega arith; there = refl }
somewhere (other e t) h = further _ _ _ (somewhere t h)

pub occurs_means : (x : ℕ) (l : List ℕ) → (0 < occurrences x l) ↔ Inside x l
occurs_means x l = (somewhere (times x l), λ p. occurs x l p.place p.below p.there)

-- and at most once exactly if no two places hold it
abbrev pub AtMostOnce : ℕ → List ℕ → Type 0
AtMostOnce x l = (i k : ℕ) → i < k → k < length l → get_or l i 0 ≡ x → get_or l k 0 ≡ x → ⊥

apart : {x n : ℕ} {l : List ℕ} → Times x l n → n ≤ 1 → AtMostOnce x l
apart nowhere h i k o b e f = omega arith
apart (here t) h zero zero o b e f = omega arith
apart {x} (here {l} t) h zero (suc k) o b e f = omega (arith, occurs x l k (omega arith) f, counted t)
apart (here t) h (suc i) zero o b e f = omega arith
apart (here t) h (suc i) (suc k) o b e f = apart t (omega arith) i k (omega arith) (omega arith) e f
apart (other d t) h zero k o b e f = d e
apart (other d t) h (suc i) zero o b e f = omega arith
apart (other d t) h (suc i) (suc k) o b e f = apart t h i k (omega arith) (omega arith) e f

few : {x n : ℕ} {l : List ℕ} → Times x l n → AtMostOnce x l → n ≤ 1
few nowhere h = omega arith
few {x} (here {l} {n} t) h = elim (ℕ_discrete n 0) [
  | yes e ↦ omega arith
  | no e ↦ let p = somewhere t (omega arith) in
      absurd (h 0 (suc p.place) (omega arith) (omega (arith, p.below)) refl p.there)
]
few (other d t) h = few t (λ i k o b. h (suc i) (suc k) (omega arith) (omega arith))

pub once_means : (x : ℕ) (l : List ℕ) → (occurrences x l ≤ 1) ↔ AtMostOnce x l
once_means x l = (apart (times x l), few (times x l))
