-- The arguments of an add that is not refused: their orders, that the job's own name is not listed, and the names that
-- are left from a place on. Follows docs/RULES.md, "Turned-away calls" (number 5).
use Rattle.std.specs.Prelude.{◌≡◌, refl, ◌≢◌, Bool, false, ◌||◌, List, [], ◌∷◌, ℕ, zero, suc, ◌+◌, ◌≤◌, ◌<◌, ltb, eqb, length, get_or}
use Rattle.std.proofs.Common.{sym, ap, ◌∙◌, arith, ltb-false}
use Rattle.std.proofs.lemmas.Bool.{eqb-false}
use Rattle.def_numbers.specs.Numbers.{most_names, most_class, most_grower}
use Rattle.def_basics.specs.Base.{contains, repeats}
use Rattle.def_basics.specs.Laws.{never, or_left, or_right, length_prefix}
use Rattle.def_terms.specs.Terms.{Arguments, listed, arguments_wrong}
use Rattle.def_terms.specs.declared.Sizes.{Sizes}
use Rattle.def_words.specs.Layout.{View}
use Rattle.def_words.specs.Words.{find_of}
use Rattle.def_words.specs.declared.Found.{Found}
use Rattle.def_words.specs.declared.Found.TheVariants.{At, Missing, Damaged}
use Rattle.def_fused.specs.FusedAdd.{or_on, look_ups, job_found}
use Rattle.def_fused.specs.declared.LookUps.TheVariants.{All}

-- ---- number 5
not_in : (x : ℕ) (l : List ℕ) → contains x l ≡ false → (q : ℕ) → q < length l → get_or l q 0 ≢ x
unfolding contains
not_in x [] e q h = absurd (omega arith)
not_in x (y ∷ l) e zero h = λ z. eqb-false x y (or_left (eqb x y) (contains x l) e) (sym z)
not_in x (y ∷ l) e (suc q) h = not_in x l (or_right (eqb x y) (contains x l) e) q (omega arith)

pub record Right (a : Arguments) : Type 0 where
  pub class : a.class ≤ most_class
  pub grower : a.grower ≤ most_grower
  pub count : a.count ≤ most_names
  pub others : (q : ℕ) → q < a.count → get_or (listed a) q 0 ≢ a.name

pub right : (a : Arguments) → arguments_wrong a ≡ false → Right a
unfolding arguments_wrong
right a e = record {
  class = ltb-false most_class a.class (or_left c g two);
  grower = ltb-false most_grower a.grower (or_right c g two);
  count = ltb-false most_names a.count (or_right (c || g) d three);
  others = λ q h. not_in a.name (listed a) (or_left (contains a.name (listed a)) (repeats (listed a)) names) q
      (omega (arith, length_prefix a.count a.names));
}
  where
    c : Bool
    c = ltb most_class a.class

    g : Bool
    g = ltb most_grower a.grower

    d : Bool
    d = ltb most_names a.count

    three : c || g || d ≡ false
    three = or_left (c || g || d) (contains a.name (listed a) || repeats (listed a)) e

    names : contains a.name (listed a) || repeats (listed a) ≡ false
    names = or_right (c || g || d) (contains a.name (listed a) || repeats (listed a)) e

    two : c || g ≡ false
    two = or_left (c || g) d three

-- ---- the names l of the list from place i on
pub record Rest (a : Arguments) (l : List ℕ) (i : ℕ) : Type 0 where
  pub ends : i + length l ≡ a.count
  pub names : (q : ℕ) → q < length l → get_or (listed a) (i + q) 0 ≡ get_or l q 0

pub rest_all : (a : Arguments) → Rest a (listed a) 0
rest_all a = record {
  ends = omega (arith, length_prefix a.count a.names);
  names = λ q h. ap (λ k. get_or (listed a) k 0) {x = 0 + q} {y = q} (omega arith);
}

module _ {a : Arguments} {x : ℕ} {l : List ℕ} {i : ℕ} (R : Rest a (x ∷ l) i) where
  pub rest_more : i < a.count
  rest_more = omega (arith, R.ends)

  pub rest_first : get_or (listed a) i 0 ≡ x
  rest_first = ap (λ k. get_or (listed a) k 0) {x = i} {y = i + 0} (omega arith) ∙ R.names 0 (omega arith)

  pub rest_next : Rest a l (suc i)
  rest_next = record {
    ends = omega (arith, R.ends);
    names = λ q h.
        ap (λ k. get_or (listed a) k 0) {x = suc i + q} {y = i + suc q} (omega arith) ∙ R.names (suc q) (omega arith);
  }

-- ---- look-ups that found all
pub record FirstFound (s : Sizes) (v : View) (x : ℕ) (l : List ℕ) (i : ℕ) : Type 0 where
  pub first : find_of s v x ≡ At (job_found (find_of s v x))
  pub more : look_ups s v l (suc i) ≡ All

pub first_found : (s : Sizes) (v : View) (x : ℕ) (l : List ℕ) (i : ℕ) → look_ups s v (x ∷ l) i ≡ All
    → FirstFound s v x l i
unfolding look_ups
first_found s v x l i e = go (find_of s v x) refl e
  where
    go : (f : Found) → find_of s v x ≡ f → or_on f i (look_ups s v l (suc i)) ≡ All → FirstFound s v x l i
    go (At j) z y = record { first = rw z refl; more = y }
    go Missing z y = never (cc)
    go Damaged z y = never (cc)
