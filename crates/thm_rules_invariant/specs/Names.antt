-- The job of a name: a name that is found stays found, with the same number, when jobs are appended or changed in
-- place.
use Rattle.std.specs.Prelude.{◌≡◌, refl, ◌≢◌, Bool, true, false, ◌||◌, List, [], ◌∷◌, ◌++◌, ℕ, zero, suc, ◌+◌, ◌-◌, ◌≤◌, ◌<◌, eqb, ltb, length, get_or, set}
use Rattle.std.proofs.Common.{sym, ap, ◌∙◌, arith, eq-eqb, eqb-true, ltb-false, get_or-set_same, get_or-set_other}
use Rattle.std.proofs.Math.Decide.{ℕ_discrete}
use Rattle.std.proofs.Math.ListN.{get_or-append}
use Rattle.def_numbers.specs.Numbers.{most_names, most_class, most_grower}
use Rattle.def_basics.specs.Base.{pick, contains, repeats}
use Rattle.def_basics.specs.Laws.{or_left, or_right}
use Rattle.def_terms.specs.Terms.{Arguments, listed, arguments_wrong}
use Rattle.def_rules.specs.Rules.{Job, no_job, at, missing, seek, Graph, find}
use Rattle.def_rules.specs.Sound.{Named, Looking}

pub at_injective : (a b : ℕ) → at a ≡ at b → a ≡ b
at_injective a b e = cc

pub missing_not_at : (a : ℕ) → missing ≢ at a
missing_not_at a e = let z : ◌≡◌ {A = ℕ} 0 1 = cc in omega arith

-- ---- a search
pub record Sought (name : ℕ) (l : List Job) (i p : ℕ) : Type 0 where
  pub low : i ≤ p
  pub high : p < i + length l
  pub named : (get_or l (p - i) no_job).name ≡ name

pub sought : (name : ℕ) (l : List Job) (i p : ℕ) → seek name l i ≡ at p → Sought name l i p
unfolding seek
sought name [] i p e = absurd (missing_not_at p e)
sought name (x ∷ l) i p e = go (eqb x.name name) refl e (sought name l (suc i) p)
  where
    go : (b : Bool) → eqb x.name name ≡ b → pick b (at i) (seek name l (suc i)) ≡ at p
        → (seek name l (suc i) ≡ at p → Sought name l (suc i) p) → Sought name (x ∷ l) i p
    go true t z later =
        let y : i ≡ p = at_injective i p z in
        let d : p - i ≡ 0 = omega arith in
        record { low = omega arith; high = omega arith; named = rw d (eqb-true x.name name t) }
    go false t z later =
        let r = later z in
        let d : p - i ≡ suc (p - suc i) = omega (arith, r.low) in
        record { low = omega (arith, r.low); high = omega (arith, r.high); named = rw d r.named }

pub sought_there : (name : ℕ) (l : List Job) (p : ℕ) → seek name l 0 ≡ at p → p < length l
sought_there name l p e = omega (arith, (sought name l 0 p e).high)

pub seek_append : (name : ℕ) (l r : List Job) (i p : ℕ) → seek name l i ≡ at p → seek name (l ++ r) i ≡ at p
unfolding seek
seek_append name [] r i p e = absurd (missing_not_at p e)
seek_append name (x ∷ l) r i p e = go (eqb x.name name) e (seek_append name l r (suc i) p)
  where
    go : (b : Bool) → pick b (at i) (seek name l (suc i)) ≡ at p
        → (seek name l (suc i) ≡ at p → seek name (l ++ r) (suc i) ≡ at p)
        → pick b (at i) (seek name (l ++ r) (suc i)) ≡ at p
    go true z later = z
    go false z later = later z

pub seek_new : (name : ℕ) (l : List Job) (x : Job) (i : ℕ) → x.name ≡ name → seek name l i ≡ missing
    → seek name (l ++ (x ∷ [])) i ≡ at (i + length l)
unfolding seek
seek_new name [] x i e z = rw (eq-eqb x.name name e) (ap at (omega arith))
seek_new name (y ∷ l) x i e z = go (eqb y.name name) z (seek_new name l x (suc i) e)
  where
    go : (b : Bool) → pick b (at i) (seek name l (suc i)) ≡ missing
        → (seek name l (suc i) ≡ missing → seek name (l ++ (x ∷ [])) (suc i) ≡ at (suc i + length l))
        → pick b (at i) (seek name (l ++ (x ∷ [])) (suc i)) ≡ at (i + suc (length l))
    go true u later = absurd (missing_not_at i (sym u))
    go false u later = later u ∙ ap at (omega arith)

pub seek_set : (name : ℕ) (l : List Job) (j : ℕ) (y : Job) (i : ℕ) → y.name ≡ (get_or l j no_job).name
    → seek name (set l j y) i ≡ seek name l i
unfolding seek
seek_set name [] j y i e = refl
seek_set name (x ∷ l) zero y i e = rw e refl
seek_set name (x ∷ l) (suc j) y i e = rw (seek_set name l j y (suc i) e) refl

-- ---- later jobs: names are found as before, and the jobs keep their names and lists
pub record Extends (l k : List Job) : Type 0 where
  pub found : (name p : ℕ) → seek name l 0 ≡ at p → seek name k 0 ≡ at p
  pub name : (j : ℕ) → j < length l → (get_or k j no_job).name ≡ (get_or l j no_job).name
  pub list : (j : ℕ) → j < length l → (get_or k j no_job).list ≡ (get_or l j no_job).list

pub extends_same : (l : List Job) → Extends l l
extends_same l = record { found = λ name p e. e; name = λ j h. refl; list = λ j h. refl }

pub extends_append : (l : List Job) (x : Job) → Extends l (l ++ (x ∷ []))
extends_append l x = record {
  found = λ name p e. seek_append name l (x ∷ []) 0 p e;
  name = λ j h. ap (λ (y : Job). y.name) (get_or-append l (x ∷ []) no_job j h);
  list = λ j h. ap (λ (y : Job). y.list) (get_or-append l (x ∷ []) no_job j h);
}

pub extends_set : (l : List Job) (i : ℕ) (y : Job) → y.name ≡ (get_or l i no_job).name → y.list ≡ (get_or l i no_job).list
    → Extends l (set l i y)
extends_set l i y e f = record {
  found = λ name p z. seek_set name l i y 0 e ∙ z;
  name = λ j h. elim (ℕ_discrete j i) [
    | yes z ↦ rw (z, get_or-set_same l i y no_job (omega (arith, z))) e
    | no z ↦ rw (get_or-set_other l i j y no_job z) refl
  ];
  list = λ j h. elim (ℕ_discrete j i) [
    | yes z ↦ rw (z, get_or-set_same l i y no_job (omega (arith, z))) f
    | no z ↦ rw (get_or-set_other l i j y no_job z) refl
  ];
}

-- ---- what an add has looked up
pub looking_keeps : (g h : Graph) → Extends g.jobs h.jobs → (a : Arguments) (i : ℕ) → Looking g a i
    → Looking h a i
looking_keeps g h x a i k = record {
  right = k.right;
  within = k.within;
  found = λ q r. record { job = (k.found q r).job; found = x.found _ _ (k.found q r).found };
}

-- the jobs of the listed names
pub record Numbers (g : Graph) (names : List ℕ) : Type 0 where
  pub numbers : List ℕ
  pub same_length : length names ≡ length numbers
  pub found : (i : ℕ) → i < length names → find g (get_or names i 0) ≡ at (get_or numbers i 0)

pub numbers_of : (g : Graph) (names : List ℕ) → ((i : ℕ) → i < length names → Named g (get_or names i 0))
    → Numbers g names
numbers_of g [] h = record { numbers = []; same_length = refl; found = λ i r. absurd (omega arith) }
numbers_of g (x ∷ l) h =
    let first : Named g x = h 0 (omega arith) in
    let rest = numbers_of g l (λ i r. h (suc i) (omega arith)) in
    record {
      numbers = first.job ∷ rest.numbers;
      same_length = ap suc rest.same_length;
      found =
          λ i. elim i as
          (λ k. k < length (x ∷ l) → find g (get_or (x ∷ l) k 0) ≡ at (get_or (first.job ∷ rest.numbers) k 0))
          [ zero ↦ λ r. first.found | suc k ↦ λ r. rest.found k (omega arith) ];
    }

-- number 5 is not due: the class is within its limit, and the list is short
pub low : (a : Arguments) → arguments_wrong a ≡ false → a.class ≤ most_class
unfolding arguments_wrong
low a e =
    let named : Bool = contains a.name (listed a) || repeats (listed a) in
    let wide : Bool = ltb most_class a.class || ltb most_grower a.grower in
    ltb-false most_class a.class
    (or_left (ltb most_class a.class) (ltb most_grower a.grower)
    (or_left wide (ltb most_names a.count) (or_left (wide || ltb most_names a.count) named e)))

pub few : (a : Arguments) → arguments_wrong a ≡ false → a.count ≤ most_names
unfolding arguments_wrong
few a e =
    let wide : Bool = ltb most_class a.class || ltb most_grower a.grower in
    let named : Bool = contains a.name (listed a) || repeats (listed a) in
    ltb-false most_names a.count
    (or_right wide (ltb most_names a.count) (or_left (wide || ltb most_names a.count) named e))

pub contains_snoc : (n x : ℕ) (l : List ℕ) → contains n (l ++ (x ∷ [])) ≡ true → contains n l ≡ false → n ≡ x
unfolding contains
contains_snoc n x [] e f = go (eqb n x) refl e
  where
    go : (b : Bool) → eqb n x ≡ b → b || false ≡ true → n ≡ x
    go true t z = eqb-true n x t
    go false t z = absurd (let y : ◌≡◌ {A = ℕ} 0 1 = cc in omega arith)
contains_snoc n x (y ∷ l) e f = go (eqb n y) e f (contains_snoc n x l)
  where
    go : (b : Bool) → b || contains n (l ++ (x ∷ [])) ≡ true → b || contains n l ≡ false
        → (contains n (l ++ (x ∷ [])) ≡ true → contains n l ≡ false → n ≡ x) → n ≡ x
    go true t z later = absurd (let u : ◌≡◌ {A = ℕ} 0 1 = cc in omega arith)
    go false t z later = later t z
