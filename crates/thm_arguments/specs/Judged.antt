-- Which names an add lists, and when its arguments are wrong, both ways, by places and numerals alone. Follows
-- docs/RULES.md, "Turned-away calls" (number 5: "a class over 15, a grower over 65,535, or a list over 32, holding its
-- own job's name or a name twice").
use Rattle.std.specs.Prelude.{◌≡◌, refl, ◌↔◌, Bool, true, false, ◌||◌, List, ℕ, ◌<◌, length, get_or}
use Rattle.std.proofs.Common.{sym, ◌∙◌, arith, ext_get_or, ltb-true, lt-ltb}
use Rattle.std.proofs.Math.Dec.{ltb}
use Rattle.def_basics.specs.Base.{contains, repeats}
use Rattle.def_basics.specs.Laws.{never, length_prefix, get_d_prefix, fails}
use Rattle.def_terms.specs.Terms.{Arguments, listed, arguments_wrong}
use Rattle.thm_arguments.specs.Lists.{or_cases, or_first_lem, or_second, Inside, contains_means, Twice, repeats_means}

-- ---- the listed names: as many as the count says, and at each place below it the name that stands there. ("The list
-- of at most 32 names goes in as one value, with its count": a value of the declared type has 32 places. A list of
-- fewer places than its count is read as if zeros followed, and what stands past the count is not read.)
pub record Lists (l : List ℕ) (a : Arguments) : Type 0 where
  pub many : length l ≡ a.count
  pub names : (i : ℕ) → i < a.count → get_or l i 0 ≡ get_or a.names i 0

pub listed_means : (a : Arguments) → Lists (listed a) a
listed_means a = record { many = length_prefix a.count a.names; names = get_d_prefix a.count a.names }

-- and one list alone has them so
pub listed_alone : (l : List ℕ) (a : Arguments) → Lists l a → l ≡ listed a
listed_alone l a h =
    let k = listed_means a in
    ext_get_or 0 l (listed a) (h.many ∙ sym k.many)
    (λ i b. let c : i < a.count = omega (arith, h.many) in h.names i c ∙ sym (k.names i c))

-- ---- number 5, in its five cases
pub data Wrong (a : Arguments) : Type 0 where
  class_over : 15 < a.class → Wrong a
  grower_over : 65535 < a.grower → Wrong a
  list_over : 32 < a.count → Wrong a
  own_name : (i : ℕ) → i < a.count → get_or a.names i 0 ≡ a.name → Wrong a
  name_twice : (i k : ℕ) → i < k → k < a.count → get_or a.names i 0 ≡ get_or a.names k 0 → Wrong a

module _ (a : Arguments) where
  abbrev over : Bool
  over = ltb 15 a.class || ltb 65535 a.grower || ltb 32 a.count

  below : (i : ℕ) → i < length (listed a) → i < a.count
  below i h = omega (arith, (listed_means a).many)

  named : (i : ℕ) → i < a.count → i < length (listed a)
  named i h = omega (arith, (listed_means a).many)

  judged_own : Inside a.name (listed a) → Wrong a
  judged_own p =
      let h = below p.place p.below in
      own_name p.place h (sym ((listed_means a).names p.place h) ∙ p.there)

  judged_twice : Twice (listed a) → Wrong a
  judged_twice p =
      let h = below p.second p.below in
      let g : p.first < a.count = omega (arith, p.order) in
      name_twice p.first p.second p.order h
      (sym ((listed_means a).names p.first g) ∙ p.same ∙ (listed_means a).names p.second h)

  judged_names : contains a.name (listed a) || repeats (listed a) ≡ true → Wrong a
  judged_names =
      or_cases (contains a.name (listed a)) (repeats (listed a))
      (λ e. judged_own ((contains_means a.name (listed a)).0 e)) (λ e. judged_twice ((repeats_means (listed a)).0 e))

  wrong : arguments_wrong a ≡ true → Wrong a
  unfolding arguments_wrong
  wrong = or_cases over (contains a.name (listed a) || repeats (listed a))
      (or_cases (ltb 15 a.class || ltb 65535 a.grower) (ltb 32 a.count)
      (or_cases (ltb 15 a.class) (ltb 65535 a.grower)
      (λ e. class_over (ltb-true 15 a.class e))
      (λ e. grower_over (ltb-true 65535 a.grower e)))
      (λ e. list_over (ltb-true 32 a.count e)))
      judged_names

  in_names : contains a.name (listed a) || repeats (listed a) ≡ true → arguments_wrong a ≡ true
  unfolding arguments_wrong
  in_names = or_second over (contains a.name (listed a) || repeats (listed a))

  in_limits : over ≡ true → arguments_wrong a ≡ true
  unfolding arguments_wrong
  in_limits = or_first_lem over (contains a.name (listed a) || repeats (listed a))

  refused : Wrong a → arguments_wrong a ≡ true
  refused (class_over h) =
      in_limits (rw (lt-ltb 15 a.class h))
  refused (grower_over h) =
      in_limits (or_first_lem (ltb 15 a.class || ltb 65535 a.grower) (ltb 32 a.count)
      (or_second (ltb 15 a.class) (ltb 65535 a.grower) (lt-ltb 65535 a.grower h)))
  refused (list_over h) =
      in_limits
      (or_second (ltb 15 a.class || ltb 65535 a.grower) (ltb 32 a.count) (lt-ltb 32 a.count h))
  refused (own_name i h e) =
      in_names (or_first_lem (contains a.name (listed a)) (repeats (listed a))
      ((contains_means a.name (listed a)).1
      (record { place = i; below = named i h; there = (listed_means a).names i h ∙ e })))
  refused (name_twice i k o h e) =
      in_names (or_second (contains a.name (listed a)) (repeats (listed a))
      ((repeats_means (listed a)).1 (record {
        first = i;
        second = k;
        order = o;
        below = named k h;
        same = (listed_means a).names i (omega arith) ∙ e ∙ sym ((listed_means a).names k h);
      })))

-- ---- what is demanded of any judge of arguments
abbrev pub Judges : (Arguments → Bool) → Type 0
Judges judge = (a : Arguments) → (judge a ≡ true) ↔ Wrong a

pub wrong_means : Judges arguments_wrong
wrong_means a = (wrong a, refused a)

-- arguments are right exactly if the test fails
pub right_means : (a : Arguments) → (arguments_wrong a ≡ false) ↔ (Wrong a → ⊥)
right_means a = (
  λ e h. let f = refused a h in let z : ◌≡◌ {A = Bool} true false = sym f ∙ e in never (cc),
  fails (arguments_wrong a) (wrong a),
)

-- no other test judges so
alike : (x y : Bool) → (x ≡ true → y ≡ true) → (y ≡ true → x ≡ true) → x ≡ y
alike true y f g = sym (f refl)
alike false true f g = g refl
alike false false f g = refl

pub judged_alone : (judge : Arguments → Bool) → Judges judge → (a : Arguments) → judge a ≡ arguments_wrong a
judged_alone judge j a =
    alike (judge a) (arguments_wrong a) (λ e. refused a ((j a).0 e)) (λ e. (j a).1 (wrong a e))
