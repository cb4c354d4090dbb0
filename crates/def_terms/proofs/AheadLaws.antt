-- What holds of the order by a weight: which of a list is first by it, and how many are ahead of one while the first
-- leaves and others enter at the end.
use Rattle.std.specs.Prelude.{◌≡◌, ◌≢◌, false, ℕ, suc, ◌+◌, ◌≤◌, ◌<◌, ltb}
use Rattle.std.proofs.Math.Path.{refl, ap}
use Rattle.std.proofs.Common.{sym, ◌∙◌, arith}
use mathlib.Core.List.{List, [], ◌∷◌, ◌++◌}
use Rattle.std.proofs.Math.Option.{some}
use Rattle.std.proofs.Math.Decide.{ℕ_discrete}
use borrow.Author.Tests.{eq-eqb, ne_eqb, ltb-true, ltb-false, lt-ltb, le-ltb}
use Rattle.def_basics.specs.Base.{pick, occurrences}
use Rattle.def_basics.specs.Laws.{never, pick_by}
use Rattle.def_basics.specs.Counting.{hit_other, occurrences_nil, occurrences_cons, occurrences_append}
use Rattle.def_terms.specs.Order.{Order, heavier_first, earliest, first_by, without, before, ahead, First}
use Rattle.def_terms.specs.OrderLaws.{head_occurs}

-- ---- a fact of every number in a list
abbrev pub Each : (ℕ → Type 0) → List ℕ → Type 0
Each P l = (k : ℕ) → 0 < occurrences k l → P k

later_occurs : (k j : ℕ) (l : List ℕ) → 0 < occurrences k l → 0 < occurrences k (j ∷ l)
later_occurs k j l h = omega (arith, occurrences_cons k j l)

each_after : (P : ℕ → Type 0) (j : ℕ) (l : List ℕ) → Each P (j ∷ l) → Each P l
each_after P j l all k h = all k (later_occurs k j l h)

each_cons : (P : ℕ → Type 0) (j : ℕ) (l : List ℕ) → P j → Each P l → Each P (j ∷ l)
each_cons P j l here all k h = elim (ℕ_discrete k j) [
  | yes e ↦ rw e here
  | no e ↦ all k (omega (arith, occurrences_cons k j l, hit_other k j e))
]

each_parts : (P : ℕ → Type 0) (front : List ℕ) (j : ℕ) (back : List ℕ) → Each P front → P j → Each P back
    → Each P (front ++ (j ∷ back))
each_parts P [] j back f here b = each_cons P j back here b
each_parts P (x ∷ front) j back f here b =
    each_cons P x (front ++ (j ∷ back)) (f x (head_occurs x front))
    (each_parts P front j back (each_after P x front f) here b)

-- ---- the first by a weight: heavier than all in front of it, and as heavy as each behind it or heavier
record Heaviest (weight : ℕ → ℕ) (l : List ℕ) (j : ℕ) : Type 0 where
  front : List ℕ
  back : List ℕ
  parts : l ≡ front ++ (j ∷ back)
  in_front_lem : (k : ℕ) → 0 < occurrences k front → weight k < weight j
  behind : (k : ℕ) → 0 < occurrences k back → weight k ≤ weight j

heaviest : (weight : ℕ → ℕ) {l : List ℕ} {j : ℕ} → First (heavier_first weight) l j → Heaviest weight l j
heaviest weight {l} {j} F = record {
  front = F.front;
  back = F.back;
  parts = F.parts;
  in_front_lem = λ k h. ltb-true (weight k) (weight j) (F.in_front_lem k h);
  behind = λ k h. ltb-false (weight j) (weight k) (F.behind k h);
}

by_weight : (weight : ℕ → ℕ) {l : List ℕ} {j : ℕ} → Heaviest weight l j → First (heavier_first weight) l j
by_weight weight {l} {j} F = record {
  front = F.front;
  back = F.back;
  parts = F.parts;
  in_front_lem = λ k h. lt-ltb (weight k) (weight j) (F.in_front_lem k h);
  behind = λ k h. le-ltb (weight j) (weight k) (F.behind k h);
}

module _ (weight : ℕ → ℕ) where
  abbrev order : Order
  order = heavier_first weight

  abbrev LighterThan : ℕ → ℕ → Type 0
  LighterThan j k = weight k < weight j

  abbrev NoHeavierThan : ℕ → ℕ → Type 0
  NoHeavierThan j k = weight k ≤ weight j

  -- none of the list weighs more than the first
  first_most : {l : List ℕ} {j : ℕ} → Heaviest weight l j → Each (NoHeavierThan j) l
  first_most {l} {j} F =
      rw F.parts
      (each_parts (NoHeavierThan j) F.front j F.back (λ k h. omega (arith, F.in_front_lem k h)) (omega arith)
      F.behind)

  -- ---- the one that `first_by` gives is the first
  first_after_lighter : (j k : ℕ) (l : List ℕ) (e : ℕ) → weight j < weight k → Heaviest weight (k ∷ l) e
      → Heaviest weight (j ∷ k ∷ l) e
  first_after_lighter j k l e h F = record {
    front = j ∷ F.front;
    back = F.back;
    parts = ap (λ m. j ∷ m) F.parts;
    in_front_lem = each_cons (LighterThan e) j F.front (omega (arith, first_most F k (head_occurs k l))) F.in_front_lem;
    behind = F.behind;
  }

  -- k stands behind j, and is no heavier
  first_before_lighter : (j k : ℕ) (l : List ℕ) (e : ℕ) → weight k ≤ weight j → Heaviest weight (j ∷ l) e
      → Heaviest weight (j ∷ k ∷ l) e
  first_before_lighter j k l e h F = go F.front F.parts F.in_front_lem
    where
      go : (front : List ℕ) → j ∷ l ≡ front ++ (e ∷ F.back) → Each (LighterThan e) front
          → Heaviest weight (j ∷ k ∷ l) e
      go [] p f =
          let same : j ≡ e = cc in
          let rest : l ≡ F.back = cc in
          record {
            front = [];
            back = k ∷ l;
            parts = rw same refl;
            in_front_lem = f;
            behind = each_cons (NoHeavierThan e) k l (rw (← same) h) (rw rest F.behind);
          }
      go (x ∷ front) p f =
          let same : j ≡ x = cc in
          let rest : l ≡ front ++ (e ∷ F.back) = cc in
          let lighter : weight x < weight e = f x (head_occurs x front) in
          record {
            front = j ∷ k ∷ front;
            back = F.back;
            parts = rw rest refl;
            in_front_lem = each_cons (LighterThan e) j (k ∷ front) (rw same lighter)
                (each_cons (LighterThan e) k front (omega (arith, ap weight same))
                (each_after (LighterThan e) x front f));
            behind = F.behind;
          }

  earliest_is : (j : ℕ) (l : List ℕ) → Heaviest weight (j ∷ l) (earliest order j l)
  unfolding earliest occurrences
  earliest_is j [] = record {
    front = [];
    back = [];
    parts = refl;
    in_front_lem = λ k h. absurd (omega arith);
    behind = λ k h. absurd (omega arith);
  }
  earliest_is j (k ∷ l) = pick_by (λ x. Heaviest weight (j ∷ k ∷ l) (earliest order x l)) (ltb (weight j) (weight k))
      (λ e. first_after_lighter j k l _ (ltb-true (weight j) (weight k) e) (earliest_is k l))
      (λ e. first_before_lighter j k l _ (ltb-false (weight j) (weight k) e) (earliest_is j l))

  pub first_is_lem : (l : List ℕ) (j : ℕ) → first_by order l ≡ some j → First order l j
  unfolding first_by
  first_is_lem [] j e = never (cc)
  first_is_lem (k ∷ l) j e = let same : earliest order k l ≡ j = cc in rw same at (by_weight weight (earliest_is k l))

  -- ---- and the first is the one that `first_by` gives
  stays_first : (j : ℕ) (l : List ℕ) → Each (NoHeavierThan j) l → earliest order j l ≡ j
  unfolding earliest
  stays_first j [] all = refl
  stays_first j (k ∷ l) all =
      rw (le-ltb (weight j) (weight k) (all k (head_occurs k l)))
      (stays_first j l (each_after (NoHeavierThan j) k l all))

  becomes_first : (j x : ℕ) (front back : List ℕ) → weight x < weight j → Each (LighterThan j) front
      → Each (NoHeavierThan j) back → earliest order x (front ++ (j ∷ back)) ≡ j
  unfolding earliest
  becomes_first j x [] back h f b = rw (lt-ltb (weight x) (weight j) h, earliest) (stays_first j back b)
  becomes_first j x (y ∷ front) back h f b =
      let rest : Each (LighterThan j) front = each_after (LighterThan j) y front f in
      pick_by (λ z. earliest order z (front ++ (j ∷ back)) ≡ j) (ltb (weight x) (weight y))
      (λ e. becomes_first j y front back (f y (head_occurs y front)) rest b)
      (λ e. becomes_first j x front back h rest b)

  pub is_first : (l : List ℕ) (j : ℕ) → First order l j → first_by order l ≡ some j
  unfolding first_by
  is_first l j first = rw F.parts (go F.front F.in_front_lem)
    where
      F : Heaviest weight l j
      F = heaviest weight first

      go : (front : List ℕ) → Each (LighterThan j) front → first_by order (front ++ (j ∷ F.back)) ≡ some j
      go [] f = ap some (stays_first j F.back F.behind)
      go (x ∷ front) f = ap some (becomes_first j x front F.back (f x (head_occurs x front))
          (each_after (LighterThan j) x front f) F.behind)

  -- ---- the list without the first
  without_parts : (front : List ℕ) (j : ℕ) (back : List ℕ) → Each (LighterThan j) front
      → without j (front ++ (j ∷ back)) ≡ front ++ back
  unfolding without
  without_parts [] j back f = rw (eq-eqb j j refl) refl
  without_parts (x ∷ front) j back f =
      let lighter : weight x < weight j = f x (head_occurs x front) in
      rw (ne_eqb x j (λ e. omega (arith, ap weight e)))
      (ap (λ l. x ∷ l) (without_parts front j back (each_after (LighterThan j) x front f)))

  -- ---- none goes before one that is the first
  before_none : (j : ℕ) (l : List ℕ) → Each (NoHeavierThan j) l → before order j l ≡ 0
  unfolding before
  before_none j [] all = refl
  before_none j (k ∷ l) all =
      rw (le-ltb (weight j) (weight k) (all k (head_occurs k l)))
      (omega (arith, before_none j l (each_after (NoHeavierThan j) k l all)))

  ahead_none : (j : ℕ) (front back : List ℕ) → Each (LighterThan j) front → Each (NoHeavierThan j) back
      → ahead order j (front ++ (j ∷ back)) ≡ 0
  unfolding ahead
  ahead_none j [] back f b = rw (eq-eqb j j refl) (before_none j back b)
  ahead_none j (x ∷ front) back f b =
      let lighter : weight x < weight j = f x (head_occurs x front) in
      rw (ne_eqb x j (λ e. omega (arith, ap weight e)), lt-ltb (weight x) (weight j) lighter)
      (omega (arith, ahead_none j front back (each_after (LighterThan j) x front f) b))

  pub ahead_first : {l : List ℕ} {j : ℕ} → First order l j → ahead order j l ≡ 0
  ahead_first {l} {j} first =
      let F = heaviest weight first in
      rw F.parts (ahead_none j F.front F.back F.in_front_lem F.behind)

  -- ---- one fewer is ahead of j when another, the first, leaves
  before_leaves : (j h : ℕ) (front back : List ℕ) → weight j < weight h
      → before order j (front ++ (h ∷ back)) ≡ suc (before order j (front ++ back))
  unfolding before
  before_leaves j h [] back heavier = rw (lt-ltb (weight j) (weight h) heavier) (omega arith)
  before_leaves j h (x ∷ front) back heavier = omega (arith, before_leaves j h front back heavier)

  ahead_parts : (j h : ℕ) (front back : List ℕ) → Each (LighterThan h) front → Each (NoHeavierThan h) back → j ≢ h
      → 0 < occurrences j (front ++ back)
      → ahead order j (front ++ (h ∷ back)) ≡ suc (ahead order j (front ++ back))
  unfolding ahead
  ahead_parts j h [] back f b other there =
      rw (ne_eqb h j (λ e. other (sym e)), le-ltb (weight h) (weight j) (b j there)) (omega arith)
  ahead_parts j h (x ∷ front) back f b other there = elim (ℕ_discrete x j) [
    | yes e ↦ rw (eq-eqb x j e) (before_leaves j h front back (rw e at (f x (head_occurs x front))))
    | no e ↦
        let on = ahead_parts j h front back (each_after (LighterThan h) x front f) b other
        (omega (arith, occurrences_cons j x (front ++ back), hit_other j x (λ z. e (sym z)))) in
        rw (ne_eqb x j e) (omega (arith, on))
  ]

  heaviest_leaves : {l : List ℕ} {h : ℕ} → Heaviest weight l h → (j : ℕ) → j ≢ h → 0 < occurrences j l
      → (ahead order j l ≡ suc (ahead order j (without h l))) × (0 < occurrences j (without h l))
  heaviest_leaves {l} {h} F j other there =
      let l_is = F.parts in
      let left : without h l ≡ F.front ++ F.back =
      rw l_is (without_parts F.front h F.back F.in_front_lem) in
      let still : 0 < occurrences j (F.front ++ F.back) =
      omega (
        arith,
        ap (occurrences j) l_is,
        occurrences_append j F.front (h ∷ F.back),
        occurrences_append j F.front F.back,
        occurrences_cons j h F.back,
        hit_other j h other,
      ) in
      rw left (rw l_is (ahead_parts j h F.front F.back F.in_front_lem F.behind other still), still)

  pub ahead_leaves : {l : List ℕ} {h : ℕ} → First order l h → (j : ℕ) → j ≢ h → 0 < occurrences j l
      → (ahead order j l ≡ suc (ahead order j (without h l))) × (0 < occurrences j (without h l))
  ahead_leaves first = heaviest_leaves (heaviest weight first)

-- ---- as many are ahead of j when others that do not go before it enter at the end
module _ (order : Order) (j : ℕ) where
  abbrev NotBefore : ℕ → Type 0
  NotBefore k = order k j ≡ false

  before_nothing : (more : List ℕ) → Each NotBefore more → before order j more ≡ 0
  unfolding before
  before_nothing [] all = refl
  before_nothing (k ∷ more) all =
      rw (all k (head_occurs k more)) (omega (arith, before_nothing more (each_after NotBefore k more all)))

  before_enters : (l more : List ℕ) → Each NotBefore more → before order j (l ++ more) ≡ before order j l
  unfolding before
  before_enters [] more all = before_nothing more all
  before_enters (x ∷ l) more all = ap (λ n. pick (order x j) 1 0 + n) (before_enters l more all)

  pub ahead_enters : (l more : List ℕ) → 0 < occurrences j l → Each NotBefore more
      → ahead order j (l ++ more) ≡ ahead order j l
  unfolding ahead
  ahead_enters [] more there all = absurd (omega (arith, occurrences_nil j))
  ahead_enters (x ∷ l) more there all = elim (ℕ_discrete x j) [
    | yes e ↦ rw (eq-eqb x j e) (before_enters l more all)
    | no e ↦ rw (ne_eqb x j e) (ap (λ n. pick (order j x) 0 1 + n)
        (ahead_enters l more (omega (arith, occurrences_cons j x l, hit_other j x (λ z. e (sym z)))) all))
  ]

-- ---- weights that are the same in the list give the same first and the same number ahead
module _ (weight other : ℕ → ℕ) where
  pub first_same : {l : List ℕ} {j : ℕ} → Each (λ k. other k ≡ weight k) l
      → First (heavier_first weight) l j → First (heavier_first other) l j
  first_same {l} {j} same first =
      let F = heaviest weight first in
      let has : (k : ℕ) → occurrences k l ≡ occurrences k F.front + occurrences k (j ∷ F.back) =
      (λ k. ap (occurrences k) F.parts ∙ occurrences_append k F.front (j ∷ F.back)) in
      let here : other j ≡ weight j = same j (omega (arith, has j, head_occurs j F.back)) in
      by_weight other (record {
        front = F.front;
        back = F.back;
        parts = F.parts;
        in_front_lem = λ k h. omega (arith, F.in_front_lem k h, same k (omega (arith, has k)));
        behind = λ k h. omega (arith, F.behind k h, same k (omega (arith, has k, later_occurs k j F.back h)));
      })

  before_same : (j : ℕ) (l : List ℕ) → other j ≡ weight j → Each (λ k. other k ≡ weight k) l
      → before (heavier_first other) j l ≡ before (heavier_first weight) j l
  unfolding before
  before_same j [] e same = refl
  before_same j (k ∷ l) e same =
      rw (e, same k (head_occurs k l), before_same j l e (each_after (λ k. other k ≡ weight k) k l same)) refl

  pub ahead_same : (j : ℕ) (l : List ℕ) → other j ≡ weight j → Each (λ k. other k ≡ weight k) l
      → ahead (heavier_first other) j l ≡ ahead (heavier_first weight) j l
  unfolding ahead
  ahead_same j [] e same = refl
  ahead_same j (k ∷ l) e same =
      rw (
        e,
        same k (head_occurs k l),
        before_same j l e (each_after (λ k. other k ≡ weight k) k l same),
        ahead_same j l e (each_after (λ k. other k ≡ weight k) k l same),
      ) refl
