-- What holds of the first of a list and of the list without it, whatever the order.
use Rattle.std.specs.Prelude.{◌≡◌, refl, Bool, true, false, List, [], ◌∷◌, ℕ, suc, ◌+◌, ◌<◌, eqb, length}
use Rattle.std.proofs.Common.{sym, ap, arith, eq-eqb, ne_eqb, eqb-true}
use Rattle.std.proofs.Math.Option.{none, some}
use Rattle.std.proofs.lemmas.Bool.{eqb-false}
use Rattle.def_basics.specs.Base.{pick, occurrences}
use Rattle.def_basics.specs.Laws.{never}
use Rattle.def_terms.specs.Order.{Order, earliest, first_by, without}

-- j was taken out of a list, and this is left
pub record TakenOut (j : ℕ) (l rest : List ℕ) : Type 0 where
  pub has : (k : ℕ) → occurrences k l ≡ pick (eqb k j) 1 0 + occurrences k rest
  pub longer : length l ≡ suc (length rest)

pub head_occurs : (j : ℕ) (l : List ℕ) → 0 < occurrences j (j ∷ l)
unfolding occurrences
head_occurs j l = rw (eq-eqb j j refl) (omega arith)

-- ---- the first by an order is in the list
earlier_occurs : (before : Order) (j k : ℕ) (l : List ℕ) (b : Bool)
    → 0 < occurrences (earliest before j l) (j ∷ l) → 0 < occurrences (earliest before k l) (k ∷ l)
    → 0 < occurrences (earliest before (pick b k j) l) (j ∷ k ∷ l)
unfolding occurrences
earlier_occurs before j k l true h m = omega (arith, m)
earlier_occurs before j k l false h m = omega (arith, h)

earliest_occurs : (before : Order) (j : ℕ) (l : List ℕ) → 0 < occurrences (earliest before j l) (j ∷ l)
unfolding earliest
earliest_occurs before j [] = head_occurs j []
earliest_occurs before j (k ∷ l) =
    earlier_occurs before j k l (before k j) (earliest_occurs before j l) (earliest_occurs before k l)

pub first_occurs : (before : Order) (l : List ℕ) (j : ℕ) → first_by before l ≡ some j → 0 < occurrences j l
unfolding first_by
first_occurs before [] j e = never (cc)
first_occurs before (k ∷ l) j e =
    let same : earliest before k l ≡ j = cc in
    rw same at (earliest_occurs before k l)

-- ---- none is first only in an empty list
pub none_first : (before : Order) (l : List ℕ) → first_by before l ≡ none → l ≡ []
unfolding first_by
none_first before [] e = refl
none_first before (j ∷ l) e = never (cc)

-- ---- what is left without it
without_other : (j k : ℕ) (l : List ℕ) (b : Bool) → eqb k j ≡ b → 0 < occurrences j (k ∷ l)
    → (0 < occurrences j l → TakenOut j l (without j l)) → TakenOut j (k ∷ l) (pick b l (k ∷ without j l))
unfolding occurrences
without_other j k l true e h t = record { has = λ i. rw (eqb-true k j e) refl; longer = refl }
without_other j k l false e h t =
    let other : occurrences j (k ∷ l) ≡ occurrences j l =
    rw (ne_eqb j k (λ z. eqb-false k j e (sym z))) (omega arith) in
    let more = t (omega (arith, other)) in
    record { has = λ i. omega (arith, more.has i); longer = ap suc more.longer }

pub without_occurs : (j : ℕ) (l : List ℕ) → 0 < occurrences j l → TakenOut j l (without j l)
unfolding occurrences without
without_occurs j [] h = absurd (omega arith)
without_occurs j (k ∷ l) h = without_other j k l (eqb k j) refl h (without_occurs j l)

pub first_out : (before : Order) (l : List ℕ) (j : ℕ) → first_by before l ≡ some j → TakenOut j l (without j l)
first_out before l j e = without_occurs j l (first_occurs before l j e)
