-- The cells in the index: a filled slot holds a cell that has a job, no cell is in two, and each such cell is
-- in one. The index stays when the jobs' other columns change. Follows docs/RULES.md, "Tables and their measures".
use Rattle.std.specs.Prelude.{◌≡◌, refl, ◌≢◌, Bool, true, false, ◌&&◌, ℕ, ◌≤◌, ◌<◌, ltb, eqb}
use Rattle.std.proofs.Common.{sym, ap, ◌∙◌, arith, lt-ltb, ne_eqb, ltb-true}
use Rattle.std.proofs.lemmas.Bool.{not-true, eqb-false}
use Rattle.def_basics.specs.Base.{pick}
use Rattle.def_basics.specs.Laws.{and_left, and_right}
use Rattle.def_heap.proofs.Heap.{Slot, slot_of, heap_same, held}
use Rattle.def_words.specs.Layout.{none, CLASS, QUEUED, SLOT, POSITION, View}
use Rattle.def_words.specs.Index.{rank, rank_of}
use Rattle.def_words.specs.Words.{is_place}
use Rattle.thm_representation.specs.Rep.{Index}
use Rattle.thm_representation_kept.specs.Stand.{view_of}

-- ---- tests
counts : (b : Bool) → 0 < pick b 1 0 → b ≡ true
counts true h = refl
counts false h = absurd (omega arith)

pub at_most_one : (b : Bool) → pick b 1 0 ≤ 1
at_most_one true = omega arith
at_most_one false = omega arith

pub is_place_lem : (x : ℕ) → x ≢ none → is_place x ≡ true
is_place_lem x e = rw (ne_eqb x none e)

no_none : (x : ℕ) → is_place x ≡ true → x ≢ none
no_none x e = eqb-false x none (not-true (eqb x none) e)

module _ (v : View) (n : ℕ) (I : Index v n) where
  abbrev cells : ℕ → ℕ
  cells = v.cell QUEUED

  abbrev slot : ℕ → ℕ
  slot = v.cell SLOT

  -- ---- a filled slot
  module _ (k : ℕ) (h : k < n) where
    holds : ltb (slot k) v.put && is_place (cells (slot k)) ≡ true
    holds = counts (ltb (slot k) v.put && is_place (cells (slot k)))
        (rw (I.in_one_slot (slot k)) at (held n slot k h))

    pub slot_below : slot k < v.put
    slot_below = ltb-true (slot k) v.put (and_left (ltb (slot k) v.put) (is_place (cells (slot k))) holds)

    pub slot_has : cells (slot k) ≢ none
    slot_has = no_none (cells (slot k)) (and_right (ltb (slot k) v.put) (is_place (cells (slot k))) holds)

  pub apart : (i k : ℕ) → i < n → k < n → slot i ≡ slot k → i ≡ k
  apart i k a b e = sym (I.positions i a) ∙ ap (v.cell POSITION) e ∙ I.positions k b

  -- ---- a cell that has a job
  pub indexed : (p : ℕ) → p < v.put → cells p ≢ none → Slot n slot p
  indexed p below has = slot_of n slot p
      (rw (I.in_one_slot p, lt-ltb p v.put below, is_place_lem (cells p) has) (omega arith))

  -- ---- other columns of jobs, and the same classes of those that wait
  pub index_kept : (made reserved taken : ℕ) (f a b r : ℕ → ℕ → ℕ)
      → ((p : ℕ) → p < v.put → cells p ≢ none → f CLASS (cells p) ≡ v.job CLASS (cells p))
      → Index (view_of made reserved taken v.put f a b v.cell r) n
  index_kept made reserved taken f a b r same = record {
    in_one_slot = I.in_one_slot;
    positions = I.positions;
    heap = heap_same (rank_of v) (rank_of (view_of made reserved taken v.put f a b v.cell r)) n slot slot
        (λ k h. refl)
        (λ k h. ap (λ x. rank x (slot k)) (same (slot k) (slot_below k h) (slot_has k h)))
        I.heap;
  }
