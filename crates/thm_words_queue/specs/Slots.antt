-- For ALL tables: the slots and positions after a shift over the words are those of the heap's shift, where the cells
-- that it carries are cells of the queue. Follows docs/RULES.md, "The index".
use Rattle.std.specs.Prelude.{◌≡◌, refl, ◌≢◌, true, List, ltb}
use Rattle.std.proofs.Common.{ap, ◌∙◌, arith, get_or-set_other, ltb-true, eq-eqb, ne_eqb}
use Rattle.std.proofs.Math.Path.{fun_ext}
use Prim.Native.Nat.{ℕ, zero, suc, ◌<◌}
use Rattle.std.proofs.Math.Decide.{ℕ_discrete}
use Rattle.def_basics.specs.Base.{update}
use Rattle.def_basics.specs.Laws.{update_at, update_other}
use Rattle.def_heap.specs.Sift.{above, shift_down, shift_up, positions_down, positions_up}
use Rattle.def_heap.proofs.Way.{WayUp, WayFirst, up_weaker, first_weaker}
use Rattle.def_words.specs.Columns.{Shape, offset, Rows, columns, columns_put, put, rows_put, sep}
use Rattle.def_words.specs.Layout.{queue_shape, SLOT, POSITION}
use Rattle.def_words.specs.Index.{slot_in, put_slot, shifted_down, shifted_up}
use Rattle.thm_words_tests.specs.Tests.{test}

-- ---- a store in another column leaves a column, wherever it falls
pub other_column : (s : Shape) (l : List ℕ) (i k v q : ℕ) → ltb k s.width ≡ true → q ≢ k
    → columns s (put s l i k v) q ≡ columns s l q
unfolding columns put
other_column s l i k v q e n = fun_ext (λ j. test (ltb q s.width)
    (λ f.
    let a = ltb-true q s.width f in
    rw f (get_or-set_other l (offset s i k) (offset s j q) v 0
    (λ z. n (sep s j i q k a (ltb-true k s.width e) z).1)))
    (λ f. rw f))

abbrev pub slots : List ℕ → ℕ → ℕ
slots q = columns queue_shape q SLOT

abbrev pub positions : List ℕ → ℕ → ℕ
positions q = columns queue_shape q POSITION

-- the words l have the slots f and the positions h
abbrev pub Has : List ℕ → (ℕ → ℕ) → (ℕ → ℕ) → Type 0
Has l f h = (slots l ≡ f) × (positions l ≡ h)

module _ (R : ℕ) where
  in_slot : (q : List ℕ) (i x : ℕ) → Rows queue_shape R q → i < R → x < R
      → Has (put_slot q i x) (update (slots q) i x) (update (positions q) x i)
  in_slot q i x r a b =
      let l = put queue_shape q i SLOT x in (
        other_column queue_shape l x POSITION i SLOT refl (omega arith)
            ∙ ap (λ c. c SLOT) (columns_put queue_shape R q i SLOT x refl r a),
        ap (λ c. c POSITION)
            (columns_put queue_shape R l x POSITION i refl (rows_put queue_shape R q i SLOT x ∙ r) b)
            ∙ ap (λ c. update c x i) (other_column queue_shape q i SLOT x POSITION refl (omega arith)),
      )

  -- after it
  module _ (q : List ℕ) (i x : ℕ) (r : Rows queue_shape R q) (a : i < R) (b : x < R) where
    rows_on : Rows queue_shape R (put_slot q i x)
    rows_on = rows_put queue_shape R _ x POSITION i ∙ rows_put queue_shape R q i SLOT x ∙ r

    within_on : (j : ℕ) → slots q j < R → slots (put_slot q i x) j < R
    within_on j h = rw (in_slot q i x r a b).0 (elim (ℕ_discrete j i) [
      | yes e ↦ rw (update_at (slots q) i x j e) b
      | no e ↦ rw (update_other (slots q) i x j e) h
    ])

  pub down_slots : (n : ℕ) (q : List ℕ) (x i k : ℕ) → Rows queue_shape R q → i < R → x < R
      → WayUp (λ j. slots q j < R) n i k
      → Has (shifted_down n q x i k) (shift_down n (slots q) x i k) (positions_down n (slots q) (positions q) x i k)
  unfolding shifted_down shift_down positions_down
  down_slots zero q x i k r a b = λ w. in_slot q i x r a b
  down_slots (suc n) q x i k r a b = elim (ℕ_discrete i k) [
    | yes e ↦ rw (eq-eqb i k e) (λ w. in_slot q i x r a b)
    | no e ↦ rw (ne_eqb i k e) (λ w.
        let y : ℕ = slot_in q (above i) in
        let one = in_slot q i y r a w.0 in
        rw (one.0, one.1) at
        (down_slots n (put_slot q i y) x (above i) k (rows_on q i y r a w.0) (omega arith) b
        (up_weaker (within_on q i y r a w.0) n (above i) k w.1)))
  ]

  pub up_slots : (n : ℕ) (q : List ℕ) (x k : ℕ) → Rows queue_shape R q → k < R → x < R
      → WayFirst (λ j. slots q j < R) n k
      → Has (shifted_up n q x k) (shift_up n (slots q) x k) (positions_up n (slots q) (positions q) x k)
  unfolding shifted_up shift_up positions_up
  up_slots zero q x k r a b = λ w. in_slot q k x r a b
  up_slots (suc n) q x k r a b = elim (ℕ_discrete k 0) [
    | yes e ↦ rw (eq-eqb k 0 e) (λ w. in_slot q k x r a b)
    | no e ↦ rw (ne_eqb k 0 e) (λ w.
        let one = in_slot q k x r a b in
        rw (one.0, one.1) at
        (up_slots n (put_slot q k x) (slot_in q k) (above k) (rows_on q k x r a b) (omega arith) w.0
        (first_weaker (within_on q k x r a b) n (above k) w.1)))
  ]
