-- A job put in the queue's words and a job taken out of them, as columns: the cells, and the slots and positions of the
-- index, which shift as the heap's do. Follows docs/RULES.md, "Tables and their measures".
use Rattle.std.specs.Prelude.{◌≡◌, Bool, true, false, ltb, eqb}
use Rattle.std.proofs.Math.Path.{refl, ap, fun_ext}
use Rattle.std.proofs.Common.{◌∙◌}
use mathlib.Core.List.{List}
use Prim.Native.Nat.{ℕ, zero, suc, ◌+◌, ◌-◌, ◌<◌, ◌≤◌}
use native.Mathlib.Omega.{arith}
use Rattle.std.proofs.Math.Nat.{div-le_self}
use Rattle.std.proofs.Math.Decide.{ℕ_discrete}
use borrow.Author.Tests.{eqb-false}
use Rattle.def_basics.specs.Base.{pick, update}
use Rattle.def_basics.specs.Laws.{update_same, update_other}
use Rattle.def_heap.specs.Sift.{above, shift_down, shift_up, positions_down, positions_up}
use Rattle.def_words.specs.Columns.{rows, Rows, columns, columns_put, put, store, header, header_put, put_header}
use Rattle.def_words.specs.Columns.{header_put_header, header_other, columns_put_header, rows_put, rows_put_header, stores}
use Rattle.def_words.specs.Layout.{none, queue_shape, TAKEN, PUT, QUEUED, SLOT, POSITION}
use Rattle.def_words.specs.Index.{levels, seat, slot_in, put_slot, shifted_down, shifted_up, put_seat, take_seat, emptied}

abbrev position_in : List ℕ → ℕ → ℕ
position_in q p = columns queue_shape q POSITION p

-- columns of which the slots and the positions are others
abbrev pub slotted : (ℕ → ℕ → ℕ) → (ℕ → ℕ) → (ℕ → ℕ) → ℕ → ℕ → ℕ
slotted c f h k = pick (eqb k POSITION) h (pick (eqb k SLOT) f (c k))

-- the words l after stores in the index of q, whose slots then are f and whose positions h
pub record Slotted (R : ℕ) (q l : List ℕ) (f h : ℕ → ℕ) : Type 0 where
  pub words : columns queue_shape l ≡ slotted (columns queue_shape q) f h
  pub counters : (k : ℕ) → ltb k queue_shape.head ≡ true → header l k ≡ header q k
  pub rows : rows queue_shape R l ≡ rows queue_shape R q

-- one cell in a slot
slot_put : (R : ℕ) (q : List ℕ) (i x : ℕ) → Rows queue_shape R q → i < R → x < R
    → Slotted R q (put_slot q i x) (update (slot_in q) i x) (update (position_in q) x i)
slot_put R q i x r a b =
    let l : List ℕ = put queue_shape q i SLOT x in
    let rl = rows_put queue_shape R q i SLOT x in
    record {
      words = columns_put queue_shape R l x POSITION i refl (rl ∙ r) b
          ∙ ap (λ c k. pick (eqb k POSITION) (update (c POSITION) x i) (c k))
          (columns_put queue_shape R q i SLOT x refl r a);
      counters = λ k e. header_put queue_shape l x POSITION i k e ∙ header_put queue_shape q i SLOT x k e;
      rows = rows_put queue_shape R l x POSITION i ∙ rl;
    }

-- and further ones
slots_on : (R : ℕ) (q m l : List ℕ) (f h f' h' : ℕ → ℕ) → Slotted R q m f h → Slotted R m l f' h'
    → Slotted R q l f' h'
slots_on R q m l f h f' h' a b = record {
  words = b.words ∙ ap (λ c. slotted c f' h') a.words ∙ fun_ext (λ k. over k (eqb k POSITION) (eqb k SLOT));
  counters = λ k e. b.counters k e ∙ a.counters k e;
  rows = b.rows ∙ a.rows;
}
  where
    over : (k : ℕ) (t u : Bool) → pick t h' (pick u f' (pick t h (pick u f (columns queue_shape q k))))
        ≡ pick t h' (pick u f' (columns queue_shape q k))
    over k true u = refl
    over k false true = refl
    over k false false = refl

either : (R : ℕ) (q : List ℕ) (t : Bool) {l m : List ℕ} {f h f' h' : ℕ → ℕ} → Slotted R q l f h
    → (t ≡ false → Slotted R q m f' h') → Slotted R q (pick t l m) (pick t f f') (pick t h h')
either R q true a b = a
either R q false a b = b refl

above_less : (i b : ℕ) → i < b → above i < b
above_less i b h = omega (arith, div-le_self (i - 1) 2)

-- the numbers in the slots below b are rows
abbrev Within : ℕ → ℕ → (ℕ → ℕ) → Type 0
Within R b slot = (j : ℕ) → j < b → slot j < R

module _ (R b : ℕ) where
  -- further ones, from those that a first store leaves: i is a slot, y the cell in it
  module _ (q : List ℕ) (r : Rows queue_shape R q) (inside : Within R b (slot_in q)) (i y : ℕ) (a : i < R)
      (c : y < R) where
    one : Slotted R q (put_slot q i y) (update (slot_in q) i y) (update (position_in q) y i)
    one = slot_put R q i y r a c

    rows_on : Rows queue_shape R (put_slot q i y)
    rows_on = one.rows ∙ r

    inside_on : Within R b (slot_in (put_slot q i y))
    inside_on j h = rw (ap (λ k. k SLOT) one.words) (elim (ℕ_discrete j i) [
      | yes e ↦ rw (e, update_same (slot_in q) i y) c
      | no e ↦ rw (update_other (slot_in q) i y j e) (inside j h)
    ])

    slots_then : (l : List ℕ) (f h : (ℕ → ℕ) → (ℕ → ℕ) → ℕ → ℕ)
        → Slotted R (put_slot q i y) l (f (slot_in (put_slot q i y)) (position_in (put_slot q i y)))
        (h (slot_in (put_slot q i y)) (position_in (put_slot q i y)))
        → Slotted R q l (f (update (slot_in q) i y) (update (position_in q) y i))
        (h (update (slot_in q) i y) (update (position_in q) y i))
    slots_then l f h rest =
        slots_on R q (put_slot q i y) l _ _ _ _ one
        (rw (ap (λ k. k SLOT) one.words, ap (λ k. k POSITION) one.words) at rest)

  shifted_down_lem : (n : ℕ) (q : List ℕ) (x i k : ℕ) → Rows queue_shape R q → Within R b (slot_in q) → i < R → x < R
      → (eqb i k ≡ false → above i < b)
      → Slotted R q (shifted_down n q x i k) (shift_down n (slot_in q) x i k)
      (positions_down n (slot_in q) (position_in q) x i k)
  unfolding shifted_down shift_down positions_down
  shifted_down_lem zero q x i k r inside a c u = slot_put R q i x r a c
  shifted_down_lem (suc n) q x i k r inside a c u =
      let y : ℕ = slot_in q (above i) in
      either R q (eqb i k) (slot_put R q i x r a c)
      (λ e.
      let d : y < R = inside (above i) (u e) in
      slots_then q r inside i y a d _ (λ s p. shift_down n s x (above i) k) (λ s p. positions_down n s p x (above i) k)
      (shifted_down_lem n (put_slot q i y) x (above i) k (rows_on q r inside i y a d) (inside_on q r inside i y a d)
      (above_less i R a) c (λ _. above_less (above i) b (u e))))

  shifted_up_lem : b ≤ R → (n : ℕ) (q : List ℕ) (x k : ℕ) → Rows queue_shape R q → Within R b (slot_in q) → k < b → x < R
      → Slotted R q (shifted_up n q x k) (shift_up n (slot_in q) x k) (positions_up n (slot_in q) (position_in q) x k)
  unfolding shifted_up shift_up positions_up
  shifted_up_lem fits zero q x k r inside a c = slot_put R q k x r (omega arith) c
  shifted_up_lem fits (suc n) q x k r inside a c =
      let w : k < R = omega arith in
      let y : ℕ = slot_in q k in
      either R q (eqb k 0) (slot_put R q k x r w c)
      (λ e.
      slots_then q r inside k x w c _ (λ s p. shift_up n s y (above k)) (λ s p. positions_up n s p y (above k))
      (shifted_up_lem fits n (put_slot q k x) y (above k) (rows_on q r inside k x w c) (inside_on q r inside k x w c)
      (above_less k b a) (inside k a)))

-- ---- the words after, by their cells, slots and positions and the counters
pub record Words (R : ℕ) (l : List ℕ) (x y : ℕ) (f h p : ℕ → ℕ) : Type 0 where
  pub rows : Rows queue_shape R l
  pub taken : header l TAKEN ≡ x
  pub puts : header l PUT ≡ y
  pub cells : columns queue_shape l QUEUED ≡ f
  pub slots : columns queue_shape l SLOT ≡ h
  pub positions : columns queue_shape l POSITION ≡ p

module _ (R : ℕ) (q : List ℕ) (r : Rows queue_shape R q) where
  abbrev cells : ℕ → ℕ
  cells = columns queue_shape q QUEUED

  pub seat_put : (j p m k : ℕ) → p < R → m < R → k ≤ m → Within R m (slot_in q)
      → Words R (put_seat q (seat p m k) j) (header q TAKEN) (p + 1) (update cells p j)
      (shift_down levels (slot_in q) p m k) (positions_down levels (slot_in q) (position_in q) p m k)
  unfolding put_seat
  seat_put j p m k a b h inside =
      let l : List ℕ = put queue_shape q p QUEUED j in
      let rl : Rows queue_shape R l = rows_put queue_shape R q p QUEUED j ∙ r in
      let now = columns_put queue_shape R q p QUEUED j refl r a in
      let d = shifted_down_lem R m levels l p m k rl (rw (ap (λ c. c SLOT) now) inside) b a
      (λ e. omega (arith, eqb-false m k e, div-le_self (m - 1) 2)) in
      let rd : Rows queue_shape R (shifted_down levels l p m k) = d.rows ∙ rl in
      let all = columns_put_header queue_shape (shifted_down levels l p m k) PUT (p + 1) refl ∙ d.words in
      record {
        rows = rows_put_header queue_shape R _ PUT (p + 1) ∙ rd;
        taken = header_other _ PUT (p + 1) TAKEN refl ∙ d.counters TAKEN refl
            ∙ header_put queue_shape q p QUEUED j TAKEN refl;
        puts = header_put_header queue_shape R _ PUT (p + 1) refl rd;
        cells = ap (λ c. c QUEUED) all ∙ ap (λ c. c QUEUED) now;
        slots = ap (λ c. c SLOT) all ∙ ap (λ c. shift_down levels (c SLOT) p m k) now;
        positions = ap (λ c. c POSITION) all ∙ ap (λ c. positions_down levels (c SLOT) (c POSITION) p m k) now;
      }

  pub seat_take : (p m k : ℕ) → p < R → m < R → k ≤ m → Within R (suc m) (slot_in q)
      → Words R (take_seat q (seat p m k)) (header q TAKEN + 1) (header q PUT) (update cells p none)
      (update (shift_up levels (slot_in q) (slot_in q m) k) m none)
      (update (positions_up levels (slot_in q) (position_in q) (slot_in q m) k) p none)
  unfolding take_seat
  seat_take p m k a b h inside =
      let u = shifted_up_lem R (suc m) (omega arith) levels q (slot_in q m) k r inside (omega arith)
      (inside m (omega arith)) in
      let l : List ℕ = shifted_up levels q (slot_in q m) k in
      let rl : Rows queue_shape R l = u.rows ∙ r in
      let c : ℕ → ℕ → ℕ = columns queue_shape l in
      let all : columns queue_shape (put_header (emptied l p m) TAKEN (header q TAKEN + 1))
      ≡ store (store (store c m SLOT none) p QUEUED none) p POSITION none =
      simp (stores, columns_put queue_shape R, rl, a, b) in
      record {
        rows = simp (stores, rl);
        taken = simp (stores, header_put_header queue_shape R, rl);
        puts = simp (stores, rl) (u.counters PUT refl);
        cells = ap (λ f. f QUEUED) all ∙ ap (λ f. update (f QUEUED) p none) u.words;
        slots = ap (λ f. f SLOT) all ∙ ap (λ f. update (f SLOT) m none) u.words;
        positions = ap (λ f. f POSITION) all ∙ ap (λ f. update (f POSITION) p none) u.words;
      }
