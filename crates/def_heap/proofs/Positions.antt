-- Where each slot is the position of its number, so it is after a number more or a number less. For ALL slots.
use Rattle.std.specs.Prelude.{◌≡◌, refl, ◌≢◌, Bool, ℕ, zero, suc, ◌^◌, ◌<◌}
use Rattle.std.proofs.Common.{sym, ap, ◌∙◌, arith, eq-eqb, ne_eqb}
use Rattle.std.proofs.Math.Decide.{ℕ_discrete}
use Rattle.def_basics.specs.Base.{update}
use Rattle.def_basics.specs.Laws.{update_same, update_at, update_other}
use Rattle.def_heap.specs.declared.Sifted.TheVariants.{Rests}
use Rattle.def_heap.specs.Sift.{above, sift_up, sift_down, shift_down, shift_up, positions_down, positions_up}
use Rattle.def_heap.proofs.Heap.{Leads}
use Rattle.def_heap.proofs.Same.{down_below}
use Rattle.def_heap.proofs.Way.{up_leads}

-- each of the first m slots is the position of its number
abbrev pub Positions : ℕ → (ℕ → ℕ) → (ℕ → ℕ) → Type 0
Positions m slot at = (k : ℕ) → k < m → at (slot k) ≡ k

-- x is put in slot i, its position: any slot k is the position of its number, where it was so before or is slot i
put : (slot at : ℕ → ℕ) (i x k : ℕ) → (k ≢ i → at (slot k) ≡ k) → (k ≢ i → slot k ≢ x)
    → update at x i (update slot i x k) ≡ k
put slot at i x k was free = elim (ℕ_discrete k i) [
  | yes e ↦ rw (update_at slot i x k e, update_same at x i) (sym e)
  | no e ↦ rw (update_other slot i x k e, update_other at x i (slot k) (free e)) (was e)
]

-- a slot does not hold y, where it held something else and what is put in is something else
lacks : (slot : ℕ → ℕ) (i x k y : ℕ) → x ≢ y → (k ≢ i → slot k ≢ y) → update slot i x k ≢ y
lacks slot i x k y other was = elim (ℕ_discrete k i) [
  | yes e ↦ rw (update_at slot i x k e) other
  | no e ↦ rw (update_other slot i x k e) (was e)
]

-- slots that are the positions of their numbers hold different numbers
apart : (slot at : ℕ → ℕ) (i k : ℕ) → at (slot i) ≡ i → at (slot k) ≡ k → i ≢ k → slot i ≢ slot k
apart slot at i k e f d z = d (sym e ∙ ap at z ∙ f)

-- ---- a number more
-- x goes in above slot i, which holds nothing of its own
down : {P : ℕ → Type 0} (m x n : ℕ) {i k : ℕ} (slot at : ℕ → ℕ) → i < m → Leads P k n i
    → ((j : ℕ) → j < m → j ≢ i → at (slot j) ≡ j) → ((j : ℕ) → j < m → j ≢ i → slot j ≢ x)
    → Positions m (shift_down n slot x i k) (positions_down n slot at x i k)
unfolding shift_down positions_down
down m x zero {i} slot at l Leads.ends was free = λ j n. put slot at i x j (was j n) (free j n)
down m x (suc n) {i} slot at l Leads.ends was free =
    rw (eq-eqb i i refl) (λ j n. put slot at i x j (was j n) (free j n))
down m x (suc n) {i} {k} slot at l (Leads.on o _ r) was free =
    rw (ne_eqb i k (omega arith))
    (down m x n (update slot i (slot p)) (update at (slot p) i) (omega arith) r
    (λ j n e. put slot at i (slot p) j (was j n)
    (λ d. apart slot at j p (was j n d) (was p (omega arith) (omega arith)) e))
    (λ j n e. lacks slot i (slot p) j x (free p (omega arith) (omega arith)) (free j n)))
  where
    p : ℕ
    p = above i

pub positions_enter : (rank : ℕ → ℕ) (sound : ℕ → Bool) (slot at : ℕ → ℕ) (n r x m k : ℕ) → m < 2 ^ n
    → sift_up rank sound slot n r m ≡ Rests k → Positions m slot at → ((i : ℕ) → i < m → slot i ≢ x)
    → Positions (suc m) (shift_down n slot x m k) (positions_down n slot at x m k)
positions_enter rank sound slot at n r x m k h e were free =
    down (suc m) x n slot at (omega arith) (up_leads rank sound slot n r m k e) (λ j l d. were j (omega arith))
    (λ j l d. free j (omega arith))

-- ---- a number less
-- x, which no slot holds, goes in at slot k
up : (m n : ℕ) (slot at : ℕ → ℕ) (x k : ℕ) → k < m → Positions m slot at → ((i : ℕ) → i < m → slot i ≢ x)
    → Positions m (shift_up n slot x k) (positions_up n slot at x k)
unfolding shift_up positions_up
up m zero slot at x k l were free = λ j n. put slot at k x j (λ _. were j n) (λ _. free j n)
up m (suc n) slot at x k l were free = elim (ℕ_discrete k 0) [
  | yes z ↦ rw (eq-eqb k 0 z) here
  | no z ↦
      rw (ne_eqb k 0 z)
      (up m n (update slot k x) (update at x k) (slot k) (above k) (omega arith) here
      (λ j o. lacks slot k x j (slot k) (λ e. free k l (sym e)) (apart slot at j k (were j o) (were k l))))
]
  where
    here : Positions m (update slot k x) (update at x k)
    here j o = put slot at k x j (λ _. were j o) (λ _. free j o)

pub positions_leave : (rank : ℕ → ℕ) (sound : ℕ → Bool) (slot at : ℕ → ℕ) (n r m k : ℕ) → m < 2 ^ n
    → sift_down rank sound slot n m r 0 ≡ Rests k → Positions (suc m) slot at
    → Positions m (shift_up n slot (slot m) k) (positions_up n slot at (slot m) k)
positions_leave rank sound slot at n r zero k h e were = λ j l. absurd (omega arith)
positions_leave rank sound slot at n r (suc m) k h e were =
    up (suc m) n slot at (slot (suc m)) k
    (rw e at (down_below rank sound slot (suc m) n (suc m) r 0 (omega arith) (omega arith)))
    (λ j l. were j (omega arith))
    (λ j l. apart slot at j (suc m) (were j (omega arith)) (were (suc m) (omega arith)) (omega arith))
