-- The words of the queue that are not in use stay none where a job enters and where one is taken. Follows
-- docs/RULES.md, "Tables and their measures": "every place none".
use Rattle.std.specs.Prelude.{◌≡◌, ◌≢◌, ℕ, zero, suc, ◌+◌, ◌≤◌, ◌<◌, eqb}
use Rattle.std.proofs.Common.{sym, ap, ◌∙◌, arith}
use Rattle.std.proofs.Math.Decide.{ℕ_discrete}
use Rattle.def_basics.specs.Base.{update}
use Rattle.def_basics.specs.Laws.{pick_by, update_at, update_other}
use Rattle.def_heap.specs.Sift.{above, shift_down, shift_up, positions_down, positions_up}
use Rattle.def_words.specs.Layout.{none, QUEUED, SLOT, POSITION}
use Rattle.thm_representation.specs.Rep.{Unused}

-- ---- a slot past the one that a shift begins with, and the position of a number in none of the slots, stay
down_past : (n : ℕ) (slot : ℕ → ℕ) (x i k q : ℕ) → i < q → shift_down n slot x i k q ≡ slot q
unfolding shift_down
down_past zero slot x i k q h = update_other slot i x q (omega arith)
down_past (suc n) slot x i k q h =
    pick_by {A = ℕ → ℕ} (λ f. f q ≡ slot q) (eqb i k) (λ _. update_other slot i x q (omega arith))
    (λ _. down_past n (update slot i (slot (above i))) x (above i) k q (omega arith)
    ∙ update_other slot i (slot (above i)) q (omega arith))

up_past : (n : ℕ) (slot : ℕ → ℕ) (x k q : ℕ) → k < q → shift_up n slot x k q ≡ slot q
unfolding shift_up
up_past zero slot x k q h = update_other slot k x q (omega arith)
up_past (suc n) slot x k q h =
    pick_by {A = ℕ → ℕ} (λ f. f q ≡ slot q) (eqb k 0) (λ _. update_other slot k x q (omega arith))
    (λ _. up_past n (update slot k x) (slot k) (above k) q (omega arith) ∙ update_other slot k x q (omega arith))

lacks : (slot : ℕ → ℕ) (i x j q : ℕ) → x ≢ q → slot j ≢ q → update slot i x j ≢ q
lacks slot i x j q a b = elim (ℕ_discrete j i) [
  | yes e ↦ rw (update_at slot i x j e) a
  | no e ↦ rw (update_other slot i x j e) b
]

down_other : (n : ℕ) (slot at : ℕ → ℕ) (x i k q : ℕ) → x ≢ q → ((j : ℕ) → j ≤ i → slot j ≢ q)
    → positions_down n slot at x i k q ≡ at q
unfolding positions_down
down_other zero slot at x i k q a free = update_other at x i q (λ z. a (sym z))
down_other (suc n) slot at x i k q a free =
    let y : ℕ = slot (above i) in
    let b : y ≢ q = free (above i) (omega arith) in
    pick_by {A = ℕ → ℕ} (λ f. f q ≡ at q) (eqb i k) (λ _. update_other at x i q (λ z. a (sym z)))
    (λ _. down_other n (update slot i y) (update at y i) x (above i) k q a
    (λ j h. lacks slot i y j q b (free j (omega arith)))
    ∙ update_other at y i q (λ z. b (sym z)))

up_other : (n : ℕ) (slot at : ℕ → ℕ) (x k q : ℕ) → x ≢ q → ((j : ℕ) → j ≤ k → slot j ≢ q)
    → positions_up n slot at x k q ≡ at q
unfolding positions_up
up_other zero slot at x k q a free = update_other at x k q (λ z. a (sym z))
up_other (suc n) slot at x k q a free =
    pick_by {A = ℕ → ℕ} (λ f. f q ≡ at q) (eqb k 0) (λ _. update_other at x k q (λ z. a (sym z)))
    (λ _. up_other n (update slot k x) (update at x k) (slot k) (above k) q (free k (omega arith))
    (λ j h. lacks slot k x j q a (free j (omega arith)))
    ∙ update_other at x k q (λ z. a (sym z)))

module _ (R put : ℕ) (small : R ≤ none) (c d : ℕ → ℕ → ℕ) (n k : ℕ) where
  -- a cell that has none is in no slot whose cell has a job
  apart : (p i : ℕ) → c QUEUED p ≡ none → c QUEUED (c SLOT i) ≢ none → c SLOT i ≢ p
  apart p i e has z = has (ap (c QUEUED) z ∙ e)

  -- ---- the job j enters in the next cell; n slots were filled
  pub unused_put : (l j : ℕ) → Unused R put n c → n < R → j ≢ none → ((i : ℕ) → i < n → c QUEUED (c SLOT i) ≢ none)
      → d QUEUED ≡ update (c QUEUED) put j → d SLOT ≡ shift_down l (c SLOT) put n k
      → d POSITION ≡ positions_down l (c SLOT) (c POSITION) put n k
      → Unused R (put + 1) (suc n) d
  unused_put l j U room some has a b e = record {
    slots = λ i h g. rw b (down_past l (c SLOT) put n k i h ∙ U.slots i (omega arith) g);
    cells = λ p h g. rw a (update_other (c QUEUED) put j p (omega arith) ∙ U.cells p (omega arith) g);
    positions = λ p g z. elim (ℕ_discrete p put) [
      | yes y ↦ absurd (some (sym (ap (λ f. f p) a ∙ update_at (c QUEUED) put j p y) ∙ z))
      | no y ↦
          let w : c QUEUED p ≡ none = sym (ap (λ f. f p) a ∙ update_other (c QUEUED) put j p y) ∙ z in
          rw e (down_other l (c SLOT) (c POSITION) put n k p (λ x. y (sym x)) (free p g w) ∙ U.positions p g w)
    ];
  }
    where
      free : (p : ℕ) → p < R → c QUEUED p ≡ none → (i : ℕ) → i ≤ n → c SLOT i ≢ p
      free p g w i h = elim (ℕ_discrete i n) [
        | yes y ↦ rw (y, U.slots n (omega arith) room) (omega arith)
        | no y ↦ apart p i w (has i (omega arith))
      ]

  -- ---- the first cell is taken; n others wait
  pub unused_take : (l first : ℕ) → Unused R put (suc n) c → k ≤ n
      → ((i : ℕ) → i < suc n → c QUEUED (c SLOT i) ≢ none)
      → d QUEUED ≡ update (c QUEUED) first none → d SLOT ≡ update (shift_up l (c SLOT) (c SLOT n) k) n none
      → d POSITION ≡ update (positions_up l (c SLOT) (c POSITION) (c SLOT n) k) first none
      → Unused R put n d
  unused_take l first U within has a b e = record {
    slots = λ i h g. rw b (elim (ℕ_discrete i n) [
      | yes y ↦ update_at (shift_up l (c SLOT) (c SLOT n) k) n none i y
      | no y ↦
          update_other (shift_up l (c SLOT) (c SLOT n) k) n none i y
          ∙ up_past l (c SLOT) (c SLOT n) k i (omega arith)
          ∙ U.slots i (omega arith) g
    ]);
    cells = λ p h g. rw a (elim (ℕ_discrete p first) [
      | yes y ↦ update_at (c QUEUED) first none p y
      | no y ↦ update_other (c QUEUED) first none p y ∙ U.cells p h g
    ]);
    positions = λ p g z. rw e (elim (ℕ_discrete p first) [
      | yes y ↦ update_at (positions_up l (c SLOT) (c POSITION) (c SLOT n) k) first none p y
      | no y ↦
          let w : c QUEUED p ≡ none = sym (ap (λ f. f p) a ∙ update_other (c QUEUED) first none p y) ∙ z in
          update_other (positions_up l (c SLOT) (c POSITION) (c SLOT n) k) first none p y
          ∙ up_other l (c SLOT) (c POSITION) (c SLOT n) k p (apart p n w (has n (omega arith)))
          (λ i h. apart p i w (has i (omega arith)))
          ∙ U.positions p g w
    ]);
  }
