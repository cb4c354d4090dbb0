-- What a shift leaves of the slots and the positions, for ALL slots: those on the way change, and how; no other does.
use Rattle.std.specs.Prelude.{◌≡◌, refl, ◌≢◌, Bool, true, false, ◌||◌, eqb, length}
use Rattle.std.proofs.Math.Path.{sym, ap}
use Rattle.std.proofs.Common.{◌∙◌, eq-eqb, ne_eqb}
use mathlib.Core.List.{List, [], ◌∷◌}
use Prim.Native.Nat.{ℕ, zero, suc, ◌+◌, ◌^◌, ◌≤◌, ◌<◌}
use native.Mathlib.Omega.{arith}
use Rattle.std.proofs.Math.Decide.{ℕ_discrete}
use Rattle.std.proofs.lemmas.Bool.{eqb-false}
use Rattle.def_basics.specs.Base.{pick, update, contains}
use Rattle.def_basics.specs.Laws.{never, or_left, or_right, update_same, update_other}
use Rattle.def_heap.specs.Sift.{above, shift_down, shift_up, positions_down, positions_up}
use Rattle.def_heap.proofs.Heap.{Leads}

-- the slots from i up to k, each the one above the last, at most n levels
unfoldable pub way_up : ℕ → ℕ → ℕ → List ℕ
way_up zero i k = i ∷ []
way_up (suc n) i k = i ∷ pick (eqb i k) [] (way_up n (above i) k)

abbrev pub On : ℕ → List ℕ → Type 0
On j way = contains j way ≡ true

abbrev pub Off : ℕ → List ℕ → Type 0
Off j way = contains j way ≡ false

-- ---- on a way
-- a slot is the first of a way, or on the rest of it
first_or : {A : Type 0} (j i : ℕ) (l : List ℕ) → On j (i ∷ l) → (j ≡ i → A) → (j ≢ i → On j l → A) → A
unfolding contains
first_or j i l o f g = elim (ℕ_discrete j i) [
  | yes e ↦ f e
  | no e ↦ g e (rw (ne_eqb j i e) at o)
]

only : (j i : ℕ) → On j (i ∷ []) → j ≡ i
unfolding contains
only j i o = first_or j i [] o (λ e. e) (λ e f. never cc)

off_first : (j i : ℕ) (l : List ℕ) → Off j (i ∷ l) → j ≢ i
unfolding contains
off_first j i l o = eqb-false j i (or_left (eqb j i) (contains j l) o)

off_rest : (j i : ℕ) (l : List ℕ) → Off j (i ∷ l) → Off j l
unfolding contains
off_rest j i l o = or_right (eqb j i) (contains j l) o

on_rest : (j i : ℕ) (l : List ℕ) → On j l → On j (i ∷ l)
unfolding contains
on_rest j i l o = go (eqb j i)
  where
    go : (b : Bool) → (b || contains j l) ≡ true
    go true = refl
    go false = o

on_first : (i : ℕ) (l : List ℕ) → On i (i ∷ l)
unfolding contains
on_first i l = rw (eq-eqb i i refl)

module _ {P : ℕ → Type 0} where
  -- it is the slots between its ends
  pub way_between : (n : ℕ) {i k : ℕ} → Leads P k n i → (j : ℕ) → On j (way_up n i k) → (k ≤ j) × (j ≤ i)
  unfolding way_up contains
  way_between zero {i} Leads.ends j o =
      let e = only j i o in (omega arith, omega arith)
  way_between (suc n) {i} {k} Leads.ends j o =
      let e = only j i (rw (eq-eqb i i refl) at o) in (omega arith, omega arith)
  way_between (suc n) {i} {k} (Leads.on l p r) j o =
      first_or j i (way_up n (above i) k) (rw (ne_eqb i k (omega arith)) at o) (λ e. (omega arith, omega arith))
      (λ e f. let b = way_between n r j f in (b.0, omega (arith, b.1)))

  -- what holds of a way's steps holds of its slots
  pub way_holds : (n : ℕ) {i k : ℕ} → Leads P k n i → (j : ℕ) → On j (way_up n i k) → j ≢ k → P j
  unfolding way_up
  way_holds zero {i} Leads.ends j o d = absurd (d (only j i o))
  way_holds (suc n) {i} Leads.ends j o d = absurd (d (only j i (rw (eq-eqb i i refl) at o)))
  way_holds (suc n) {i} {k} (Leads.on l p r) j o d =
      first_or j i (way_up n (above i) k) (rw (ne_eqb i k (omega arith)) at o) (λ e. rw e p)
      (λ e f. way_holds n r j f d)

  pub way_ends : (n : ℕ) {i k : ℕ} → Leads P k n i → On k (way_up n i k)
  unfolding way_up
  way_ends zero {i} Leads.ends = on_first i []
  way_ends (suc n) {i} Leads.ends = on_first i _
  way_ends (suc n) {i} {k} (Leads.on l p r) = rw (ne_eqb i k (omega arith)) (on_rest k i _ (way_ends n r))

  off_above : (n : ℕ) {i k : ℕ} → Leads P k n (above i) → k < i → Off i (way_up n (above i) k)
  off_above n {i} {k} r l = go (contains i (way_up n (above i) k)) refl
    where
      go : (b : Bool) → contains i (way_up n (above i) k) ≡ b → b ≡ false
      go true e = absurd (omega (arith, (way_between n r i e).1))
      go false e = refl

  -- and grows with the logarithm of where it starts
  pub log_way : (n b : ℕ) {i k : ℕ} → Leads P k n i → i + 1 < 2 ^ suc b → length (way_up n i k) ≤ b + 1
  unfolding way_up
  log_way zero b Leads.ends h = omega arith
  log_way (suc n) b {i} Leads.ends h = rw (eq-eqb i i refl) (omega arith)
  log_way (suc n) zero (Leads.on l p r) h = absurd (omega arith)
  log_way (suc n) (suc b) {i} {k} (Leads.on l p r) h =
      rw (ne_eqb i k (omega arith)) (omega (arith, log_way n b r (omega arith)))

-- ---- the slots and positions before and after a shift along a way: no other slot changes, each slot on the way is the
-- position of its number, and no other number's position changes
pub record Shifts (slot at slot' at' : ℕ → ℕ) (way : List ℕ) : Type 0 where
  pub kept : (j : ℕ) → Off j way → slot' j ≡ slot j
  pub there : (j : ℕ) → On j way → at' (slot' j) ≡ j
  pub others : (p : ℕ) → ((j : ℕ) → On j way → slot' j ≢ p) → at' p ≡ at p

-- ---- `shift_down n slot x i k`
down_off : (n : ℕ) (slot : ℕ → ℕ) (x i k j : ℕ) → Off j (way_up n i k) → shift_down n slot x i k j ≡ slot j
unfolding way_up shift_down
down_off zero slot x i k j = λ o. update_other slot i x j (off_first j i [] o)
down_off (suc n) slot x i k j = elim (ℕ_discrete i k) [
  | yes e ↦ rw (eq-eqb i k e) (λ o. update_other slot i x j (off_first j i [] o))
  | no e ↦ rw (ne_eqb i k e) (λ o.
      down_off n (update slot i (slot (above i))) x (above i) k j (off_rest j i _ o)
      ∙ update_other slot i (slot (above i)) j (off_first j i _ o))
]

-- each number that moves down has its slot as its position before, and is not x
abbrev pub CarriesDown : (ℕ → ℕ) → (ℕ → ℕ) → ℕ → ℕ → List ℕ → Type 0
CarriesDown slot at x k way = (j : ℕ) → On j way → j ≢ k → (at (slot (above j)) ≡ above j) × (slot (above j) ≢ x)

module _ {P : ℕ → Type 0} (x : ℕ) {k : ℕ} where
  pub down_rests : (n : ℕ) {i : ℕ} → Leads P k n i → (slot : ℕ → ℕ) → shift_down n slot x i k k ≡ x
  unfolding shift_down
  down_rests zero Leads.ends slot = update_same slot k x
  down_rests (suc n) Leads.ends slot = rw (eq-eqb k k refl) (update_same slot k x)
  down_rests (suc n) {i} (Leads.on l p r) slot = rw (ne_eqb i k (omega arith)) (down_rests n r _)

  -- the numbers from slot k on move down a slot each
  pub down_moves : (n : ℕ) {i : ℕ} → Leads P k n i → (slot : ℕ → ℕ) (j : ℕ) → On j (way_up n i k) → j ≢ k
      → shift_down n slot x i k j ≡ slot (above j)
  unfolding shift_down way_up contains
  down_moves zero Leads.ends slot j = λ o d. absurd (d (only j k o))
  down_moves (suc n) Leads.ends slot j =
      rw (eq-eqb k k refl) (λ o d. absurd (d (only j k o)))
  down_moves (suc n) {i} (Leads.on l p r) slot j =
      let y = slot (above i) in
      rw (ne_eqb i k (omega arith)) (λ o d. first_or j i (way_up n (above i) k) o
      (λ e. rw e (down_off n (update slot i y) x (above i) k i (off_above n r l) ∙ update_same slot i y))
      (λ e f. down_moves n r (update slot i y) j f d
      ∙ update_other slot i y (above j) (omega (arith, (way_between n r j f).1))))

  down_others : (n : ℕ) {i : ℕ} → Leads P k n i → (slot at : ℕ → ℕ) (p : ℕ)
      → ((j : ℕ) → On j (way_up n i k) → shift_down n slot x i k j ≢ p)
      → positions_down n slot at x i k p ≡ at p
  unfolding shift_down positions_down way_up
  down_others zero Leads.ends slot at p =
      λ h. update_other at x k p (λ e. h k (on_first k []) (update_same slot k x ∙ sym e))
  down_others (suc n) Leads.ends slot at p =
      rw (eq-eqb k k refl)
      (λ h. update_other at x k p (λ e. h k (on_first k []) (update_same slot k x ∙ sym e)))
  down_others (suc n) {i} (Leads.on l o r) slot at p =
      let y = slot (above i) in
      rw (ne_eqb i k (omega arith)) (λ h.
      down_others n r (update slot i y) (update at y i) p (λ j f. h j (on_rest j i _ f))
      ∙ update_other at y i p (λ e.
      h i (on_first i _)
      (down_off n (update slot i y) x (above i) k i (off_above n r l) ∙ update_same slot i y ∙ sym e)))

  down_there : (n : ℕ) {i : ℕ} → Leads P k n i → (slot at : ℕ → ℕ) → CarriesDown slot at x k (way_up n i k)
      → (j : ℕ) → On j (way_up n i k)
      → positions_down n slot at x i k (shift_down n slot x i k j) ≡ j
  unfolding shift_down positions_down way_up contains
  down_there zero Leads.ends slot at =
      λ h j o. rw (only j k o, update_same slot k x) (update_same at x k)
  down_there (suc n) Leads.ends slot at =
      rw (eq-eqb k k refl)
      (λ h j o. rw (only j k o, update_same slot k x) (update_same at x k))
  down_there (suc n) {i} (Leads.on l p r) slot at =
      rw (ne_eqb i k (omega arith)) (λ h j o.
      let d : i ≢ k = omega arith in
      let y : ℕ = slot (above i) in
      let here = h i (on_first i (way_up n (above i) k)) d in
      first_or j i (way_up n (above i) k) o
      (λ e. rw (e, down_off n (update slot i y) x (above i) k i (off_above n r l) ∙ update_same slot i y)
      (down_others n r (update slot i y) (update at y i) y (λ c f. elim (ℕ_discrete c k) [
        | yes z ↦ λ w. here.1 (sym w ∙ ap (shift_down n (update slot i y) x (above i) k) z ∙ down_rests n r _)
        | no z ↦ λ w.
            let b = way_between n r c f in
            let moved = down_moves n r (update slot i y) c f z in
            let same = update_other slot i y (above c) (omega (arith, b.1)) in
            let was = h c (on_rest c i (way_up n (above i) k) f) z in
            omega (arith, b.0, b.1, was.0, here.0, ap at (sym same ∙ sym moved ∙ w))
      ])
      ∙ update_same at y i))
      (λ e f. down_there n r (update slot i y) (update at y i) (λ c g z.
      let b = way_between n r c g in
      let was = h c (on_rest c i (way_up n (above i) k) g) z in
      let same = update_other slot i y (above c) (omega (arith, b.1)) in
      rw same (
        update_other at y i (slot (above c)) (λ w. absurd (omega (arith, b.0, b.1, was.0, here.0, ap at w)))
            ∙ was.0,
        was.1,
      )) j f))

  pub down_shifts : (n : ℕ) {i : ℕ} → Leads P k n i → (slot at : ℕ → ℕ) → CarriesDown slot at x k (way_up n i k)
      → Shifts slot at (shift_down n slot x i k) (positions_down n slot at x i k) (way_up n i k)
  down_shifts n {i} r slot at h = record {
    kept = down_off n slot x i k;
    there = down_there n r slot at h;
    others = down_others n r slot at;
  }

-- ---- `shift_up n slot x k`, which ends at slot 0
up_off : (n : ℕ) (slot : ℕ → ℕ) (x k j : ℕ) → Off j (way_up n k 0) → shift_up n slot x k j ≡ slot j
unfolding way_up shift_up
up_off zero slot x k j = λ o. update_other slot k x j (off_first j k [] o)
up_off (suc n) slot x k j = elim (ℕ_discrete k 0) [
  | yes e ↦ rw (eq-eqb k 0 e) (λ o. update_other slot k x j (off_first j k [] o))
  | no e ↦ rw (ne_eqb k 0 e) (λ o.
      up_off n (update slot k x) (slot k) (above k) j (off_rest j k _ o)
      ∙ update_other slot k x j (off_first j k _ o))
]

-- each number that moves up has its slot as its position before, and is not x
abbrev pub CarriesUp : (ℕ → ℕ) → (ℕ → ℕ) → ℕ → List ℕ → Type 0
CarriesUp slot at x way = (j : ℕ) → On j way → j ≢ 0 → (at (slot j) ≡ j) × (slot j ≢ x)

module _ {P : ℕ → Type 0} where
  pub up_rests : (n : ℕ) {k : ℕ} → Leads P 0 n k → (slot : ℕ → ℕ) (x : ℕ) → shift_up n slot x k k ≡ x
  unfolding shift_up
  up_rests zero {k} w slot x = update_same slot k x
  up_rests (suc n) Leads.ends slot x = update_same slot 0 x
  up_rests (suc n) {k} (Leads.on l p r) slot x =
      rw (ne_eqb k 0 (omega arith))
      (up_off n (update slot k x) (slot k) (above k) k (off_above n r l) ∙ update_same slot k x)

  -- the numbers from slot k up move up a slot each
  pub up_moves : (n : ℕ) {k : ℕ} → Leads P 0 n k → (slot : ℕ → ℕ) (x j : ℕ) → On j (way_up n k 0) → j ≢ 0
      → shift_up n slot x k (above j) ≡ slot j
  unfolding shift_up way_up contains
  up_moves zero Leads.ends slot x j = λ o d. absurd (d (only j 0 o))
  up_moves (suc n) Leads.ends slot x j = λ o d. absurd (d (only j 0 o))
  up_moves (suc n) {k} (Leads.on l p r) slot x j =
      rw (ne_eqb k 0 (omega arith)) (λ o d. first_or j k (way_up n (above k) 0) o
      (λ e. rw e (up_rests n r (update slot k x) (slot k)))
      (λ e f. up_moves n r (update slot k x) (slot k) j f d ∙ update_other slot k x j e))

  -- a number that is neither x nor moves up is in no slot of the way
  up_lacks : (n : ℕ) {k : ℕ} → Leads P 0 n k → (slot : ℕ → ℕ) (x y : ℕ) → x ≢ y
      → ((j : ℕ) → On j (way_up n k 0) → j ≢ 0 → slot j ≢ y)
      → (j : ℕ) → On j (way_up n k 0) → shift_up n slot x k j ≢ y
  unfolding shift_up way_up contains
  up_lacks zero Leads.ends slot x y d =
      λ h j o. rw (only j 0 o, update_same slot 0 x) d
  up_lacks (suc n) Leads.ends slot x y d =
      λ h j o. rw (only j 0 o, update_same slot 0 x) d
  up_lacks (suc n) {k} (Leads.on l p r) slot x y d =
      rw (ne_eqb k 0 (omega arith)) (λ h j o. first_or j k (way_up n (above k) 0) o
      (λ e.
      rw (e, up_off n (update slot k x) (slot k) (above k) k (off_above n r l), update_same slot k x) d)
      (λ e f. up_lacks n r (update slot k x) (slot k) y (h k (on_first k (way_up n (above k) 0)) (omega arith))
      (λ c g z. rw (update_other slot k x c (omega (arith, (way_between n r c g).1)))
      (h c (on_rest c k (way_up n (above k) 0) g) z)) j f))

  up_others : (n : ℕ) {k : ℕ} → Leads P 0 n k → (slot at : ℕ → ℕ) (x p : ℕ)
      → ((j : ℕ) → On j (way_up n k 0) → shift_up n slot x k j ≢ p)
      → positions_up n slot at x k p ≡ at p
  unfolding shift_up positions_up way_up
  up_others zero Leads.ends slot at x p =
      λ h. update_other at x 0 p (λ e. h 0 (on_first 0 []) (update_same slot 0 x ∙ sym e))
  up_others (suc n) Leads.ends slot at x p =
      λ h. update_other at x 0 p (λ e. h 0 (on_first 0 []) (update_same slot 0 x ∙ sym e))
  up_others (suc n) {k} (Leads.on l o r) slot at x p =
      rw (ne_eqb k 0 (omega arith)) (λ h.
      up_others n r (update slot k x) (update at x k) (slot k) p (λ j f. h j (on_rest j k _ f))
      ∙ update_other at x k p (λ e.
      h k (on_first k _)
      (up_off n (update slot k x) (slot k) (above k) k (off_above n r l) ∙ update_same slot k x ∙ sym e)))

  up_there : (n : ℕ) {k : ℕ} → Leads P 0 n k → (slot at : ℕ → ℕ) (x : ℕ) → CarriesUp slot at x (way_up n k 0)
      → (j : ℕ) → On j (way_up n k 0)
      → positions_up n slot at x k (shift_up n slot x k j) ≡ j
  unfolding shift_up positions_up way_up contains
  up_there zero Leads.ends slot at x =
      λ h j o. rw (only j 0 o, update_same slot 0 x) (update_same at x 0)
  up_there (suc n) Leads.ends slot at x =
      λ h j o. rw (only j 0 o, update_same slot 0 x) (update_same at x 0)
  up_there (suc n) {k} (Leads.on l p r) slot at x =
      rw (ne_eqb k 0 (omega arith)) (λ h j o.
      let here = h k (on_first k (way_up n (above k) 0)) (omega arith) in
      let same : (c : ℕ) → On c (way_up n (above k) 0) → update slot k x c ≡ slot c =
      λ c g. update_other slot k x c (omega (arith, (way_between n r c g).1)) in
      first_or j k (way_up n (above k) 0) o
      (λ e.
      rw (e, up_off n (update slot k x) (slot k) (above k) k (off_above n r l), update_same slot k x)
      (up_others n r (update slot k x) (update at x k) (slot k) x
      (up_lacks n r (update slot k x) (slot k) x here.1
      (λ c g z. rw (same c g) (h c (on_rest c k (way_up n (above k) 0) g) z).1))
      ∙ update_same at x k))
      (λ e f. up_there n r (update slot k x) (update at x k) (slot k) (λ c g z.
      let was = h c (on_rest c k (way_up n (above k) 0) g) z in
      rw (same c g) (
        update_other at x k (slot c) was.1 ∙ was.0,
        λ w. omega (arith, (way_between n r c g).1, was.0, here.0, ap at w),
      )) j f))

  pub up_shifts : (n : ℕ) {k : ℕ} → Leads P 0 n k → (slot at : ℕ → ℕ) (x : ℕ) → CarriesUp slot at x (way_up n k 0)
      → Shifts slot at (shift_up n slot x k) (positions_up n slot at x k) (way_up n k 0)
  up_shifts n {k} r slot at x h = record {
    kept = up_off n slot x k;
    there = up_there n r slot at x h;
    others = up_others n r slot at x;
  }
