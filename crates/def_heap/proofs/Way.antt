-- The slots whose numbers a shift carries: where a number came to rest, each of them was looked at and is sound, and
-- how far it goes: past each number of a higher rank on its way up, and of a lower one on its way down. For ALL slots.
use Rattle.std.specs.Prelude.{◌≡◌, refl, ◌≢◌, Bool, true, false, ltb, eqb}
use Prim.Native.Nat.{ℕ, zero, suc, ◌+◌, ◌*◌, ◌^◌, ◌≤◌, ◌<◌}
use native.Mathlib.Omega.{arith}
use borrow.Author.Tests.{eq-eqb, eqb-true, eqb-false, ltb-true, ltb-false}
use Rattle.def_basics.specs.Base.{pick}
use Rattle.def_basics.specs.Laws.{never, pick_by}
use Rattle.def_heap.specs.declared.Sifted.{Sifted}
use Rattle.def_heap.specs.declared.Sifted.TheVariants.{Rests}
use Rattle.def_heap.specs.Sift.{above, left, sift_up, lesser, sound_below, sift_down}
use Rattle.def_heap.proofs.Heap.{Below, Leads, leads_within, leads_on, lesser_is, deeper}
use Rattle.def_heap.proofs.Same.{lesser_sound}

-- each slot above i up to k: `shift_down n slot x i k` carries their numbers
abbrev pub WayUp : (ℕ → Type 0) → ℕ → ℕ → ℕ → Type 0
WayUp P zero i k = Unit {0}
WayUp P (suc n) i k = pick (eqb i k) (Unit {0}) (P (above i) × WayUp P n (above i) k)

-- each slot from k up, but for slot 0: `shift_up n slot x k` carries their numbers
abbrev pub WayFirst : (ℕ → Type 0) → ℕ → ℕ → Type 0
WayFirst P zero k = Unit {0}
WayFirst P (suc n) k = pick (eqb k 0) (Unit {0}) (P k × WayFirst P n (above k))

-- what holds of a way may be weakened
pick_weaker : (b : Bool) (A B : Type 0) → (A → B) → pick b (Unit {0}) A → pick b (Unit {0}) B
pick_weaker true A B f x = x
pick_weaker false A B f x = f x

module _ {P R : ℕ → Type 0} (f : (j : ℕ) → P j → R j) where
  pub up_weaker : (n i k : ℕ) → WayUp P n i k → WayUp R n i k
  up_weaker zero i k x = tt
  up_weaker (suc n) i k x =
      pick_weaker (eqb i k) _ _ (λ y. (f (above i) y.0, up_weaker n (above i) k y.1)) x

  pub first_weaker : (n k : ℕ) → WayFirst P n k → WayFirst R n k
  first_weaker zero k x = tt
  first_weaker (suc n) k x = pick_weaker (eqb k 0) _ _ (λ y. (f k y.0, first_weaker n (above k) y.1)) x

-- ---- ways by their steps
pick_unit : (b : Bool) {A : Type 0} → A → pick b (Unit {0}) A
pick_unit true a = tt
pick_unit false a = a

pub leads_up : (P : ℕ → Type 0) (n : ℕ) {i k : ℕ} → Leads (λ j. P (above j)) k n i → WayUp P n i k
leads_up P zero Leads.ends = tt
leads_up P (suc n) {i} Leads.ends = rw (eq-eqb i i refl) tt
leads_up P (suc n) {i} {k} (Leads.on l p r) = pick_unit (eqb i k) (p, leads_up P n r)

pub leads_first : (P : ℕ → Type 0) (n : ℕ) {k : ℕ} → Leads P 0 n k → WayFirst P n k
leads_first P zero Leads.ends = tt
leads_first P (suc n) Leads.ends = tt
leads_first P (suc n) {k} (Leads.on l p r) = pick_unit (eqb k 0) (p, leads_first P n r)

-- ---- the way of a number of rank r that came to rest
module _ (rank : ℕ → ℕ) (sound : ℕ → Bool) (slot : ℕ → ℕ) where
  -- a slot that it passes on its way up
  pub record Overtaken (r j : ℕ) : Type 0 where
    pub waits : sound j ≡ true
    pub higher : r < rank (slot j)

  -- and one that it passes on its way down, where m slots are filled: the number there has the lowest rank of those
  -- beside it
  pub record Raised (m r j : ℕ) : Type 0 where
    pub waits : sound j ≡ true
    pub lower : rank (slot j) < r
    pub least : (b : ℕ) → b < m → Below (above j) b → rank (slot j) ≤ rank (slot b)

  pub up_leads : (n r i k : ℕ) → sift_up rank sound slot n r i ≡ Rests k → Leads (λ j. Overtaken r (above j)) k n i
  unfolding sift_up
  up_leads zero r i k = λ e. let z : i ≡ k = cc in rw z Leads.ends
  up_leads (suc n) r i k =
      pick_by Q (eqb i 0) (λ _. stays)
      (λ z. pick_by Q (sound p)
      (λ s. pick_by Q (ltb r (rank (slot p)))
      (λ h e.
      let rest = up_leads n r p k e in
      Leads.on (omega (arith, eqb-false i 0 z, leads_within rest))
      (record { waits = s; higher = ltb-true r (rank (slot p)) h }) rest)
      (λ _. stays))
      (λ _ e. never cc))
    where
      p : ℕ
      p = above i

      Q : Sifted → Type 0
      Q s = s ≡ Rests k → Leads (λ j. Overtaken r (above j)) k (suc n) i

      stays : Q (Rests i)
      stays e = let z : i ≡ k = cc in rw z Leads.ends

  -- it has not passed the one above, where the levels suffice
  pub up_stays : (n r i k : ℕ) → sift_up rank sound slot n r i ≡ Rests k → i < 2 ^ n → k ≢ 0
      → rank (slot (above k)) ≤ r
  unfolding sift_up
  up_stays zero r i k = λ e h d. let z : i ≡ k = cc in absurd (d (omega arith))
  up_stays (suc n) r i k =
      pick_by Q (eqb i 0) (λ z e h d. let y : i ≡ k = cc in absurd (d (omega (arith, eqb-true i 0 z))))
      (λ z. pick_by Q (sound p)
      (λ s. pick_by Q (ltb r (rank (slot p))) (λ _ e h. up_stays n r p k e (omega arith))
      (λ g e h d. let y : i ≡ k = cc in rw (← y) (ltb-false r (rank (slot p)) g)))
      (λ _ e. never cc))
    where
      p : ℕ
      p = above i

      Q : Sifted → Type 0
      Q s = s ≡ Rests k → i < 2 ^ suc n → k ≢ 0 → rank (slot (above k)) ≤ r

  pub down_leads : (n m r i k : ℕ) → sift_down rank sound slot n m r i ≡ Rests k → Leads (Raised m r) i n k
  unfolding sift_down
  down_leads zero m r i k = λ e. let z : i ≡ k = cc in rw z Leads.ends
  down_leads (suc n) m r i k =
      pick_by Q (ltb (left i) m)
      (λ l. pick_by Q (sound_below rank sound slot m i)
      (λ s. pick_by Q (ltb (rank (slot c)) r)
      (λ h e.
      let at = lesser_is rank sound slot m i (ltb-true (left i) m l) in
      leads_on at.below
      (record {
        waits = lesser_sound rank sound slot m i (ltb-true (left i) m l) s;
        lower = ltb-true (rank (slot c)) r h;
        least = λ b o d. at.least b o (omega (arith, at.below), omega (arith, at.below));
      }) (down_leads n m r c k e))
      (λ _. stays))
      (λ _ e. never cc))
      (λ _. stays)
    where
      c : ℕ
      c = lesser rank sound slot m i

      Q : Sifted → Type 0
      Q s = s ≡ Rests k → Leads (Raised m r) i (suc n) k

      stays : Q (Rests i)
      stays e = let z : i ≡ k = cc in rw z Leads.ends

  -- it has passed neither of those below, where the levels suffice
  pub down_stays : (n m r i k : ℕ) → sift_down rank sound slot n m r i ≡ Rests k → m < (i + 1) * 2 ^ suc n
      → (b : ℕ) → b < m → Below k b → r ≤ rank (slot b)
  unfolding sift_down
  down_stays zero m r i k = λ e h b o d. let z : i ≡ k = cc in absurd (omega arith)
  down_stays (suc n) m r i k =
      pick_by Q (ltb (left i) m)
      (λ l. let at = lesser_is rank sound slot m i (ltb-true (left i) m l) in
      pick_by Q (sound_below rank sound slot m i)
      (λ _. pick_by Q (ltb (rank (slot c)) r)
      (λ _ e h. down_stays n m r c k e (deeper i c (suc n) m at.below h))
      (λ g e h b o d.
      let z : i ≡ k = cc in
      omega (arith, ltb-false (rank (slot c)) r g, at.least b o (omega arith, omega arith))))
      (λ _ e. never cc))
      (λ l e h b o d. let z : i ≡ k = cc in absurd (omega (arith, ltb-false (left i) m l)))
    where
      c : ℕ
      c = lesser rank sound slot m i

      Q : Sifted → Type 0
      Q s = s ≡ Rests k → m < (i + 1) * 2 ^ suc (suc n) → (b : ℕ) → b < m → Below k b → r ≤ rank (slot b)

pub way_up_lem : (rank : ℕ → ℕ) (sound : ℕ → Bool) (slot : ℕ → ℕ) (n r i k : ℕ) → sift_up rank sound slot n r i ≡ Rests k
    → WayUp (λ j. sound j ≡ true) n i k
way_up_lem rank sound slot n r i k e =
    up_weaker {P = Overtaken rank sound slot r} {R = λ j. sound j ≡ true} (λ j p. p.waits) n i k
    (leads_up (Overtaken rank sound slot r) n (up_leads rank sound slot n r i k e))
