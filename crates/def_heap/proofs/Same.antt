-- What the way up and the way down of a number depend on: the slots below a bound, which of them are sound, and the
-- ranks of the numbers in those; and the way down ends below the bound too.
use Rattle.std.specs.Prelude.{◌≡◌, Bool, true, false, ◌&&◌, ◌||◌, ltb, leb, eqb}
use Rattle.std.proofs.Math.Path.{refl}
use Prim.Native.Nat.{ℕ, zero, suc, ◌≤◌, ◌<◌}
use Rattle.std.proofs.Common.{arith}
use borrow.Author.Tests.{ltb-true, leb-false, lt-leb}
use Rattle.def_basics.specs.Base.{pick}
use Rattle.def_basics.specs.Laws.{and_left, and_right, pick_by}
use Rattle.def_heap.specs.Sift.{above, left, right, sift_up, sift_down, lesser, sound_below}
use Rattle.def_heap.specs.declared.Sifted.{Sifted}
use Rattle.def_heap.specs.declared.Sifted.TheVariants.{Rests, Astray}

-- ---- the lesser of the two slots below one is filled, and its number sound
module _ (rank : ℕ → ℕ) (sound : ℕ → Bool) (slot : ℕ → ℕ) (m i : ℕ) (h : left i < m) where
  right_filled : (c : Bool) → (ltb (right i) m && c) ≡ true → right i < m
  right_filled c e = ltb-true (right i) m (and_left (ltb (right i) m) c e)

  lesser_below : lesser rank sound slot m i < m
  lesser_below =
      pick_by (λ k. k < m) (ltb (right i) m && ltb (rank (slot (right i))) (rank (slot (left i)))) (right_filled _)
      (λ _. h)

  module _ (o : sound_below rank sound slot m i ≡ true) where
    left_sound : sound (left i) ≡ true
    left_sound = and_left (sound (left i)) _ o

    right_sound : right i < m → sound (right i) ≡ true
    right_sound f =
        rw (lt-leb m (right i) f) at (and_right (sound (left i)) _ o)

    pub lesser_sound : sound (lesser rank sound slot m i) ≡ true
    lesser_sound =
        pick_by (λ k. sound k ≡ true) (ltb (right i) m && ltb (rank (slot (right i))) (rank (slot (left i))))
        (λ e. right_sound (right_filled _ e))
        (λ _. left_sound)

-- ---- the slot of rest lies below a bound
abbrev pub RestsBelow : ℕ → Sifted → Type 0
RestsBelow b (Rests k) = k < b
RestsBelow b Astray = Unit {0}

module _ (rank : ℕ → ℕ) (sound : ℕ → Bool) (slot : ℕ → ℕ) (b : ℕ) where
  -- m slots are filled, all of them below the bound
  pub down_below : (n m r i : ℕ) → m ≤ b → i < b → RestsBelow b (sift_down rank sound slot n m r i)
  unfolding sift_down
  down_below zero m r i f h = h
  down_below (suc n) m r i f h =
      let k = lesser rank sound slot m i in
      pick_by (RestsBelow b) (ltb (left i) m)
      (λ e. let o = lesser_below rank sound slot m i (ltb-true (left i) m e) in
      pick_by (RestsBelow b) (sound_below rank sound slot m i)
      (λ _. pick_by (RestsBelow b) (ltb (rank (slot k)) r) (λ _. down_below n m r k f (omega arith)) (λ _. h))
      (λ _. tt))
      (λ _. h)

-- ---- what is looked at, and no more
both : {A : Type 0} (c : Bool) {x y x' y' : A} → (c ≡ true → x ≡ x') → (c ≡ false → y ≡ y') → pick c x y ≡ pick c x' y'
both true f g = f refl
both false f g = g refl

-- below the bound the slots are the same and the same are sound, and the numbers in those have the same ranks
pub record Matches (b : ℕ) (rank rank' : ℕ → ℕ) (sound sound' : ℕ → Bool) (slot slot' : ℕ → ℕ) : Type 0 where
  pub sounds : (i : ℕ) → i < b → sound i ≡ sound' i
  pub ranks : (i : ℕ) → i < b → sound i ≡ true → rank (slot i) ≡ rank' (slot i)
  pub slots : (i : ℕ) → i < b → slot i ≡ slot' i

module _ {b : ℕ} {rank rank' : ℕ → ℕ} {sound sound' : ℕ → Bool} {slot slot' : ℕ → ℕ}
    (a : Matches b rank rank' sound sound' slot slot') where
  pub up_same : (n r i : ℕ) → i < b → sift_up rank sound slot n r i ≡ sift_up rank' sound' slot' n r i
  unfolding sift_up
  up_same zero r i h = refl
  up_same (suc n) r i h =
      let x = slot (above i) in
      rw (← (a.slots (above i) (omega arith)), ← (a.sounds (above i) (omega arith)))
      (both (eqb i 0) (λ _. refl)
      (λ _. both (sound (above i))
      (λ o.
      rw (← (a.ranks (above i) (omega arith) o))
      (both (ltb r (rank x)) (λ _. up_same n r (above i) (omega arith)) (λ _. refl)))
      (λ _. refl)))

  -- m slots are filled
  module _ (m : ℕ) (f : m ≤ b) where
    sound_same : (i : ℕ) → left i < m → sound_below rank sound slot m i ≡ sound_below rank' sound' slot' m i
    sound_same i h = rw (← (a.sounds (left i) (omega arith))) (go (leb m (right i)) refl)
      where
        go : (c : Bool) → leb m (right i) ≡ c
            → (sound (left i) && (c || sound (right i))) ≡ (sound (left i) && (c || sound' (right i)))
        go true e = refl
        go false e = let q = leb-false m (right i) e in rw (← (a.sounds (right i) (omega arith)))

    lesser_same : (i : ℕ) → left i < m → sound_below rank sound slot m i ≡ true
        → lesser rank sound slot m i ≡ lesser rank' sound' slot' m i
    lesser_same i h o =
        rw (
          ← (a.slots (left i) (omega arith)),
          ← (a.ranks (left i) (omega arith) (left_sound rank sound slot m i h o)),
        )
        (go (ltb (right i) m) refl)
      where
        go : (c : Bool) → ltb (right i) m ≡ c
            → pick (c && ltb (rank (slot (right i))) (rank (slot (left i)))) (right i) (left i)
            ≡ pick (c && ltb (rank' (slot' (right i))) (rank (slot (left i)))) (right i) (left i)
        go true e =
            let q = ltb-true (right i) m e in
            rw (
              ← (a.slots (right i) (omega arith)),
              ← (a.ranks (right i) (omega arith) (right_sound rank sound slot m i h o q)),
            )
        go false e = refl

    pub down_same : (n r i : ℕ) → sift_down rank sound slot n m r i ≡ sift_down rank' sound' slot' n m r i
    unfolding sift_down
    down_same zero r i = refl
    down_same (suc n) r i = both (ltb (left i) m)
        (λ e. let h = ltb-true (left i) m e in
        rw (← (sound_same i h)) (both (sound_below rank sound slot m i)
        (λ o. let k = lesser rank sound slot m i in
        let q = lesser_below rank sound slot m i h in
        rw (
          ← (lesser_same i h o),
          ← (a.slots k (omega arith)),
          ← (a.ranks k (omega arith) (lesser_sound rank sound slot m i h o)),
        )
        (both (ltb (rank (slot k)) r) (λ _. down_same n r k) (λ _. refl)))
        (λ _. refl)))
        (λ _. refl)
