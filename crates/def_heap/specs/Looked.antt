-- Which slots a number that moves has looked at: few, and it comes to rest exactly where each of them is sound. For ALL
-- slots.
use Rattle.std.specs.Prelude.{◌≡◌, ◌≢◌, Bool, ◌&&◌, ◌||◌, ltb, leb, eqb}
use Rattle.std.proofs.Math.Path.{refl, ap}
use Rattle.std.proofs.Math.Bool.{true, false}
use mathlib.Core.List.{List, [], ◌∷◌, ◌++◌}
use Prim.Native.Nat.{ℕ, zero, suc, ◌*◌, ◌≤◌, ◌<◌}
use native.Mathlib.Omega.{arith}
use Rattle.std.proofs.Math.ListN.{length, length-append}
use borrow.Author.Tests.{eqb-false, ltb-true, ltb-false, lt-leb, le-leb, leb-false}
use Rattle.def_basics.specs.Base.{pick}
use Rattle.def_basics.specs.Laws.{pick_by}
use Rattle.def_heap.specs.declared.Sifted.{Sifted}
use Rattle.def_heap.specs.declared.Sifted.TheVariants.{Rests, Astray}
use Rattle.def_heap.specs.Sift.{above, left, right, sift_up, lesser, sound_below, sift_down}

-- a number comes to rest, or is led astray
abbrev pub rests : Sifted → Bool
rests (Rests k) = true
rests Astray = false

module _ (sound : ℕ → Bool) where
  unfoldable pub each_sound : List ℕ → Bool
  each_sound [] = true
  each_sound (i ∷ l) = sound i && each_sound l

  each_append : (k l : List ℕ) → each_sound (k ++ l) ≡ (each_sound k && each_sound l)
  unfolding each_sound
  each_append [] l = refl
  each_append (i ∷ k) l = go (sound i) (each_append k l)
    where
      go : (b : Bool) → each_sound (k ++ l) ≡ (each_sound k && each_sound l)
          → (b && each_sound (k ++ l)) ≡ ((b && each_sound k) && each_sound l)
      go true e = e
      go false e = refl

module _ (rank : ℕ → ℕ) (sound : ℕ → Bool) (slot : ℕ → ℕ) where
  -- `sift_up n r i`: the slot above, as long as it is sound and its number has a higher rank
  unfoldable pub slots_up : ℕ → ℕ → ℕ → List ℕ
  slots_up zero r i = []
  slots_up (suc n) r i =
      pick (eqb i 0) []
      (above i
      ∷ pick (sound (above i)) (pick (ltb r (rank (slot (above i)))) (slots_up n r (above i)) []) [])

  -- the two slots below, as far as they are filled
  abbrev pub slots_below : ℕ → ℕ → List ℕ
  slots_below m i = left i ∷ pick (ltb (right i) m) (right i ∷ []) []

  -- `sift_down n m r i`: the slots below, as long as they are sound and the lesser number has a lower rank
  unfoldable pub slots_down : (most filled its_rank from : ℕ) → List ℕ
  slots_down zero m r i = []
  slots_down (suc n) m r i =
      pick (ltb (left i) m)
      (slots_below m i
      ++ pick (sound_below rank sound slot m i)
      (pick (ltb (rank (slot (lesser rank sound slot m i))) r) (slots_down n m r (lesser rank sound slot m i)) []) [])
      []

  -- ---- the number comes to rest exactly where each of them is sound
  pub exact_up : (n r i : ℕ) → rests (sift_up rank sound slot n r i) ≡ each_sound sound (slots_up n r i)
  unfolding sift_up slots_up each_sound
  exact_up zero r i = refl
  exact_up (suc n) r i = go (exact_up n r p) (eqb i 0) (sound p) refl (ltb r (rank (slot p)))
    where
      p : ℕ
      p = above i

      go : rests (sift_up rank sound slot n r p) ≡ each_sound sound (slots_up n r p)
          → (a s : Bool) → sound p ≡ s → (t : Bool)
          → rests (pick a (Rests i) (pick s (pick t (sift_up rank sound slot n r p) (Rests i)) Astray))
          ≡ each_sound sound (pick a [] (p ∷ pick s (pick t (slots_up n r p) []) []))
      go rest true s e t = refl
      go rest false true e true = rw e rest
      go rest false true e false = rw e refl
      go rest false false e t = rw e refl

  pub exact_below : (m i : ℕ) → each_sound sound (slots_below m i) ≡ sound_below rank sound slot m i
  unfolding each_sound
  exact_below m i = ap (λ b. sound (left i) && b) (go (ltb (right i) m) refl)
    where
      last : (b : Bool) → (b && true) ≡ b
      last true = refl
      last false = refl

      go : (b : Bool) → ltb (right i) m ≡ b
          → each_sound sound (pick b (right i ∷ []) []) ≡ (leb m (right i) || sound (right i))
      go true e = rw (lt-leb m (right i) (ltb-true (right i) m e)) (last (sound (right i)))
      go false e = rw (le-leb m (right i) (ltb-false (right i) m e)) refl

  pub exact_down : (n m r i : ℕ) → rests (sift_down rank sound slot n m r i) ≡ each_sound sound (slots_down n m r i)
  unfolding sift_down slots_down each_sound
  exact_down zero m r i = refl
  exact_down (suc n) m r i =
      go (exact_down n m r c) (ltb (left i) m) (sound_below rank sound slot m i) refl (ltb (rank (slot c)) r)
    where
      c : ℕ
      c = lesser rank sound slot m i

      go : rests (sift_down rank sound slot n m r c) ≡ each_sound sound (slots_down n m r c)
          → (a s : Bool) → sound_below rank sound slot m i ≡ s → (t : Bool)
          → rests (pick a (pick s (pick t (sift_down rank sound slot n m r c) (Rests i)) Astray) (Rests i))
          ≡ each_sound sound (pick a (slots_below m i ++ pick s (pick t (slots_down n m r c) []) []) [])
      go rest false s e t = refl
      go rest true true e true = rw (each_append sound (slots_below m i) (slots_down n m r c), exact_below m i, e) rest
      go rest true true e false = rw (each_append sound (slots_below m i) [], exact_below m i, e) refl
      go rest true false e t = rw (each_append sound (slots_below m i) [], exact_below m i, e) refl

  -- so where every filled slot is sound it comes to rest, whatever the ranks
  pub trusted_up : (m : ℕ) → ((k : ℕ) → k < m → sound k ≡ true) → (n r i : ℕ) → i ≤ m
      → rests (sift_up rank sound slot n r i) ≡ true
  unfolding sift_up
  trusted_up m h zero r i l = refl
  trusted_up m h (suc n) r i l =
      pick_by Q (eqb i 0) (λ _. refl)
      (λ e. let z = eqb-false i 0 e in
      rw (h (above i) (omega arith))
      (pick_by Q (ltb r (rank (slot (above i)))) (λ _. trusted_up m h n r (above i) (omega arith)) (λ _. refl)))
    where
      Q : Sifted → Type 0
      Q f = rests f ≡ true

  pub trusted_down : (m : ℕ) → ((k : ℕ) → k < m → sound k ≡ true) → (n r i : ℕ)
      → rests (sift_down rank sound slot n m r i) ≡ true
  unfolding sift_down
  trusted_down m h zero r i = refl
  trusted_down m h (suc n) r i =
      pick_by Q (ltb (left i) m)
      (λ e. rw (h (left i) (ltb-true (left i) m e), right_sound (leb m (right i)) refl)
      (pick_by Q (ltb (rank (slot c)) r) (λ _. trusted_down m h n r c) (λ _. refl)))
      (λ _. refl)
    where
      c : ℕ
      c = lesser rank sound slot m i

      Q : Sifted → Type 0
      Q f = rests f ≡ true

      right_sound : (b : Bool) → leb m (right i) ≡ b → (b || sound (right i)) ≡ true
      right_sound true e = refl
      right_sound false e = h (right i) (leb-false m (right i) e)

  -- ---- they are few: at most one a level on the way up, and two on the way down
  if_few : (b : Bool) (l : List ℕ) (n : ℕ) → length l ≤ n → length (pick b l []) ≤ n
  if_few true l n h = h
  if_few false l n h = omega arith

  pub level_up : (n r i k : ℕ) → (i ≢ 0 → length (slots_up n r (above i)) ≤ k) → length (slots_up (suc n) r i) ≤ suc k
  unfolding slots_up
  level_up n r i k h =
      pick_by (λ l. length l ≤ suc k) (eqb i 0) {x = []} (λ _. omega arith)
      (λ e. omega (arith, if_few (sound p) onward k (if_few further (slots_up n r p) k (h (eqb-false i 0 e)))))
    where
      p : ℕ
      p = above i

      further : Bool
      further = ltb r (rank (slot p))

      onward : List ℕ
      onward = pick further (slots_up n r p) []

  pub level_down : (n m r i k : ℕ) → length (slots_down n m r (lesser rank sound slot m i)) ≤ 2 * k
      → length (slots_down (suc n) m r i) ≤ 2 * suc k
  unfolding slots_down
  level_down n m r i k h =
      if_few (ltb (left i) m) _ (2 * suc k)
      (omega (
        arith,
        length-append (slots_below m i) (pick (sound_below rank sound slot m i) onward []),
        if_few (ltb (right i) m) (right i ∷ []) 1 (omega arith),
        if_few (sound_below rank sound slot m i) onward (2 * k) (if_few further (slots_down n m r c) (2 * k) h),
      ))
    where
      c : ℕ
      c = lesser rank sound slot m i

      further : Bool
      further = ltb (rank (slot c)) r

      onward : List ℕ
      onward = pick further (slots_down n m r c) []

  pub few_slots_up : (n r i : ℕ) → length (slots_up n r i) ≤ n
  unfolding slots_up
  few_slots_up zero r i = omega arith
  few_slots_up (suc n) r i = level_up n r i n (λ _. few_slots_up n r (above i))

  pub few_slots_down : (n m r i : ℕ) → length (slots_down n m r i) ≤ 2 * n
  unfolding slots_down
  few_slots_down zero m r i = omega arith
  few_slots_down (suc n) m r i = level_down n m r i n (few_slots_down n m r (lesser rank sound slot m i))
