-- What is compared while a number moves through a heap: how many pairs there are, and that no others matter.
use Rattle.std.specs.Prelude.{◌≡◌, Bool, ◌&&◌, eqb, length}
use Rattle.std.proofs.Math.Path.{refl}
use Rattle.std.proofs.Common.{sym, ◌∙◌}
use Rattle.std.proofs.Math.Bool.{true, false}
use mathlib.Core.List.{List, [], ◌∷◌, ◌++◌}
use Prim.Native.Nat.{ℕ, zero, suc, ◌*◌, ◌≤◌}
use native.Mathlib.Omega.{arith}
use Rattle.std.proofs.Math.Dec.{ltb}
use Rattle.def_basics.specs.Base.{pick}
use Rattle.def_heap.specs.declared.Sifted.{Sifted}
use Rattle.def_heap.specs.declared.Sifted.TheVariants.{Rests, Astray}
use Rattle.def_heap.specs.Sift.{above, left, right, sift_up, lesser, sound_below, sift_down}
use Rattle.def_heap.specs.Looked.{each_sound, slots_up, slots_below, slots_down, exact_below, few_slots_down}
use Rattle.def_heap.specs.Compared.{pairs_up, pair_below, pairs_down, Alike, AgreeOn}

module _ (rank : ℕ → ℕ) (sound : ℕ → Bool) (slot : ℕ → ℕ) where
  -- ---- they are no more than the slots that are looked at: one a level on the way up, two on the way down
  pub fewer_up : (n x i : ℕ) → length (pairs_up rank sound slot n x i) ≤ length (slots_up rank sound slot n (rank x) i)
  unfolding pairs_up slots_up
  fewer_up zero x i = omega arith
  fewer_up (suc n) x i = go (eqb i 0) (sound p) (ltb (rank x) (rank (slot p))) (fewer_up n x p)
    where
      p : ℕ
      p = above i

      go : (a s t : Bool) → length (pairs_up rank sound slot n x p) ≤ length (slots_up rank sound slot n (rank x) p)
          → length (pick a [] (pick s ((x, slot p) ∷ pick t (pairs_up rank sound slot n x p) []) []))
          ≤ length (pick a [] (p ∷ pick s (pick t (slots_up rank sound slot n (rank x) p) []) []))
      go true s t h = omega arith
      go false false t h = omega arith
      go false true true h = omega arith
      go false true false h = omega arith

  pub fewer_down : (n m x i : ℕ) → length (pairs_down rank sound slot n m x i) ≤ length (slots_down rank sound slot n m (rank x) i)
  unfolding pairs_down slots_down
  fewer_down zero m x i = omega arith
  fewer_down (suc n) m x i =
      go (ltb (left i) m) (sound_below rank sound slot m i) (ltb (right i) m) (ltb (rank (slot c)) (rank x))
      (fewer_down n m x c)
    where
      c : ℕ
      c = lesser rank sound slot m i

      go : (a s f t : Bool) → length (pairs_down rank sound slot n m x c) ≤ length (slots_down rank sound slot n m (rank x) c)
          → length (pick a
          (pick s
          (pick f ((slot (right i), slot (left i)) ∷ []) [] ++ ((slot c, x) ∷ pick t (pairs_down rank sound slot n m x c) [])) []) [])
          ≤ length (pick a
          ((left i ∷ pick f (right i ∷ []) [])
          ++ pick s (pick t (slots_down rank sound slot n m (rank x) c) []) []) [])
      go false s f t h = omega arith
      go true false f t h = omega arith
      go true true true true h = omega arith
      go true true true false h = omega arith
      go true true false true h = omega arith
      go true true false false h = omega arith

  pub few_down : (n m x i : ℕ) → length (pairs_down rank sound slot n m x i) ≤ 2 * n
  few_down n m x i = omega (arith, fewer_down n m x i, few_slots_down rank sound slot n m (rank x) i)

module _ (sound sound' : ℕ → Bool) where
  agree_left : (l r : List ℕ) → AgreeOn sound sound' (l ++ r) → AgreeOn sound sound' l
  unfolding AgreeOn
  agree_left [] r B = tt
  agree_left (i ∷ l) r B = (B.0, agree_left l r B.1)

  agree_right : (l r : List ℕ) → AgreeOn sound sound' (l ++ r) → AgreeOn sound sound' r
  unfolding AgreeOn
  agree_right [] r B = B
  agree_right (i ∷ l) r B = agree_right l r B.1

module _ (rank other : ℕ → ℕ) where
  alike_left : (l r : List (ℕ × ℕ)) → Alike rank other (l ++ r) → Alike rank other l
  unfolding Alike
  alike_left [] r A = tt
  alike_left (p ∷ l) r A = (A.0, alike_left l r A.1)

  alike_right : (l r : List (ℕ × ℕ)) → Alike rank other (l ++ r) → Alike rank other r
  unfolding Alike
  alike_right [] r A = A
  alike_right (p ∷ l) r A = alike_right l r A.1

  -- the pairs beyond a test count only where it leads on
  alike_pick : (b : Bool) (l : List (ℕ × ℕ)) (f g s : Sifted) → (Alike rank other l → f ≡ g)
      → Alike rank other (pick b l []) → pick b f s ≡ pick b g s
  alike_pick true l f g s rest A = rest A
  alike_pick false l f g s rest A = refl

  module _ (sound : ℕ → Bool) (slot : ℕ → ℕ) where
    pub same_up : (n x i : ℕ) → Alike rank other (pairs_up rank sound slot n x i)
        → sift_up other sound slot n (other x) i ≡ sift_up rank sound slot n (rank x) i
    unfolding sift_up pairs_up Alike
    same_up zero x i A = refl
    same_up (suc n) x i A = go (eqb i 0) (sound p) (same_up n x p) A
      where
        p : ℕ
        p = above i

        go : (a s : Bool)
            → (Alike rank other (pairs_up rank sound slot n x p)
            → sift_up other sound slot n (other x) p ≡ sift_up rank sound slot n (rank x) p)
            → Alike rank other (pick a []
            (pick s ((x, slot p) ∷ pick (ltb (rank x) (rank (slot p))) (pairs_up rank sound slot n x p) []) []))
            → pick a (Rests i)
            (pick s (pick (ltb (other x) (other (slot p))) (sift_up other sound slot n (other x) p) (Rests i)) Astray)
            ≡ pick a (Rests i)
            (pick s (pick (ltb (rank x) (rank (slot p))) (sift_up rank sound slot n (rank x) p) (Rests i)) Astray)
        go true s rest A = refl
        go false false rest A = refl
        go false true rest A =
            rw A.0
            (alike_pick (ltb (rank x) (rank (slot p))) (pairs_up rank sound slot n x p)
            (sift_up other sound slot n (other x) p) (sift_up rank sound slot n (rank x) p) (Rests i) rest A.1)

    same_lesser : (m i : ℕ) → Alike rank other (pair_below rank sound slot m i)
        → lesser other sound slot m i ≡ lesser rank sound slot m i
    unfolding Alike
    same_lesser m i A = go (ltb (right i) m) A
      where
        go : (b : Bool) → Alike rank other (pick b ((slot (right i), slot (left i)) ∷ []) [])
            → pick (b && ltb (other (slot (right i))) (other (slot (left i)))) (right i) (left i)
            ≡ pick (b && ltb (rank (slot (right i))) (rank (slot (left i)))) (right i) (left i)
        go true A = rw A.0
        go false A = refl

  -- nor whether any other slot is sound
  module _ (sound sound' : ℕ → Bool) (slot : ℕ → ℕ) where
    each_agrees : (l : List ℕ) → AgreeOn sound sound' l → each_sound sound' l ≡ each_sound sound l
    unfolding AgreeOn each_sound
    each_agrees [] B = refl
    each_agrees (i ∷ l) B = rw (B.0, each_agrees l B.1)

    same_below : (m i : ℕ) → AgreeOn sound sound' (slots_below rank sound slot m i)
        → sound_below other sound' slot m i ≡ sound_below rank sound slot m i
    same_below m i B =
        sym (exact_below other sound' slot m i) ∙ each_agrees _ B ∙ exact_below rank sound slot m i

    -- the pairs and slots beyond a test count only where it leads on
    both_pick : (b : Bool) (l : List (ℕ × ℕ)) (k : List ℕ) (f g s : Sifted)
        → (Alike rank other l → AgreeOn sound sound' k → f ≡ g)
        → Alike rank other (pick b l []) → AgreeOn sound sound' (pick b k []) → pick b f s ≡ pick b g s
    both_pick true l k f g s rest A B = rest A B
    both_pick false l k f g s rest A B = refl

    pub same_down : (n m x i : ℕ) → Alike rank other (pairs_down rank sound slot n m x i)
        → AgreeOn sound sound' (slots_down rank sound slot n m (rank x) i)
        → sift_down other sound' slot n m (other x) i ≡ sift_down rank sound slot n m (rank x) i
    unfolding sift_down pairs_down slots_down Alike AgreeOn
    same_down zero m x i A B = refl
    same_down (suc n) m x i A B = go (ltb (left i) m) (sound_below rank sound slot m i) refl (same_down n m x c) A B
      where
        c : ℕ
        c = lesser rank sound slot m i

        d : ℕ
        d = lesser other sound slot m i

        t : Bool
        t = ltb (rank (slot c)) (rank x)

        pairs : List (ℕ × ℕ)
        pairs = pairs_down rank sound slot n m x c

        slots : List ℕ
        slots = slots_down rank sound slot n m (rank x) c

        below : List ℕ
        below = slots_below rank sound slot m i

        go : (a s : Bool) → sound_below rank sound slot m i ≡ s
            → (Alike rank other pairs → AgreeOn sound sound' slots
            → sift_down other sound' slot n m (other x) c ≡ sift_down rank sound slot n m (rank x) c)
            → Alike rank other
            (pick a (pick s (pair_below rank sound slot m i ++ ((slot c, x) ∷ pick t pairs [])) []) [])
            → AgreeOn sound sound' (pick a (below ++ pick s (pick t slots []) []) [])
            → pick a
            (pick (sound_below other sound' slot m i)
            (pick (ltb (other (slot d)) (other x)) (sift_down other sound' slot n m (other x) d) (Rests i)) Astray)
            (Rests i)
            ≡ pick a (pick s (pick t (sift_down rank sound slot n m (rank x) c) (Rests i)) Astray) (Rests i)
        go false s e rest A B = refl
        go true false e rest A B = rw (same_below m i (agree_left sound sound' below [] B), e)
        go true true e rest A B =
            let ahead : List (ℕ × ℕ) = (slot c, x) ∷ pick t pairs [] in
            let C = alike_right (pair_below rank sound slot m i) ahead A in
            rw (
              same_below m i (agree_left sound sound' below (pick t slots []) B),
              e,
              same_lesser sound slot m i (alike_left (pair_below rank sound slot m i) ahead A),
              C.0,
            )
            (both_pick t pairs slots _ _ (Rests i) rest C.1
            (agree_right sound sound' below (pick t slots []) B))
