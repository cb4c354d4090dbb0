-- For ALL tables: the seat of a job that enters is told by the counters, its class, and four words of each slot that it
-- looks at, and by no other word. Follows docs/TABLES.md, "What each step reads and writes".
use Rattle.std.specs.Prelude.{◌≡◌, Bool, true, false, List, [], ◌∷◌, ltb, eqb}
use Rattle.std.proofs.Math.Path.{refl}
use Prim.Native.Nat.{ℕ, zero, suc}
use Rattle.def_basics.specs.Base.{pick}
use Rattle.def_heap.specs.Sift.{above, sift_up}
use Rattle.def_heap.specs.Looked.{slots_up}
use Rattle.def_heap.specs.declared.Sifted.{Sifted}
use Rattle.def_heap.specs.declared.Sifted.TheVariants.{Rests, Astray}
use Rattle.def_terms.specs.declared.Sizes.{Sizes}
use Rattle.def_words.specs.Layout.{CLASS, QUEUED, POSITION, View}
use Rattle.def_words.specs.Index.{levels, rank_in, rank_of, cell_in, waits, filled, seat_for}
use Rattle.thm_words_order.specs.Looked.{looked_by_entering}

-- the four words of a slot: its cell, that cell's position and job, and the class of the job there
pub record SameSlot (u v : View) (i : ℕ) : Type 0 where
  pub cell : cell_in u i ≡ cell_in v i
  pub position : u.cell POSITION (cell_in v i) ≡ v.cell POSITION (cell_in v i)
  pub queued : u.cell QUEUED (cell_in v i) ≡ v.cell QUEUED (cell_in v i)
  pub class : u.job CLASS (v.cell QUEUED (cell_in v i)) ≡ v.job CLASS (v.cell QUEUED (cell_in v i))

unfoldable pub SameSlots : View → View → List ℕ → Type 0
SameSlots u v [] = Unit {0}
SameSlots u v (i ∷ l) = SameSlot u v i × SameSlots u v l

pub record SameCounters (u v : View) : Type 0 where
  pub made : u.made ≡ v.made
  pub taken : u.taken ≡ v.taken
  pub put : u.put ≡ v.put

module _ (u v : View) (C : SameCounters u v) where
  pub waits_same : (i : ℕ) → SameSlot u v i → waits u i ≡ waits v i
  unfolding waits
  waits_same i S = rw (S.cell, S.position, S.queued, S.class, C.put, C.made)

  pub rank_same : (i : ℕ) → SameSlot u v i → rank_of u (cell_in u i) ≡ rank_of v (cell_in v i)
  rank_same i S = rw (S.cell, S.queued, S.class)

  -- the slots beyond a test count only where it leads on
  pub beyond : (b : Bool) (l : List ℕ) (f g s : Sifted) → (SameSlots u v l → f ≡ g)
      → SameSlots u v (pick b l []) → pick b f s ≡ pick b g s
  beyond true l f g s rest A = rest A
  beyond false l f g s rest A = refl

  abbrev up_by : View → ℕ → ℕ → ℕ → Sifted
  up_by x = sift_up (rank_of x) (waits x) (cell_in x)

  abbrev looked : ℕ → ℕ → ℕ → List ℕ
  looked = slots_up (rank_of v) (waits v) (cell_in v)

  up_same : (n r i : ℕ) → SameSlots u v (looked n r i) → up_by u n r i ≡ up_by v n r i
  unfolding sift_up slots_up SameSlots
  up_same zero r i A = refl
  up_same (suc n) r i A = go (up_same n r p) (eqb i 0) A
    where
      p : ℕ
      p = above i

      t : Bool
      t = ltb r (rank_of v (cell_in v p))

      go : (SameSlots u v (looked n r p) → up_by u n r p ≡ up_by v n r p) → (a : Bool)
          → SameSlots u v (pick a [] (p ∷ pick (waits v p) (pick t (looked n r p) []) []))
          → pick a (Rests i)
          (pick (waits u p) (pick (ltb r (rank_of u (cell_in u p))) (up_by u n r p) (Rests i)) Astray)
          ≡ pick a (Rests i) (pick (waits v p) (pick t (up_by v n r p) (Rests i)) Astray)
      go rest true A = refl
      go rest false A =
          rw (waits_same p A.0, rank_same p A.0)
          (beyond (waits v p) (pick t (looked n r p) []) _ _ Astray
          (beyond t (looked n r p) (up_by u n r p) (up_by v n r p) (Rests i) rest)
          A.1)

  pub seat_same : (s : Sizes) (j : ℕ) → u.job CLASS j ≡ v.job CLASS j → SameSlots u v (looked_by_entering v j)
      → seat_for s u j ≡ seat_for s v j
  unfolding seat_for looked_by_entering
  seat_same s j c A = rw (← (up_same levels (rank_in v j v.put) (filled v) A), C.put, C.taken, c)
