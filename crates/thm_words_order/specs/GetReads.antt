-- For ALL tables: the seat of the job that a get takes, and whether it takes it, are told by the counters, four words
-- of each slot that it looks at and the first job's label and spoiled word, and by no other word. Follows
-- docs/TABLES.md, "What each step reads and writes".
use Rattle.std.specs.Prelude.{◌≡◌, Bool, true, false, ◌&&◌, ltb, eqb}
use Rattle.std.proofs.Math.Path.{refl, sym, ap}
use Rattle.std.proofs.Common.{◌∙◌}
use mathlib.Core.List.{List, [], ◌∷◌, ◌++◌}
use Prim.Native.Nat.{ℕ, zero, suc}
use Rattle.def_basics.specs.Base.{pick}
use Rattle.def_basics.specs.Laws.{pick_by}
use Rattle.def_heap.specs.Sift.{left, right, sift_down, lesser, sound_below}
use Rattle.def_heap.specs.Looked.{each_sound, slots_below, slots_down, exact_below}
use Rattle.def_heap.specs.declared.Sifted.{Sifted}
use Rattle.def_heap.specs.declared.Sifted.TheVariants.{Rests, Astray}
use Rattle.def_words.specs.Layout.{LABEL, SPOILED, QUEUED, View}
use Rattle.def_words.specs.Index.{levels, rank_of, cell_in, waits, seated, first_cell, last_slot, last_cell, first_seat_by}
use Rattle.def_words.specs.Index.{first_seat}
use Rattle.def_words.specs.Words.{next_job, spoiled_ok}
use Rattle.def_words.specs.declared.Seating.{Seating}
use Rattle.def_words.specs.declared.Seating.TheVariants.{Unseated}
use Rattle.thm_words_order.specs.Looked.{is_seated, looked_by_get, first_ok, takes_first, first_exact}
use Rattle.thm_words_order.specs.EnteringReads.{SameSlot, SameSlots, SameCounters, waits_same, rank_same, beyond}

module _ (u v : View) where
  same_left : (k l : List ℕ) → SameSlots u v (k ++ l) → SameSlots u v k
  unfolding SameSlots
  same_left [] l A = tt
  same_left (i ∷ k) l A = (A.0, same_left k l A.1)

  same_right : (k l : List ℕ) → SameSlots u v (k ++ l) → SameSlots u v l
  unfolding SameSlots
  same_right [] l A = A
  same_right (i ∷ k) l A = same_right k l A.1

  module _ (C : SameCounters u v) where
    each_same : (l : List ℕ) → SameSlots u v l → each_sound (waits u) l ≡ each_sound (waits v) l
    unfolding SameSlots each_sound
    each_same [] A = refl
    each_same (i ∷ l) A = rw (waits_same u v C i A.0, each_same l A.1)

    abbrev lesser_in : View → ℕ → ℕ → ℕ
    lesser_in x = lesser (rank_of x) (waits x) (cell_in x)

    sound_same : (m i : ℕ) → SameSlots u v (slots_below (rank_of v) (waits v) (cell_in v) m i)
        → sound_below (rank_of u) (waits u) (cell_in u) m i ≡ sound_below (rank_of v) (waits v) (cell_in v) m i
    sound_same m i A =
        sym (exact_below (rank_of u) (waits u) (cell_in u) m i) ∙ each_same _ A
        ∙ exact_below (rank_of v) (waits v) (cell_in v) m i

    lesser_same : (m i : ℕ) → SameSlots u v (slots_below (rank_of v) (waits v) (cell_in v) m i)
        → (lesser_in u m i ≡ lesser_in v m i) × SameSlot u v (lesser_in v m i)
    unfolding SameSlots
    lesser_same m i A = go (ltb (right i) m) A
      where
        R : View → ℕ → ℕ
        R x k = rank_of x (cell_in x k)

        go : (b : Bool) → SameSlots u v (left i ∷ pick b (right i ∷ []) [])
            → (pick (b && ltb (R u (right i)) (R u (left i))) (right i) (left i)
            ≡ pick (b && ltb (R v (right i)) (R v (left i))) (right i) (left i))
            × SameSlot u v (pick (b && ltb (R v (right i)) (R v (left i))) (right i) (left i))
        go true B = (
          rw (rank_same u v C (right i) B.1.0, rank_same u v C (left i) B.0),
          pick_by (SameSlot u v) (ltb (R v (right i)) (R v (left i))) (λ _. B.1.0) (λ _. B.0),
        )
        go false B = (refl, B.0)

    abbrev down_by : View → (most filled its_rank from : ℕ) → Sifted
    down_by x = sift_down (rank_of x) (waits x) (cell_in x)

    abbrev looked : (most filled its_rank from : ℕ) → List ℕ
    looked = slots_down (rank_of v) (waits v) (cell_in v)

    down_same : (n m r i : ℕ) → SameSlots u v (looked n m r i) → down_by u n m r i ≡ down_by v n m r i
    unfolding sift_down slots_down SameSlots
    down_same zero m r i A = refl
    down_same (suc n) m r i A = go (down_same n m r c) (ltb (left i) m) A
      where
        c : ℕ
        c = lesser_in v m i

        s : Bool
        s = sound_below (rank_of v) (waits v) (cell_in v) m i

        t : Bool
        t = ltb (rank_of v (cell_in v c)) r

        below : List ℕ
        below = slots_below (rank_of v) (waits v) (cell_in v) m i

        onward : List ℕ
        onward = pick s (pick t (looked n m r c) []) []

        go : (SameSlots u v (looked n m r c) → down_by u n m r c ≡ down_by v n m r c) → (a : Bool)
            → SameSlots u v (pick a (below ++ onward) [])
            → pick a
            (pick (sound_below (rank_of u) (waits u) (cell_in u) m i)
            (pick (ltb (rank_of u (cell_in u (lesser_in u m i))) r) (down_by u n m r (lesser_in u m i)) (Rests i)) Astray)
            (Rests i)
            ≡ pick a (pick s (pick t (down_by v n m r c) (Rests i)) Astray) (Rests i)
        go rest false B = refl
        go rest true B =
            let A = same_left below onward B in
            let l = lesser_same m i A in
            rw (sound_same m i A, l.0, rank_same u v C c l.1)
            (beyond u v C s (pick t (looked n m r c) []) _ _ Astray
            (beyond u v C t (looked n m r c) (down_by u n m r c) (down_by v n m r c) (Rests i) rest)
            (same_right below onward B))

    pub first_seat_same : SameSlots u v (looked_by_get v) → first_seat u ≡ first_seat v
    unfolding first_seat_by looked_by_get SameSlots
    first_seat_same A =
        ap (taken u) last
        ∙ rw (
          waits_same u v C 0 A.0,
          waits_same u v C (last_slot v) A.1.0,
          rank_same u v C (last_slot v) A.1.0,
          A.0.cell,
          down_same levels (last_slot v) (rank_of v (last_cell v)) 0 A.1.1,
        )
      where
        taken : View → ℕ → Seating
        taken x m =
            pick (waits x 0 && waits x m)
            (seated (down_by x levels m (rank_of x (cell_in x m)) 0) (first_cell x) m)
            Unseated

        last : last_slot u ≡ last_slot v
        last = rw (C.put, C.taken)

    -- whether it is taken, too
    pub takes_same : SameSlots u v (looked_by_get v) → u.job LABEL (next_job v) ≡ v.job LABEL (next_job v)
        → u.job SPOILED (next_job v) ≡ v.job SPOILED (next_job v)
        → takes_first u ≡ takes_first v
    unfolding looked_by_get SameSlots
    takes_same A label spoiled =
        sym (exact u) ∙ ap (λ r. is_seated r && first_ok u) (first_seat_same A)
        ∙ ap (λ j. is_seated (first_seat v) && (eqb (u.job LABEL j) 0 && spoiled_ok u j)) next
        ∙ rw (label, spoiled) (exact v)
      where
        next : next_job u ≡ next_job v
        next = ap (u.cell QUEUED) A.0.cell ∙ A.0.queued

        exact : (x : View) → (is_seated (first_seat x) && first_ok x) ≡ takes_first x
        exact x = ap (λ b. b && first_ok x) (first_exact x)
