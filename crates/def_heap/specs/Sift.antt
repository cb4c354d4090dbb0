-- A binary heap: slots with a number in each, whose rank is at most that of the numbers in the two slots below. Where a
-- number that moves comes to rest, and how the numbers on its way shift. A slot that is looked at and is not sound
-- leads astray. A number's position is the slot that holds it.
use Rattle.std.specs.Prelude.{Bool, ◌&&◌, ◌||◌, ℕ, zero, suc, ◌+◌, ◌*◌, ◌-◌, ◌/◌, ltb, leb, eqb}
use Rattle.def_basics.specs.Base.{pick, update}
use Rattle.def_heap.specs.declared.Sifted.{Sifted}
use Rattle.def_heap.specs.declared.Sifted.TheVariants.{Rests, Astray}

-- the slot above a slot, and the two below it; the first slot is 0
abbrev pub above : ℕ → ℕ
above i = (i - 1) / 2

abbrev pub left : ℕ → ℕ
left i = 2 * i + 1

abbrev pub right : ℕ → ℕ
right i = 2 * i + 2

module _ (rank : ℕ → ℕ) (sound : ℕ → Bool) (slot : ℕ → ℕ) where
  -- a number of rank r, from slot i up: past each number of a higher rank, at most n levels
  unfoldable pub sift_up : ℕ → ℕ → ℕ → Sifted
  sift_up zero r i = Rests i
  sift_up (suc n) r i =
      pick (eqb i 0) (Rests i)
      (pick (sound (above i)) (pick (ltb r (rank (slot (above i)))) (sift_up n r (above i)) (Rests i)) Astray)

  -- of the two slots below i the one whose number has the lower rank; m slots are filled
  abbrev pub lesser : ℕ → ℕ → ℕ
  lesser m i = pick (ltb (right i) m && ltb (rank (slot (right i))) (rank (slot (left i)))) (right i) (left i)

  -- those of them that are filled are sound
  abbrev pub sound_below : ℕ → ℕ → Bool
  sound_below m i = sound (left i) && (leb m (right i) || sound (right i))

  -- a number of rank r, from slot i down: past each number of a lower rank, at most n levels
  unfoldable pub sift_down : (most filled its_rank from : ℕ) → Sifted
  sift_down zero m r i = Rests i
  sift_down (suc n) m r i =
      pick (ltb (left i) m)
      (pick (sound_below m i) (pick (ltb (rank (slot (lesser m i))) r) (sift_down n m r (lesser m i)) (Rests i)) Astray)
      (Rests i)

-- ---- what shifts
-- x is put in slot k, and the numbers from there down to slot i move down a slot each
unfoldable pub shift_down : (most : ℕ) (slot : ℕ → ℕ) (number from to : ℕ) → ℕ → ℕ
shift_down zero slot x i k = update slot i x
shift_down (suc n) slot x i k =
    pick (eqb i k) (update slot i x) (shift_down n (update slot i (slot (above i))) x (above i) k)

-- x is put in slot k, and the numbers from there up move up a slot each: the first goes out
unfoldable pub shift_up : (most : ℕ) (slot : ℕ → ℕ) (number from : ℕ) → ℕ → ℕ
shift_up zero slot x k = update slot k x
shift_up (suc n) slot x k = pick (eqb k 0) (update slot k x) (shift_up n (update slot k x) (slot k) (above k))

-- and the positions after these shifts
unfoldable pub positions_down : (most : ℕ) (slot at : ℕ → ℕ) (number from to : ℕ) → ℕ → ℕ
positions_down zero slot at x i k = update at x i
positions_down (suc n) slot at x i k =
    pick (eqb i k) (update at x i)
    (positions_down n (update slot i (slot (above i))) (update at (slot (above i)) i) x (above i) k)

unfoldable pub positions_up : (most : ℕ) (slot at : ℕ → ℕ) (number from : ℕ) → ℕ → ℕ
positions_up zero slot at x k = update at x k
positions_up (suc n) slot at x k =
    pick (eqb k 0) (update at x k) (positions_up n (update slot k x) (update at x k) (slot k) (above k))
