-- The seats of the definitions, by what the code reads and finds on the way.
use mathlib.Core.Path.{◌≡◌, refl, sym}
use mathlib.Core.Bool.{Bool, true, false}
use Prim.Native.Nat.{ℕ, ◌-◌}
use lib.ListN.{length}
use Rattle.def_basics.specs.Base.{pick}
use Rattle.def_heap.specs.Compared.{pairs_down}
use Rattle.def_heap.specs.Sift.{sift_down}
use Rattle.def_heap.specs.declared.Sifted.{Sifted}
use Rattle.def_words.specs.Layout.{View}
use Rattle.def_words.specs.Index.{rank_of, waits, cell_in, seated, first_seat, first_seat_by, levels}
use Rattle.def_words.specs.Index.{compared_cells}
use Rattle.def_words.specs.declared.Seating.{Seating}
use Rattle.def_words.specs.declared.Seating.TheVariants.{Unseated}
use Rattle.graph_index.specs.Looked.{looked}
use Rattle.std.specs.Prelude.{Option, Some, None}
use Rattle.std.specs.Option.{is_some}
use Rattle.graph_index.specs.Looked.{ranked}
use Rattle.graph_index.specs.declared.Ranked.{Ranked}

abbrev look : View → ℕ → Option Ranked
look v = looked (rank_of v) (waits v) (cell_in v)

-- what a look tells of the slot
module _ (v : View) (i : ℕ) where
  sound_seen : {o : Option Ranked} → is_some o ≡ true → o ≡ look v i → waits v i ≡ true
  sound_seen s e = let h = rw e at s in go (waits v i) h
    where
      go : (b : Bool) → is_some (pick b (Some (ranked i (rank_of v (cell_in v i)))) None) ≡ true → b ≡ true
      go true h = refl
      go false h = h

  damage_seen : {o : Option Ranked} → is_some o ≡ false → o ≡ look v i → waits v i ≡ false
  damage_seen s e = let h = rw e at s in go (waits v i) h
    where
      go : (b : Bool) → is_some (pick b (Some (ranked i (rank_of v (cell_in v i)))) None) ≡ false → b ≡ false
      go true h = h
      go false h = refl

  rank_seen : {x : Ranked} → Some x ≡ look v i → x.rank ≡ rank_of v (cell_in v i)
  rank_seen h = let e = rw (sound_seen refl h) at h in cc

module _ (v : View) {put taken filled slot : ℕ} (p : put ≡ v.put) (t : taken ≡ v.taken) (f : filled ≡ put - taken)
    (m : slot ≡ filled - 1) {o : Option Ranked} (l : o ≡ look v 0) where
  -- the seat, and how many pairs are compared
  abbrev Finds : Seating → ℕ → Type 0
  Finds e n = (e ≡ first_seat v) × (n ≡ length (compared_cells v))

  pub first_none : is_some o ≡ false → Finds Unseated 0
  unfolding first_seat_by
  first_none h = let d = damage_seen v 0 h l in (rw d, rw d)

  pub last_none : is_some o ≡ true → None ≡ look v slot → Finds Unseated 0
  unfolding first_seat_by
  last_none g h =
      let d = rw (m, f, t, p) at (damage_seen v slot refl h) in
      let s = sound_seen v 0 g l in (rw (s, d), rw (s, d))

  pub first_found : {x : Ranked} {cell n : ℕ} {k : Sifted} → is_some o ≡ true → Some x ≡ look v slot
      → k ≡ sift_down (rank_of v) (waits v) (cell_in v) levels slot x.rank 0
      → ((moved : ℕ) → rank_of v moved ≡ x.rank
      → n ≡ length (pairs_down (rank_of v) (waits v) (cell_in v) levels slot moved 0))
      → cell ≡ cell_in v 0
      → Finds (seated k cell slot) n
  unfolding first_seat_by
  first_found g h k pairs q =
      let d = rw (m, f, t, p) at (sound_seen v slot refl h) in
      let s = sound_seen v 0 g l in
      let last = pairs (cell_in v slot) (sym (rank_seen v slot h)) in (
        rw (k, rank_seen v slot h, q, m, f, t, p, s, d),
        rw (last, m, f, t, p, s, d),
      )
