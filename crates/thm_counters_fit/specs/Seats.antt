-- The seat of a job that enters: its cell is below the number of jobs. Follows docs/RULES.md, "Tables and their
-- measures".
use Rattle.std.specs.Prelude.{◌≡◌, ◌&&◌, ℕ, ◌<◌, ltb, leb}
use Rattle.std.proofs.Common.{ltb-true}
use Rattle.def_numbers.specs.Numbers.{most_class, damaged}
use Rattle.def_basics.specs.Laws.{and_left, and_right, pick_by}
use Rattle.def_heap.specs.Sift.{sift_up}
use Rattle.def_heap.specs.declared.Sifted.{Sifted}
use Rattle.def_heap.specs.declared.Sifted.TheVariants.{Rests, Astray}
use Rattle.def_terms.specs.declared.Sizes.{Sizes}
use Rattle.def_words.specs.Layout.{CLASS, SLOT, View}
use Rattle.def_words.specs.Index.{levels, rank, rank_of, waits, filled, seated, seat_for}
use Rattle.def_words.specs.Words.{in_seat, with_seat}
use Rattle.def_words.specs.declared.Seat.{Seat}
use Rattle.def_words.specs.declared.Seating.{Seating}
use Rattle.def_words.specs.declared.Seating.TheVariants.{Seated, Unseated}
use Rattle.def_words.specs.declared.Plan.{Plan}
use Rattle.def_words.specs.declared.Plan.TheVariants.{Refuse}

abbrev SeatBelow : ℕ → Seating → Type 0
SeatBelow n (Seated e) = e.cell < n
SeatBelow n Unseated = Unit {0}

rests : (n : ℕ) (r : Sifted) (p m : ℕ) → p < n → SeatBelow n (seated r p m)
rests n (Rests k) p m h = h
rests n Astray p m h = tt

seat_below : (s : Sizes) (v : View) (j : ℕ) → SeatBelow s.jobs (seat_for s v j)
unfolding seat_for
seat_below s v j =
    let room = leb v.taken v.put && ltb v.put s.jobs in
    pick_by (SeatBelow s.jobs) (room && leb (v.job CLASS j) most_class)
    (λ h. rests s.jobs
    (sift_up (rank_of v) (waits v) (v.cell SLOT) levels (rank (v.job CLASS j) v.put) (filled v)) v.put (filled v)
    (ltb-true v.put s.jobs
    (and_right (leb v.taken v.put) (ltb v.put s.jobs) (and_left room (leb (v.job CLASS j) most_class) h))))
    (λ _. tt)

pub seated_below : (s : Sizes) (v : View) (j : ℕ) {r : Seating} {e : Seat} → r ≡ seat_for s v j → r ≡ Seated e
    → e.cell < s.jobs
seated_below s v j g f = rw (← g, f) at (seat_below s v j)

-- what holds of a plan with any such seat, and of the refusal, holds of the plan of a job that is queued
pub with_seat_lem : (P : Plan → Type 0) (s : Sizes) (v : View) (j : ℕ) (plan : Seat → Plan)
    → ((e : Seat) → e.cell < s.jobs → P (plan e)) → P (Refuse damaged) → P (with_seat s v j plan)
unfolding with_seat
with_seat_lem P s v j plan f g = go (seat_for s v j) (seat_below s v j)
  where
    go : (r : Seating) → SeatBelow s.jobs r → P (in_seat r plan)
    go (Seated e) h = f e h
    go Unseated h = g
