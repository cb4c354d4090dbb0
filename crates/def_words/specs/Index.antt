-- The index beside the queue ("Tables and their measures"): a heap of the cells of the jobs that wait, the first to be
-- handed out in slot 0. Where a cell comes to rest in it, for ALL tables, and what is stored.
use Rattle.std.specs.Prelude.{Bool, ◌&&◌, List, [], ℕ, zero, suc, ◌+◌, ◌*◌, ◌-◌, ltb, leb, eqb}
use Rattle.def_numbers.specs.Numbers.{most_class, most_jobs}
use Rattle.def_basics.specs.Base.{pick}
use Rattle.def_heap.specs.Compared.{pairs_down}
use Rattle.def_heap.specs.Sift.{above, sift_up, sift_down}
use Rattle.def_heap.specs.declared.Sifted.{Sifted}
use Rattle.def_heap.specs.declared.Sifted.TheVariants.{Rests, Astray}
use Rattle.def_terms.specs.declared.Sizes.{Sizes}
use Rattle.def_words.specs.Columns.{columns, put, header, put_header}
use Rattle.def_words.specs.Layout.{none, CLASS, queue_shape, TAKEN, PUT, QUEUED, SLOT, POSITION, View}
use Rattle.def_words.specs.declared.Seat.{Seat}
use Rattle.def_words.specs.declared.Seating.{Seating}
use Rattle.def_words.specs.declared.Seating.TheVariants.{Seated, Unseated}

-- the levels of the index below its first slot: 2 to this power is the greatest number of jobs
abbrev pub levels : ℕ
levels = 12

-- ---- THE ORDER of hand-outs: "the waiting job with the most minutes, equal minutes by earlier entry into the queue",
-- as one number of a job and its cell, the lower first. Minutes rise with the class, and cells with the entry.
abbrev pub rank : ℕ → ℕ → ℕ
rank class p = (most_class - class) * most_jobs + p

abbrev pub rank_in : View → ℕ → ℕ → ℕ
rank_in v j p = rank (v.job CLASS j) p

-- of the cell p of the queue
abbrev pub rank_of : View → ℕ → ℕ
rank_of v p = rank_in v (v.cell QUEUED p) p

-- the cell in a slot
abbrev pub cell_in : View → ℕ → ℕ
cell_in v i = v.cell SLOT i

-- a slot that holds the cell of a waiting job: the cell was put, its position is the slot, and it has a job that was
-- made, of a class within its limit. No cell is in two such slots
unfoldable pub waits : View → ℕ → Bool
waits v i =
    ltb (cell_in v i) v.put && eqb (v.cell POSITION (cell_in v i)) i
    && ltb (v.cell QUEUED (cell_in v i)) v.made
    && leb (v.job CLASS (v.cell QUEUED (cell_in v i))) most_class

-- how many jobs wait: the filled slots
abbrev pub filled : View → ℕ
filled v = v.put - v.taken

abbrev pub seat : ℕ → ℕ → ℕ → Seat
seat p m k = record { cell = p; last = m; slot = k }

abbrev pub seated : Sifted → ℕ → ℕ → Seating
seated (Rests k) p m = Seated (seat p m k)
seated Astray p m = Unseated

-- ---- the seat of a job that enters: the next cell, and the way up from the slot past the filled ones. 9 where "the
-- queue would pass its end", or a word that is read is off its range
unfoldable pub seat_for : Sizes → View → ℕ → Seating
seat_for s v j =
    pick (leb v.taken v.put && ltb v.put s.jobs && leb (v.job CLASS j) most_class)
    (seated (sift_up (rank_of v) (waits v) (cell_in v) levels (rank_in v j v.put) (filled v)) v.put (filled v))
    Unseated

-- ---- the seat of the job that is handed out: the cell in the first slot, and the way down of the cell in the last
abbrev pub first_cell : View → ℕ
first_cell v = cell_in v 0

abbrev pub last_slot : View → ℕ
last_slot v = filled v - 1

abbrev pub last_cell : View → ℕ
last_cell v = cell_in v (last_slot v)

-- by the ranks of cells
unfoldable pub first_seat_by : (ℕ → ℕ) → View → Seating
first_seat_by by v =
    pick (waits v 0 && waits v (last_slot v))
    (seated (sift_down by (waits v) (cell_in v) levels (last_slot v) (by (last_cell v)) 0) (first_cell v) (last_slot v))
    Unseated

abbrev pub first_seat : View → Seating
first_seat v = first_seat_by (rank_of v) v

-- the pairs of cells that are compared to find it: the cell in the last slot moves down from the first
abbrev pub compared_cells : View → List (ℕ × ℕ)
compared_cells v =
    pick (waits v 0 && waits v (last_slot v))
    (pairs_down (rank_of v) (waits v) (cell_in v) levels (last_slot v) (last_cell v) 0)
    []

-- ---- what is stored
abbrev pub slot_in : List ℕ → ℕ → ℕ
slot_in q i = columns queue_shape q SLOT i

-- a cell in a slot, which is its position
abbrev pub put_slot : List ℕ → ℕ → ℕ → List ℕ
put_slot q i p = put queue_shape (put queue_shape q i SLOT p) p POSITION i

-- `shift_down` and `shift_up` of the heap, over the words
unfoldable pub shifted_down : (most : ℕ) (queue : List ℕ) (cell from to : ℕ) → List ℕ
shifted_down zero q x i k = put_slot q i x
shifted_down (suc n) q x i k =
    pick (eqb i k) (put_slot q i x) (shifted_down n (put_slot q i (slot_in q (above i))) x (above i) k)

unfoldable pub shifted_up : ℕ → List ℕ → ℕ → ℕ → List ℕ
shifted_up zero q x k = put_slot q k x
shifted_up (suc n) q x k =
    pick (eqb k 0) (put_slot q k x) (shifted_up n (put_slot q k x) (slot_in q k) (above k))

-- a job enters: its cell, the index, and one more was put
unfoldable pub put_seat : List ℕ → Seat → ℕ → List ℕ
put_seat q e j =
    put_header (shifted_down levels (put queue_shape q e.cell QUEUED j) e.cell e.last e.slot) PUT
    (e.cell + 1)

-- a cell and a slot that are emptied
abbrev pub emptied : List ℕ → ℕ → ℕ → List ℕ
emptied q p i = put queue_shape (put queue_shape (put queue_shape q i SLOT none) p QUEUED none) p POSITION none

-- a job is taken: the index, its cell and the last slot emptied, and one more was taken
unfoldable pub take_seat : List ℕ → Seat → List ℕ
take_seat q e =
    put_header (emptied (shifted_up levels q (slot_in q e.last) e.slot) e.cell e.last) TAKEN
    (header q TAKEN + 1)
