-- For ALL tables: what is stored where a job enters the queue and where one is taken: its cell, its slot in the index,
-- and the counters; no move of cells in the index touches a job or a counter. Follows docs/RULES.md, "Tables and
-- their measures" (the queue) and "The index".
use Rattle.std.specs.Prelude.{◌≡◌, refl, ◌≢◌, true, ◌&&◌, List, ℕ, zero, suc, ◌+◌, ◌-◌, ◌^◌, ◌≤◌, ◌<◌, ltb, leb, eqb, length}
use Rattle.std.proofs.Common.{ap, ◌∙◌, arith, pow_pos, ltb-true}
use Rattle.std.proofs.Math.Decide.{ℕ_discrete}
use Rattle.def_numbers.specs.Numbers.{most_class}
use Rattle.def_basics.specs.Base.{update}
use Rattle.def_basics.specs.Laws.{never, pick_by}
use Rattle.def_heap.specs.Sift.{above, sift_up, sift_down, shift_down, shift_up, positions_down, positions_up}
use Rattle.def_heap.proofs.Heap.{Below, Leads}
use Rattle.def_heap.proofs.Same.{RestsBelow, down_below}
use Rattle.def_heap.proofs.Way.{leads_up, leads_first, up_weaker, first_weaker, Overtaken, up_leads, up_stays}
use Rattle.def_heap.proofs.Way.{Raised, down_leads, down_stays}
use Rattle.def_heap.proofs.Shifted.{way_up, On, way_between, way_holds, way_ends, log_way, Shifts, down_rests, down_moves}
use Rattle.def_heap.proofs.Shifted.{down_shifts, up_rests, up_moves, up_shifts}
use Rattle.def_heap.specs.declared.Sifted.{Sifted}
use Rattle.def_heap.specs.declared.Sifted.TheVariants.{Rests, Astray}
use Rattle.def_terms.specs.declared.Sizes.{Sizes}
use Rattle.def_words.specs.Columns.{Rows, rows, columns, columns_put, columns_put_header, header, header_other}
use Rattle.def_words.specs.Columns.{header_put}
use Rattle.def_words.specs.Columns.{header_put_header, put, put_header, rows_put, store, stores}
use Rattle.def_words.specs.Layout.{none, queue_shape, TAKEN, PUT, QUEUED, SLOT, POSITION, CLASS, Tables, View, view}
use Rattle.def_words.specs.Index.{levels, rank_in, rank_of, cell_in, waits, filled, slot_in, seated, seat_for, put_slot}
use Rattle.def_words.specs.Index.{first_cell, last_slot, last_cell, first_seat_by, first_seat, shifted_down, shifted_up}
use Rattle.def_words.specs.Index.{put_seat, take_seat, emptied}
use Rattle.def_words.specs.declared.Seat.{Seat}
use Rattle.def_words.specs.declared.Seating.{Seating}
use Rattle.def_words.specs.declared.Seating.TheVariants.{Seated}
use Rattle.thm_words_tests.specs.Tests.{parts}
use Rattle.thm_words_queue.specs.Waits.{waits_means, one_slot}
use Rattle.thm_words_queue.specs.Slots.{other_column, down_slots, up_slots}

-- l after moves of cells in the index of q
record Moved (q l : List ℕ) : Type 0 where
  cells : columns queue_shape l QUEUED ≡ columns queue_shape q QUEUED
  counters : (k : ℕ) → ltb k queue_shape.head ≡ true → header l k ≡ header q k
  rows : (R : ℕ) → rows queue_shape R l ≡ rows queue_shape R q

further : {q m l : List ℕ} → Moved q m → Moved m l → Moved q l
further a b = record {
  cells = b.cells ∙ a.cells;
  counters = λ k e. b.counters k e ∙ a.counters k e;
  rows = λ R. b.rows R ∙ a.rows R;
}

move : (q : List ℕ) (i k v : ℕ) → ltb k queue_shape.width ≡ true → QUEUED ≢ k → Moved q (put queue_shape q i k v)
move q i k v e n = record {
  cells = other_column queue_shape q i k v QUEUED e n;
  counters = λ c. header_put queue_shape q i k v c;
  rows = λ R. rows_put queue_shape R q i k v;
}

in_slot : (q : List ℕ) (i p : ℕ) → Moved q (put_slot q i p)
in_slot q i p =
    further (move q i SLOT p refl (omega arith)) (move (put queue_shape q i SLOT p) p POSITION i refl (omega arith))

down : (n : ℕ) (q : List ℕ) (x i k : ℕ) → Moved q (shifted_down n q x i k)
unfolding shifted_down
down zero q x i k = in_slot q i x
down (suc n) q x i k =
    pick_by (Moved q) (eqb i k) (λ _. in_slot q i x)
    (λ _. further (in_slot q i (slot_in q (above i))) (down n _ x (above i) k))

up : (n : ℕ) (q : List ℕ) (x k : ℕ) → Moved q (shifted_up n q x k)
unfolding shifted_up
up zero q x k = in_slot q k x
up (suc n) q x k =
    pick_by (Moved q) (eqb k 0) (λ _. in_slot q k x) (λ _. further (in_slot q k x) (up n _ (slot_in q k) (above k)))

-- ---- a job that enters: "put in the next cell"
-- the words of its seat
pub record Next (s : Sizes) (v : View) (e : Seat) : Type 0 where
  pub cell : e.cell ≡ v.put
  pub last : e.last ≡ filled v
  pub room : v.put < s.jobs

-- and the way up to its slot
record Way (s : Sizes) (v : View) (j : ℕ) (e : Seat) : Type 0 where
  next : Next s v e
  passed : Leads (λ i. Overtaken (rank_of v) (waits v) (cell_in v) (rank_in v j v.put) (above i)) e.slot levels
      e.last
  stays : s.jobs ≤ 4096 → e.slot ≢ 0 → rank_of v (cell_in v (above e.slot)) ≤ rank_in v j v.put

seat_way : (s : Sizes) (v : View) (j : ℕ) (e : Seat) → seat_for s v j ≡ Seated e → Way s v j e
unfolding seat_for
seat_way s v j e =
    pick_by Q (leb v.taken v.put && ltb v.put s.jobs && leb (v.job CLASS j) most_class)
    (λ a. go (sift_up (rank_of v) (waits v) (cell_in v) levels (rank_in v j v.put) (filled v)) refl
    (ltb-true v.put s.jobs (search parts)))
    (λ _ z. never cc)
  where
    Q : Seating → Type 0
    Q r = r ≡ Seated e → Way s v j e

    go : (f : Sifted)
        → sift_up (rank_of v) (waits v) (cell_in v) levels (rank_in v j v.put) (filled v) ≡ f
        → v.put < s.jobs → Q (seated f v.put (filled v))
    go (Rests k) g h z =
        let last : e.last ≡ filled v = cc in
        let slot : e.slot ≡ k = cc in
        let from = rank_in v j v.put in
        record {
          next = record { cell = cc; last = last; room = h };
          passed = rw (last, slot) (up_leads (rank_of v) (waits v) (cell_in v) levels from (filled v) k g);
          stays = λ most. rw slot
              (up_stays (rank_of v) (waits v) (cell_in v) levels from (filled v) k g (omega arith));
        }
    go Astray g h z = never cc

pub seat_next : (s : Sizes) (v : View) (j : ℕ) (e : Seat) → seat_for s v j ≡ Seated e → Next s v e
seat_next s v j e f = (seat_way s v j e f).next

-- the queue's words q after the job j entered: it has a seat, whose cell is the next, that cell has the job,
-- its slot has the cell, which has that slot as its position, one more was put, and every other cell and the other
-- counter are as before. On the way from the slot past the filled ones up to its slot each cell moves down a slot, no
-- other slot changes, and no other cell's position; the way grows with the logarithm of the jobs that wait. It passes
-- cells of a higher rank, and the one above its slot has none
pub record Entered (s : Sizes) (t : Tables) (j : ℕ) (q : List ℕ) : Type 0 where
  pub seat : Seat
  pub found : seat_for s (view t) j ≡ Seated seat
  pub next : Next s (view t) seat
  pub stored : q ≡ put_seat t.queue seat j
  pub put : header q PUT ≡ (view t).put + 1
  pub taken : header q TAKEN ≡ (view t).taken
  pub cells : columns queue_shape q QUEUED ≡ update ((view t).cell QUEUED) (view t).put j
  pub slot : columns queue_shape q SLOT seat.slot ≡ (view t).put
  pub position : columns queue_shape q POSITION (view t).put ≡ seat.slot
  pub index : Shifts ((view t).cell SLOT) ((view t).cell POSITION) (columns queue_shape q SLOT)
      (columns queue_shape q POSITION) (way_up levels seat.last seat.slot)
  pub moves : (i : ℕ) → On i (way_up levels seat.last seat.slot) → i ≢ seat.slot
      → columns queue_shape q SLOT i ≡ (view t).cell SLOT (above i)
  pub few : (b : ℕ) → (view t).put - (view t).taken + 1 < 2 ^ suc b
      → length (way_up levels seat.last seat.slot) ≤ b + 1
  pub passes : (i : ℕ) → On i (way_up levels seat.last seat.slot) → i ≢ seat.slot
      → rank_in (view t) j (view t).put < rank_of (view t) ((view t).cell SLOT (above i))
  pub stays : seat.slot ≢ 0
      → rank_of (view t) ((view t).cell SLOT (above seat.slot)) ≤ rank_in (view t) j (view t).put

pub entered : (s : Sizes) (t : Tables) (j : ℕ) (e : Seat) → Rows queue_shape s.jobs t.queue → s.jobs ≤ 4096
    → seat_for s (view t) j ≡ Seated e
    → Entered s t j (put_seat t.queue e j)
unfolding put_seat
entered s t j e r most f =
    let found = seat_way s (view t) j e f in
    let n = found.next in
    let p = e.cell in
    let l : List ℕ = put queue_shape t.queue p QUEUED j in
    let m : List ℕ = shifted_down levels l p e.last e.slot in
    let d = down levels l p e.last e.slot in
    let h : p < s.jobs = rw n.cell n.room in
    let rl : Rows queue_shape s.jobs l = rows_put queue_shape s.jobs t.queue p QUEUED j ∙ r in
    let v = view t in
    let way = found.passed in
    let Passed = Overtaken (rank_of v) (waits v) (cell_in v) (rank_in v j v.put) in
    let same = other_column queue_shape t.queue p QUEUED j SLOT refl (omega arith) in
    let same' = other_column queue_shape t.queue p QUEUED j POSITION refl (omega arith) in
    let has = down_slots s.jobs levels l p e.last e.slot rl (omega (arith, n.last, n.room)) h
    (up_weaker {P = Passed} {R = λ i. columns queue_shape l SLOT i < s.jobs}
    (λ i w. rw same (omega (arith, ((waits_means v i).0 w.waits).put, n.room))) levels e.last e.slot
    (leads_up Passed levels way)) in
    let all = columns_put_header queue_shape m PUT (p + 1) refl in
    let slots = ap (λ c. c SLOT) all ∙ has.0 ∙ ap (λ f. shift_down levels f p e.last e.slot) same in
    let positions = ap (λ c. c POSITION) all ∙ has.1
    ∙ ap (λ f. positions_down levels f (columns queue_shape l POSITION) p e.last e.slot) same
    ∙ ap (λ f. positions_down levels (v.cell SLOT) f p e.last e.slot) same' in
    let shifts = down_shifts p levels way (v.cell SLOT) (v.cell POSITION) (λ i o d.
    let w = (waits_means v (above i)).0 (way_holds levels way i o d).waits in
    (w.position, omega (arith, w.put, n.cell))) in
    let top = down_rests p levels way (v.cell SLOT) in
    record {
      seat = e;
      found = f;
      next = n;
      stored = refl;
      put = header_put_header queue_shape s.jobs m PUT (p + 1) refl
          (d.rows s.jobs ∙ rl)
          ∙ ap (λ x. x + 1) n.cell;
      taken = header_other m PUT (p + 1) TAKEN refl ∙ d.counters TAKEN refl
          ∙ header_put queue_shape t.queue p QUEUED j TAKEN refl;
      slot = ap (λ f. f e.slot) slots ∙ top ∙ n.cell;
      position = rw (← n.cell)
          (ap (λ f. f p) positions ∙ (rw top at (shifts.there e.slot (way_ends levels way))));
      index = rw (slots, positions) shifts;
      moves = λ i o d. ap (λ f. f i) slots ∙ down_moves p levels way (v.cell SLOT) i o d;
      few = λ b f. log_way levels b way (omega (arith, n.last));
      passes = λ i o d. (way_holds levels way i o d).higher;
      stays = found.stays most;
      cells = ap (λ c. c QUEUED) all ∙ d.cells
          ∙ ap (λ c. c QUEUED) (columns_put queue_shape s.jobs t.queue p QUEUED j refl r h)
          ∙ ap (λ x. update ((view t).cell QUEUED) x j) n.cell;
    }

-- ---- a job that is taken
-- its seat: the first cell, the last slot, both of which wait, and the way down from slot 0
pub record FirstSeat (v : View) (e : Seat) : Type 0 where
  pub cell : e.cell ≡ first_cell v
  pub last : e.last ≡ last_slot v
  pub first : waits v 0 ≡ true
  pub final : waits v (last_slot v) ≡ true
  pub way : Leads (Raised (rank_of v) (waits v) (cell_in v) (last_slot v) (rank_of v (last_cell v))) 0 levels e.slot
  pub stays : last_slot v < 4096 → (b : ℕ) → b < last_slot v → Below e.slot b
      → rank_of v (last_cell v) ≤ rank_of v (cell_in v b)
  pub within : e.slot ≤ last_slot v
  pub under : last_slot v ≢ 0 → e.slot < last_slot v

pub first_seat_lem : (v : View) (e : Seat) → first_seat v ≡ Seated e → FirstSeat v e
unfolding first_seat_by
first_seat_lem v e =
    pick_by Q (waits v 0 && waits v (last_slot v)) (λ a. go _ refl (search parts) (search parts)) (λ _ z. never cc)
  where
    m : ℕ
    m = last_slot v

    r : ℕ
    r = rank_of v (last_cell v)

    Q : Seating → Type 0
    Q x = x ≡ Seated e → FirstSeat v e

    below : (b : ℕ) → m ≤ b → 0 < b → RestsBelow b (sift_down (rank_of v) (waits v) (cell_in v) levels m r 0)
    below b = down_below (rank_of v) (waits v) (cell_in v) b levels m r 0

    go : (f : Sifted) → sift_down (rank_of v) (waits v) (cell_in v) levels m r 0 ≡ f → waits v 0 ≡ true
        → waits v m ≡ true → Q (seated f (first_cell v) m)
    go (Rests k) g a b z =
        let slot : e.slot ≡ k = cc in
        record {
          cell = cc;
          last = cc;
          first = a;
          final = b;
          way = rw slot (down_leads (rank_of v) (waits v) (cell_in v) levels m r 0 k g);
          stays = λ most. rw slot
              (down_stays (rank_of v) (waits v) (cell_in v) levels m r 0 k g (omega arith));
          within = omega (arith, rw g at (below (suc m) (omega arith) (omega arith)));
          under = λ d. omega (arith, rw g at (below m (omega arith) (omega arith)));
        }
    go Astray g a b z = never cc

-- the queue's words q after the cell p was taken, whose way down came to slot k, and the slot m emptied: one more was
-- taken, the cell has none, and every other cell and the other counter are as before. On the way from slot k up
-- to the first each cell moves up a slot, and the cell in slot m comes to slot k; no other slot changes, and no other
-- cell's position. Then that slot is none, and the position of p. The way grows with the logarithm of the jobs that
-- wait. Each cell that moves up has a lower rank than the one in slot m, and than the one beside it, and the cells
-- below slot k have not
pub record Emptied (t : Tables) (p m k : ℕ) (q : List ℕ) : Type 0 where
  pub taken : header q TAKEN ≡ (view t).taken + 1
  pub put : header q PUT ≡ (view t).put
  pub cells : columns queue_shape q QUEUED ≡ update ((view t).cell QUEUED) p none
  pub within : (k ≤ m) × (m ≢ 0 → k < m)
  pub moved_slots : ℕ → ℕ
  pub moved_positions : ℕ → ℕ
  pub index : Shifts ((view t).cell SLOT) ((view t).cell POSITION) moved_slots moved_positions (way_up levels k 0)
  pub moves : (i : ℕ) → On i (way_up levels k 0) → i ≢ 0 → moved_slots (above i) ≡ (view t).cell SLOT i
  pub rests : moved_slots k ≡ (view t).cell SLOT m
  pub slots : columns queue_shape q SLOT ≡ update moved_slots m none
  pub positions : columns queue_shape q POSITION ≡ update moved_positions p none
  pub few : (b : ℕ) → (view t).put - (view t).taken ≤ 2 ^ suc b → length (way_up levels k 0) ≤ b + 1
  pub passes : (i : ℕ) → On i (way_up levels k 0) → i ≢ 0
      → (rank_of (view t) ((view t).cell SLOT i) < rank_of (view t) ((view t).cell SLOT m))
      × ((b : ℕ) → b < m → Below (above i) b
      → rank_of (view t) ((view t).cell SLOT i) ≤ rank_of (view t) ((view t).cell SLOT b))
  pub stays : (b : ℕ) → b < m → Below k b
      → rank_of (view t) ((view t).cell SLOT m) ≤ rank_of (view t) ((view t).cell SLOT b)

pub seat_emptied : (R : ℕ) (t : Tables) (e : Seat) → Rows queue_shape R t.queue → (view t).put ≤ R → R ≤ 4096
    → (view t).taken < (view t).put → FirstSeat (view t) e
    → Emptied t e.cell e.last e.slot (take_seat t.queue e)
unfolding take_seat
seat_emptied R t e r full most some seat =
    let v = view t in
    let p = e.cell in
    let x : ℕ = slot_in t.queue e.last in
    let first = (waits_means v 0).0 seat.first in
    let final = (waits_means v (last_slot v)).0 seat.final in
    let a : p < R = omega (arith, seat.cell, first.put) in
    let b : e.last < R = omega (arith, seat.last) in
    let way = seat.way in
    let u = up levels t.queue x e.slot in
    let l : List ℕ = shifted_up levels t.queue x e.slot in
    let rl : Rows queue_shape R l = u.rows R ∙ r in
    let has = up_slots R levels t.queue x e.slot r (omega (arith, seat.within))
    (rw seat.last (omega (arith, final.put)))
    (first_weaker {P = Raised (rank_of v) (waits v) (cell_in v) (last_slot v) (rank_of v (last_cell v))}
    {R = λ i. v.cell SLOT i < R} (λ i w. omega (arith, ((waits_means v i).0 w.waits).put)) levels e.slot
    (leads_first _ levels way)) in
    let all : columns queue_shape (put_header (emptied l p e.last) TAKEN (header t.queue TAKEN + 1))
    ≡ store (store (store (columns queue_shape l) e.last SLOT none) p QUEUED none) p POSITION none =
    simp (stores, columns_put queue_shape R, rl, a, b) in
    record {
      taken = simp (stores, header_put_header queue_shape R, rl);
      put = simp stores (u.counters PUT refl);
      cells = ap (λ f. f QUEUED) all ∙ ap (λ f. update f p none) u.cells;
      within = rw seat.last (seat.within, seat.under);
      moved_slots = shift_up levels (v.cell SLOT) x e.slot;
      moved_positions = positions_up levels (v.cell SLOT) (v.cell POSITION) x e.slot;
      index = up_shifts levels way (v.cell SLOT) (v.cell POSITION) x (λ i o d.
          let w = (way_holds levels way i o d).waits in
          let h = way_between levels way i o in (
            ((waits_means v i).0 w).position,
            λ z.
                let same = one_slot v i (last_slot v) w seat.final (z ∙ ap (v.cell SLOT) seat.last) in
                omega (arith, h.1, seat.within, seat.under (omega arith)),
          ));
      moves = up_moves levels way (v.cell SLOT) x;
      rests = up_rests levels way (v.cell SLOT) x;
      slots = ap (λ f. f SLOT) all ∙ ap (λ f. update f e.last none) has.0;
      positions = ap (λ f. f POSITION) all ∙ ap (λ f. update f p none) has.1;
      few = λ n f. log_way levels n way (elim (ℕ_discrete (last_slot v) 0) [
        | yes z ↦ omega (arith, seat.within, pow_pos n)
        | no z ↦ omega (arith, seat.under z)
      ]);
      passes = λ i o d. let w = way_holds levels way i o d in rw seat.last (w.lower, w.least);
      stays = rw seat.last (seat.stays (omega arith));
    }
