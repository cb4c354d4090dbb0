-- "a get compares at most 64 pairs of jobs": which pairs a get compares, and that they are few (that no others decide:
-- Classes). For all tables, damaged ones too. Follows docs/RULES.md, "Steps".
use Rattle.std.specs.Prelude.{◌≡◌, refl, ◌≢◌, ◌&&◌, List, [], map, ℕ, ◌≤◌, length}
use Rattle.std.proofs.Common.{arith}
use Rattle.std.proofs.lemmas.List.{length-map}
use Rattle.def_basics.specs.Laws.{pick_by}
use Rattle.def_heap.proofs.Compared.{few_down}
use Rattle.def_terms.specs.declared.Sizes.{Sizes}
use Rattle.def_words.specs.Layout.{QUEUED, Tables, View, view}
use Rattle.def_words.specs.Index.{levels, rank_of, cell_in, waits, last_slot, last_cell, compared_cells}
use Rattle.thm_words_tests.specs.Reach.{Reach, early, empty, index, reach}

-- ---- the pairs that are compared
-- of cells, once the get comes to the index
abbrev pub at_index : Reach → List (ℕ × ℕ) → List (ℕ × ℕ)
at_index (early n) l = []
at_index empty l = []
at_index index l = l

unfoldable pub cells_by_get : Sizes → Tables → ℕ → List (ℕ × ℕ)
cells_by_get s t w = at_index (reach s t w) (compared_cells (view t))

-- the jobs in their cells
abbrev pub jobs_at : View → ℕ × ℕ → ℕ × ℕ
jobs_at v p = (v.cell QUEUED p.0, v.cell QUEUED p.1)

abbrev pub compared_by_get : Sizes → Tables → ℕ → List (ℕ × ℕ)
compared_by_get s t w = map (jobs_at (view t)) (cells_by_get s t w)

-- ---- the theorems
few_cells : (v : View) → length (compared_cells v) ≤ 24
few_cells v =
    pick_by {A = List (ℕ × ℕ)} (λ l. length l ≤ 24) (waits v 0 && waits v (last_slot v))
    (λ _. omega (arith, few_down (rank_of v) (waits v) (cell_in v) levels (last_slot v) (last_cell v) 0))
    (λ _. omega arith)

at_index_lem : (r : Reach) (l : List (ℕ × ℕ)) (n : ℕ) → length l ≤ n → length (at_index r l) ≤ n
at_index_lem (early k) l n h = omega arith
at_index_lem empty l n h = omega arith
at_index_lem index l n h = h

-- two a level
pub few_compared : (s : Sizes) (t : Tables) (w : ℕ) → length (compared_by_get s t w) ≤ 24
unfolding cells_by_get
few_compared s t w =
    omega (
      arith,
      length-map (cells_by_get s t w) (jobs_at (view t)),
      at_index_lem (reach s t w) (compared_cells (view t)) 24 (few_cells (view t)),
    )

-- a get that comes to the index compares as many pairs as there are cells compared, which graph_first's
-- `first_seat_counted` counts; any other compares none
pub counted_at_index : (s : Sizes) (t : Tables) (w : ℕ) → reach s t w ≡ index
    → length (compared_by_get s t w) ≡ length (compared_cells (view t))
unfolding cells_by_get
counted_at_index s t w e = rw (length-map, e)

pub none_before_index : (s : Sizes) (t : Tables) (w : ℕ) → reach s t w ≢ index → compared_by_get s t w ≡ []
unfolding cells_by_get
none_before_index s t w n = go (reach s t w) n
  where
    go : (r : Reach) → r ≢ index → map (jobs_at (view t)) (at_index r (compared_cells (view t))) ≡ []
    go (early k) n = refl
    go empty n = refl
    go index n = absurd (n refl)
