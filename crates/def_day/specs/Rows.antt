-- Hand-outs as code keeps them: those of all rounds in a lent row, two words for each, its name and its worker. A store
-- past a row's end is dropped.
use Rattle.std.specs.Prelude.{◌≡◌, refl, List, [], ◌∷◌, ◌++◌, ℕ, zero, suc, ◌+◌, ◌*◌, ◌/◌, ◌≤◌, ◌<◌, leb, length, take, get_or, set}
use Rattle.std.proofs.Common.{◌∙◌, arith, length-set, length-take-le, get_or-set_same, get_or-set_other, le-leb}
use Rattle.std.proofs.lemmas.List.{take_more}
use Rattle.def_basics.specs.Base.{pick}
use Rattle.def_day.specs.Rounds.{holder}
use Rattle.def_day.specs.declared.Holder.{Holder}

-- ---- the row
-- a row after these hand-outs, the first of them being hand-out i
abbrev pub with_holder : List ℕ → ℕ → Holder → List ℕ
with_holder row i h = set (set row (2 * i) h.name) (2 * i + 1) h.worker

unfoldable pub stored : List ℕ → ℕ → List Holder → List ℕ
stored row i [] = row
stored row i (h ∷ hs) = stored (with_holder row i h) (suc i) hs

-- n hand-outs of a row, from hand-out i on
unfoldable pub from_row : ℕ → ℕ → List ℕ → List Holder
from_row zero i row = []
from_row (suc n) i row = holder (get_or row (2 * i + 1) 0) (get_or row (2 * i) 0) ∷ from_row n (suc i) row

-- the first n of a row, or none where it does not hold so many
abbrev pub in_row : ℕ → List ℕ → List Holder
in_row n row = pick (leb n (length row / 2)) (from_row n 0 row) []

-- ---- laws: the row
pub length_stored : (row : List ℕ) (i : ℕ) (hs : List Holder) → length (stored row i hs) ≡ length row
unfolding stored
length_stored row i [] = refl
length_stored row i (h ∷ hs) =
    length_stored (with_holder row i h) (suc i) hs
    ∙ length-set (set row (2 * i) h.name) (2 * i + 1) h.worker
    ∙ length-set row (2 * i) h.name

pub stored_append : (row : List ℕ) (i k : ℕ) (a b : List Holder) → k ≡ i + length a
    → stored row i (a ++ b) ≡ stored (stored row i a) k b
unfolding stored
stored_append row i k [] b e = let z : k ≡ i = omega arith in rw z
stored_append row i k (h ∷ a) b e = stored_append (with_holder row i h) (suc i) k a b (omega arith)

-- one more of a round's holders
pub stored_more : (row : List ℕ) (i n : ℕ) (hs : List Holder) (d : Holder) → n < length hs
    → stored row i (take (n + 1) hs) ≡ with_holder (stored row i (take n hs)) (i + n) (get_or hs n d)
unfolding stored
stored_more row i n hs d h =
    let e : i + n ≡ i + length (take n hs) = omega (arith, length-take-le n hs (omega arith)) in
    rw (take_more hs n d h) (stored_append row i (i + n) (take n hs) (get_or hs n d ∷ []) e)

pub stored_none : (row : List ℕ) (i : ℕ) → stored row i [] ≡ row
unfolding stored
stored_none row i = refl

-- what stands before them stays
stored_before : (row : List ℕ) (i k : ℕ) (hs : List Holder) → k < 2 * i → get_or (stored row i hs) k 0 ≡ get_or row k 0
unfolding stored
stored_before row i k [] h = refl
stored_before row i k (x ∷ hs) h =
    stored_before (with_holder row i x) (suc i) k hs (omega arith)
    ∙ get_or-set_other (set row (2 * i) x.name) (2 * i + 1) k x.worker 0 (λ e. omega arith)
    ∙ get_or-set_other row (2 * i) k x.name 0 (λ e. omega arith)

-- a row that is long enough holds them all
pub from_stored : (row : List ℕ) (i : ℕ) (hs : List Holder) → 2 * (i + length hs) ≤ length row
    → from_row (length hs) i (stored row i hs) ≡ hs
unfolding stored from_row
from_stored row i [] h = refl
from_stored row i (x ∷ hs) h =
    let named = set row (2 * i) x.name in
    let l = length-set row (2 * i) x.name in
    let m = length-set named (2 * i + 1) x.worker in
    let w : get_or (stored (with_holder row i x) (suc i) hs) (2 * i + 1) 0 ≡ x.worker =
    stored_before (with_holder row i x) (suc i) (2 * i + 1) hs (omega arith)
    ∙ get_or-set_same named (2 * i + 1) x.worker 0 (omega arith) in
    let n : get_or (stored (with_holder row i x) (suc i) hs) (2 * i) 0 ≡ x.name =
    stored_before (with_holder row i x) (suc i) (2 * i) hs (omega arith)
    ∙ get_or-set_other named (2 * i + 1) (2 * i) x.worker 0 (λ e. omega arith)
    ∙ get_or-set_same row (2 * i) x.name 0 (omega arith) in
    rw (w, n, from_stored (with_holder row i x) (suc i) hs (omega arith))

pub in_stored : (row : List ℕ) (hs : List Holder) → 2 * length hs ≤ length row
    → in_row (length hs) (stored row 0 hs) ≡ hs
in_stored row hs h =
    let l = length_stored row 0 hs in
    rw (le-leb (length hs) (length (stored row 0 hs) / 2) (omega arith)) (from_stored row 0 hs (omega arith))
