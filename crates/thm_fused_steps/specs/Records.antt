-- A worker's whole record stored in the workers' words: what is read there, a field stored in it, a record stored over
-- it. Follows docs/RULES.md, "Tables and their measures".
use Rattle.std.specs.Prelude.{◌≡◌, refl, List, [], ◌∷◌, ℕ, suc, ◌+◌, ◌<◌, length, set}
use Rattle.std.proofs.Common.{sym, ap, ◌∙◌, arith, set-set, lt-ltb, le-ltb}
use Rattle.std.proofs.Math.Decide.{dec_lt}
use Rattle.std.proofs.Math.ListN.{get_or, get_or-eq_default}
use Rattle.std.proofs.lemmas.List.Edits.{sets}
use Rattle.def_basics.specs.Stores.{sets_at, set_before, set_in}
use Rattle.def_words.specs.Columns.{offset, Rows, columns, put, inside}
use Rattle.def_words.specs.Layout.{worker_shape}
use Rattle.def_words.specs.Words.{put_worker, put_field}

-- ---- a run of stores over a run
sets_sets : (r m l : List ℕ) (i : ℕ) → length r ≡ length m → sets (sets l i r) i m ≡ sets l i m
sets_sets [] [] l i e = refl
sets_sets [] (y ∷ m) l i e = absurd (omega arith)
sets_sets (x ∷ r) [] l i e = absurd (omega arith)
sets_sets (x ∷ r) (y ∷ m) l i e =
    ap (λ n. sets n (suc i) m) (set_before (set l i x) r i (suc i) y (omega arith))
    ∙ ap (λ n. sets (sets n (suc i) r) (suc i) m) (set-set l i x y)
    ∙ sets_sets r m (set l i y) (suc i) (omega arith)

-- ---- a worker's record
pub field_in_record : (l : List ℕ) (w : ℕ) (r : List ℕ) (k x : ℕ) → k < length r
    → put_field (put_worker l w r) w k x ≡ put_worker l w (set r k x)
unfolding put
field_in_record l w r k x h =
    ap (λ n. set (put_worker l w r) n x) {x = offset worker_shape w k} {y = offset worker_shape w 0 + k} (omega arith)
    ∙ set_in l r (offset worker_shape w 0) k x h

pub record_on_record : (l : List ℕ) (w : ℕ) (r m : List ℕ) → length r ≡ length m
    → put_worker (put_worker l w r) w m ≡ put_worker l w m
record_on_record l w r m e = sets_sets r m l (offset worker_shape w 0) e

module _ (R : ℕ) (l : List ℕ) (w : ℕ) (r : List ℕ) (whole : length r ≡ worker_shape.width) where
  -- each word of the record, and 0 past it
  pub record_word : Rows worker_shape R l → w < R → (k : ℕ) → columns worker_shape (put_worker l w r) k w ≡ get_or r k 0
  unfolding columns
  record_word e h k = elim (dec_lt k worker_shape.width) [
    | yes z ↦
        rw (lt-ltb k worker_shape.width z)
        (ap (λ n. get_or (put_worker l w r) n 0) {x = offset worker_shape w k} {y = offset worker_shape w 0
        + k} (omega arith)
        ∙ sets_at r l (offset worker_shape w 0) k (omega arith) (omega (arith, inside worker_shape R l w k e h z)))
    | no z ↦
        rw (le-ltb k worker_shape.width (omega arith)) (sym (get_or-eq_default r 0 {n = k} (omega arith)))
  ]
