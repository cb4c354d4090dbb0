-- Runs of stores in a list: one after another, what stands at each place after, and a store before and in a run.
use Rattle.std.specs.Prelude.{◌≡◌, refl, List, [], ◌∷◌, ◌++◌, ℕ, zero, suc, ◌+◌, ◌≤◌, ◌<◌, length, get_or, set}
use Rattle.std.proofs.Common.{ap, ◌∙◌, arith, length-set, set-set, get_or-set_same, get_or-set_other}
use Rattle.std.proofs.lemmas.List.Edits.{sets}
use Rattle.std.proofs.lemmas.List.{set_comm}

-- one run after another
pub sets_append : (l vs ws : List ℕ) (i k : ℕ) → k ≡ i + length vs → sets (sets l i vs) k ws ≡ sets l i (vs ++ ws)
sets_append l [] ws i k e = let z : k ≡ i = omega arith in rw z
sets_append l (v ∷ vs) ws i k e = sets_append (set l i v) vs ws (suc i) k (omega arith)

-- what stands at a place off the run, and at a place of it
pub sets_off : (r l : List ℕ) (i k : ℕ) → (i ≤ k → i + length r ≤ k) → get_or (sets l i r) k 0 ≡ get_or l k 0
sets_off [] l i k h = refl
sets_off (x ∷ r) l i k h =
    sets_off r (set l i x) (suc i) k (λ e. omega (arith, h (omega arith)))
    ∙ get_or-set_other l i k x 0 (λ e. omega (arith, h (omega arith)))

pub sets_at : (r l : List ℕ) (i q : ℕ) → q < length r → i + q < length l → get_or (sets l i r) (i + q) 0 ≡ get_or r q 0
sets_at [] l i q h b = absurd (omega arith)
sets_at (x ∷ r) l i zero h b =
    ap (λ k. get_or (sets (set l i x) (suc i) r) k 0) {x = i + 0} {y = i} (omega arith)
    ∙ sets_off r (set l i x) (suc i) i (λ e. absurd (omega arith))
    ∙ get_or-set_same l i x 0 (omega arith)
sets_at (x ∷ r) l i (suc q) h b =
    ap (λ k. get_or (sets (set l i x) (suc i) r) k 0) {x = i + suc q} {y = suc i + q} (omega arith)
    ∙ sets_at r (set l i x) (suc i) q (omega arith) (omega (arith, length-set l i x))

-- a store before the run comes first as well; a store in the run is one in what is stored
pub set_before : (l vs : List ℕ) (i k v : ℕ) → i < k → set (sets l k vs) i v ≡ sets (set l i v) k vs
set_before l [] i k v h = refl
set_before l (w ∷ vs) i k v h =
    set_before (set l k w) vs i (suc k) v (omega arith)
    ∙ ap (λ (m : List ℕ). sets m (suc k) vs) (set_comm l k i w v λ e. omega arith)

pub set_in : (l vs : List ℕ) (i k v : ℕ) → k < length vs → set (sets l i vs) (i + k) v ≡ sets l i (set vs k v)
set_in l [] i k v h = absurd (omega arith)
set_in l (x ∷ vs) i zero v h =
    let z : i + 0 ≡ i = omega arith in
    rw (z, set_before (set l i x) vs i (suc i) v (omega arith), set-set l i x v)
set_in l (x ∷ vs) i (suc k) v h = let z : i + suc k ≡ suc i + k = omega arith in
    rw z (set_in (set l i x) vs (suc i) k v (omega arith))
