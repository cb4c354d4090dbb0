-- Runs of stores: fields one after another, past the table's end, and into a record.
use mathlib.Core.Path.{◌≡◌, refl, sym, ◌∙◌}
use mathlib.Core.List.{List, [], ◌∷◌}
use Prim.Native.Nat.{ℕ, zero, suc, ◌+◌, ◌-◌, ◌≤◌, ◌<◌}
use native.Mathlib.Omega.{arith}
use native.Mathlib.Numerals.{add-one}
use lib.Dec.{lit<}
use lib.ListN.{length, get_or, set, drop, replicate, length-set, drop_of_length-le}
use lib.Seq.{sets, set_out, drop-cons}
use Rattle.def_basics.specs.Stores.{set_in}
use Rattle.def_words.specs.Columns.{Shape, offset, put}
use Rattle.def_words.specs.Layout.{none, worker_shape, PHASE, HELD, OWN_JOB, OWN_ARC, NOTE, bare_worker}

-- ---- a store before a run
pub put_sets : (s : Shape) (l : List ℕ) (i k v : ℕ) (vs : List ℕ)
    → sets (put s l i k v) (offset s i (k + 1)) vs ≡ sets l (offset s i k) (v ∷ vs)
unfolding put
put_sets s l i k v vs = let z : offset s i (k + 1) ≡ suc (offset s i k) = omega arith in rw z

-- fields of one record, stored one after another from field k on
abbrev pub puts : Shape → List ℕ → ℕ → ℕ → List ℕ → List ℕ
puts s l i k [] = l
puts s l i k (v ∷ vs) = puts s (put s l i k v) i (k + 1) vs

pub puts_sets : (s : Shape) (l : List ℕ) (i k : ℕ) (vs : List ℕ) → puts s l i k vs ≡ sets l (offset s i k) vs
puts_sets s l i k [] = refl
puts_sets s l i k (v ∷ vs) = puts_sets s (put s l i k v) i (k + 1) vs ∙ put_sets s l i k v vs

-- ---- past the end
pub sets_out : (vs l : List ℕ) (i : ℕ) → length l ≤ i → sets l i vs ≡ l
sets_out [] l i h = refl
sets_out (v ∷ vs) l i h = rw (set_out l i v h) (sets_out vs l (suc i) (omega arith))

pub fill_clipped : (k n : ℕ) (l : List ℕ) (i v : ℕ) → k ≤ n → (k < n → length l ≤ i + k)
    → sets l i (replicate k v) ≡ sets l i (replicate n v)
fill_clipped zero zero l i v a b = refl
fill_clipped zero (suc n) l i v a b = sym (sets_out (replicate (suc n) v) l i (omega (arith, b (omega arith))))
fill_clipped (suc k) zero l i v a b = absurd (omega arith)
fill_clipped (suc k) (suc n) l i v a b =
    fill_clipped k n (set l i v) (suc i) v (omega arith)
    (λ h. rw (length-set l i v) (omega (arith, b (omega arith))))

-- ---- one word of a run that is left to store
pub fill_one : (l : List ℕ) (i e v : ℕ) → i < e
    → sets (set l i v) (i + 1) (replicate (e - (i + 1)) v) ≡ sets l i (replicate (e - i) v)
fill_one l i e v h = let z : e - i ≡ suc (e - (i + 1)) = omega arith in rw (z, add-one i)

pub fill_none : (l : List ℕ) (i e v : ℕ) → e ≤ i → l ≡ sets l i (replicate (e - i) v)
fill_none l i e v h = let z : e - i ≡ 0 = omega arith in rw z

pub words_one : (l ws : List ℕ) (k i : ℕ) → i < length ws
    → sets (set l (k + i) (get_or ws i 0)) (k + (i + 1)) (drop (i + 1) ws) ≡ sets l (k + i) (drop i ws)
words_one l ws k i h =
    let z : k + (i + 1) ≡ suc (k + i) = omega arith in rw (z, add-one i, drop-cons ws i 0 h)

pub words_none : (l ws : List ℕ) (k i : ℕ) → length ws ≤ i → l ≡ sets l (k + i) (drop i ws)
words_none l ws k i h = rw (drop_of_length-le ws {i = i} h)

-- ---- a store into a run
put_in : (l vs : List ℕ) (w k v : ℕ) → k < length vs
    → put worker_shape (sets l (offset worker_shape w 0) vs) w k v ≡ sets l (offset worker_shape w 0) (set vs k v)
unfolding put
put_in l vs w k v h = let z : offset worker_shape w k ≡ offset worker_shape w 0 + k = omega arith in
    rw z (set_in l vs (offset worker_shape w 0) k v h)

-- a worker's record of 0, and the words of it that are not
abbrev blank : List ℕ
blank = replicate worker_shape.width 0

pub bare_record : (l : List ℕ) (w p h n : ℕ)
    → put worker_shape (put worker_shape (put worker_shape
    (put worker_shape (put worker_shape (sets l (offset worker_shape w 0) blank) w PHASE p) w HELD h) w OWN_JOB
    none) w OWN_ARC none) w NOTE n ≡ sets l (offset worker_shape w 0) (bare_worker p h n)
bare_record l w p h n =
    rw (
      put_in l blank w PHASE p (lit< tt),
      put_in l (set blank PHASE p) w HELD h (lit< tt),
      put_in l (set (set blank PHASE p) HELD h) w OWN_JOB none (lit< tt),
      put_in l (set (set (set blank PHASE p) HELD h) OWN_JOB none) w OWN_ARC none (lit< tt),
      put_in l (set (set (set (set blank PHASE p) HELD h) OWN_JOB none) OWN_ARC none) w NOTE n (lit< tt),
    )
