-- A worker's words in the tables that a call run whole leaves: put back, with its hold, or those of a call half done.
-- Who is not admitted. Follows docs/RULES.md, "Tables and their measures".
use Rattle.std.specs.Prelude.{◌≡◌, refl, Bool, true, false, ◌||◌, List, [], ◌∷◌, ◌++◌, ℕ, ltb, eqb, length, get_or}
use Rattle.std.proofs.Common.{ap, ◌∙◌, lt-ltb, ltb-true}
use Rattle.std.proofs.Math.Bool.{or-true}
use Rattle.def_numbers.specs.Numbers.{wrong_size, no_such_worker, damaged}
use Rattle.def_basics.specs.Base.{contains}
use Rattle.def_basics.specs.Laws.{never, pick_by}
use Rattle.def_terms.specs.declared.Sizes.{Sizes}
use Rattle.def_words.specs.Layout.{Tables, view, worker_shape, PHASE, HELD, IDLE, bare_worker, sizes_fit}
use Rattle.def_words.specs.Words.{put_worker, own_ok, admitted}
use Rattle.thm_words_refusals.specs.Refusals.{words_of, put_back}
use Rattle.def_fused.specs.FusedWorker.{Admitted, is_idle, hold_of, with_worker, idled_with}
use Rattle.thm_fused_steps.specs.Records.{record_word}
use Rattle.thm_fused_steps.specs.Steps.{room_for_workers}

-- "A call that ends puts the words of its call back": worker w of the tables t is idle in the tables u and holds
-- `held`, all its 43 words are so, and no other worker's words changed
pub record Back (t : Tables) (w held : ℕ) (u : Tables) : Type 0 where
  pub idle : is_idle u w ≡ true
  pub hold : hold_of u w ≡ held
  pub words : words_of w u ≡ bare_worker IDLE held 0
  pub workers : u.workers ≡ put_worker t.workers w (bare_worker IDLE held 0)

-- the words r of worker w, stored in tables u with the workers of t
module _ (s : Sizes) (t : Tables) (w : ℕ) (A : Admitted s t w) (u : Tables) (same : u.workers ≡ t.workers) where
  word : (r : List ℕ) → length r ≡ worker_shape.width → (k : ℕ) → (view (with_worker u w r)).worker k w ≡ get_or r k 0
  word r whole k =
      rw same (record_word s.workers t.workers w r whole (room_for_workers s t A.sizes) A.worker k)

  pub back : (held : ℕ) → Back t w held (idled_with u w held)
  back held = record {
    idle = ap (λ p. eqb p IDLE) (word (bare_worker IDLE held 0) refl PHASE);
    hold = word (bare_worker IDLE held 0) refl HELD;
    words =
        rw same
        (put_back s.workers t.workers w (bare_worker IDLE held 0) (room_for_workers s t A.sizes)
        (lt-ltb w s.workers A.worker) refl);
    workers = ap (λ l. put_worker l w (bare_worker IDLE held 0)) same;
  }

  pub busy : (r : List ℕ) → length r ≡ worker_shape.width → eqb (get_or r PHASE 0) IDLE ≡ false
      → is_idle (with_worker u w r) w ≡ false
  busy r whole b = ap (λ p. eqb p IDLE) (word r whole PHASE) ∙ b

-- "Order: 1, 2, 9 for the worker's own words": what holds of these refusals, and of an admitted worker
abbrev pub order_numbers : List ℕ
order_numbers = wrong_size ∷ no_such_worker ∷ damaged ∷ []

pub by_admission : {A : Type 0} (Q : A → Type 0) (s : Sizes) (t : Tables) (w : ℕ) (refuse : ℕ → A) (x : A)
    → ((n : ℕ) → contains n order_numbers ≡ true → Q (refuse n)) → (Admitted s t w → Q x)
    → Q (admitted s t w refuse x)
unfolding admitted contains
by_admission Q s t w refuse x away on =
    pick_by Q (sizes_fit s t)
    (λ e. pick_by Q (ltb w s.workers)
    (λ f. pick_by Q (own_ok s (view t) w)
    (λ g. on (record { sizes = e; worker = ltb-true w s.workers f; own = g }))
    (λ _. away damaged refl))
    (λ _. away no_such_worker refl))
    (λ _. away wrong_size refl)

-- ---- a number in a longer list
pub contains_left : (n : ℕ) (l m : List ℕ) → contains n l ≡ true → contains n (l ++ m) ≡ true
unfolding contains
contains_left n [] m e = never (cc)
contains_left n (x ∷ l) m e = go (eqb n x) e (contains_left n l m)
  where
    go : (b : Bool) → (b || contains n l) ≡ true → (contains n l ≡ true → contains n (l ++ m) ≡ true)
        → (b || contains n (l ++ m)) ≡ true
    go true h rest = refl
    go false h rest = rest h

pub contains_right : (n : ℕ) (l m : List ℕ) → contains n m ≡ true → contains n (l ++ m) ≡ true
unfolding contains
contains_right n [] m e = e
contains_right n (x ∷ l) m e = rw (contains_right n l m e, or-true (eqb n x))
