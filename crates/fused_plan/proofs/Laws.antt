-- The look-ups of a list, one name at a time, and the jobs that they found.
use mathlib.Core.Path.{◌≡◌, refl, sym, ap, ◌∙◌}
use mathlib.Core.List.{List, [], ◌∷◌}
use Prim.Native.Nat.{ℕ, zero, suc, ◌+◌, ◌≤◌, ◌<◌}
use native.Mathlib.Omega.{arith}
use native.Mathlib.Numerals.{add-one}
use native.Mathlib.Decide.{dec_lt}
use lib.ListN.{length, get_or, set, drop}
use lib.Seq.{get_or-set_same, get_or-set_other}
use Rattle.def_basics.specs.Base.{prefix}
use Rattle.def_terms.specs.declared.Sizes.{Sizes}
use Rattle.def_words.specs.Layout.{View}
use Rattle.def_words.specs.Words.{find_of}
use Rattle.def_words.specs.declared.Found.{Found}
use Rattle.def_words.specs.declared.Found.TheVariants.{At, Missing, Damaged}
use Rattle.graph_arguments.proofs.Listed.{next, none_left}
use Rattle.def_fused.specs.FusedAdd.{look_ups, job_found, jobs_found}
use Rattle.def_fused.specs.declared.LookUps.TheVariants.{All, Unknown, Broken}

-- what the code found of the name x that it read
pub told : (s : Sizes) (v : View) {x y : ℕ} {r f : Found} → x ≡ y → r ≡ find_of s v x → r ≡ f → f ≡ find_of s v y
told s v p q e = sym e ∙ (q ∙ ap (find_of s v) p)

-- ---- the look-ups that are left
module _ (s : Sizes) (v : View) (count : ℕ) (names : List ℕ) (i : ℕ) where
  pub on : (j : ℕ) → i < count → At j ≡ find_of s v (get_or names i 0)
      → look_ups s v (drop (i + 1) (prefix count names)) (i + 1) ≡ look_ups s v (drop i (prefix count names)) i
  unfolding look_ups
  on j h e = rw (next count names i h, ← e, add-one)

  pub missing : i < count → Missing ≡ find_of s v (get_or names i 0)
      → Unknown i ≡ look_ups s v (drop i (prefix count names)) i
  unfolding look_ups
  missing h e = rw (next count names i h, ← e)

  pub broken : i < count → Damaged ≡ find_of s v (get_or names i 0)
      → Broken i ≡ look_ups s v (drop i (prefix count names)) i
  unfolding look_ups
  broken h e = rw (next count names i h, ← e)

  pub done : count ≤ i → i ≤ count → All ≡ look_ups s v (drop i (prefix count names)) i
  unfolding look_ups
  done h k = rw (none_left count names i h k)

-- ---- the jobs found
abbrev pub Kept : Sizes → View → List ℕ → List ℕ → ℕ → Type 0
Kept s v names found i = (k : ℕ) → k < i → get_or found k 0 ≡ job_found (find_of s v (get_or names k 0))

pub kept_one : (s : Sizes) (v : View) (names found : List ℕ) (i j : ℕ) → Kept s v names found i → i < length found
    → At j ≡ find_of s v (get_or names i 0) → Kept s v names (set found i j) (i + 1)
kept_one s v names found i j h b e k l = elim (dec_lt k i) [
  | yes q ↦ get_or-set_other found i k j 0 (λ z. omega arith) ∙ h k q
  | no q ↦ let z : k ≡ i = omega arith in rw (z, get_or-set_same found i j 0 b, ← e)
]

cons_eq : {x y : ℕ} {l m : List ℕ} → x ≡ y → l ≡ m → x ∷ l ≡ y ∷ m
cons_eq p q = cc

pub all_kept : (s : Sizes) (v : View) (n : ℕ) (names found : List ℕ) → Kept s v names found n
    → prefix n found ≡ jobs_found s v (prefix n names)
unfolding prefix jobs_found
all_kept s v zero names found h = refl
all_kept s v (suc n) [] [] h =
    cons_eq (h 0 (omega arith)) (all_kept s v n [] [] (λ k q. h (suc k) (omega arith)))
all_kept s v (suc n) [] (y ∷ m) h =
    cons_eq (h 0 (omega arith)) (all_kept s v n [] m (λ k q. h (suc k) (omega arith)))
all_kept s v (suc n) (x ∷ l) [] h =
    cons_eq (h 0 (omega arith)) (all_kept s v n l [] (λ k q. h (suc k) (omega arith)))
all_kept s v (suc n) (x ∷ l) (y ∷ m) h =
    cons_eq (h 0 (omega arith)) (all_kept s v n l m (λ k q. h (suc k) (omega arith)))

-- ---- an end that is not the last
pub not_unknown : {i : ℕ} → Unknown i ≡ All → ⊥
not_unknown e = let z : ◌≡◌ {A = ℕ} 0 1 = cc in omega arith

pub not_broken : {i : ℕ} → Broken i ≡ All → ⊥
not_broken e = let z : ◌≡◌ {A = ℕ} 0 1 = cc in omega arith
