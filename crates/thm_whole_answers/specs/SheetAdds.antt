-- A sheet is its adds: the i-th answer is that of the i-th add run whole on the tables after the adds before it, and
-- the tables left are those after all of them. Follows docs/RULES.md, "Whole calls".
use Rattle.std.specs.Prelude.{◌≡◌, length, get_or, take}
use Rattle.std.proofs.Math.Path.{refl, ap}
use mathlib.Core.List.{List, [], ◌∷◌, ◌++◌, foldl}
use Prim.Native.Nat.{ℕ, zero, suc, ◌<◌}
use Rattle.std.proofs.Common.{arith}
use Rattle.def_terms.specs.Terms.{Arguments, no_arguments}
use Rattle.def_terms.specs.declared.Sizes.{Sizes}
use Rattle.def_terms.specs.declared.Answer.TheVariants.{Laid}
use Rattle.def_words.specs.Layout.{Tables}
use Rattle.def_whole_calls.specs.Whole.{whole_add}
use Rattle.def_whole_calls.specs.Sheet.{SheetResult, sheet_result, add_each}

-- the tables after these adds, each run whole, in order
abbrev pub after_adds : Sizes → ℕ → List Arguments → Tables → Tables
after_adds s w l t = foldl (λ u a. (whole_add s u w a).state) t l

module _ (s : Sizes) (w : ℕ) where
  pub adds_state : (l : List Arguments) (t : Tables) → (add_each s w l t).state ≡ after_adds s w l t
  unfolding add_each
  adds_state [] t = refl
  adds_state (a ∷ l) t = adds_state l (whole_add s t w a).state

  -- as many answers as entries
  pub adds_count : (l : List Arguments) (t : Tables) → length (add_each s w l t).answers ≡ length l
  unfolding add_each
  adds_count [] t = refl
  adds_count (a ∷ l) t = ap suc (adds_count l (whole_add s t w a).state)

  pub adds_answer_lem : (l : List Arguments) (t : Tables) (i : ℕ) → i < length l
      → get_or (add_each s w l t).answers i Laid
      ≡ (whole_add s (after_adds s w (take i l) t) w (get_or l i no_arguments)).answer
  unfolding add_each
  adds_answer_lem [] t i h = absurd (omega arith)
  adds_answer_lem (a ∷ l) t zero h = refl
  adds_answer_lem (a ∷ l) t (suc i) h = adds_answer_lem l (whole_add s t w a).state i (omega arith)

  -- two sheets one after the other
  pub adds_append : (l m : List Arguments) (t : Tables)
      → add_each s w (l ++ m) t
      ≡ sheet_result 0 ((add_each s w l t).answers ++ (add_each s w m (after_adds s w l t)).answers)
      (add_each s w m (after_adds s w l t)).state
  unfolding add_each
  adds_append [] [] t = refl
  adds_append [] (a ∷ m) t = refl
  adds_append (a ∷ l) m t =
      ap (λ (o : SheetResult). sheet_result 0 ((whole_add s t w a).answer ∷ o.answers) o.state)
      (adds_append l m (whole_add s t w a).state)
