-- A sheet's adds in one go are its adds, each run whole, for an admitted worker; and so is the whole sheet, for ALL
-- tables. Follows docs/RULES.md, "Whole calls".
use Rattle.std.specs.Prelude.{◌≡◌, refl, Bool, true, false, List, [], ◌∷◌, ℕ, zero, suc, ltb, length}
use Rattle.std.proofs.Common.{ap, ◌∙◌, arith, ltb-true}
use Rattle.def_numbers.specs.Numbers.{wrong_size, no_such_worker, damaged}
use Rattle.def_basics.specs.Base.{pick}
use Rattle.def_terms.specs.Terms.{Arguments}
use Rattle.def_terms.specs.Runs.{Result}
use Rattle.def_terms.specs.declared.Sizes.{Sizes}
use Rattle.def_words.specs.Layout.{Tables, view, sizes_fit}
use Rattle.def_words.specs.Words.{own_ok, admitted, refusal}
use Rattle.def_whole_calls.specs.Sheet.{SheetResult, sheet_result, add_each, judged_sheet, served, sheet_words}
use Rattle.def_fused.specs.FusedWorker.{Admitted}
use Rattle.def_fused.specs.FusedAdd.{add_if_idle}
use Rattle.thm_fused_add.specs.Adds.{fused_add_lem, still_admitted}

-- the adds of a sheet's entries, each in one go
unfoldable pub add_each_if_idle : Sizes → ℕ → List Arguments → Tables → SheetResult
add_each_if_idle s w [] t = sheet_result 0 [] t
add_each_if_idle s w (a ∷ l) t =
    let o = add_if_idle s t w a in
    let rest = add_each_if_idle s w l o.state in
    sheet_result 0 (o.answer ∷ rest.answers) rest.state

-- one add, and then the rest r
abbrev added : Result Tables → SheetResult → SheetResult
added o r = sheet_result 0 (o.answer ∷ r.answers) r.state

pub fused_sheet : (s : Sizes) (w : ℕ) (l : List Arguments) (t : Tables) → Admitted s t w
    → add_each s w l t ≡ add_each_if_idle s w l t
unfolding add_each add_each_if_idle
fused_sheet s w [] t A = refl
fused_sheet s w (a ∷ l) t A =
    ap (λ (o : Result Tables). added o (add_each s w l o.state)) (fused_add_lem s t w a A)
    ∙ ap (added (add_if_idle s t w a)) (fused_sheet s w l (add_if_idle s t w a).state (still_admitted s t w a A))

-- and the worker is still admitted
pub sheet_admitted : (s : Sizes) (w : ℕ) (l : List Arguments) (t : Tables) → Admitted s t w
    → Admitted s (add_each_if_idle s w l t).state w
unfolding add_each_if_idle
sheet_admitted s w [] t A = A
sheet_admitted s w (a ∷ l) t A = sheet_admitted s w l (add_if_idle s t w a).state (still_admitted s t w a A)

-- ---- the whole sheet
unfoldable pub served_if_idle : ℕ → Sizes → Tables → ℕ → List Arguments → SheetResult
served_if_idle zero s t w l = add_each_if_idle s w l t
served_if_idle (suc n) s t w l = sheet_result (suc n) [] t

-- a sheet that is not turned away has an admitted worker
pub judged_admitted : (s : Sizes) (t : Tables) (w n : ℕ) → admitted s t w refusal n ≡ 0 → Admitted s t w
unfolding admitted
judged_admitted s t w n e = go (sizes_fit s t) refl (ltb w s.workers) refl (own_ok s (view t) w) refl e
  where
    go : (x : Bool) → sizes_fit s t ≡ x → (y : Bool) → ltb w s.workers ≡ y → (z : Bool) → own_ok s (view t) w ≡ z
        → pick x (pick y (pick z n damaged) no_such_worker) wrong_size ≡ 0
        → Admitted s t w
    go true a true b true c h = record { sizes = a; worker = ltb-true w s.workers b; own = c }
    go true a true b false c h = absurd (omega arith)
    go true a false b z c h = absurd (omega arith)
    go false a y b z c h = absurd (omega arith)

pub whole_sheet : (s : Sizes) (t : Tables) (w : ℕ) (l : List Arguments)
    → sheet_words s t w l ≡ served_if_idle (judged_sheet s t w (length l)) s t w l
unfolding sheet_words served served_if_idle
whole_sheet s t w l = go (judged_sheet s t w (length l)) refl
  where
    go : (n : ℕ) → judged_sheet s t w (length l) ≡ n → served n s t w l ≡ served_if_idle n s t w l
    go zero e = fused_sheet s w l t (judged_admitted s t w _ e)
    go (suc n) e = refl
