-- What a sheet in one call leaves: turned away nothing, served as many answers as entries; and after an entry that left
-- the worker half done every later answer is 3 and the tables stay. For ALL tables. Follows docs/RULES.md, "Whole
-- calls".
use Rattle.std.specs.Prelude.{◌≡◌, ◌↔◌, ◌≢◌, true, false, leb, length, get_or, take, drop, replicate}
use Rattle.std.proofs.Math.Path.{refl, ap, subst}
use Rattle.std.proofs.Common.{sym, ◌∙◌, arith, take-append-drop, length-drop, drop_at, length-take-le}
use mathlib.Core.List.{List, [], ◌∷◌, ◌++◌}
use Prim.Native.Nat.{ℕ, zero, suc, ◌-◌, ◌≤◌, ◌<◌}
use borrow.Author.Tests.{leb-true, le-leb}
use Rattle.def_numbers.specs.Numbers.{most_entries, half_done}
use Rattle.def_basics.specs.Base.{contains}
use Rattle.def_basics.specs.Laws.{never, pick_by}
use Rattle.def_terms.specs.Terms.{Arguments, no_arguments}
use Rattle.def_terms.specs.Runs.{result_of}
use Rattle.def_terms.specs.declared.Sizes.{Sizes}
use Rattle.def_terms.specs.declared.Answer.TheVariants.{Laid, Refused}
use Rattle.def_words.specs.Layout.{Tables}
use Rattle.def_words.specs.Words.{refusal}
use Rattle.def_whole_calls.specs.Whole.{whole_add}
use Rattle.def_whole_calls.specs.Sheet.{SheetResult, sheet_result, add_each, judged_sheet, served, sheet_words}
use Rattle.def_fused.specs.FusedWorker.{Admitted, is_idle}
use Rattle.def_fused.specs.FusedAdd.{plan_add, add_by, add_if_idle}
use Rattle.thm_fused_steps.specs.Posts.{admitted_as}
use Rattle.thm_fused_add.specs.Adds.{fused_add_lem}
use Rattle.thm_fused_add.specs.Sheets.{fused_sheet, sheet_admitted}
use Rattle.thm_whole_answers.specs.Worker.{order_numbers, by_admission}
use Rattle.thm_whole_answers.proofs.Numbers.{served_number}
use Rattle.thm_whole_answers.specs.SheetAdds.{after_adds, adds_state, adds_count, adds_answer_lem, adds_append}
use Rattle.thm_whole_answers.specs.Sheets.{Stuck}

-- ---- a sheet that was turned away, and one that was not
module _ (s : Sizes) (t : Tables) (w : ℕ) (l : List Arguments) where
  judged_zero : (sheet_words s t w l).number ≡ 0 → judged_sheet s t w (length l) ≡ 0
  judged_zero e = sym (served_number s t w l) ∙ e

  -- "with nothing changed"
  pub sheet_turned_away : (sheet_words s t w l).number ≢ 0
      → sheet_words s t w l ≡ sheet_result (sheet_words s t w l).number [] t
  unfolding sheet_words served
  sheet_turned_away h = go (judged_sheet s t w (length l)) refl
    where
      go : (n : ℕ) → judged_sheet s t w (length l) ≡ n → served n s t w l ≡ sheet_result (served n s t w l).number [] t
      go zero e = absurd (h (served_number s t w l ∙ e))
      go (suc n) e = refl

  pub sheet_served : (sheet_words s t w l).number ≡ 0 → sheet_words s t w l ≡ add_each s w l t
  unfolding sheet_words served
  sheet_served e = ap (λ n. served n s t w l) (judged_zero e)

  -- just then its worker is admitted and idle, and it has at most 64 entries
  abbrev Taken : Type 0
  Taken = Admitted s t w × (is_idle t w ≡ true) × (length l ≤ most_entries)

  pub sheet_fits : (sheet_words s t w l).number ≡ 0 → Admitted s t w × (is_idle t w ≡ true) × (length l ≤ most_entries)
  unfolding contains
  sheet_fits e =
      by_admission (λ m. m ≡ 0 → Taken) s t w refusal _
      (λ m c z. let d = subst (λ k. contains k order_numbers ≡ true) z c in never (cc))
      (λ A. pick_by (λ m. m ≡ 0 → Taken) (is_idle t w)
      (λ i. pick_by (λ m. m ≡ 0 → Taken) (leb (length l) most_entries)
      (λ h _. (A, i, leb-true (length l) most_entries h))
      (λ _ z. absurd (omega arith)))
      (λ _ z. absurd (omega arith)))
      (judged_zero e)

  pub sheet_accepted : ((sheet_words s t w l).number ≡ 0)
      ↔ (Admitted s t w × (is_idle t w ≡ true) × (length l ≤ most_entries))
  sheet_accepted = (
    sheet_fits,
    λ f. served_number s t w l ∙ admitted_as s t w refusal _ f.0 ∙ rw (f.1, le-leb (length l) most_entries f.2),
  )

  pub sheet_count : (sheet_words s t w l).number ≡ 0 → length (sheet_words s t w l).answers ≡ length l
  sheet_count e = rw (sheet_served e) (adds_count s w l t)

  pub sheet_state : (sheet_words s t w l).number ≡ 0 → (sheet_words s t w l).state ≡ after_adds s w l t
  sheet_state e = rw (sheet_served e) (adds_state s w l t)

  pub sheet_answer : (sheet_words s t w l).number ≡ 0 → (i : ℕ) → i < length l
      → get_or (sheet_words s t w l).answers i Laid
      ≡ (whole_add s (after_adds s w (take i l) t) w (get_or l i no_arguments)).answer
  sheet_answer e i h = rw (sheet_served e) (adds_answer_lem s w l t i h)

-- ---- "Where damage stops an add half done, each later entry gets what its post would get, 3"
stuck_add : (s : Sizes) (t : Tables) (w : ℕ) (a : Arguments) → Admitted s t w → is_idle t w ≡ false
    → whole_add s t w a ≡ result_of (Refused half_done 0) t
unfolding add_if_idle plan_add add_by
stuck_add s t w a A b = fused_add_lem s t w a A ∙ rw b

pub stuck_adds : (s : Sizes) (w : ℕ) (l : List Arguments) (t : Tables) → Admitted s t w → is_idle t w ≡ false
    → add_each s w l t ≡ sheet_result 0 (replicate (length l) (Refused half_done 0)) t
unfolding add_each
stuck_adds s w [] t A b = refl
stuck_adds s w (a ∷ l) t A b = rw (stuck_add s t w a A b, stuck_adds s w l t A b)

pub adds_admitted : (s : Sizes) (w : ℕ) (l : List Arguments) (t : Tables) → Admitted s t w
    → Admitted s (after_adds s w l t) w
adds_admitted s w l t A = rw (← (adds_state s w l t), fused_sheet s w l t A) (sheet_admitted s w l t A)

pub stuck_after : (s : Sizes) (w : ℕ) (l : List Arguments) (t : Tables) (i : ℕ) → Admitted s t w → i ≤ length l
    → is_idle (after_adds s w (take i l) t) w ≡ false
    → Stuck i l (after_adds s w (take i l) t) (add_each s w l t)
stuck_after s w l t i A h b =
    let k = take i l in
    let u = after_adds s w k t in
    let first = (add_each s w k t).answers in
    let whole : add_each s w l t ≡ sheet_result 0 (first ++ replicate (length (drop i l)) (Refused half_done 0)) u =
    ap (λ m. add_each s w m t) (sym (take-append-drop i l)) ∙ adds_append s w k (drop i l) t
    ∙ ap (λ (o : SheetResult). sheet_result 0 (first ++ o.answers) o.state)
    (stuck_adds s w (drop i l) u (adds_admitted s w k t A) b) in
    let long : length first ≡ i = adds_count s w k t ∙ length-take-le i l h in
    rw (whole, length-drop i l) (drop_at first (replicate (length l - i) (Refused half_done 0)) i long, refl)

pub sheet_stuck : (s : Sizes) (t : Tables) (w : ℕ) (l : List Arguments) (i : ℕ) → (sheet_words s t w l).number ≡ 0
    → i ≤ length l → is_idle (after_adds s w (take i l) t) w ≡ false
    → Stuck i l (after_adds s w (take i l) t) (sheet_words s t w l)
sheet_stuck s t w l i e h b = rw (sheet_served s t w l e) (stuck_after s w l t i (sheet_fits s t w l e).0 h b)
