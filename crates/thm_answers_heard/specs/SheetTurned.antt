-- What turns a sheet away, for ALL tables: 1, 2, 9 for the worker's own words and 3 as they turn away the post of any
-- add, and then 16. Follows docs/RULES.md, "Whole calls".
use Rattle.std.specs.Prelude.{◌≡◌, ◌≢◌, Bool, List, ℕ, ◌<◌, ltb, leb, length}
use Rattle.std.proofs.Math.Path.{refl, subst}
use Rattle.std.proofs.Math.Bool.{true, false}
use Rattle.std.proofs.Common.{arith}
use borrow.Author.Tests.{leb-false}
use Rattle.def_numbers.specs.Numbers.{most_entries, wrong_size, no_such_worker, half_done, damaged, too_many_entries}
use Rattle.def_numbers.specs.Numbers.{wrong_arguments}
use Rattle.def_basics.specs.Base.{pick, contains}
use Rattle.def_basics.specs.Laws.{never, pick_by}
use Rattle.def_terms.specs.Terms.{Arguments, arguments_wrong}
use Rattle.def_terms.specs.declared.Sizes.{Sizes}
use Rattle.def_terms.specs.declared.Answer.TheVariants.{Refused}
use Rattle.def_words.specs.Layout.{Tables, view, sizes_fit, HELD}
use Rattle.def_words.specs.Words.{own_ok, admitted, refusal, judged_counters, posted, adding_worker, add_words}
use Rattle.def_whole_calls.specs.Sheet.{judged_sheet, sheet_words}
use Rattle.def_fused.specs.FusedWorker.{Admitted, is_idle}
use Rattle.thm_whole_answers.specs.Worker.{order_numbers, by_admission}
use Rattle.thm_whole_answers.proofs.Numbers.{served_number}

module _ (s : Sizes) (t : Tables) (w n : ℕ) where
  -- by any number but 16 it is turned away as any post of an add by this worker is
  pub turned_as_post : judged_sheet s t w n ≢ 0 → judged_sheet s t w n ≢ too_many_entries → (a : Arguments)
      → (add_words s t w a).answer ≡ Refused (judged_sheet s t w n) 0
  unfolding add_words admitted posted
  turned_as_post h k a =
      go (sizes_fit s t) (ltb w s.workers) (own_ok s (view t) w) (is_idle t w) (leb n most_entries)
      (pick (arguments_wrong a) wrong_arguments (judged_counters s (view t))) h k
    where
      go : (x y z i e : Bool) (m : ℕ)
          → pick x (pick y (pick z (pick i (pick e 0 too_many_entries) half_done) damaged) no_such_worker) wrong_size ≢ 0
          → pick x (pick y (pick z (pick i (pick e 0 too_many_entries) half_done) damaged) no_such_worker) wrong_size
          ≢ too_many_entries
          → (posted (pick x (pick y (pick z (pick i m half_done) damaged) no_such_worker) wrong_size) t w
          (adding_worker ((view t).worker HELD w) a)).answer
          ≡ Refused
          (pick x (pick y (pick z (pick i (pick e 0 too_many_entries) half_done) damaged) no_such_worker) wrong_size) 0
      go true true true true true m h k = absurd (h refl)
      go true true true true false m h k = absurd (k refl)
      go true true true false e m h k = refl
      go true true false i e m h k = refl
      go true false z i e m h k = refl
      go false y z i e m h k = refl

  -- by 16 only where all that comes first is passed, and there are more than 64 entries
  abbrev TooMany : Type 0
  TooMany = Admitted s t w × (is_idle t w ≡ true) × (most_entries < n)

  pub turned_by_16 : judged_sheet s t w n ≡ too_many_entries → TooMany
  unfolding contains
  turned_by_16 =
      by_admission (λ m. m ≡ too_many_entries → TooMany) s t w refusal _
      (λ m c z. let d = subst (λ k. contains k order_numbers ≡ true) z c in never (cc))
      (λ A. pick_by (λ m. m ≡ too_many_entries → TooMany) (is_idle t w)
      (λ i. pick_by (λ m. m ≡ too_many_entries → TooMany) (leb n most_entries)
      (λ _ z. absurd (omega arith))
      (λ h _. (A, i, leb-false n most_entries h)))
      (λ _ z. absurd (omega arith)))

-- the same of a sheet
module _ (s : Sizes) (t : Tables) (w : ℕ) (l : List Arguments) where
  pub sheet_as_post : (sheet_words s t w l).number ≢ 0 → (sheet_words s t w l).number ≢ too_many_entries → (a : Arguments)
      → (add_words s t w a).answer ≡ Refused (sheet_words s t w l).number 0
  sheet_as_post h k a =
      let e = served_number s t w l in
      rw e (turned_as_post s t w (length l) (rw e at h) (rw e at k) a)

  pub sheet_by_16 : (sheet_words s t w l).number ≡ too_many_entries
      → Admitted s t w × (is_idle t w ≡ true) × (most_entries < length l)
  sheet_by_16 h = turned_by_16 s t w (length l) (rw (served_number s t w l) at h)
