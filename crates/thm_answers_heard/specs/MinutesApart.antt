-- No call run whole reads a word of the stored minutes, and none changes one. For ALL tables. Follows docs/TABLES.md,
-- "What each step reads and writes".
use Rattle.std.specs.Prelude.{◌≡◌, refl, false, List, [], ◌∷◌, ℕ, zero, suc, ◌+◌, ◌*◌, leb, eqb, length}
use Rattle.std.proofs.Common.{ap, ◌∙◌}
use Rattle.def_numbers.specs.Numbers.{classes, most_entries, too_many_entries, half_done}
use Rattle.def_basics.specs.Base.{pick}
use Rattle.def_terms.specs.Terms.{Arguments, Finish}
use Rattle.def_terms.specs.Runs.{Item, post_add, post_finish, step, is_load, Result, result_of}
use Rattle.def_terms.specs.declared.Sizes.{Sizes}
use Rattle.def_terms.specs.declared.Answer.{Answer}
use Rattle.def_terms.specs.declared.Answer.TheVariants.{Laid, Loaded, Posted, Going, Ended, NoneReady, Handed, Refused}
use Rattle.def_words.specs.Layout.{Tables, stored_minutes, PHASE, IDLE}
use Rattle.def_words.specs.Words.{loaded, step_words, add_words, finish_words, refusal, perform}
use Rattle.thm_words_loads.specs.MinutesElsewhere.{minutes_elsewhere, minutes_stay, plans_alike}
use Rattle.def_whole_calls.specs.Whole.{and_then, steps_of, whole_add, whole_finish}
use Rattle.def_whole_calls.specs.Sheet.{SheetResult, sheet_result, add_each, judged_sheet, served, sheet_words}

-- a call: with other minutes in the tables it answers alike, and leaves the same words and those minutes
pub record CallApart (f : Tables → Result Tables) : Type 0 where
  pub elsewhere : (t : Tables) (m : List ℕ) → length m ≡ classes
      → f (loaded t m) ≡ result_of (f t).answer (loaded (f t).state m)
  pub stay : (t : Tables) → stored_minutes (f t).state.jobs ≡ stored_minutes t.jobs

-- and a sheet
pub record SheetApart (f : Tables → SheetResult) : Type 0 where
  pub elsewhere : (t : Tables) (m : List ℕ) → length m ≡ classes
      → f (loaded t m) ≡ sheet_result (f t).number (f t).answers (loaded (f t).state m)
  pub stay : (t : Tables) → stored_minutes (f t).state.jobs ≡ stored_minutes t.jobs

-- ---- an item, and a call that goes on with another
item_apart : (i : Item) → is_load i ≡ false → CallApart (λ t. perform t i)
item_apart i n = record { elsewhere = λ t m e. minutes_elsewhere t m e i n; stay = λ t. minutes_stay t i n }

module _ (f g : Tables → Result Tables) (F : CallApart f) (G : CallApart g) where
  on : (x : Answer) (t : Tables) (m : List ℕ) → length m ≡ classes
      → and_then x (loaded t m) g ≡ result_of (and_then x t g).answer (loaded (and_then x t g).state m)
  on Going t m e = G.elsewhere t m e
  on Posted t m e = G.elsewhere t m e
  on Laid t m e = refl
  on Loaded t m e = refl
  on Ended t m e = refl
  on NoneReady t m e = refl
  on (Handed h) t m e = refl
  on (Refused n i) t m e = refl

  on_stay : (x : Answer) (t : Tables) → stored_minutes (and_then x t g).state.jobs ≡ stored_minutes t.jobs
  on_stay Going t = G.stay t
  on_stay Posted t = G.stay t
  on_stay Laid t = refl
  on_stay Loaded t = refl
  on_stay Ended t = refl
  on_stay NoneReady t = refl
  on_stay (Handed h) t = refl
  on_stay (Refused n i) t = refl

  then_apart : CallApart (λ t. and_then (f t).answer (f t).state g)
  then_apart = record {
    elsewhere = λ t m e.
        ap (λ (o : Result Tables). and_then o.answer o.state g) (F.elsewhere t m e)
        ∙ on (f t).answer (f t).state m e;
    stay = λ t. on_stay (f t).answer (f t).state ∙ F.stay t;
  }

-- ---- the calls
steps_apart : (k : ℕ) (s : Sizes) (w : ℕ) → CallApart (steps_of k s w)
unfolding steps_of perform
steps_apart zero s w = record { elsewhere = λ t m e. refl; stay = λ t. refl }
steps_apart (suc k) s w =
    then_apart (λ t. step_words s t w) (steps_of k s w) (item_apart (step s w) refl) (steps_apart k s w)

pub add_apart : (s : Sizes) (w : ℕ) (a : Arguments) → CallApart (λ t. whole_add s t w a)
unfolding whole_add perform
add_apart s w a =
    then_apart (λ t. add_words s t w a) (steps_of (2 * a.count + 2) s w) (item_apart (post_add s w a) refl)
    (steps_apart (2 * a.count + 2) s w)

pub finish_apart : (s : Sizes) (w : ℕ) (f : Finish) → CallApart (λ t. whole_finish s t w f)
unfolding whole_finish perform
finish_apart s w f =
    then_apart (λ t. finish_words s t w f) (steps_of (s.arcs + 1) s w)
    (item_apart (post_finish s w f) refl)
    (steps_apart (s.arcs + 1) s w)

-- ---- the sheet
adds_apart : (s : Sizes) (w : ℕ) (l : List Arguments) → SheetApart (add_each s w l)
unfolding add_each
adds_apart s w [] = record { elsewhere = λ t m e. refl; stay = λ t. refl }
adds_apart s w (a ∷ l) =
    let F = add_apart s w a in
    let G = adds_apart s w l in
    record {
      elsewhere = λ t m e.
          ap (λ (o : Result Tables).
          sheet_result 0 (o.answer ∷ (add_each s w l o.state).answers) (add_each s w l o.state).state)
          (F.elsewhere t m e)
          ∙ ap (λ (o : SheetResult). sheet_result 0 ((whole_add s t w a).answer ∷ o.answers) o.state)
          (G.elsewhere (whole_add s t w a).state m e);
      stay = λ t. G.stay (whole_add s t w a).state ∙ F.stay t;
    }

served_apart : (n : ℕ) (s : Sizes) (w : ℕ) (l : List Arguments) → SheetApart (λ t. served n s t w l)
unfolding served
served_apart zero s w l = adds_apart s w l
served_apart (suc n) s w l = record { elsewhere = λ t m e. refl; stay = λ t. refl }

pub sheet_apart : (s : Sizes) (w : ℕ) (l : List Arguments) → SheetApart (λ t. sheet_words s t w l)
unfolding sheet_words
sheet_apart s w l = record {
  elsewhere = λ t m e.
      ap (λ n. served n s (loaded t m) w l)
      (plans_alike t m e s w refusal
      (λ v. pick (eqb (v.worker PHASE w) IDLE) (pick (leb (length l) most_entries) 0 too_many_entries) half_done))
      ∙ (served_apart (judged_sheet s t w (length l)) s w l).elsewhere t m e;
  stay = λ t. (served_apart (judged_sheet s t w (length l)) s w l).stay t;
}
