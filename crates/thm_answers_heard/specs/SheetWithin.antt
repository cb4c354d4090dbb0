-- A sheet in one call looks at no word past the need of its sizes, and changes none, nor a table's length. For ALL
-- tables. Follows docs/RULES.md, "Tables and their measures": "words past a table's need are never touched".
use Rattle.std.specs.Prelude.{◌≡◌, refl, Bool, true, false, List, [], ◌∷◌, ℕ, zero, suc, ltb, leb, eqb, length}
use Rattle.std.proofs.Common.{sym, ap, ap₂, ◌∙◌}
use Rattle.def_numbers.specs.Numbers.{most_entries, too_many_entries, wrong_arguments, half_done, damaged, no_such_worker}
use Rattle.def_numbers.specs.Numbers.{wrong_size}
use Rattle.def_basics.specs.Base.{pick}
use Rattle.def_terms.specs.Terms.{Arguments, arguments_wrong}
use Rattle.def_terms.specs.Runs.{post_add}
use Rattle.def_terms.specs.declared.Sizes.{Sizes}
use Rattle.def_terms.specs.declared.Answer.{Answer}
use Rattle.def_words.specs.Layout.{Tables, view, HELD, sizes_fit}
use Rattle.def_words.specs.Words.{own_ok, admitted, adding_worker, posted, add_words, perform}
use Rattle.thm_words_need.specs.Parts.{needed}
use Rattle.def_whole_calls.specs.Whole.{whole_add}
use Rattle.def_whole_calls.specs.Sheet.{SheetResult, add_each, judged_sheet, served, sheet_words}
use Rattle.def_sheet_rows.specs.SheetRows.{number_of}
use Rattle.def_fused.specs.FusedWorker.{is_idle}
use Rattle.thm_whole_answers.proofs.Numbers.{served_number}
use Rattle.thm_answers_heard.specs.Within.{Within, item_within, stays_within, add_within}

-- what a sheet answers: its number, and the answers of its adds
pub record Told : Type 0 where
  pub number : ℕ
  pub answers : List Answer

abbrev pub told_by : SheetResult → Told
told_by o = record { number = o.number; answers = o.answers }

abbrev pub SheetWithin : Sizes → (Tables → SheetResult) → Type 0
SheetWithin s f = Within s (λ t. told_by (f t)) (λ t. (f t).state)

-- ---- the adds
adds_within : (s : Sizes) (w : ℕ) (l : List Arguments)
    → Within s (λ t. (add_each s w l t).answers) (λ t. (add_each s w l t).state)
unfolding add_each
adds_within s w [] = stays_within s []
adds_within s w (a ∷ l) =
    let F = add_within s w a in
    let G = adds_within s w l in
    record {
      answers = λ t u e.
          ap₂ {C = List Answer} (λ x xs. x ∷ xs) (F.answers t u e)
          (G.answers (whole_add s t w a).state (whole_add s u w a).state (F.leaves t u e));
      leaves = λ t u e. G.leaves (whole_add s t w a).state (whole_add s u w a).state (F.leaves t u e);
      past = λ t. G.past (whole_add s t w a).state ∙ F.past t;
      long = λ t. G.long (whole_add s t w a).state ∙ F.long t;
    }

-- ---- the number that turns a sheet away, by that of a post with wrong arguments: 5 stands for an idle worker
wrong_add : Arguments
wrong_add = record { name = 0; count = 0; names = []; class = 16; grower = 0 }

abbrev by_post : ℕ → Answer → ℕ
by_post n x = pick (eqb (number_of x) wrong_arguments) (pick (leb n most_entries) 0 too_many_entries) (number_of x)

judged_by_post : (s : Sizes) (t : Tables) (w n : ℕ) → judged_sheet s t w n ≡ by_post n (add_words s t w wrong_add).answer
unfolding add_words admitted posted arguments_wrong wrong_add
judged_by_post s t w n = go (sizes_fit s t) (ltb w s.workers) (own_ok s (view t) w) (is_idle t w)
  where
    J : ℕ → ℕ
    J m = by_post n (posted m t w (adding_worker ((view t).worker HELD w) wrong_add)).answer

    go : (a b c d : Bool)
        → pick a (pick b (pick c (pick d (pick (leb n most_entries) 0 too_many_entries) half_done) damaged) no_such_worker)
        wrong_size
        ≡ J (pick a (pick b (pick c (pick d wrong_arguments half_done) damaged) no_such_worker) wrong_size)
    go true true true true = refl
    go true true true false = refl
    go true true false d = refl
    go true false c d = refl
    go false b c d = refl

judged_within : (s : Sizes) (w n : ℕ) (t u : Tables) → needed s t ≡ needed s u
    → judged_sheet s t w n ≡ judged_sheet s u w n
unfolding perform
judged_within s w n t u e =
    judged_by_post s t w n ∙ ap (by_post n) ((item_within (post_add s w wrong_add)).answers t u e)
    ∙ sym (judged_by_post s u w n)

-- ---- the sheet
served_within : (n : ℕ) (s : Sizes) (w : ℕ) (l : List Arguments)
    → Within s (λ t. (served n s t w l).answers) (λ t. (served n s t w l).state)
unfolding served
served_within zero s w l = adds_within s w l
served_within (suc n) s w l = stays_within s []

pub sheet_within : (s : Sizes) (w : ℕ) (l : List Arguments) → SheetWithin s (λ t. sheet_words s t w l)
unfolding sheet_words
sheet_within s w l = record {
  answers = λ t u e. ap₂ told (number t u e) (ap (λ n. (served n s t w l).answers) (judged t u e)
      ∙ (served_within (J u) s w l).answers t u e);
  leaves = λ t u e. ap (λ n. needed s (served n s t w l).state) (judged t u e)
      ∙ (served_within (J u) s w l).leaves t u e;
  past = λ t. (served_within (J t) s w l).past t;
  long = λ t. (served_within (J t) s w l).long t;
}
  where
    J : Tables → ℕ
    J t = judged_sheet s t w (length l)

    judged : (t u : Tables) → needed s t ≡ needed s u → J t ≡ J u
    judged t u e = judged_within s w (length l) t u e

    number : (t u : Tables) → needed s t ≡ needed s u → (sheet_words s t w l).number ≡ (sheet_words s u w l).number
    number t u e = served_number s t w l ∙ judged t u e ∙ sym (served_number s u w l)

    told : ℕ → List Answer → Told
    told n xs = record { number = n; answers = xs }
