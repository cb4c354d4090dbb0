-- The numbers of calls run whole, for ALL tables and arguments: what turns an add, a finish or a sheet away, and that
-- an add's number is 0 just if it ended. Follows docs/RULES.md, "Whole calls" and "Turned-away calls".
use Rattle.std.specs.Prelude.{◌≡◌, refl, ◌↔◌, true, List, [], ◌∷◌, ◌++◌, ℕ, zero, suc, leb, length}
use Rattle.std.proofs.Common.{ap, subst}
use Rattle.def_numbers.specs.Numbers.{most_entries, half_done}
use Rattle.def_numbers.specs.Numbers.{too_many_entries}
use Rattle.def_basics.specs.Base.{contains}
use Rattle.def_basics.specs.Laws.{never, pick_by}
use Rattle.def_terms.specs.Terms.{Arguments, Finish}
use Rattle.def_terms.specs.declared.Sizes.{Sizes}
use Rattle.def_terms.specs.declared.Answer.{Answer}
use Rattle.def_terms.specs.declared.Answer.TheVariants.{Ended}
use Rattle.def_words.specs.Layout.{Tables}
use Rattle.def_words.specs.Words.{refusal}
use Rattle.def_whole_calls.specs.Whole.{whole_add, whole_finish}
use Rattle.def_whole_calls.specs.Sheet.{add_each, judged_sheet, served, sheet_words}
use Rattle.def_sheet_rows.specs.SheetRows.{number_of}
use Rattle.def_fused.specs.FusedWorker.{is_idle}
use Rattle.thm_whole_answers.specs.Worker.{order_numbers, by_admission, contains_left, contains_right}
use Rattle.thm_whole_answers.specs.AddEnds as add
use Rattle.thm_whole_answers.specs.AddEnds.{AddEnds, add_ends, add_away, add_unfit}
use Rattle.thm_whole_answers.specs.FinishEnds as finish
use Rattle.thm_whole_answers.specs.FinishEnds.{FinishEnds}
use Rattle.thm_whole_answers.proofs.FinishEnds.{finish_ends}
use Rattle.thm_whole_answers.specs.Numbers.{add_placeless, AddAnswer, ended, refused, unknown, FinishAnswer, ended, going, refused, sheet_numbers, Of}

pub add_answer : (s : Sizes) (t : Tables) (w : ℕ) (a : Arguments) → AddAnswer a (whole_add s t w a).answer
unfolding contains
add_answer s t w a = go (add_ends s t w a)
  where
    go : {x : Answer} {u : Tables} → AddEnds t w a x u → AddAnswer a x
    go (add.ended b) = ended
    go (add.turned_away_lem {n} c) = refused (contains_left n add_away add_unfit c)
    go (add.unfit {n} c b) = refused (contains_right n add_away add_unfit c)
    go (add.unknown h b) = unknown h
    go (add.half_done_lem h) = refused refl

pub add_accepted : (s : Sizes) (t : Tables) (w : ℕ) (a : Arguments)
    → (number_of (whole_add s t w a).answer ≡ 0) ↔ ((whole_add s t w a).answer ≡ Ended)
unfolding contains
add_accepted s t w a = (go (add_answer s t w a), λ e. ap number_of e)
  where
    go : {x : Answer} → AddAnswer a x → number_of x ≡ 0 → x ≡ Ended
    go ended e = refl
    go (refused {n} c) e = let d = subst (λ k. contains k add_placeless ≡ true) e c in never (cc)
    go (unknown h) e = never (cc)

pub finish_answer_lem : (s : Sizes) (t : Tables) (w : ℕ) (f : Finish) → FinishAnswer (whole_finish s t w f).answer
unfolding contains
finish_answer_lem s t w f = go (finish_ends s t w f)
  where
    go : {x : Answer} {u : Tables} → FinishEnds t w x u → FinishAnswer x
    go (finish.ended b) = ended
    go (finish.going h) = going
    go (finish.turned_away_lem c) = refused c
    go (finish.half_done_lem h) = refused refl

pub judged_number : (s : Sizes) (t : Tables) (w n : ℕ) → contains (judged_sheet s t w n) sheet_numbers ≡ true
unfolding contains
judged_number s t w n =
    by_admission Of s t w refusal _
    (λ m e. contains_right m (0 ∷ []) (order_numbers ++ (half_done ∷ too_many_entries ∷ []))
    (contains_left m order_numbers (half_done ∷ too_many_entries ∷ []) e))
    (λ _. pick_by Of (is_idle t w) (λ _. pick_by Of (leb n most_entries) (λ _. refl) (λ _. refl)) (λ _. refl))

pub served_number : (s : Sizes) (t : Tables) (w : ℕ) (l : List Arguments)
    → (sheet_words s t w l).number ≡ judged_sheet s t w (length l)
unfolding sheet_words served add_each
served_number s t w l = go (judged_sheet s t w (length l)) l
  where
    go : (n : ℕ) (l : List Arguments) → (served n s t w l).number ≡ n
    go zero [] = refl
    go zero (a ∷ l) = refl
    go (suc n) l = refl

pub sheet_number : (s : Sizes) (t : Tables) (w : ℕ) (l : List Arguments)
    → contains (sheet_words s t w l).number sheet_numbers ≡ true
sheet_number s t w l = rw (served_number s t w l) (judged_number s t w (length l))
