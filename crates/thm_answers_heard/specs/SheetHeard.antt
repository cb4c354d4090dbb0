-- What a host hears of a sheet, from the struct and the number of its entries alone: the number that turned it away, or
-- of each entry what its single add run whole would tell, on the tables as the adds before it left them. For ALL
-- tables. Follows docs/RULES.md, "Whole calls".
use Rattle.std.specs.Prelude.{◌≡◌, refl, ◌≢◌, Bool, true, false, List, [], ◌∷◌, ℕ, zero, suc, ◌+◌, ◌<◌, eqb, length, get_or}
use Rattle.std.proofs.Common.{sym, ap, subst, ◌∙◌, arith, eq-eqb, ne_eqb}
use Rattle.std.proofs.Math.Decide.{ℕ_discrete}
use Rattle.def_basics.specs.Base.{pick, contains}
use Rattle.def_basics.specs.Laws.{never}
use Rattle.def_terms.specs.Terms.{Arguments, no_arguments}
use Rattle.def_terms.specs.Runs.{Result}
use Rattle.def_terms.specs.declared.Sizes.{Sizes}
use Rattle.def_terms.specs.declared.Answer.{Answer}
use Rattle.def_terms.specs.declared.Answer.TheVariants.{Ended, Refused}
use Rattle.def_words.specs.Layout.{Tables}
use Rattle.def_whole_calls.specs.Whole.{whole_add}
use Rattle.def_sheet_rows.specs.SheetRows.{adds_of, rows_words}
use Rattle.def_sheet_rows.specs.declared.SheetAdded.{SheetAdded}
use Rattle.def_stops.specs.Stopped.{stopped_by}
use Rattle.def_stops.specs.StoppedSheet.{rows_added}
use Rattle.taskgraph_answer.specs.Answers.{graph_answer}
use Rattle.taskgraph_answer.specs.WholeAnswers.{Whole, answered, stopped, whole_of}
use Rattle.thm_whole_answers.specs.Numbers.{AddAnswer, ended, refused, unknown, add_placeless}
use Rattle.thm_whole_answers.proofs.Numbers.{add_answer}
use Rattle.thm_answers_heard.specs.InC.{rows_as_adds}
use Rattle.thm_whole_answers.proofs.Stopped.{add_stopped}
use Rattle.thm_answers_heard.specs.StoppedSheet.{before, add_at, entry_stopped}

pub data SheetHeard : Type 0 where
  turned_away_lem : ℕ → SheetHeard
  served : List Whole → SheetHeard

-- ---- read off the struct
-- entry i: stopped where `stopped` is 1 more than i; else ended where its number is 0, or refused
abbrev pub heard_entry : SheetAdded → ℕ → Whole
heard_entry r i =
    pick (eqb r.stopped (i + 1)) stopped
    (answered (pick (eqb (get_or r.numbers i 0) 0) Ended (Refused (get_or r.numbers i 0) (get_or r.places i 0))))

-- the first n of a row
unfoldable pub firsts : {A : Type 0} → ℕ → (ℕ → A) → List A
firsts zero f = []
firsts (suc n) f = f 0 ∷ firsts n (λ i. f (i + 1))

abbrev pub heard_sheet : ℕ → SheetAdded → SheetHeard
heard_sheet n r = pick (eqb r.number 0) (served (firsts n (heard_entry r))) (turned_away_lem r.number)

-- ---- by the single adds, each run whole
unfoldable pub wholes : Sizes → ℕ → List Arguments → Tables → List Whole
wholes s w [] t = []
wholes s w (a ∷ l) t = whole_of t w (whole_add s t w a) ∷ wholes s w l (whole_add s t w a).state

abbrev pub sheet_of : Sizes → Tables → ℕ → List ℕ → SheetHeard
sheet_of s t w rows =
    pick (eqb (rows_words s t w rows).number 0) (served (wholes s w (adds_of rows) t))
    (turned_away_lem (rows_words s t w rows).number)

-- ---- the two are one
firsts_of : {A : Type 0} (n : ℕ) (f : ℕ → A) (xs : List A) (d : A) → length xs ≡ n
    → ((i : ℕ) → i < n → f i ≡ get_or xs i d)
    → firsts n f ≡ xs
unfolding firsts
firsts_of zero f [] d k h = refl
firsts_of zero f (x ∷ xs) d k h = absurd (omega arith)
firsts_of (suc n) f [] d k h = absurd (omega arith)
firsts_of {A} (suc n) f (x ∷ xs) d k h =
    let rest = firsts_of n (λ i. f (i + 1)) xs d (omega arith) (λ i j. on i j) in
    rw (h 0 (omega arith), rest)
  where
    on : (i : ℕ) → i < n → f (i + 1) ≡ get_or xs i d
    on i j = let one : i + 1 ≡ suc i = omega arith in rw one (h (suc i) (omega arith))

wholes_count : (s : Sizes) (w : ℕ) (l : List Arguments) (t : Tables) → length (wholes s w l t) ≡ length l
unfolding wholes
wholes_count s w [] t = refl
wholes_count s w (a ∷ l) t = ap suc (wholes_count s w l (whole_add s t w a).state)

wholes_at : (s : Sizes) (w : ℕ) (l : List Arguments) (t : Tables) (i : ℕ) → i < length l
    → get_or (wholes s w l t) i stopped ≡ whole_of (before s w l t i) w (add_at s w l t i)
unfolding wholes
wholes_at s w [] t i h = absurd (omega arith)
wholes_at s w (a ∷ l) t zero h = refl
wholes_at s w (a ∷ l) t (suc i) h = wholes_at s w l (whole_add s t w a).state i (omega arith)

-- an add's number and place tell its answer
abbrev back : Answer → Answer
back x =
    pick (eqb (graph_answer x).number 0) Ended (Refused (graph_answer x).number (graph_answer x).place)

answer_back : (a : Arguments) {x : Answer} → AddAnswer a x → back x ≡ x
unfolding contains
answer_back a ended = refl
answer_back a (refused {n} c) =
    let some : n ≢ 0 = λ e. let d = subst (λ k. contains k add_placeless ≡ true) e c in never (cc) in
    rw (ne_eqb n 0 some) refl
answer_back a (unknown h) = refl

by_number : (n : ℕ) (xs : List Whole) → n ≡ 0 → pick (eqb n 0) (served xs) (turned_away_lem n) ≡ served xs
by_number n xs z = rw (eq-eqb n 0 z)

served_as : (n : ℕ) (r : SheetAdded) (xs : List Whole) → r.number ≡ 0 → firsts n (heard_entry r) ≡ xs
    → heard_sheet n r ≡ served xs
served_as n r xs z e = by_number r.number (firsts n (heard_entry r)) z ∙ ap served e

module _ (s : Sizes) (t : Tables) (w : ℕ) (rows : List ℕ) where
  entry_heard : (rows_words s t w rows).number ≡ 0 → (i : ℕ) → i < length (adds_of rows)
      → heard_entry (rows_added s t w rows) i ≡ whole_of (before s w (adds_of rows) t i) w (add_at s w (adds_of rows) t i)
  entry_heard z i h = go (stopped_by u w o) refl
    where
      l : List Arguments
      l = adds_of rows

      u : Tables
      u = before s w l t i

      o : Result Tables
      o = add_at s w l t i

      go : (b : Bool) → stopped_by u w o ≡ b → heard_entry (rows_added s t w rows) i ≡ whole_of u w o
      go true e =
          let y = (entry_stopped s t w rows z i h).1 ((add_stopped s u w (get_or l i no_arguments)).0 e) in
          rw (e, eq-eqb (rows_added s t w rows).stopped (i + 1) y)
      go false e =
          let no : (rows_added s t w rows).stopped ≢ i + 1 = λ y.
          let c = (add_stopped s u w (get_or l i no_arguments)).1 ((entry_stopped s t w rows z i h).0 y) in never (cc) in
          let told = rows_as_adds s t w rows z i h in
          rw (e, ne_eqb (rows_added s t w rows).stopped (i + 1) no, told.number, told.place)
          (ap answered (answer_back (get_or l i no_arguments) (add_answer s u w (get_or l i no_arguments))))

  pub sheet_heard_as_told : heard_sheet (length (adds_of rows)) (rows_added s t w rows) ≡ sheet_of s t w rows
  sheet_heard_as_told = elim (ℕ_discrete (rows_words s t w rows).number 0) [
    | yes z ↦
        served_as (length (adds_of rows)) (rows_added s t w rows) (wholes s w (adds_of rows) t) z
        (firsts_of (length (adds_of rows)) (heard_entry (rows_added s t w rows)) (wholes s w (adds_of rows) t) stopped
        (wholes_count s w (adds_of rows) t)
        (λ i h. entry_heard z i h ∙ sym (wholes_at s w (adds_of rows) t i h)))
        ∙ sym (by_number (rows_words s t w rows).number (wholes s w (adds_of rows) t) z)
    | no d ↦ rw (ne_eqb (rows_words s t w rows).number 0 d)
  ]
