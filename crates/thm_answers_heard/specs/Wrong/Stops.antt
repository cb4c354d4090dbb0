-- Tellings of a whole call that answers 9 that are wrong, each with tables by which the statement of Stopped.antt or of
-- StoppedSheet.antt fails of it.
use Rattle.std.specs.Prelude.{◌≡◌, refl, ◌≢◌, Bool, ◌&&◌, not, List, [], ◌∷◌, ℕ, ◌+◌, ◌≤◌, eqb, length, get_or, replicate}
use Rattle.std.proofs.Common.{sym, ap, ◌∙◌, arith, lit<}
use Rattle.def_basics.specs.Base.{pick, contains, repeats, prefix}
use Rattle.def_bucket.specs.Bucket.{product_of, bucket_of}
use Rattle.def_terms.specs.Terms.{Arguments, Finish, finish_of, arguments_wrong, within_limits}
use Rattle.def_terms.specs.Runs.{Result}
use Rattle.def_terms.specs.declared.Sizes.{Sizes}
use Rattle.def_terms.specs.declared.Answer.{Answer}
use Rattle.def_terms.specs.declared.Answer.TheVariants.{Refused}
use Rattle.def_words.specs.Columns.{columns, header, put, put_header}
use Rattle.def_words.specs.Layout.{Tables, none, IDLE, LOOKING, bare_worker, long_enough, sizes_kept}
use Rattle.def_words.specs.Words.{own_ok, walk, find_of, plan_look_up, plan_enter, plan_append, plan_tally, plan_link, with_seat}
use Rattle.def_words.specs.Words.{plan_settle, plan_mark, plan_notify, plan_add, plan_links, plan_call, plan_phase, admitted}
use Rattle.def_words.specs.Words.{applied, step_words, posted, add_words, finish_words}
use Rattle.thm_words_tests.specs.Small.{apart, two, graph, job_of}
use Rattle.def_whole_calls.specs.Whole.{steps_of, whole_add, whole_finish}
use Rattle.def_whole_calls.specs.Sheet.{add_each, served, sheet_words}
use Rattle.def_sheets.specs.Write.{entries_from}
use Rattle.def_sheet_rows.specs.SheetRows.{number_of, adds_of, rows_words}
use Rattle.def_fused.specs.FusedWorker.{is_idle}
use Rattle.taskgraph_answer.specs.Answers.{graph_answer}
use Rattle.taskgraph_answer.specs.WholeAnswers.{stopped_answer}
use Rattle.taskgraph_answer.specs.declared.GraphAnswer.{GraphAnswer}
use Rattle.thm_whole_answers.specs.Stopped.{TellsWhole}
use Rattle.thm_answers_heard.specs.StoppedSheet.{StopsAt, StopsWithin}

-- ---- tables of R 2, A 1, b 1 and P 1, with a job of name 7
-- its label is 5, which is none: an add of 8 that needs 7 enters, and stops at its link
abbrev pub wrong_label : Tables
wrong_label =
    graph 1 (job_of 7 5 0 none 0 0) (job_of 0 0 0 none 0 0) (0 ∷ none ∷ none ∷ []) (0 ∷ none ∷ [])
    (bare_worker IDLE none 0)

-- three jobs were made, of which there is room for two: an add is turned away by 9
abbrev pub wrong_counter : Tables
wrong_counter =
    graph 3 (job_of 7 0 0 none 0 0) (job_of 0 0 0 none 0 0) (0 ∷ none ∷ none ∷ []) (0 ∷ none ∷ [])
    (bare_worker IDLE none 0)

-- the worker's add is half done, and its tally is above its list's count: 9 for its own words
abbrev pub wrong_tally : Tables
wrong_tally =
    graph 1 (job_of 7 0 0 none 0 0) (job_of 0 0 0 none 0 0) (0 ∷ none ∷ none ∷ []) (0 ∷ none ∷ [])
    (LOOKING ∷ none ∷ 8 ∷ 1 ∷ 0 ∷ 0 ∷ 2 ∷ 0 ∷ none ∷ none ∷ 0 ∷ 7 ∷ replicate 31 0)

-- the worker holds 7, whose arc leads to job 5, which is none: its finish marks it, and stops there
abbrev pub wrong_arc : Tables
wrong_arc =
    graph 2 (job_of 7 1 0 0 0 0) (job_of 8 0 1 none 0 0) (1 ∷ 5 ∷ none ∷ []) (0 ∷ 1 ∷ []) (bare_worker IDLE 0 0)

abbrev pub eight : Arguments
eight = record { name = 8; count = 1; names = 7 ∷ replicate 31 0; class = 0; grower = 0 }

abbrev seven : Finish
seven = finish_of 7 (eqb 0 1)

-- ---- what is computed of them
add_9 : (whole_add two wrong_label 0 eight).answer ≡ Refused 9 0
unfolding contains repeats prefix arguments_wrong within_limits product_of bucket_of columns header put put_header long_enough
    sizes_kept own_ok walk find_of plan_look_up plan_enter plan_append plan_tally plan_link with_seat plan_settle plan_mark
    plan_notify plan_add plan_links plan_call plan_phase admitted applied step_words posted add_words finish_words steps_of
    whole_add
add_9 = refl

-- the jobs made are two
add_made_lem : get_or (whole_add two wrong_label 0 eight).state.jobs 4 0 ≡ 2
unfolding contains repeats prefix arguments_wrong within_limits product_of bucket_of columns header put put_header long_enough
    sizes_kept own_ok walk find_of plan_look_up plan_enter plan_append plan_tally plan_link with_seat plan_settle plan_mark
    plan_notify plan_add plan_links plan_call plan_phase admitted applied step_words posted add_words finish_words steps_of
    whole_add
add_made_lem = refl

add_changed : (whole_add two wrong_label 0 eight).state ≢ wrong_label
add_changed e = apart refl (sym add_made_lem ∙ ap (λ (u : Tables). get_or u.jobs 4 0) e)

counter_9 : (whole_add two wrong_counter 0 eight).answer ≡ Refused 9 0
unfolding contains repeats prefix arguments_wrong within_limits columns header long_enough sizes_kept own_ok admitted posted
    add_words whole_add
counter_9 = refl

counter_kept : (whole_add two wrong_counter 0 eight).state ≡ wrong_counter
unfolding contains repeats prefix arguments_wrong within_limits columns header long_enough sizes_kept own_ok admitted posted
    add_words whole_add
counter_kept = refl

tally_9 : (whole_add two wrong_tally 0 eight).answer ≡ Refused 9 0
unfolding contains repeats prefix arguments_wrong within_limits columns header long_enough sizes_kept own_ok admitted posted
    add_words whole_add
tally_9 = refl

tally_kept : (whole_add two wrong_tally 0 eight).state ≡ wrong_tally
unfolding contains repeats prefix arguments_wrong within_limits columns header long_enough sizes_kept own_ok admitted posted
    add_words whole_add
tally_kept = refl

finish_9 : (whole_finish two wrong_arc 0 seven).answer ≡ Refused 9 0
unfolding contains repeats prefix arguments_wrong within_limits product_of bucket_of columns header put put_header long_enough
    sizes_kept own_ok walk find_of plan_look_up plan_enter plan_append plan_tally plan_link with_seat plan_settle plan_mark
    plan_notify plan_add plan_links plan_call plan_phase admitted applied step_words posted add_words finish_words steps_of
    whole_finish
finish_9 = refl

-- the label of 7, word 22 of the jobs, is finished; two jobs are made as before
finish_words_lem : (get_or (whole_finish two wrong_arc 0 seven).state.jobs 22 0 ≡ 2)
    × (get_or (whole_finish two wrong_arc 0 seven).state.jobs 4 0 ≡ 2)
unfolding contains repeats prefix arguments_wrong within_limits product_of bucket_of columns header put put_header long_enough
    sizes_kept own_ok walk find_of plan_look_up plan_enter plan_append plan_tally plan_link with_seat plan_settle plan_mark
    plan_notify plan_add plan_links plan_call plan_phase admitted applied step_words posted add_words finish_words steps_of
    whole_finish
finish_words_lem = (refl, refl)

finish_changed : (whole_finish two wrong_arc 0 seven).state ≢ wrong_arc
finish_changed e = apart refl (sym finish_words_lem.0 ∙ ap (λ (u : Tables). get_or u.jobs 22 0) e)

-- ---- wrong tellings
abbrev Teller : Type 0
Teller = Tables → ℕ → Result Tables → GraphAnswer

-- as any refusal by 9, whatever it left
abbrev pub plainly : Teller
plainly t w o = graph_answer o.answer

pub plainly_wrong : TellsWhole plainly → ⊥
plainly_wrong T =
    apart refl
    (sym (ap (λ x. (graph_answer x).kind) add_9)
    ∙ ap (λ (r : GraphAnswer). r.kind) ((T.adds two wrong_label 0 eight).stopped add_9 add_changed))

-- as stopped, whenever it answers 9
abbrev by : Bool → Result Tables → GraphAnswer
by b o = pick b stopped_answer (graph_answer o.answer)

abbrev pub whenever_nine : Teller
whenever_nine t w o = by (eqb (number_of o.answer) 9) o

pub whenever_nine_wrong : TellsWhole whenever_nine → ⊥
whenever_nine_wrong T =
    apart refl
    (sym (ap (λ x. (pick (eqb (number_of x) 9) stopped_answer (graph_answer x)).kind) counter_9)
    ∙ ap (λ (r : GraphAnswer). r.kind)
    ((T.adds two wrong_counter 0 eight).answered (λ c. c.1 counter_kept))
    ∙ ap (λ x. (graph_answer x).kind) counter_9)

-- as stopped, where the worker is half done after it, whatever it was before
abbrev pub half_done_after : Teller
half_done_after t w o = by (eqb (number_of o.answer) 9 && not (is_idle o.state w)) o

pub half_done_after_wrong : TellsWhole half_done_after → ⊥
unfolding columns
half_done_after_wrong T =
    apart refl
    (sym (ap (λ (o : Result Tables). (half_done_after wrong_tally 0 o).kind) all)
    ∙ ap (λ (r : GraphAnswer). r.kind)
    ((T.adds two wrong_tally 0 eight).answered (λ c. c.1 tally_kept))
    ∙ ap (λ x. (graph_answer x).kind) tally_9)
  where
    all : whole_add two wrong_tally 0 eight ≡ record { answer = Refused 9 0; state = wrong_tally }
    all = λ i. record { answer = tally_9 i; state = tally_kept i }

-- as stopped, where a job was made
abbrev pub where_one_was_made : Teller
where_one_was_made t w o =
    by (eqb (number_of o.answer) 9 && not (eqb (get_or o.state.jobs 4 0) (get_or t.jobs 4 0))) o

pub where_one_was_made_wrong : TellsWhole where_one_was_made → ⊥
where_one_was_made_wrong T =
    apart refl
    (sym kind_0 ∙ ap (λ (r : GraphAnswer). r.kind) ((T.finishes two wrong_arc 0 seven).stopped finish_9 finish_changed))
  where
    o : Result Tables
    o = whole_finish two wrong_arc 0 seven

    kind_0 : (where_one_was_made wrong_arc 0 o).kind ≡ 0
    kind_0 =
        ap (λ m. (by (eqb (number_of o.answer) 9 && not (eqb m 2)) o).kind) finish_words_lem.1
        ∙ ap (λ x. (pick (eqb (number_of x) 9 && not (eqb 2 2)) stopped_answer (graph_answer x)).kind) finish_9

-- ---- a sheet of one row, the add of 8 that needs 7
abbrev pub one_row : List ℕ
one_row = 8 ∷ 1 ∷ 0 ∷ 0 ∷ 7 ∷ replicate 31 0

label_served : (rows_words two wrong_label 0 one_row).number ≡ 0
unfolding rows_words sheet_words served add_each entries_from admitted within_limits columns header long_enough sizes_kept
    own_ok
label_served = refl

counter_served : (rows_words two wrong_counter 0 one_row).number ≡ 0
unfolding rows_words sheet_words served add_each entries_from admitted within_limits columns header long_enough sizes_kept
    own_ok
counter_served = refl

-- no entry was ever stopped
pub never_stopped_wrong : StopsAt (λ s t w rows. 0) → ⊥
unfolding entries_from
never_stopped_wrong S = apart refl ((S two wrong_label 0 one_row label_served 0 (lit< tt)).1 (add_9, add_changed))

-- the first entry that answers 9 was stopped
unfoldable pub first_nine : ℕ → List Answer → ℕ
first_nine i [] = 0
first_nine i (x ∷ xs) = pick (eqb (number_of x) 9) (i + 1) (first_nine (i + 1) xs)

abbrev pub at_the_first_nine : Sizes → Tables → ℕ → List ℕ → ℕ
at_the_first_nine s t w rows = first_nine 0 (rows_words s t w rows).answers

counter_first : at_the_first_nine two wrong_counter 0 one_row ≡ 1
unfolding first_nine rows_words sheet_words served add_each entries_from contains repeats prefix arguments_wrong within_limits
    columns header long_enough sizes_kept own_ok admitted posted add_words whole_add
counter_first = refl

pub at_the_first_nine_wrong : StopsAt at_the_first_nine → ⊥
unfolding entries_from
at_the_first_nine_wrong S =
    ((S two wrong_counter 0 one_row counter_served 0 (lit< tt)).0 counter_first).1 counter_kept

-- some entry was always stopped
pub always_stopped_wrong : StopsWithin (λ s t w rows. 1) → ⊥
unfolding entries_from
always_stopped_wrong S = let h : 1 ≤ 0 = (S two wrong_label 0 []).0 in omega arith

-- the first entry of a sheet that was turned away, by a worker that is not there, was stopped
pub first_of_a_sheet_turned_away_wrong :
    StopsWithin (λ s t w rows. pick (eqb (length (adds_of rows)) 0) 0 1) → ⊥
unfolding rows_words sheet_words served entries_from admitted within_limits columns header long_enough sizes_kept
first_of_a_sheet_turned_away_wrong S =
    let z : ◌≡◌ {A = ℕ} 1 0 = (S two wrong_label 7 one_row).1 (λ e. absurd (omega (arith, e))) in
    omega arith
