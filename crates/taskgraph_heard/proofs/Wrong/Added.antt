-- Ways to add rows that answer like the right one over some rows or tables, but are not the call of the rows' sheet,
-- each refuted by tables and rows.
use Rattle.std.specs.Prelude.{◌≡◌, refl, List, [], ◌∷◌, ℕ, get_or, replicate}
use Rattle.std.proofs.Common.{ap, ◌∙◌, arith}
use Rattle.def_basics.specs.Base.{contains, repeats, prefix}
use Rattle.def_bucket.specs.Bucket.{product_of, bucket_of}
use Rattle.def_terms.specs.Terms.{arguments_wrong, within_limits}
use Rattle.def_terms.specs.declared.Sizes.{Sizes}
use Rattle.def_words.specs.Columns.{columns, header, put, put_header}
use Rattle.def_words.specs.Layout.{Tables, none, IDLE, bare_worker, long_enough, sizes_kept}
use Rattle.def_words.specs.Words.{own_ok, walk, find_of, plan_look_up, plan_enter, plan_append, plan_tally, plan_link, with_seat}
use Rattle.def_words.specs.Words.{plan_settle, plan_add, plan_links, plan_call, plan_phase, admitted, applied, step_words}
use Rattle.def_words.specs.Words.{posted, add_words}
use Rattle.thm_words_tests.specs.Small.{apart, two, graph, job_of}
use Rattle.def_whole_calls.specs.Whole.{steps_of, whole_add}
use Rattle.def_whole_calls.specs.Sheet.{SheetResult, sheet_result, add_each, served, sheet_words}
use Rattle.def_host_calls.specs.HostCalls.{sheet, Replied}
use Rattle.thm_calls_history.specs.WordsCalls.{answer_words}
use Rattle.def_sheets.specs.Write.{entries_from}
use Rattle.def_sheet_rows.specs.SheetRows.{adds_of, rows_words}
use Rattle.taskgraph_heard.proofs.ToldApart.{RowsAdded}

-- ---- tables of R 2, A 1, b 1 and P 1 with a job of name 7, and a row: the add of 8, which needs 7
abbrev seven : Tables
seven =
    graph 1 (job_of 7 0 0 none 0 0) (job_of 0 0 0 none 0 0) (0 ∷ none ∷ none ∷ []) (0 ∷ none ∷ [])
    (bare_worker IDLE none 0)

abbrev one_row : List ℕ
one_row = 8 ∷ 1 ∷ 0 ∷ 0 ∷ 7 ∷ replicate 31 0

-- the sheet of this row makes job 8, so that two jobs are made
two_made : get_or (answer_words seven (sheet two 0 (adds_of one_row))).state.jobs 4 0 ≡ 2
unfolding answer_words sheet_words served add_each entries_from contains repeats prefix arguments_wrong within_limits
    product_of bucket_of columns header put put_header long_enough sizes_kept own_ok walk find_of plan_look_up plan_enter
    plan_append plan_tally plan_link with_seat plan_settle plan_add plan_links plan_call plan_phase admitted applied step_words
    posted add_words steps_of whole_add
two_made = refl

-- ---- it answers for each row, and leaves the tables as they were
abbrev pub leaves_all : Sizes → Tables → ℕ → List ℕ → SheetResult
leaves_all s t w r = sheet_result (rows_words s t w r).number (rows_words s t w r).answers t

pub leaves_all_wrong : RowsAdded leaves_all → ⊥
leaves_all_wrong A =
    apart refl
    (ap (λ (o : Replied Tables). get_or o.state.jobs 4 0) (A.whole two seven 0 one_row refl) ∙ two_made)

-- it adds the whole rows, where words are left over too
abbrev pub left_over : Sizes → Tables → ℕ → List ℕ → SheetResult
left_over s t w r = sheet_words s t w (adds_of r)

pub left_over_wrong : RowsAdded left_over → ⊥
unfolding sheet_words served add_each entries_from admitted within_limits columns header long_enough sizes_kept own_ok
left_over_wrong A =
    let z : ◌≡◌ {A = ℕ} 0 1 =
    ap (λ (o : SheetResult). o.number) (A.cut two seven 0 (9 ∷ []) (λ e. omega (arith, e))) in
    omega arith

-- it turns every sheet away by 1
pub by_1_wrong : RowsAdded (λ s t w r. sheet_result 1 [] t) → ⊥
by_1_wrong A =
    apart refl
    (ap (λ (o : Replied Tables). get_or o.state.jobs 4 0) (A.whole two seven 0 one_row refl) ∙ two_made)
