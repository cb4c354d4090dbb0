-- Contracts of the graph's calls that say less than Interface.antt asks, so that a call could meet them and leave its
-- work undone or untold: each refuted by one result.
use Rattle.std.specs.Prelude.{◌≡◌, refl, [], ◌∷◌, length, get_or}
use Rattle.std.proofs.Common.{ap, arith}
use Rattle.std.proofs.Math.Option.{some}
use Rattle.def_terms.specs.Runs.{result_of}
use Rattle.def_terms.specs.declared.Answer.TheVariants.{Ended, Refused}
use Rattle.def_words.specs.Layout.{Tables, tables}
use Rattle.def_whole_calls.specs.Sheet.{sheet_result}
use Rattle.def_sheet_rows.specs.SheetRows.{turned_away}
use Rattle.def_sheet_rows.specs.declared.SheetAdded.{SheetAdded}
use Rattle.taskgraph_answer.specs.Answers.{graph_answer}
use Rattle.taskgraph_answer.proofs.Heard.{heard}
use Rattle.taskgraph_answer.specs.WholeAnswers.{whole_of}
use Rattle.taskgraph_answer.proofs.HeardWhole.{heard_whole}
use Rattle.taskgraph_answer.specs.declared.GraphAnswer.{GraphAnswer}
use Rattle.taskgraph_heard.specs.Interface.{GivesAll, AddsAll, GivesAllWhole}

abbrev none : Tables
none = tables [] [] [] [] []

-- the answer alone: the call may leave the tables as they were
pub tables_forgotten : GivesAll (λ r t o. r ≡ graph_answer o.answer) → ⊥
tables_forgotten h =
    let s = (h (graph_answer Ended) none (result_of Ended (tables (7 ∷ []) [] [] [] [])) refl).1 in
    omega (arith, ap length s.jobs)

-- the jobs and the workers alone: the queue may be as it was
pub queue_forgotten :
    GivesAll (λ r t o. (r ≡ graph_answer o.answer) × (t.jobs ≡ o.state.jobs) × (t.workers ≡ o.state.workers))
    → ⊥
queue_forgotten h =
    let s = (h (graph_answer Ended) none (result_of Ended (tables [] [] [] (7 ∷ []) [])) (refl, refl, refl)).1 in
    omega (arith, ap length s.queue)

-- the tables alone
pub answer_forgotten : GivesAll (λ r t o. t ≡ o.state) → ⊥
answer_forgotten h =
    let r : GraphAnswer = record { kind = 9; number = 0; place = 0; job = 0; name = 0; spoiled = 0 } in
    omega (arith, ap (λ (x : GraphAnswer). x.kind) (h r none (result_of Ended none) refl).0)

-- of a sheet its number alone: a refused entry seems added
pub entries_forgotten : AddsAll (λ r t stop o. (r.number ≡ o.number) × (t ≡ o.state)) → ⊥
entries_forgotten h =
    let e = (h (turned_away 0) none 0 (sheet_result 0 (Refused 7 0 ∷ []) none) (refl, refl)).0 in
    let z = ap (λ (r : SheetAdded). get_or r.numbers 0 0) e in
    omega arith

-- what is heard in the struct alone: "ended" with the number 9 beside it, which a host that looks at the number takes
-- for a refusal; the same of a call run whole
pub silent_fields_free : GivesAll (λ r t o. (heard r ≡ some o.answer) × (t ≡ o.state)) → ⊥
silent_fields_free h =
    let r : GraphAnswer = record { kind = 4; number = 9; place = 0; job = 0; name = 0; spoiled = 0 } in
    omega (arith, ap (λ (x : GraphAnswer). x.number) (h r none (result_of Ended none) (refl, refl)).0)

pub silent_fields_free_whole :
    GivesAllWhole (λ r t u w o. (heard_whole r ≡ some (whole_of u w o)) × (t ≡ o.state)) → ⊥
silent_fields_free_whole h =
    let r : GraphAnswer = record { kind = 4; number = 9; place = 0; job = 0; name = 0; spoiled = 0 } in
    omega (arith, ap (λ (x : GraphAnswer). x.number) (h r none none 0 (result_of Ended none) (refl, refl)).0)
