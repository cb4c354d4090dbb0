-- Machines over the tables that are wrong in a step: a link, the mark of a finish, an arc's step, a look-up, entering
-- or a refusal, each with tables by which a statement of OutcomeWords.antt fails of it. (Wrong/Outcomes.antt: posts,
-- gets and settling.)
use Rattle.std.specs.Prelude.{◌≡◌, refl, false, [], ◌∷◌, ℕ, ◌≤◌, eqb, replicate}
use Rattle.std.proofs.Common.{sym, ap, ◌∙◌, arith, lit≤, lit<}
use Rattle.def_numbers.specs.Numbers.{damaged}
use Rattle.def_basics.specs.Base.{pick}
use Rattle.def_basics.specs.Laws.{never}
use Rattle.def_bucket.specs.Bucket.{product_of, bucket_of}
use Rattle.def_terms.specs.Terms.{within_limits}
use Rattle.def_terms.specs.Runs.{Item, post_add, post_finish, step, get, load, Result, result_of}
use Rattle.def_words.specs.Columns.{header, columns, put, put_header}
use Rattle.def_words.specs.Layout.{none, job_shape, OUTCOME, SPOILED, DEPENDENT, PHASE, OWN_ARC, LOOKING, NOTIFYING}
use Rattle.def_words.specs.Layout.{Tables}
use Rattle.def_words.specs.Layout.{tables, view, long_enough, sizes_kept}
use Rattle.def_words.specs.Words.{own_ok, walk, find_of, name_at, plan_look_up, plan_enter, plan_link, plan_mark, plan_notify}
use Rattle.def_words.specs.Words.{plan_add, plan_links, plan_call, plan_phase, admitted, applied, step_words, perform}
use Rattle.def_words.specs.declared.Found.TheVariants.{At}
use Rattle.thm_words_tests.specs.OneWord.{own_word, job_word}
use Rattle.thm_words_tests.specs.Small.{two, graph, job_of, apart, number}
use Rattle.thm_words_refusals.specs.Refusals.{ends, idled}
use Rattle.thm_words_steps.specs.Buckets.{look_up_means}
use Rattle.thm_words_steps.specs.LinkSteps.{Stepper}
use Rattle.thm_words_steps.specs.Wrong.Steps.{linking, marking, to_link_lem, serves_all, forgets, leaves, keeps_none}
use Rattle.thm_words_outcomes.specs.OutcomeWords.{OutcomeAfter, NoteAfter, same, entered, marked, linked, ended}
use Rattle.thm_words_outcomes.specs.OutcomeWords.{WritesOutcomes}

-- ---- tables of the two jobs of name 7 and 8
-- a failed finish of 7 is to notify 8, which has a count
abbrev pub notifying : ℕ → Tables
notifying count =
    graph 2 (job_of 7 2 0 0 1 0) (job_of 8 0 count none 0 0) (1 ∷ 1 ∷ none ∷ []) (0 ∷ 1 ∷ [])
    (NOTIFYING ∷ none ∷ 0 ∷ 0 ∷ 0 ∷ 0 ∷ 0 ∷ 0 ∷ none ∷ 0 ∷ 1 ∷ replicate 32 0)

-- an add of 8, with d listed names, is to look 7 up or, with none, to enter; old words are left where 8 is entered
abbrev pub adding : ℕ → Tables
adding d =
    graph 1 (job_of 7 0 0 none 0 0) (job_of 5 2 0 none 1 1) (0 ∷ none ∷ none ∷ []) (0 ∷ none ∷ [])
    (LOOKING ∷ none ∷ 8 ∷ d ∷ 0 ∷ 0 ∷ 0 ∷ 0 ∷ none ∷ none ∷ 0 ∷ 7 ∷ replicate 31 0)

-- a machine whose step is this one; every other item is the words' own
abbrev pub stepping : Stepper → Tables → Item → Result Tables
stepping make t (post_add s w a) = perform t (post_add s w a)
stepping make t (post_finish s w f) = perform t (post_finish s w f)
stepping make t (step s w) = make s t w
stepping make t (get s w) = perform t (get s w)
stepping make t (load s m) = perform t (load s m)

-- ---- a link that serves an outcome of 7: it is not tested
pub serves_seven_too : WritesOutcomes (stepping serves_all) → ⊥
unfolding applied plan_phase plan_call plan_links plan_link admitted within_limits long_enough sizes_kept own_ok find_of walk
    product_of bucket_of header columns put
serves_seven_too d =
    apart refl (ap (λ (o : Result Tables). number o.answer)
    (d.outcome_by_9 two (linking 7) 0 0 (to_link_lem 7).0.admitted refl (lit< tt)
    ((look_up_means two (linking 7) (name_at (view (linking 7)) 0) (At 0)).1 refl)
    refl (lit< tt)))

-- a link that forgets the note
pub forgets_the_note_too : WritesOutcomes (stepping forgets) → ⊥
unfolding applied plan_phase plan_call plan_links plan_link admitted within_limits long_enough sizes_kept own_ok find_of walk
    product_of bucket_of header columns put
forgets_the_note_too d =
    apart refl (d.link_notes two (linking 1) 0 0 refl (lit< tt)
    ((look_up_means two (linking 1) (name_at (view (linking 1)) 0) (At 0)).1 refl) refl refl tt)

-- ---- a mark that keeps no outcome
pub keeps_no_outcome_too : WritesOutcomes (stepping keeps_none) → ⊥
unfolding step_words applied plan_phase plan_call plan_mark admitted within_limits long_enough sizes_kept own_ok header columns
    put
keeps_no_outcome_too d = apart refl (d.mark_keeps two (marking 0 1) 0 refl tt)

-- an arc's step that does not spoil
pub spoils_no_dependent :
    WritesOutcomes (stepping (leaves NOTIFYING (λ v w. v.arc DEPENDENT (v.worker OWN_ARC w)) SPOILED)) → ⊥
unfolding step_words applied plan_phase plan_call plan_notify admitted within_limits long_enough sizes_kept own_ok header
    columns put
spoils_no_dependent d = apart refl (d.arc_spoils two (notifying 2) 0 refl tt refl)

-- an entering that leaves an old outcome, and one that leaves an old spoiled word
pub leaves_old_outcome : WritesOutcomes (stepping (leaves LOOKING (λ v w. v.made) OUTCOME)) → ⊥
unfolding step_words applied plan_phase plan_call plan_add plan_enter admitted within_limits long_enough sizes_kept own_ok
    find_of walk product_of bucket_of header columns put put_header
leaves_old_outcome d = apart refl (d.entering_clears two (adding 0) 0 refl (lit≤ tt) tt).0

pub leaves_old_spoiled : WritesOutcomes (stepping (leaves LOOKING (λ v w. v.made) SPOILED)) → ⊥
unfolding step_words applied plan_phase plan_call plan_add plan_enter admitted within_limits long_enough sizes_kept own_ok
    find_of walk product_of bucket_of header columns put put_header
leaves_old_spoiled d = apart refl (d.entering_clears two (adding 0) 0 refl (lit≤ tt) tt).1

-- ---- a look-up that clears the outcome of the job to be entered
abbrev pub clears_early : Stepper
clears_early s t w =
    let v = view t in
    let o = step_words s t w in
    let u = o.state in
    result_of o.answer
    (pick (eqb (v.worker PHASE w) LOOKING)
    (tables (put job_shape u.jobs v.made OUTCOME 0) u.arcs u.buckets u.queue u.workers) u)

pub clears_early_lem : WritesOutcomes (stepping clears_early) → ⊥
unfolding step_words applied plan_phase plan_call plan_add plan_look_up admitted within_limits long_enough sizes_kept own_ok
    find_of walk product_of bucket_of header columns put put_header
clears_early_lem d = go refl (d.outcomes (adding 1) (step two 0) 1)
  where
    few : 1 ≤ 0 → ⊥
    few h = omega arith

    go : {u : Tables} → job_word u 1 8 ≡ 0 → OutcomeAfter (adding 1) u 1 (step two 0) → ⊥
    go z (same e) = apart refl (sym z ∙ e)
    go z (entered e f g h) = few f
    go z (marked e f g) = apart refl e

-- ---- a step that is refused by 9 and puts the words of its call back all the same
abbrev pub drops : Stepper
drops s t w =
    let o = step_words s t w in
    result_of o.answer (pick (eqb (number o.answer) damaged) (idled t w) o.state)

pub drops_the_call : WritesOutcomes (stepping drops) → ⊥
unfolding step_words applied plan_phase plan_call plan_notify admitted within_limits long_enough sizes_kept own_ok header
    columns put
drops_the_call d = go refl refl (d.notes (notifying 0) (step two 0) 0)
  where
    go : {o : Result Tables} → ends o.answer ≡ false → own_word o.state 0 10 ≡ 0
        → NoteAfter (notifying 0) o 0 (step two 0)
        → ⊥
    go b z (same e) = apart refl (sym z ∙ e)
    go b z (linked p e f g h i j) = apart refl e
    go b z (ended e f g) = never cc
