-- Machines that answer rightly and leave a worker's words wrong, each over tables by which the statement of
-- PutBack.antt fails of it. Follows docs/RULES.md, "Turned-away calls" ("worker idle, nothing else changed") and
-- "Tables and their measures" ("A call that ends puts the words of its call back").
use Rattle.std.specs.Prelude.{refl, Bool, List, [], ◌∷◌, ℕ, eqb, get_or, replicate}
use Rattle.std.proofs.Common.{ap, inl, lit<, lit≤}
use Rattle.def_basics.specs.Base.{pick}
use Rattle.def_bucket.specs.Bucket.{product_of, bucket_of}
use Rattle.def_terms.specs.Terms.{no_arguments, within_limits}
use Rattle.def_terms.specs.Runs.{Item, post_add, step, Result, result_of, worker_of}
use Rattle.def_terms.specs.Cases.{if_ended}
use Rattle.def_terms.specs.declared.Answer.{Answer}
use Rattle.def_words.specs.Columns.{columns, header, put}
use Rattle.def_words.specs.Layout.{Tables, tables, none, PHASE, IDLE, LOOKING, MARKING, bare_worker, long_enough}
use Rattle.def_words.specs.Layout.{sizes_kept}
use Rattle.def_words.specs.Words.{put_field, put_worker, perform, own_ok, walk, find_of, plan_look_up, plan_add, plan_mark}
use Rattle.def_words.specs.Words.{plan_call, plan_phase, admitted, applied, step_words, posted, add_words}
use Rattle.thm_words_tests.specs.Small.{apart, number, two, graph, job_of}
use Rattle.thm_words_need.specs.Plans.{quits_by}
use Rattle.thm_words_refusals.specs.Refusals.{idled}
use Rattle.thm_pinned.specs.PutBack.{Leaves}

-- ---- tables of R 2, A 1, b 1 and P 1: the worker holds job 0, and its add of 8 is to look 7 up, which is in no
-- bucket: 6
abbrev adding : Tables
adding =
    graph 1 (job_of 5 1 0 none 0 0) (job_of 0 0 0 none 0 0) (0 ∷ none ∷ none ∷ []) (none ∷ none ∷ [])
    (LOOKING ∷ 0 ∷ 8 ∷ 1 ∷ 0 ∷ 0 ∷ 0 ∷ 0 ∷ none ∷ none ∷ 0 ∷ 7 ∷ replicate 31 0)

-- its failed finish of job 0, which has no arcs, is to mark it, and ends
abbrev marking : Tables
marking =
    graph 1 (job_of 5 1 0 none 0 0) (job_of 0 0 0 none 0 0) (0 ∷ none ∷ none ∷ []) (none ∷ none ∷ [])
    (bare_worker MARKING 0 1)

-- a machine that answers rightly, and where a test of its answer holds leaves these words of the workers
abbrev pub leaving : (Answer → Bool) → (Tables → ℕ → List ℕ) → Tables → Item → Result Tables
leaving where_so leave t i =
    let o = perform t i in
    let u = o.state in
    result_of o.answer
    (pick (where_so o.answer) (tables u.jobs u.arcs u.buckets u.queue (leave t (worker_of i))) u)

abbrev by_quit : Answer → Bool
by_quit x = quits_by (number x)

-- ---- the phase is written alone: name, list, tally, job, arc and note of the call stay
abbrev pub phase_alone : Tables → ℕ → List ℕ
phase_alone t w = put_field t.workers w PHASE IDLE

pub phase_alone_wrong : Leaves (leaving by_quit phase_alone) adding (step two 0) → ⊥
unfolding perform step_words applied plan_phase plan_call plan_add plan_look_up admitted within_limits long_enough sizes_kept
    own_ok find_of walk product_of bucket_of header columns put
phase_alone_wrong L = apart refl ((L.quit 6 0 (lit≤ tt) (lit≤ tt) refl).back.call 0 (lit< tt))

-- the hold is freed too
abbrev pub hold_freed : Tables → ℕ → List ℕ
hold_freed t w = put_worker t.workers w (bare_worker IDLE none 0)

pub hold_freed_wrong : Leaves (leaving by_quit hold_freed) adding (step two 0) → ⊥
unfolding perform step_words applied plan_phase plan_call plan_add plan_look_up admitted within_limits long_enough sizes_kept
    own_ok find_of walk product_of bucket_of header columns put
hold_freed_wrong L = apart refl (L.quit 6 0 (lit≤ tt) (lit≤ tt) refl).hold

-- a call that ends keeps its note, which the worker's next call would begin with
pub note_kept_wrong : Leaves (leaving (λ x. if_ended x (eqb 0 0) (eqb 0 1)) phase_alone) marking (step two 0) → ⊥
unfolding perform step_words applied plan_phase plan_call plan_mark admitted within_limits long_enough sizes_kept own_ok header
    columns put
note_kept_wrong L = apart refl ((L.ended refl).call 8 (lit< tt))

-- a post that is refused by 3 ends the call that is half done
pub half_done_ended_wrong :
    Leaves (leaving (λ x. eqb (number x) 3) (λ t w. (idled t w).workers)) adding (post_add two 0 no_arguments) → ⊥
unfolding perform add_words posted admitted within_limits long_enough sizes_kept own_ok header columns put
half_done_ended_wrong L =
    apart refl (ap (λ (u : Tables). get_or u.workers 2 0) (L.refused 3 0 (inl (lit< tt)) refl))
