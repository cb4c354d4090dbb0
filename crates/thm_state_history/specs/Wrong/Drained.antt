-- Functions that tell wrongly whether the graph is drained, each with tables by which DrainedExactly.antt's statement
-- fails of it.
use Rattle.std.specs.Prelude.{◌≡◌, refl, Bool, ◌&&◌, [], ◌∷◌, ◌++◌, ℕ, ◌≤◌, leb, eqb, replicate}
use Rattle.std.proofs.Common.{ap, arith, lit<}
use Rattle.def_numbers.specs.Numbers.{wrong_size, damaged}
use Rattle.def_basics.specs.Base.{pick}
use Rattle.def_terms.specs.Terms.{within_limits}
use Rattle.def_terms.specs.declared.Sizes.{Sizes}
use Rattle.def_words.specs.Columns.{header, columns}
use Rattle.def_words.specs.Layout.{none, PHASE, HELD, LIST_COUNT, OWN_CLASS, OWN_GROWER, TALLY, PLACE, OWN_JOB, OWN_ARC}
use Rattle.def_words.specs.Layout.{IDLE, Tables, tables, View, view, long_enough, sizes_fit, sizes_kept, bare_worker}
use Rattle.def_words.specs.Words.{place_ok, counters_ok, own_ok}
use Rattle.thm_words_tests.specs.Judged.{sized_means}
use Rattle.thm_words_tests.specs.Small.{one, with, apart}
use Rattle.def_worker_state.specs.Drained.{every, queue_ok, free, is_drained, refused, judged, drained_words}
use Rattle.def_worker_state.specs.declared.Drained.{Drained}
use Rattle.thm_state_history.specs.DrainedExactly.{AskDrained, DrainedExactly, words_mean}
use Rattle.thm_state_history.specs.Wrong.Held.{two}

few : 2 ≤ 1 → ⊥
few h = omega arith

-- a function that judges each worker's own words by `own`, and tells by `rests`
unfoldable pub drained_by : (Sizes → View → ℕ → Bool) → (Sizes → View → Bool) → AskDrained
drained_by own rests s t =
    let v = view t in
    pick (sizes_fit s t)
    (pick (every (own s v) s.workers && (counters_ok s v && queue_ok s v)) (judged (rests s v)) (refused damaged))
    (refused wrong_size)

-- with the words' own two tests it is the words' function
pub own_drained : (s : Sizes) (t : Tables) → drained_by own_ok is_drained s t ≡ drained_words s t
unfolding drained_by drained_words
own_drained s t = refl

-- ---- one that forgets the note
unfoldable pub noteless : Sizes → View → ℕ → Bool
noteless s v w =
    leb (v.worker PHASE w) 4 && place_ok (v.worker HELD w) v.made s.jobs
    && leb (v.worker LIST_COUNT w) 32
    && leb (v.worker OWN_CLASS w) 15
    && leb (v.worker OWN_GROWER w) 65535
    && leb (v.worker TALLY w) (v.worker LIST_COUNT w)
    && leb (v.worker PLACE w) (v.worker LIST_COUNT w)
    && place_ok (v.worker OWN_JOB w) v.made s.jobs
    && place_ok (v.worker OWN_ARC w) v.reserved s.arcs

-- the job is finished, and the worker idle and without a job, with a note of 2
abbrev pub noted : Tables
noted = with 1 2 0 0 (1 ∷ 1 ∷ none ∷ none ∷ none ∷ []) (bare_worker IDLE none 2)

pub forgets_note_lem : DrainedExactly (drained_by noteless is_drained) one noted → ⊥
unfolding drained_by noteless every within_limits long_enough sizes_kept header columns
forgets_note_lem d =
    apart refl (ap (λ (a : Drained). a.number)
    (d.workers_by_9 ((sized_means one noted).0 refl) 0 (lit< tt) (λ o. few o.note)))

-- ---- one that tests the workers before the sizes
abbrev pub workers_first : AskDrained
workers_first s t = pick (every (own_ok s (view t)) s.workers) (drained_words s t) (refused damaged)

-- asked with other sizes than were laid out
pub workers_first_lem : DrainedExactly workers_first two noted → ⊥
unfolding every own_ok header columns
workers_first_lem d =
    apart refl (ap (λ (a : Drained). a.number) (d.by_1 (λ z. apart refl z.kept.jobs)))

-- ---- one that looks at the first worker alone, where it judges their words and where it tells
abbrev pub first_own : Sizes → View → ℕ → Bool
first_own s v w = own_ok s v 0

abbrev pub first_rests : Sizes → View → Bool
first_rests s v = eqb v.taken v.put && free v.worker 0

-- two workers: the first is idle and without a job, the second idle with the job, of name 7, and with this note
abbrev pub pair : Sizes
pair = record { jobs = 1; arcs = 0; bits = 1; workers = 2 }

abbrev pub second_holds : ℕ → Tables
second_holds note =
    tables
    (1 ∷ 0 ∷ 1 ∷ 2 ∷ 1 ∷ (replicate 16 7 ++ (7 ∷ 1 ∷ 0 ∷ 0 ∷ 0 ∷ none ∷ none ∷ none ∷ 0 ∷ 0 ∷ [])))
    (replicate 1 0) (replicate 2 none)
    (1 ∷ 1 ∷ none ∷ none ∷ none ∷ [])
    (bare_worker IDLE none 0 ++ bare_worker IDLE 0 note)

pub judges_first : DrainedExactly (drained_by first_own is_drained) pair (second_holds 2) → ⊥
unfolding drained_by every within_limits long_enough sizes_kept own_ok header columns
judges_first d =
    apart refl (ap (λ (a : Drained). a.number)
    (d.workers_by_9 ((sized_means pair (second_holds 2)).0 refl) 1 (lit< tt) (λ o. few o.note)))

pub tells_by_first : DrainedExactly (drained_by own_ok first_rests) pair (second_holds 0) → ⊥
unfolding drained_by every within_limits long_enough sizes_kept own_ok header columns
tells_by_first d =
    apart refl (d.not_at_rest ((sized_means pair (second_holds 0)).0 refl) ((words_mean pair (second_holds 0)).0 refl)
    (λ r. apart refl (r.workers 1 (lit< tt)).1))
