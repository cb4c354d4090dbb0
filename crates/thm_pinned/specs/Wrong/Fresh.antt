-- Layings-out that are wrong, each over tables by which the statement of FreshWords.antt fails of it: they lay one kind
-- of place with 0, leave or touch words that they should not, or refuse too much or too little. Follows docs/RULES.md,
-- "Tables and their measures" ("every place none", "words past a table's need are never touched").
use Rattle.std.specs.Prelude.{◌≡◌, refl, true, false, List, [], ◌∷◌, ◌++◌, ℕ, replicate}
use Rattle.std.proofs.Common.{ap, arith, lit<, lit≤}
use Rattle.std.proofs.lemmas.List.Edits.{sets}
use Rattle.def_basics.specs.Base.{pick}
use Rattle.def_basics.specs.Laws.{never}
use Rattle.def_minutes.specs.Minutes.{fixed_minutes}
use Rattle.def_terms.specs.Terms.{within_limits}
use Rattle.def_terms.specs.Runs.{Result, result_of}
use Rattle.def_terms.specs.declared.Sizes.{Sizes}
use Rattle.def_terms.specs.declared.Answer.TheVariants.{Laid, Refused}
use Rattle.def_words.specs.Layout.{none, Tables, tables, long_enough, room_for, repeated, fresh_jobs, fresh_arcs}
use Rattle.def_words.specs.Layout.{fresh_buckets}
use Rattle.def_words.specs.Layout.{fresh_queue, fresh_workers, bare_worker}
use Rattle.thm_words_tests.specs.Judged.{Roomy, room_means}
use Rattle.thm_pinned.specs.FreshWords.{LaysFresh}

-- tables of raw memory, 7 in each word, for R 1, A 1, b 1 and P 1, with one word more than is needed in each
abbrev one : Sizes
one = record { jobs = 1; arcs = 1; bits = 1; workers = 1 }

abbrev raw : Tables
raw = tables (replicate 32 7) (replicate 4 7) (replicate 3 7) (replicate 6 7) (replicate 44 7)

roomy : Roomy one raw
unfolding within_limits long_enough
roomy = (room_means one raw).0 refl

-- ---- a laying-out that refuses every size, so that whatever begins with "laid out" says nothing
pub refuses_all_lem : LaysFresh (λ s t. result_of (Refused 1 0) t) one raw → ⊥
refuses_all_lem x = let e : Refused 1 0 ≡ Laid = (x.lays roomy).0 in never cc

-- and one that lays out whatever the sizes are
abbrev no_jobs : Sizes
no_jobs = record { jobs = 0; arcs = 1; bits = 1; workers = 1 }

not_roomy : Roomy no_jobs raw → ⊥
unfolding within_limits long_enough
not_roomy y = let e : false ≡ true = (room_means no_jobs raw).1 y in never cc

pub refuses_none : LaysFresh (λ s t. result_of Laid t) no_jobs raw → ⊥
refuses_none x =
    let e : Laid ≡ Refused 1 0 = ap (λ (r : Result Tables). r.answer) (x.by_1 not_roomy) in never cc

-- ---- a laying-out by other words of each table
unfoldable pub lay_by : (Sizes → List ℕ) → (Sizes → List ℕ) → (Sizes → List ℕ) → (Sizes → List ℕ) → (Sizes → List ℕ)
    → Sizes → Tables → Result Tables
lay_by jobs arcs buckets queue workers s t =
    pick (room_for s t)
    (result_of Laid (tables (sets t.jobs 0 (jobs s)) (sets t.arcs 0 (arcs s)) (sets t.buckets 0 (buckets s))
    (sets t.queue 0 (queue s))
    (sets t.workers 0 (workers s))))
    (result_of (Refused 1 0) t)

-- a place that was laid with 0 is no place that is none
not_none : ◌≡◌ {A = ℕ} 0 4294967295 → ⊥
not_none e = omega arith

-- ---- arcs laid with 0
pub arcs_with_0 : LaysFresh
    (lay_by fresh_jobs (λ s. 0 ∷ repeated s.arcs (0 ∷ 0 ∷ [])) fresh_buckets fresh_queue fresh_workers) one raw
    → ⊥
unfolding lay_by within_limits long_enough repeated
arcs_with_0 x = not_none ((x.lays roomy).1.arc 0 (lit< tt) 0 (lit< tt))

-- ---- the next job of an unmade job is 0, so job 0
abbrev with_next : Sizes → List ℕ
with_next s =
    s.jobs ∷ s.arcs ∷ s.bits ∷ s.workers ∷ 0
    ∷ (fixed_minutes ++ repeated s.jobs (0 ∷ 0 ∷ 0 ∷ 0 ∷ 0 ∷ none ∷ none ∷ 0 ∷ 0 ∷ 0 ∷ []))

pub next_with_0 : LaysFresh (lay_by with_next fresh_arcs fresh_buckets fresh_queue fresh_workers) one raw → ⊥
unfolding lay_by within_limits long_enough repeated fixed_minutes
next_with_0 x = not_none ((x.lays roomy).1.job 0 (lit< tt) 7 (lit< tt))

-- ---- the position of a cell is 0
pub position_with_0 : LaysFresh
    (lay_by fresh_jobs fresh_arcs fresh_buckets (λ s. 0 ∷ 0 ∷ repeated s.jobs (none ∷ none ∷ 0 ∷ [])) fresh_workers)
    one raw
    → ⊥
unfolding lay_by within_limits long_enough repeated
position_with_0 x = not_none ((x.lays roomy).1.cell 0 (lit< tt) 2 (lit< tt))

-- ---- each worker holds job 0
pub held_with_0 : LaysFresh
    (lay_by fresh_jobs fresh_arcs fresh_buckets fresh_queue (λ s. repeated s.workers (bare_worker 0 0 0))) one raw
    → ⊥
unfolding lay_by within_limits long_enough repeated
held_with_0 x = not_none ((x.lays roomy).1.worker 0 (lit< tt) 1 (lit< tt))

-- ---- the buckets are laid with 0
pub buckets_with_0 : LaysFresh (lay_by fresh_jobs fresh_arcs (λ s. 0 ∷ 0 ∷ []) fresh_queue fresh_workers) one raw → ⊥
unfolding lay_by within_limits long_enough repeated
buckets_with_0 x = not_none ((x.lays roomy).1.bucket 0 (lit< tt))

-- ---- the words past the need become 0
pub clears_the_rest : LaysFresh
    (lay_by fresh_jobs fresh_arcs fresh_buckets fresh_queue (λ s. fresh_workers s ++ (0 ∷ []))) one raw
    → ⊥
unfolding lay_by within_limits long_enough repeated
clears_the_rest x =
    let z : ◌≡◌ {A = ℕ} 0 7 = (x.lays roomy).1.workers_past 43 (lit≤ tt) in
    omega arith
