-- Tests of sizes and of settling that are wrong, each with numbers by which a statement of Numerals.antt fails of it:
-- two that settle as the published text does, tests of sizes that are off by one or leave a size out; minutes of a
-- class that there is not; readings of the tables with two words exchanged; a finish that keeps its job twice. Follows
-- docs/RULES.md, "Where the published text misleads" and "Tables and their measures".
use Rattle.std.specs.Prelude.{◌≡◌, refl, Bool, true, false, ◌&&◌, ◌||◌, List, [], ◌∷◌, ℕ, ◌-◌, ltb, leb, eqb, get_or, replicate}
use Rattle.std.proofs.Common.{ap, lit≤, lit<, arith}
use Rattle.def_basics.specs.Base.{pick}
use Rattle.def_basics.specs.Laws.{never}
use Rattle.def_terms.specs.declared.Sizes.{Sizes}
use Rattle.thm_pinned.specs.Numerals.{JudgesSizes, ComparesSizes, Queues, tallied, alone, Settles}
use Rattle.def_words.specs.Columns.{columns}
use Rattle.def_words.specs.Layout.{Tables, tables, View, view}
use Rattle.thm_pinned.specs.Numerals.{TellsMinutes, sixteen_minutes, ReadsWords, Bares}

untrue : {b : Bool} → b ≡ false → b ≡ true → ⊥
untrue e h = never (cc)

-- ---- settling
-- "It settles only with a tally above 0, so a job with no prerequisites would never be queued"
pub only_with_a_tally : Settles (λ count tally d. eqb count 0 && ltb 0 tally) → ⊥
only_with_a_tally s = untrue refl ((s 0 0 0).1 (alone refl refl))

-- "Queueing whenever the settled count is 0 queues case 3 twice": one prerequisite, no tally, and the finish queued it
pub whenever_0 : Settles (λ count tally d. eqb count 0) → ⊥
whenever_0 s = not_queued ((s 0 0 1).0 refl)
  where
    not_queued : Queues 0 0 1 → ⊥
    not_queued (tallied e h) = omega arith
    not_queued (alone e h) = omega arith

-- a job that still waits for one is queued for its tally
pub though_one_is_left : Settles (λ count tally d. ltb 0 tally || eqb d 0) → ⊥
though_one_is_left s = not_queued ((s 1 1 2).0 refl)
  where
    not_queued : Queues 1 1 2 → ⊥
    not_queued (tallied e h) = omega arith
    not_queued (alone e h) = omega arith

-- ---- limits
abbrev sizes : (jobs arcs bits workers : ℕ) → Sizes
sizes jobs arcs bits workers = record { jobs = jobs; arcs = arcs; bits = bits; workers = workers }

abbrev within : (jobs arcs least bits workers : ℕ) → Sizes → Bool
within jobs arcs least bits workers s =
    leb 1 s.jobs && leb s.jobs jobs && leb s.arcs arcs && (leb least s.bits && leb s.bits bits)
    && (leb 1 s.workers && leb s.workers workers)

pub jobs_4097 : JudgesSizes (within 4097 32768 1 8 16) → ⊥
jobs_4097 j = let h = (j (sizes 4097 0 1 1)).0 refl in omega (arith, h.jobs_most)

pub no_bits : JudgesSizes (within 4096 32768 0 8 16) → ⊥
no_bits j = let h = (j (sizes 1 0 0 1)).0 refl in omega (arith, h.bits_least)

pub nine_bits : JudgesSizes (within 4096 32768 1 9 16) → ⊥
nine_bits j = let h = (j (sizes 1 0 9 1)).0 refl in omega (arith, h.bits_most)

pub fifteen_workers : JudgesSizes (within 4096 32768 1 8 15) → ⊥
fifteen_workers j = untrue refl ((j (sizes 1 0 1 16)).1 (record {
  jobs_least = lit≤ tt;
  jobs_most = lit≤ tt;
  arcs_most = lit≤ tt;
  bits_least = lit≤ tt;
  bits_most = lit≤ tt;
  workers_least = lit≤ tt;
  workers_most = lit≤ tt;
}))

-- no arcs: "A arcs 0 to 32,768"
pub some_arcs : JudgesSizes (λ s. leb 1 s.arcs && within 4096 32768 1 8 16 s) → ⊥
some_arcs j = untrue refl ((j (sizes 1 0 1 1)).1 (record {
  jobs_least = lit≤ tt;
  jobs_most = lit≤ tt;
  arcs_most = lit≤ tt;
  bits_least = lit≤ tt;
  bits_most = lit≤ tt;
  workers_least = lit≤ tt;
  workers_most = lit≤ tt;
}))

-- ---- other bits are taken for the same
pub other_bits :
    ComparesSizes (λ s t. eqb s.jobs t.jobs && eqb s.arcs t.arcs && eqb s.workers t.workers) → ⊥
other_bits c = let h = (c (sizes 1 0 1 1) (sizes 1 0 2 1)).0 refl in omega (arith, h.bits)

-- ---- the minutes of a class
-- a class past the last has the last one's minutes
pub sixteen_as_fifteen : TellsMinutes (λ class. get_or sixteen_minutes (pick (ltb 15 class) 15 class) 0) → ⊥
sixteen_as_fifteen t = let z = t.no_class 16 (lit≤ tt) in omega arith

-- classes counted from 1
pub from_class_1 : TellsMinutes (λ class. get_or sixteen_minutes (class - 1) 0) → ⊥
from_class_1 t = let z = t.of_class 1 (lit< tt) in omega arith

-- ---- what is read of the tables
abbrev Misreads : (Tables → View) → Type 0
Misreads see = ((t : Tables) → ReadsWords see t) → ⊥

-- the view with other records of the queue and of the arcs
abbrev reading : (ℕ → ℕ) → (ℕ → ℕ) → Tables → View
reading cell arc t = record {
  made = (view t).made;
  reserved = (view t).reserved;
  taken = (view t).taken;
  put = (view t).put;
  job = (view t).job;
  arc = λ k i. (view t).arc (arc k) i;
  bucket = (view t).bucket;
  cell = λ k i. (view t).cell (cell k) i;
  worker = (view t).worker;
}

-- slots and positions are exchanged, and so are an arc's dependent and its next
pub slots_for_positions : Misreads (reading (λ k. pick (eqb k 0) 0 (3 - k)) (λ k. k))
unfolding columns
slots_for_positions h = let z = (h (tables [] [] [] (0 ∷ 1 ∷ 7 ∷ 8 ∷ 9 ∷ []) [])).cell 0 1 (lit< tt) in omega arith

pub dependent_for_next : Misreads (reading (λ k. k) (λ k. 1 - k))
unfolding columns
dependent_for_next h = let z = (h (tables [] (1 ∷ 7 ∷ 8 ∷ []) [] [] [])).arc 0 0 (lit< tt) in omega arith

-- ---- a worker's words
-- the words of a worker without a list, with other words for its job and its first name
abbrev bare : (ℕ → ℕ → ℕ) → (ℕ → ℕ → ℕ) → ℕ → ℕ → ℕ → List ℕ
bare job first phase hold note =
    phase ∷ hold ∷ 0 ∷ 0 ∷ 0 ∷ 0 ∷ 0 ∷ 0 ∷ job phase hold ∷ 4294967295 ∷ note ∷ first phase hold ∷ replicate 31 0

-- a posted finish keeps the job in the word of an add's job too
pub job_twice : Bares (bare (λ phase hold. pick (eqb phase 3) hold 4294967295) (λ phase hold. 0)) → ⊥
job_twice h = let z = ap (λ (l : List ℕ). get_or l 8 0) (h 3 7 0) in omega arith

-- it keeps its job among the names
pub job_among_names : Bares (bare (λ phase hold. 4294967295) (λ phase hold. pick (eqb phase 3) hold 0)) → ⊥
job_among_names h = let z = ap (λ (l : List ℕ). get_or l 11 0) (h 3 7 0) in omega arith
