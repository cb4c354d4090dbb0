-- Small tables over which machines that are wrong are refuted, numbers that differ, and the number of an answer.
use Rattle.std.specs.Prelude.{◌≡◌, false, List, [], ◌∷◌, ◌++◌, ℕ, eqb, replicate}
use Rattle.std.proofs.lemmas.Bool.{eqb-false}
use Rattle.def_terms.specs.declared.Sizes.{Sizes}
use Rattle.def_terms.specs.declared.Answer.{Answer}
use Rattle.def_terms.specs.declared.Answer.TheVariants.{Laid, Loaded, Posted, Going, Ended, NoneReady, Handed, Refused}
use Rattle.def_words.specs.Layout.{none, IDLE, Tables, tables, bare_worker}

-- ---- tables of R 1, A 0, b 1 and P 1, with one job, of name 7, and one worker
abbrev pub one : Sizes
one = record { jobs = 1; arcs = 0; bits = 1; workers = 1 }

-- with a number of jobs made, the job's label, count and spoiled word, the queue's words and the worker's
abbrev pub with : (made label count word : ℕ) (queue worker : List ℕ) → Tables
with made label count mark queue worker =
    tables
    (1 ∷ 0 ∷ 1 ∷ 1 ∷ made
    ∷ (replicate 16 7 ++ (7 ∷ label ∷ count ∷ 0 ∷ 0 ∷ none ∷ none ∷ none ∷ 0 ∷ mark ∷ [])))
    (replicate 1 0) (replicate 2 none) queue worker

-- the worker is idle and holds the job
abbrev pub holding : ℕ → ℕ → Tables
holding made mark = with made 1 0 mark (1 ∷ 1 ∷ none ∷ none ∷ none ∷ []) (bare_worker IDLE 0 0)

-- ---- tables of R 2, A 1, b 1 and P 1: a job of name 7 and one of name 8, in buckets of their own
abbrev pub two : Sizes
two = record { jobs = 2; arcs = 1; bits = 1; workers = 1 }

-- with a number of jobs made, the two jobs' words, the arcs', the buckets' and the worker's
abbrev pub graph : ℕ → List ℕ → List ℕ → List ℕ → List ℕ → List ℕ → Tables
graph made first second arcs buckets worker =
    tables (2 ∷ 1 ∷ 1 ∷ 1 ∷ made ∷ (replicate 16 7 ++ (first ++ second))) arcs buckets
    (1 ∷ 1 ∷ replicate 6 none) worker

-- a job's words: name, label, count, first arc (its last too), outcome and spoiled word
abbrev pub job_of : (name label count arc outcome spoiled : ℕ) → List ℕ
job_of name label count arc outcome mark =
    name ∷ label ∷ count ∷ 0 ∷ 0 ∷ arc ∷ arc ∷ none ∷ outcome ∷ mark ∷ []

-- ---- for refutations
pub apart : {x y : ℕ} → eqb x y ≡ false → x ≡ y → ⊥
apart {x} {y} e = eqb-false x y e

-- the number that an answer refuses by, else 0
abbrev pub number : Answer → ℕ
number Laid = 0
number Loaded = 0
number Posted = 0
number Going = 0
number Ended = 0
number NoneReady = 0
number (Handed h) = 0
number (Refused n p) = n
