-- Whether the queue is empty and every worker idle and without a job, by the words of the tables, for ALL tables.
use Rattle.std.specs.Prelude.{Bool, true, ◌&&◌, ℕ, zero, suc, leb, eqb}
use Rattle.def_numbers.specs.Numbers.{wrong_size, damaged}
use Rattle.def_basics.specs.Base.{pick}
use Rattle.def_terms.specs.declared.Sizes.{Sizes}
use Rattle.def_words.specs.Layout.{none, PHASE, HELD, IDLE, Tables, View, view, sizes_fit}
use Rattle.def_words.specs.Words.{counters_ok, own_ok}
use Rattle.def_worker_state.specs.declared.Drained.{Drained}

-- a test holds of every number below n
unfoldable pub every : (ℕ → Bool) → ℕ → Bool
every f zero = true
every f (suc n) = every f n && f n

-- number 9: every worker's own words, and what a get reads before it looks at the queue's first cell
abbrev pub queue_ok : Sizes → View → Bool
queue_ok s v = leb v.taken v.put && leb v.put s.jobs

abbrev pub words_ok : Sizes → View → Bool
words_ok s v = every (own_ok s v) s.workers && (counters_ok s v && queue_ok s v)

-- by the fields of each worker: a worker that is idle and holds nothing
abbrev pub free : (ℕ → ℕ → ℕ) → ℕ → Bool
free f w = eqb (f PHASE w) IDLE && eqb (f HELD w) none

-- the queue is empty, and every worker is idle and holds nothing
abbrev pub is_drained : Sizes → View → Bool
is_drained s v = eqb v.taken v.put && every (free v.worker) s.workers

-- a refusal has its number, and 0 elsewhere
abbrev pub refused : ℕ → Drained
refused n = record { number = n; drained = 0 }

abbrev pub judged : Bool → Drained
judged b = record { number = 0; drained = pick b 1 0 }

-- Order: 1, then 9, whichever of the words is damaged
unfoldable pub drained_words : Sizes → Tables → Drained
drained_words s t =
    pick (sizes_fit s t) (pick (words_ok s (view t)) (judged (is_drained s (view t))) (refused damaged))
    (refused wrong_size)
