-- The adds and the rounds of a day list (docs/RULES.md, "The board and the day list"), over the words of the tables, by
-- the definitions that the calls' contracts cite: the refusals, the hand-outs of each round, and the tables left.
-- Nothing here is text.
use Rattle.std.specs.Prelude.{Bool, true, false, List, [], ◌∷◌, ◌++◌, ℕ, zero, suc, ◌+◌, ◌^◌, eqb, replicate}
use Rattle.def_numbers.specs.Numbers.{most_workers, day_jobs, day_arcs, day_bits}
use Rattle.def_basics.specs.Base.{pick}
use Rattle.def_terms.specs.Terms.{finish_of}
use Rattle.def_terms.specs.Cases.{if_handed, if_refused}
use Rattle.def_terms.specs.declared.Sizes.{Sizes}
use Rattle.def_terms.specs.declared.Answer.{Answer}
use Rattle.def_words.specs.Layout.{Tables, tables, need, job_shape, arc_shape, bucket_shape, queue_shape, worker_shape}
use Rattle.def_words.specs.Words.{get_words, lay_out}
use Rattle.def_sheets.specs.Job.{Job}
use Rattle.def_room.specs.Room.{arguments_of}
use Rattle.def_whole_calls.specs.Whole.{whole_add, whole_finish}
use Rattle.def_day.specs.declared.Holder.{Holder}

-- "(R 256, A 1,024, b 4, P 2)", with the number of workers as given
abbrev pub day_sizes : ℕ → Sizes
day_sizes workers = record { jobs = day_jobs; arcs = day_arcs; bits = day_bits; workers = workers }

-- a fresh graph of these sizes, in tables that just suffice for the most workers
abbrev pub blank_tables : Sizes → Tables
blank_tables s =
    tables (replicate (need job_shape s.jobs) 0) (replicate (need arc_shape s.arcs) 0)
    (replicate (need bucket_shape (2 ^ s.bits)) 0)
    (replicate (need queue_shape s.jobs) 0)
    (replicate (need worker_shape most_workers) 0)

abbrev pub fresh_day : Sizes → Tables
fresh_day s = (lay_out s (blank_tables s)).state

-- ---- "Worker 0 adds every entry, each run whole"
-- a refused entry: its number from 0, and the refusal's
pub record Refusal : Type 0 where
  pub entry : ℕ
  pub number : ℕ

abbrev pub refusal : ℕ → Answer → List Refusal
refusal i x = if_refused x (λ n p. record { entry = i; number = n } ∷ []) []

pub record Added : Type 0 where
  pub state : Tables
  pub refusals : List Refusal

abbrev pub added : Tables → List Refusal → Added
added t rs = record { state = t; refusals = rs }

-- these jobs, the first of them being entry i
unfoldable pub add_all : Sizes → ℕ → List Job → Tables → Added
add_all s i [] t = added t []
add_all s i (j ∷ js) t =
    let o = whole_add s t 0 (arguments_of j) in
    let rest = add_all s (suc i) js o.state in
    added rest.state (refusal i o.answer ++ rest.refusals)

-- ---- "Then rounds: worker 0 gets, worker 1 gets, then each holder in that order finishes, run whole"
abbrev pub holder : ℕ → ℕ → Holder
holder w n = record { worker = w; name = n }

abbrev pub hand_out : ℕ → Answer → List Holder
hand_out w x = if_handed x (λ h. holder w h.name ∷ []) []

pub record Gets : Type 0 where
  pub state : Tables
  pub holders : List Holder

abbrev pub gets : Tables → List Holder → Gets
gets t hs = record { state = t; holders = hs }

-- n workers get, in order, from worker w on
unfoldable pub get_all : Sizes → ℕ → ℕ → Tables → Gets
get_all s zero w t = gets t []
get_all s (suc n) w t =
    let o = get_words s t w in
    let rest = get_all s n (suc w) o.state in
    gets rest.state (hand_out w o.answer ++ rest.holders)

-- each finish brings good: "an outcome, good or failed (good in the day list)"
unfoldable pub finish_all : Sizes → List Holder → Tables → Tables
finish_all s [] t = t
finish_all s (h ∷ hs) t = finish_all s hs (whole_finish s t h.worker (finish_of h.name false)).state

-- the gets of a round, by every worker; the tables after a round with these gets
abbrev pub get_round : Sizes → Tables → Gets
get_round s t = get_all s s.workers 0 t

abbrev pub finished : Sizes → Gets → Tables
finished s g = finish_all s g.holders g.state

-- a whole round
abbrev pub round_of : Sizes → Tables → Gets
round_of s t = gets (finished s (get_round s t)) (get_round s t).holders

-- the rounds that handed something out, and the tables left
pub record Run : Type 0 where
  pub state : Tables
  pub rounds : List (List Holder)

abbrev pub run : Tables → List (List Holder) → Run
run t hss = record { state = t; rounds = hss }

abbrev pub any_holder : List Holder → Bool
any_holder [] = false
any_holder (h ∷ hs) = true

-- "A round that hands out nothing ends it": at most k rounds. Each before the last hands out a job, and there are at
-- most R
unfoldable pub rounds : ℕ → Sizes → Tables → Run
rounds zero s t = run t []
rounds (suc k) s t =
    let g = get_round s t in
    let rest = rounds k s (finished s g) in
    pick (any_holder g.holders) (run rest.state (g.holders ∷ rest.rounds)) (run g.state [])

-- the hand-outs of all rounds, in order
unfoldable pub hand_outs : List (List Holder) → List Holder
hand_outs [] = []
hand_outs (hs ∷ hss) = hs ++ hand_outs hss

-- ---- "jobs not finished", among the first n
unfoldable pub unfinished : (ℕ → ℕ) → ℕ → ℕ
unfinished label zero = 0
unfinished label (suc n) = pick (eqb (label n) 2) 0 1 + unfinished label n

-- ---- a day: the entries added on a fresh graph, then the rounds
abbrev pub added_day : Sizes → List Job → Added
added_day s js = add_all s 0 js (fresh_day s)

abbrev pub run_day : Sizes → Tables → Run
run_day s t = rounds (s.jobs + 1) s t
