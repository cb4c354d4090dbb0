-- What a worker holds, and whether its call is half done, by the words of the tables, for ALL tables and arguments.
use Rattle.std.specs.Prelude.{◌||◌, ℕ, eqb}
use Rattle.def_numbers.specs.Numbers.{damaged, call_none, call_add, call_finish}
use Rattle.def_basics.specs.Base.{pick}
use Rattle.def_terms.specs.declared.Sizes.{Sizes}
use Rattle.def_words.specs.Layout.{NAME, SPOILED, PHASE, HELD, OWN_NAME, IDLE, LOOKING, LINKING, Tables, View, view}
use Rattle.def_words.specs.Words.{is_place, counters_ok, spoiled_ok, admitted}
use Rattle.def_worker_state.specs.declared.Holding.{Holding}

-- the call half done, by the phase: an add looks up or links, a finish marks or notifies
abbrev pub call_of : ℕ → ℕ
call_of phase = pick (eqb phase IDLE) call_none (pick (eqb phase LOOKING || eqb phase LINKING) call_add call_finish)

-- the name of the add half done
abbrev pub adds_of : ℕ → ℕ → ℕ
adds_of call name = pick (eqb call call_add) name 0

-- a refusal has its number, and 0 elsewhere
abbrev pub refused : ℕ → Holding
refused n = record { number = n; holds = 0; job = 0; name = 0; call = 0; adds = 0; spoiled = 0 }

-- a worker that holds the job j of a name, spoiled or not, and one that holds none, in a call
abbrev pub holding_job : (job name spoiled call adds : ℕ) → Holding
holding_job j name spoiled c a =
    record { number = 0; holds = 1; job = j; name = name; call = c; adds = a; spoiled = spoiled }

abbrev pub holding_none : ℕ → ℕ → Holding
holding_none c a = record { number = 0; holds = 0; job = 0; name = 0; call = c; adds = a; spoiled = 0 }

-- the call and its name, by the fields of each worker
abbrev pub call_at : (ℕ → ℕ → ℕ) → ℕ → ℕ
call_at f w = call_of (f PHASE w)

abbrev pub adds_at : (ℕ → ℕ → ℕ) → ℕ → ℕ
adds_at f w = adds_of (call_at f w) (f OWN_NAME w)

-- the spoiled word of the held job is read: off 0 and 1 it is 9
abbrev pub marked : View → ℕ → ℕ → Holding
marked v w j =
    pick (spoiled_ok v j)
    (holding_job j (v.job NAME j) (v.job SPOILED j) (call_at v.worker w) (adds_at v.worker w))
    (refused damaged)

unfoldable pub holding_of : View → ℕ → Holding
holding_of v w =
    pick (is_place (v.worker HELD w)) (marked v w (v.worker HELD w))
    (holding_none (call_at v.worker w) (adds_at v.worker w))

-- "every call with a worker reads how many jobs were made and arcs reserved": off their range they are 9
unfoldable pub counted : Sizes → View → ℕ → Holding
counted s v w = pick (counters_ok s v) (holding_of v w) (refused damaged)

-- "Order: 1, 2, 9 for the worker's own words", then 9 for the counters and for the spoiled word
unfoldable pub held_words : Sizes → Tables → ℕ → Holding
held_words s t w = admitted s t w refused (counted s (view t) w)
