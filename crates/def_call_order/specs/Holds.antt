-- What each worker holds, read off the calls decided so far and how they ended alone (docs/RULES.md, "The plain book").
use Rattle.std.specs.Prelude.{List, [], ◌∷◌, Bool, ℕ, eqb}
use Rattle.std.proofs.Math.Option.{Option, none, some}
use Rattle.def_basics.specs.Base.{pick}
use Rattle.def_terms.specs.declared.HandOut.{HandOut}
use Rattle.def_book.specs.Book.{Call, add, get, finish, End, accepted, none_ready, handed, refused, Ended}
use Rattle.def_call_order.specs.Calls.{Reading}

-- ---- the hold: a get of the worker that hands a job out begins it, an accepted finish of the worker ends it. It is
-- kept with what the get told of the job
abbrev pub handed_by_get : Bool → End → Option HandOut → Option HandOut
handed_by_get own (handed h) hold = pick own (some h) hold
handed_by_get own accepted hold = hold
handed_by_get own none_ready hold = hold
handed_by_get own (refused n i) hold = hold

abbrev pub handed_by_finish : Bool → End → Option HandOut → Option HandOut
handed_by_finish own accepted hold = pick own none hold
handed_by_finish own none_ready hold = hold
handed_by_finish own (handed h) hold = hold
handed_by_finish own (refused n i) hold = hold

abbrev pub handed_by : ℕ → Call → End → Option HandOut → Option HandOut
handed_by w (add v a) e hold = hold
handed_by w (get v) e hold = handed_by_get (eqb w v) e hold
handed_by w (finish v f) e hold = handed_by_finish (eqb w v) e hold

unfoldable pub handed_after : ℕ → Option HandOut → List Ended → Option HandOut
handed_after w hold [] = hold
handed_after w hold (x ∷ l) = handed_after w (handed_by w x.call x.end hold) l

-- at first no worker holds a job
abbrev pub handed_read : Reading → ℕ → Option HandOut
handed_read r w = handed_after w none r.calls

-- the job alone
abbrev pub job_of : Option HandOut → Option ℕ
job_of none = none
job_of (some h) = some h.job

abbrev pub held_read : Reading → ℕ → Option ℕ
held_read r w = job_of (handed_read r w)
