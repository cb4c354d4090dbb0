-- What a host hears of a worker and of a drained graph, by the fields of the structs and the numerals of
-- include/taskgraph.h: what a worker is told, in the document's words, is read off them, so no two are told alike, and
-- a field that says nothing is 0. Follows docs/RULES.md, "Tables and their measures" and "Turned-away calls".
-- (proofs/Wrong/StateHeard.antt has tellings that lose something.)
use Rattle.std.specs.Prelude.{◌≡◌, ◌≢◌, Bool, true, false, ℕ, eqb}
use Rattle.std.proofs.Math.Option.{Option, none, some}
use Rattle.def_basics.specs.Base.{pick}
use Rattle.def_terms.specs.Terms.{bit}
use Rattle.def_terms.specs.declared.HandOut.{HandOut}
use Rattle.def_worker_state.specs.declared.Holding.{Holding}
use Rattle.def_worker_state.specs.declared.Drained.{Drained}

-- WHAT A WORKER HOLDS

-- the call half done: none, an add of a job of a name, or a finish
pub data Call : Type 0 where
  no_call : Call
  an_add : ℕ → Call
  a_finish : Call

-- a refusal's number, or the job that the worker holds, if any, with its name and whether it is spoiled, and the call
pub data Told : Type 0 where
  refused : ℕ → Told
  holds : Option HandOut → Call → Told

-- ---- told: "number 0, holds 1: the worker holds `job`, whose name is `name`; `spoiled` is 1 where it is spoiled"
abbrev pub hold_number : Option HandOut → ℕ
hold_number none = 0
hold_number (some h) = 1

abbrev pub hold_job : Option HandOut → ℕ
hold_job none = 0
hold_job (some h) = h.job

abbrev pub hold_name : Option HandOut → ℕ
hold_name none = 0
hold_name (some h) = h.name

abbrev pub hold_spoiled : Option HandOut → ℕ
hold_spoiled none = 0
hold_spoiled (some h) = bit h.spoiled

abbrev pub call_number : Call → ℕ
call_number no_call = 0
call_number (an_add name) = 1
call_number a_finish = 2

abbrev pub call_name : Call → ℕ
call_name no_call = 0
call_name (an_add name) = name
call_name a_finish = 0

abbrev pub holding_told : Told → Holding
holding_told (refused n) = record { number = n; holds = 0; job = 0; name = 0; call = 0; adds = 0; spoiled = 0 }
holding_told (holds o c) =
    record {
      number = 0;
      holds = hold_number o;
      job = hold_job o;
      name = hold_name o;
      call = call_number c;
      adds = call_name c;
      spoiled = hold_spoiled o;
    }

-- ---- heard: holds 0 or 1, spoiled 0 or 1, call 0, 1 or 2. Nothing else says anything
abbrev pub job_held : Holding → Bool → HandOut
job_held r b = record { job = r.job; name = r.name; spoiled = b }

abbrev pub heard_hold : Holding → Option (Option HandOut)
heard_hold r =
    pick (eqb r.holds 0) (some none)
    (pick (eqb r.holds 1)
    (pick (eqb r.spoiled 0) (some (some (job_held r false)))
    (pick (eqb r.spoiled 1) (some (some (job_held r true))) none))
    none)

abbrev pub heard_call : Holding → Option Call
heard_call r =
    pick (eqb r.call 0) (some no_call)
    (pick (eqb r.call 1) (some (an_add r.adds)) (pick (eqb r.call 2) (some a_finish) none))

abbrev pub heard_both : Option (Option HandOut) → Option Call → Option Told
heard_both none c = none
heard_both (some o) none = none
heard_both (some o) (some c) = some (holds o c)

abbrev pub heard_holding : Holding → Option Told
heard_holding r = pick (eqb r.number 0) (heard_both (heard_hold r) (heard_call r)) (some (refused r.number))

-- "holds 0: it holds none; job, name and spoiled are 0"; "Of an add half done `adds` is the name of the job that it
-- adds, else 0"; "number 1, 2 or 9: all else is 0"
pub record SilentHolding (r : Holding) : Type 0 where
  pub refused : r.number ≢ 0 → (r.holds ≡ 0) × (r.call ≡ 0)
  pub no_job_lem : r.holds ≢ 1 → (r.job ≡ 0) × (r.name ≡ 0) × (r.spoiled ≡ 0)
  pub no_add : r.call ≢ 1 → r.adds ≡ 0

-- what can be told of a worker
pub data Tells : Told → Type 0 where
  by_1 : Tells (refused 1)
  by_2 : Tells (refused 2)
  by_9 : Tells (refused 9)
  served : {o : Option HandOut} {c : Call} → Tells (holds o c)

-- any telling of what a worker holds is to be heard so
pub record HoldingsHeard (told : Told → Holding) : Type 0 where
  pub heard_as_told : (x : Told) → Tells x → heard_holding (told x) ≡ some x
  pub silent : (x : Told) → Tells x → SilentHolding (told x)

abbrev pub IsTold : Holding → Type 0
IsTold h = (x : Told) × Tells x × (h ≡ holding_told x)

-- a refusal's number, or "the queue is empty and every worker is idle and without a job", or not
pub data DrainedTold : Type 0 where
  refused : ℕ → DrainedTold
  drained : DrainedTold
  not_drained : DrainedTold

abbrev pub drained_told : DrainedTold → Drained
drained_told (DrainedTold.refused n) = record { number = n; drained = 0 }
drained_told drained = record { number = 0; drained = 1 }
drained_told not_drained = record { number = 0; drained = 0 }

abbrev pub heard_drained : Drained → Option DrainedTold
heard_drained r =
    pick (eqb r.number 0)
    (pick (eqb r.drained 0) (some not_drained) (pick (eqb r.drained 1) (some drained) none))
    (some (DrainedTold.refused r.number))

-- what can be told of it
pub data TellsDrained : DrainedTold → Type 0 where
  by_1 : TellsDrained (DrainedTold.refused 1)
  by_9 : TellsDrained (DrainedTold.refused 9)
  yes : TellsDrained drained
  no : TellsDrained not_drained

-- any telling of it is to be heard so; by a refusal "drained is 0"
pub record DrainedHeard (told : DrainedTold → Drained) : Type 0 where
  pub heard_as_told : (x : DrainedTold) → TellsDrained x → heard_drained (told x) ≡ some x
  pub silent : (x : DrainedTold) → TellsDrained x → (told x).number ≢ 0 → (told x).drained ≡ 0

-- every answer is told so, whatever the tables hold,
abbrev pub IsDrainedTold : Drained → Type 0
IsDrainedTold d = (x : DrainedTold) × TellsDrained x × (d ≡ drained_told x)
