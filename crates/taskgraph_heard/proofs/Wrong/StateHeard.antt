-- Tellings of what a worker holds and of a drained graph by which something is lost, or said otherwise than
-- include/taskgraph.h has it, each refuted by one answer.
use Rattle.std.specs.Prelude.{◌≡◌, refl, true, false, ℕ}
use Rattle.std.proofs.Common.{ap, arith}
use Rattle.std.proofs.Math.Option.{none, some}
use Rattle.std.proofs.lemmas.Bool.{eqb-false}
use Rattle.def_terms.specs.Terms.{bit}
use Rattle.def_terms.specs.declared.HandOut.{HandOut}
use Rattle.taskgraph_heard.specs.StateHeard.{Call, no_call, an_add, a_finish, Told, refused, holds, call_number, call_name}
use Rattle.taskgraph_heard.specs.StateHeard.{holding_told, HoldingsHeard, Tells, DrainedTold, drained, not_drained}
use Rattle.taskgraph_heard.specs.StateHeard.{drained_told, DrainedHeard, TellsDrained}
use Rattle.def_worker_state.specs.declared.Holding.{Holding}
use Rattle.def_worker_state.specs.declared.Drained.{Drained}

abbrev Wrong : (Told → Holding) → Type 0
Wrong told = HoldingsHeard told → ⊥

-- a spoiled job, number 0 and named 7
abbrev spoiled_job : HandOut
spoiled_job = record { job = 0; name = 7; spoiled = true }

-- the right telling, but of a held job and a call
abbrev held_as : (HandOut → Call → Holding) → Told → Holding
held_as with (refused n) = holding_told (refused n)
held_as with (holds none c) = holding_told (holds none c)
held_as with (holds (some h) c) = with h c

abbrev held_spoiled_by : ℕ → HandOut → Call → Holding
held_spoiled_by spoiled h c =
    record {
      number = 0;
      holds = 1;
      job = h.job;
      name = h.name;
      call = call_number c;
      adds = call_name c;
      spoiled = spoiled;
    }

-- that the job is spoiled is not told: a worker that restarts would bring good, and be refused by 19
pub spoiled_not_told : Wrong (held_as (held_spoiled_by 0))
spoiled_not_told h =
    let q : record { job = 0; name = 7; spoiled = false } ≡ spoiled_job =
    cc (h.heard_as_told (holds (some spoiled_job) no_call) Tells.served) in
    let z : ◌≡◌ {A = ℕ} 0 1 = ap (λ (o : HandOut). bit o.spoiled) q in
    omega arith

-- a held job is not told while a call is half done
abbrev idle_only : HandOut → Call → Holding
idle_only h no_call = holding_told (holds (some h) no_call)
idle_only h (an_add name) = holding_told (holds none (an_add name))
idle_only h a_finish = holding_told (holds none a_finish)

pub hold_not_told : Wrong (held_as idle_only)
hold_not_told h =
    let z : ◌≡◌ {A = ℕ} 0 1 = cc (h.heard_as_told (holds (some spoiled_job) (an_add 8)) Tells.served) in omega arith

-- a finish half done is told as an add of the held job's name
abbrev any_call : HandOut → Call → Holding
any_call h no_call = holding_told (holds (some h) no_call)
any_call h (an_add name) = holding_told (holds (some h) (an_add name))
any_call h a_finish = holding_told (holds (some h) (an_add h.name))

pub finish_as_add : Wrong (held_as any_call)
finish_as_add h =
    let z : ◌≡◌ {A = ℕ} 0 1 = cc (h.heard_as_told (holds (some spoiled_job) a_finish) Tells.served) in omega arith

-- the name of a finish stands beside it, in the field of an add's
abbrev name_beside : HandOut → Call → Holding
name_beside h no_call = holding_told (holds (some h) no_call)
name_beside h (an_add name) = holding_told (holds (some h) (an_add name))
name_beside h a_finish =
    record { number = 0; holds = 1; job = h.job; name = h.name; call = 2; adds = h.name; spoiled = bit h.spoiled }

pub adds_of_a_finish : Wrong (held_as name_beside)
adds_of_a_finish h =
    let z : ◌≡◌ {A = ℕ} 7 0 =
    (h.silent (holds (some spoiled_job) a_finish) Tells.served).no_add (eqb-false 2 1 refl) in
    omega arith

-- damaged words are told as a worker that holds nothing
abbrev damaged_as_none : Told → Holding
damaged_as_none (refused n) = holding_told (holds none no_call)
damaged_as_none (holds o c) = holding_told (holds o c)

pub refused_as_none : Wrong damaged_as_none
refused_as_none h = let z : ◌≡◌ {A = ℕ} 0 1 = cc (h.heard_as_told (refused 9) Tells.by_9) in omega arith

-- A DRAINED GRAPH

-- the wrong way round: a host would stop with jobs that wait
abbrev contrary : DrainedTold → Drained
contrary (DrainedTold.refused n) = drained_told (DrainedTold.refused n)
contrary drained = drained_told not_drained
contrary not_drained = drained_told drained

pub drained_the_wrong_way_round : DrainedHeard contrary → ⊥
drained_the_wrong_way_round h =
    let z : ◌≡◌ {A = ℕ} 0 1 = cc (h.heard_as_told drained TellsDrained.yes) in omega arith

-- damaged words are told as a graph that is not drained: the host waits for ever
abbrev patient : DrainedTold → Drained
patient (DrainedTold.refused n) = drained_told not_drained
patient drained = drained_told drained
patient not_drained = drained_told not_drained

pub refused_as_not_drained : DrainedHeard patient → ⊥
refused_as_not_drained h =
    let z : ◌≡◌ {A = ℕ} 0 1 = cc (h.heard_as_told (DrainedTold.refused 9) TellsDrained.by_9) in omega arith
