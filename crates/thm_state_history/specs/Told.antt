-- What a worker is to be told, by items and their answers alone: the job that it holds, by the calls decided so far,
-- with the name that the get told, and whether it is spoiled, when it handed the job out; and its call half done. The
-- numbers are those of docs/RULES.md and of include/taskgraph.h.
use Rattle.std.proofs.Math.Option.{Option, none, some}
use Rattle.std.specs.Prelude.{ℕ, ltb}
use Rattle.def_basics.specs.Base.{pick}
use Rattle.def_terms.specs.Terms.{same_sizes, bit}
use Rattle.def_terms.specs.declared.Sizes.{Sizes}
use Rattle.def_terms.specs.declared.HandOut.{HandOut}
use Rattle.def_call_order.specs.Calls.{Pending, idle, adding, finishing, Reading}
use Rattle.def_call_order.specs.Holds.{handed_read}
use Rattle.def_worker_state.specs.declared.Holding.{Holding}

-- ---- the call: 0 where none is half done, 1 for an add and 2 for a finish; and the name that an add brings
abbrev pub call_read : Pending → ℕ
call_read idle = 0
call_read (adding a k) = 1
call_read (finishing f k) = 2

abbrev pub adds_read : Pending → ℕ
adds_read idle = 0
adds_read (adding a k) = a.name
adds_read (finishing f k) = 0

-- ---- what is told: of the job what the get told that handed it out
abbrev pub holding_read : Option HandOut → Pending → Holding
holding_read none p =
    record { number = 0; holds = 0; job = 0; name = 0; call = call_read p; adds = adds_read p; spoiled = 0 }
holding_read (some h) p =
    record {
      number = 0;
      holds = 1;
      job = h.job;
      name = h.name;
      call = call_read p;
      adds = adds_read p;
      spoiled = bit h.spoiled;
    }

abbrev pub turned_away : ℕ → Holding
turned_away n = record { number = n; holds = 0; job = 0; name = 0; call = 0; adds = 0; spoiled = 0 }

-- asked with the sizes q of a graph that was laid out by s, of any worker: 1, then 2
abbrev pub told : Sizes → Sizes → Reading → ℕ → Holding
told q s r w =
    pick (same_sizes q s) (pick (ltb w s.workers) (holding_read (handed_read r w) (r.pending w)) (turned_away 2))
    (turned_away 1)
