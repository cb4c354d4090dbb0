-- When a job that waits is handed out, of lists of host calls: by the (k+1)th hand-out, where k jobs are before it in
-- the order of hand-outs. Of any machine, at any state of it. Follows docs/RULES.md, "Steps".
use Rattle.std.specs.Prelude.{◌≡◌, true, List, map, ℕ, ◌<◌}
use Rattle.def_basics.specs.Base.{occurrences}
use Rattle.def_terms.specs.Order.{ahead}
use Rattle.def_terms.specs.Seen.{Seen}
use Rattle.def_terms.specs.declared.HandOut.{HandOut}
use Rattle.def_demand.specs.LongFirst.{long_first, InTurn}
use Rattle.def_host_calls.specs.HostCalls.{HostCall, Replied, after_calls, queue_entries_by_calls}
use Rattle.def_audit.specs.Audit.{handed_in, told_by}

module _ {S : Type 0} (answer : S → HostCall → Replied S) (see : S → Seen) (state : S) where
  -- "only while no heavier job enters": none that goes before j has an entry into the queue by the calls
  abbrev pub NoHeavierEnters : ℕ → List HostCall → Type 0
  NoHeavierEnters j later =
      (k : ℕ) → long_first (see (after_calls answer state later)) k j ≡ true
      → queue_entries_by_calls answer (λ x. (see x).waiting) state later k ≡ 0

  -- "A job with k jobs before it in the queue is handed out by the (k+1)th get that hands one out", where "before it
  -- means before it in this order, and only while no heavier job enters"
  abbrev pub ByCount : Type 0
  ByCount =
      (j : ℕ) → 0 < occurrences j (see state).waiting → (later : List HostCall) → NoHeavierEnters j later
      → InTurn j (ahead (long_first (see state)) j (see state).waiting)
      (map (λ (h : HandOut). h.job) (handed_in (told_by answer state later))) (see (after_calls answer state later))
