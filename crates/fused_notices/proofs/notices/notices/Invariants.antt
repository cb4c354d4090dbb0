-- `notices` meets its contract. The loop's invariant: the notices that are left make the whole.
use mathlib.Core.List.{List}
use mathlib.Core.Path.{◌≡◌}
use Prim.Native.Nat.{ℕ, ◌-◌}
use lib.ListN.{length}
use Rattle.def_words.specs.Layout.{tables}
use Rattle.def_fused.specs.FusedFinish.{notify_in}
use Rattle.fused_notices.proofs.notices.notices.Given as goal

abbrev pub invariant-loop : goal.invariant-loop
invariant-loop l =
    (length l.jobs ≡ length l.initial.jobs)
    × (length l.queue ≡ length l.initial.queue)
    × ((buckets workers : List ℕ) (w : ℕ)
    → notify_in (l.sizes.arcs - l.counter) l.sizes w l.note l.arc (tables l.jobs l.arcs buckets l.queue workers)
    ≡ notify_in l.sizes.arcs l.sizes w l.note l.first (tables l.initial.jobs l.arcs buckets l.initial.queue workers))
