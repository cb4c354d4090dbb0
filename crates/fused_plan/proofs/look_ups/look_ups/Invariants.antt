-- `look_ups` meets its contract: the loop's invariant: the look-ups that are left end as all do, and
-- each job found so far is kept.
use mathlib.Core.List.{List}
use mathlib.Core.Path.{◌≡◌}
use Prim.Native.Nat.{ℕ, ◌≤◌}
use lib.ListN.{length, drop}
use Rattle.def_basics.specs.Base.{prefix}
use Rattle.def_words.specs.Layout.{tables, view}
use Rattle.def_fused.specs.FusedAdd.{look_ups}
use Rattle.fused_plan.proofs.Laws.{Kept}
use Rattle.fused_plan.proofs.look_ups.look_ups.Given as goal

abbrev pub invariant-loop-i : goal.invariant-loop-i
invariant-loop-i l =
    (length l.found ≡ length l.initial.found)
    × ((arcs queue workers : List ℕ)
    → (look_ups l.sizes (view (tables l.jobs arcs l.buckets queue workers)) (drop l.i (prefix l.count l.names)) l.i
    ≡ look_ups l.sizes (view (tables l.jobs arcs l.buckets queue workers)) (prefix l.count l.names) 0)
    × (l.count ≤ length l.initial.found → Kept l.sizes (view (tables l.jobs arcs l.buckets queue workers)) l.names l.found l.i))
