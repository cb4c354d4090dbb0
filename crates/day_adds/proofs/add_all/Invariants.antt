-- `add_all` adds every entry. The loop's invariant: the entries that are left, added to what stands, make the whole.
use Prim.Native.Nat.{◌-◌, ◌≤◌}
use mathlib.Core.Path.{◌≡◌}
use lib.ListN.{length}
use Rattle.def_day.specs.Rounds.{add_all}
use Rattle.lent_graph.specs.Lent.{words, Same}
use Rattle.day_text.specs.Page.{page}
use Rattle.day_entry.specs.Entered.{wrote}
use Rattle.day_adds.specs.Adding.{entries_at}
use Rattle.day_adds.proofs.add_all.Given as goal

abbrev pub invariant-loop-next : goal.invariant-loop-next
invariant-loop-next l =
    let s = l.initial.graph.sizes in
    Same l.initial.graph l.graph
    × (l.number ≤ l.at)
    × (wrote l.limit (page l.offset l.out) (add_all s l.number (entries_at l.sheet l.at) (words l.graph))
    ≡ wrote l.limit (page 0 l.initial.out) (add_all s 0 (entries_at l.sheet 0) (words l.initial.graph)))

abbrev pub decreases-loop-next : goal.decreases-loop-next
decreases-loop-next l = length l.sheet - l.at
