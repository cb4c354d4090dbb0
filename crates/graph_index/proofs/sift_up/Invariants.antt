-- `graph_index::sift_up` meets its contract. The loop's invariant: what is left of the way up ends as the whole way
-- does.
use mathlib.Core.Path.{◌≡◌}
use mathlib.Core.List.{List}
use Prim.Native.Nat.{ℕ, ◌-◌}
use Rattle.def_heap.specs.Sift.{sift_up}
use Rattle.def_heap.specs.declared.Sifted.{Sifted}
use Rattle.def_words.specs.Layout.{tables, view, View}
use Rattle.def_words.specs.Index.{rank_of, waits, cell_in, levels}
use Rattle.graph_index.proofs.sift_up.Given as goal

-- the way up of what a view holds
abbrev pub up : View → ℕ → ℕ → ℕ → Sifted
up v = sift_up (rank_of v) (waits v) (cell_in v)

abbrev pub invariant-loop : goal.invariant-loop
invariant-loop l =
    (arcs buckets workers : List ℕ)
    → up (view (tables l.jobs arcs buckets l.queue workers)) (levels - l.counter) l.rank l.at
    ≡ up (view (tables l.jobs arcs buckets l.queue workers)) levels l.rank l.slot
