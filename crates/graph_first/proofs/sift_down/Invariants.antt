-- `graph_first::sift_down` meets its contract. The loop's invariant: what is left of the way down ends as the whole way
-- does, the pairs that were compared and those that are left are those of the whole way, and at most two pairs were
-- compared for each level passed.
use mathlib.Core.Path.{◌≡◌}
use mathlib.Core.List.{List}
use Prim.Native.Nat.{ℕ, ◌+◌, ◌-◌, ◌*◌, ◌≤◌}
use lib.ListN.{length}
use Rattle.def_heap.specs.Compared.{pairs_down}
use Rattle.def_heap.specs.Sift.{sift_down}
use Rattle.def_heap.specs.declared.Sifted.{Sifted}
use Rattle.def_words.specs.Layout.{tables, view, View}
use Rattle.def_words.specs.Index.{rank_of, waits, cell_in, levels}
use Rattle.graph_first.proofs.sift_down.Given as goal

-- the way down of what a view holds, and how many pairs are compared on it
abbrev pub down : View → ℕ → ℕ → ℕ → ℕ → Sifted
down v = sift_down (rank_of v) (waits v) (cell_in v)

abbrev pub pairs : View → ℕ → ℕ → ℕ → ℕ → ℕ
pairs v n m moved i = length (pairs_down (rank_of v) (waits v) (cell_in v) n m moved i)

abbrev pub invariant-loop : goal.invariant-loop
invariant-loop l =
    ((arcs buckets workers : List ℕ)
    → (down (view (tables l.jobs arcs buckets l.queue workers)) (levels - l.counter) l.filled l.rank l.at
    ≡ down (view (tables l.jobs arcs buckets l.queue workers)) levels l.filled l.rank 0)
    × ((moved : ℕ) → rank_of (view (tables l.jobs arcs buckets l.queue workers)) moved ≡ l.rank
    → l.compared + pairs (view (tables l.jobs arcs buckets l.queue workers)) (levels - l.counter) l.filled moved l.at
    ≡ pairs (view (tables l.jobs arcs buckets l.queue workers)) levels l.filled moved 0))
    × (l.compared + 2 * (levels - l.counter) ≤ 24)
