-- `link_all` meets its contract. The loop's invariant: the links that are left make the whole, and the tally is at most
-- the place.
use mathlib.Core.List.{List}
use mathlib.Core.Path.{◌≡◌}
use Prim.Native.Nat.{ℕ, ◌≤◌}
use lib.ListN.{length, drop}
use Rattle.def_basics.specs.Base.{prefix}
use Rattle.def_words.specs.Layout.{tables}
use Rattle.def_fused.specs.FusedAdd.{links}
use Rattle.fused_job.proofs.links.link_all.Given as goal

abbrev pub invariant-loop-place : goal.invariant-loop-place
invariant-loop-place l =
    (l.tally ≤ l.place)
    × (length l.jobs ≡ length l.initial.jobs)
    × (length l.arcs ≡ length l.initial.arcs)
    × ((buckets queue workers : List ℕ)
    → links l.sizes l.job l.first (drop l.place (prefix l.count l.found)) l.place (tables l.jobs l.arcs buckets queue workers) l.tally l.note
    ≡ links l.sizes l.job l.first (prefix l.count l.found) 0 (tables l.initial.jobs l.initial.arcs buckets queue workers) 0 0)
