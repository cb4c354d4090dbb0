-- `graph_first::first_seat_counted` meets its contract: by what it reads and finds on the way.
use Rattle.graph_first.proofs.Seats.{first_none, last_none, first_found}
use mathlib.Core.Path.{sym, ◌∙◌}
use Rattle.graph_first.proofs.first_seat_counted.Goals as goal

pub returns-then-is_none : goal.returns-then-is_none
returns-then-is_none c =
    λ arcs buckets workers.
    first_none _ c.header-put.ensures c.header-taken.ensures
    c.less.ensures c.less-slot.ensures
    (c.look.ensures arcs buckets workers)
    c.if-is_none.ensures

pub returns-in_default : goal.returns-in_default
returns-in_default c =
    λ arcs buckets workers.
    last_none _ c.header-put.ensures c.header-taken.ensures
    c.less.ensures c.less-slot.ensures
    (c.look.ensures arcs buckets workers)
    c.if-is_none.ensures
    (sym c.in_default.is ∙ c.look-2.ensures arcs buckets workers)

pub returns : goal.returns
returns c =
    λ arcs buckets workers.
    let moved = c.sift_down-moved.ensures arcs buckets workers in
    let found =
    first_found _ c.header-put.ensures
    c.header-taken.ensures c.less.ensures c.less-slot.ensures
    (c.look.ensures arcs buckets workers)
    c.if-is_none.ensures
    (sym c.in-Some.is ∙ c.look-2.ensures arcs buckets workers)
    moved.0 moved.1 c.queue_word.ensures in
    (c.seated.ensures ∙ found.0, found.1)
