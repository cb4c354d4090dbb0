-- `graph_index::seat_for` meets its contract: by what it reads and finds on the way.
use Rattle.graph_index.proofs.Seats.{seat_found, seat_none}
use mathlib.Core.Path.{◌∙◌}
use Rattle.graph_index.proofs.seat_for.Goals as goal

pub returns-then-taken-put : goal.returns-then-taken-put
returns-then-taken-put c =
    λ arcs buckets workers.
    seat_none _ _ _ c.header-taken.ensures c.header-put.ensures c.job_word-class.ensures
    c.then-taken-put.either

pub returns : goal.returns
returns c =
    λ arcs buckets workers.
    c.seated.ensures
    ∙ seat_found _ _ _ c.header-taken.ensures c.header-put.ensures
    c.job_word-class.ensures c.less-filled.ensures c.rank.ensures
    (c.sift_up.ensures arcs buckets workers) c.if-taken-put.false c.if-put-sizes.false c.if-class-gt-MOST_CLASS.false
