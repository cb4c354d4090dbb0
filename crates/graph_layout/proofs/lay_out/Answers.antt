-- `graph_layout::lay_out` meets its contract: the code's test is the definition's, and sizes that have room have at
-- most 8 bits.
use mathlib.Core.Path.{sym, ◌∙◌}
use Rattle.def_words.specs.Words.{lay_out}
use Rattle.graph_layout.proofs.Laws.{room_bits}
use Rattle.graph_layout.proofs.lay_out.Goals as goal

pub returns-clause-answered : goal.returns-clause-answered
unfolding lay_out
returns-clause-answered c =
    let room = sym c.has_room.ensures ∙ c.if-not-has_room.false in
    rw (c.fresh_tables.ensures.fresh (room_bits _ _ room), room)

pub returns-then-not-has_room-clause-answered : goal.returns-then-not-has_room-clause-answered
unfolding lay_out
returns-then-not-has_room-clause-answered c = rw (← c.has_room.ensures, c.if-not-has_room.true)
