-- `known` says whether a name is there. The loop's invariant is `Walk`: no name that is looked for was passed.
-- The measure is the walk's place, which falls because a link leads to an older name.
use Rattle.sheet_room.proofs.Walks.{Walk}
use Rattle.sheet_room.proofs.table.Names.known.Given as goal

abbrev pub invariant-loop-h : goal.invariant-loop-h
invariant-loop-h l = Walk l.self-inside.names l.self-inside.made l.name l.h

abbrev pub decreases-loop-h : goal.decreases-loop-h
decreases-loop-h l = l.h
