-- `known` says whether a name is there. The loop's invariant is `Walk`: no name that is looked for was passed.
-- The measure is the walk's place, which falls because a link leads to an older name.
use Rattle.std.proofs.Common.{◌-◌, arith}
use Rattle.def_bucket.specs.Laws.{below}
use Rattle.sheet_room.specs.Buckets.{table_bits}
use Rattle.sheet_room.proofs.Walks.{walk_start, walk_found, walk_on, walk_over}
use Rattle.sheet_room.proofs.Walks.{link_within}
use Rattle.sheet_room.proofs.table.Names.known.Goals as goal

pub bounds-self-inside-bucket : goal.bounds-self-inside-bucket
bounds-self-inside-bucket c = rw c.bucket.ensures (below c.args.name table_bits)

pub loop-h-init : goal.loop-h-init
loop-h-init c = walk_start c.self.invariant _ _ c.bucket.ensures

pub returns-then-self-h : goal.returns-then-self-h
returns-then-self-h c =
    rw (← c.self.view_is)
    (walk_found c.self.invariant _ c.loop-h.h c.loop-h.invariant c.loop-h-test.true c.if-self-h.true)

pub loop-h-smaller : goal.loop-h-smaller
loop-h-smaller c = omega (arith, link_within c.self.invariant (c.loop-h.h - 1) (omega arith))

pub loop-h-preserved : goal.loop-h-preserved
loop-h-preserved c =
    walk_on c.self.invariant _ c.loop-h.h c.loop-h.invariant c.loop-h-test.true c.if-self-h.false

pub returns : goal.returns
returns c =
    rw (← c.self.view_is) (walk_over c.self.invariant _ c.loop-h.h c.loop-h.invariant c.loop-h-test.false)
