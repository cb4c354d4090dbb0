-- `enter` stores a name as the newest of its bucket: a bucket is below the bucket count.
use Rattle.std.proofs.Common.{length, ap, arith, length-take-le}
use Rattle.def_bucket.specs.Laws.{below}
use Rattle.sheet_room.specs.Buckets.{table_bits}
use Rattle.sheet_room.proofs.Entering.{kept}
use Rattle.sheet_room.proofs.table.Names.enter.Goals as goal

pub bounds-self-inside-newest : goal.bounds-self-inside-newest
bounds-self-inside-newest c = rw c.bucket-newest.ensures (below c.args.name table_bits)

pub bounds-self-inside-newest-2 : goal.bounds-self-inside-newest-2
bounds-self-inside-newest-2 c = rw c.bucket-newest.ensures (below c.args.name table_bits)

pub invariant_of-self : goal.invariant_of-self
invariant_of-self c =
    let i = c.self.inside in
    let x = c.self.invariant in
    let l = length-take-le i.made i.names (omega (arith, x.room, x.places)) in
    rw c.bucket-newest.ensures (kept i.names i.heads i.links i.made c.args.name x (omega (arith, ap length c.self.view_is)))
