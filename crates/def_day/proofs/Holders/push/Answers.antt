-- `push` puts the holder in the first blank place.
use Rattle.std.proofs.Common.{◌∙◌, ◌<◌, length, take, arith, length-set, length-take-le}
use Rattle.def_numbers.specs.Numbers.{most_workers}
use Rattle.def_day.specs.Places.{blanks_less}
use Rattle.def_day.proofs.Holders.push.Goals as goal

pub invariant_of-self : goal.invariant_of-self
invariant_of-self c =
    let i = c.self.inside in
    let k = c.self.invariant in
    let room : length (take i.count i.holders) < most_workers = rw c.self.view_is c.requires in
    let n = length-take-le i.count i.holders (omega (arith, k.0, k.1)) in (
      omega (arith, room, n),
      length-set i.holders _ c.args.holder ∙ k.1,
      blanks_less i.count _ i.holders c.args.holder (omega arith) k.2,
    )
