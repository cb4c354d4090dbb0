-- `number` answers the number in so many bytes.
use Rattle.std.proofs.Common.{◌∙◌}
use Rattle.entry_scan.proofs.Numbers.{in_four}
use Rattle.entry_scan.proofs.number.Goals as goal

pub returns : goal.returns
returns g c =
    c.from_le_bytes.ensures ∙ in_four g.row.WIDTH c.args.s.now c.args.at c.requires.width c.requires.inside c.copy_from_slice.ensures.after
