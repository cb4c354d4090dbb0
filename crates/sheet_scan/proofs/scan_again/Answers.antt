-- `scan_again` answers the numbers of an entry that is no refusal.
use Rattle.std.proofs.Common.{arith}
use Rattle.sheet_scan.proofs.Bits.{unrefused, scan_sound}
use Rattle.sheet_scan.proofs.scan_again.Goals as goal

pub returns-then-count-le-MOST_NAMES : goal.returns-then-count-le-MOST_NAMES
returns-then-count-le-MOST_NAMES c =
    λ sound.
    let a = c.args in
    rw (c.by_bits.ensures, c.number.ensures, c.from-map.ensures) (unrefused a.s.now a.at (omega arith) sound).0

pub returns : goal.returns
returns c = λ sound. rw (c.unwrap_or.ensures, c.scan.ensures) (scan_sound c.args.s.now c.args.at sound)
