-- `scan_by_bits` answers the numbers of an entry where the longest would fit.
use Rattle.std.proofs.Common.{◌%◌, ◌&&◌, ltb, eqb, sym, ◌∙◌}
use Rattle.def_sheets.specs.Choice.{both}
use Rattle.sheet_scan.proofs.Bits.{sure}
use Rattle.sheet_scan.proofs.scan_by_bits.Goals as goal

pub returns-then-within_if : goal.returns-then-within_if
returns-then-within_if c =
    let map = c.args.map in
    let m = c.requires.1 in
    let n = c.number.ensures in
    let l = c.by_bits-scanned.ensures in
    let t = both (ltb map 16 && eqb (map % 2) 1) c.within_if.result c.if-right-within_if.true in
    let u = both c.within_if-then-right-within_if.result c.within_if-then-right-within_if-2.result
    c.if-within_if.true in
    let list_within = sym c.within_if.ensures ∙ t.1 in
    let class_within = sym c.within_if-then-right-within_if.ensures ∙ u.0 in
    let grower_within = sym c.within_if-then-right-within_if-2.ensures ∙ u.1 in
    rw (l, n, m)
    (sure c.args.s.now c.args.at c.requires.0 (rw m at t.0) (rw (n, m) at list_within)
    (rw (l, n, m) at class_within) (rw (l, n, m) at grower_within))
