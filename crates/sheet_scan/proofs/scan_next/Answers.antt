-- `scan_next` answers the numbers of the entry at an offset.
use Rattle.std.proofs.Common.{◌&&◌, leb, eqb, arith, sym, ◌∙◌}
use Rattle.std.proofs.Common.{eqb-true}
use Rattle.def_numbers.specs.Numbers.{most_names}
use Rattle.def_sheets.specs.Choice.{both}
use Rattle.sheet_scan.proofs.Bits.{name_alone, name_and_list}
use Rattle.sheet_scan.proofs.scan_next.Goals as goal

pub returns-then-map-eq-NAME_ALONE : goal.returns-then-map-eq-NAME_ALONE
returns-then-map-eq-NAME_ALONE c =
    let a = c.args in
    rw c.number.ensures (name_alone a.s.now a.at (omega arith)
    (sym c.from-map.ensures ∙ c.if-map-eq-NAME_ALONE.true))

pub returns-then-map-listed : goal.returns-then-map-listed
returns-then-map-listed c =
    let a = c.args in
    let map = c.from-map in
    let count = c.number-count in
    let t = both (eqb map.result 3) (leb 1 count.result && leb count.result most_names)
    c.if-map-listed.true in
    rw (c.number-then-map-listed.ensures, count.ensures)
    (name_and_list a.s.now a.at (omega arith) (sym map.ensures ∙ eqb-true map.result 3 t.0)
    (rw count.ensures at t.1))
