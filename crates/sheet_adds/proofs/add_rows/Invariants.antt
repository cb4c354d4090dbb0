-- `add_rows` adds the rows in order. The loop's invariant: what is left makes the whole.
use mathlib.Core.Path.{◌≡◌}
use Prim.Native.Nat.{◌-◌}
use Rattle.def_words.specs.Layout.{tables}
use Rattle.def_sheet_rows.specs.SheetRows.{no_entries}
use Rattle.sheet_adds.specs.Left.{left, stops, told}
use Rattle.sheet_adds.proofs.add_rows.Given as goal

abbrev pub invariant-loop-row : goal.invariant-loop-row
invariant-loop-row l =
    let s = l.sizes in
    let t = tables l.jobs l.arcs l.buckets l.queue l.workers in
    let lent = tables l.initial.jobs l.initial.arcs l.initial.buckets l.initial.queue l.initial.workers in
    told l.numbers l.places l.stopped l.row
    (left s l.worker l.rows l.row (l.count - l.row) t)
    (stops s l.worker l.rows l.row (l.count - l.row) t)
    ≡ told no_entries no_entries 0 0
    (left s l.worker l.rows 0 l.count lent)
    (stops s l.worker l.rows 0 l.count lent)
