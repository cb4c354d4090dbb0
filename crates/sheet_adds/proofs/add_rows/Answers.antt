-- `add_rows` adds the rows in order. The loop's invariant: what is left makes the whole.
use mathlib.Core.Path.{◌≡◌, sym, ◌∙◌}
use Prim.Native.Nat.{suc, ◌+◌, ◌-◌}
use native.Mathlib.Omega.{arith}
use Rattle.def_words.specs.Layout.{tables}
use Rattle.sheet_adds.specs.Left.{row_told, none_left, added}
use Rattle.sheet_adds.proofs.add_rows.Goals as goal

pub loop-row-preserved : goal.loop-row-preserved
loop-row-preserved c =
    let l = c.loop-row in
    let a = c.args in
    let e = rw c.row_entry-entry.ensures at c.add_if_idle-answer.ensures in
    let more : a.count - l.row ≡ suc (a.count - (l.row + 1)) = omega arith in
    rw (
      c.first_stop-stopped.ensures,
      c.stopped_as.ensures,
      c.worker_word-after.ensures,
      c.worker_word-before.ensures,
      c.place_of.ensures,
      c.number_of-number.ensures,
    )
    (row_told a.graph.now.sizes a.worker a.rows.now l.row _ _ _ _ l.numbers l.places l.stopped more e)
    ∙ l.invariant

pub returns-clause-added : goal.returns-clause-added
returns-clause-added c =
    let l = c.loop-row in
    let a = c.args in
    let s = a.graph.now.sizes in
    let e = sym (none_left s a.worker a.rows.now l.row (a.count - l.row)
    (tables l.jobs l.arcs l.buckets l.queue l.workers) l.numbers l.places l.stopped (omega arith))
    in
    added s a.worker a.rows.now a.count _ _ (e ∙ l.invariant)
