-- `graph_records::fill` meets its contract: past the table's end a run stores nothing.
use Prim.Native.Nat.{◌-◌, ◌<◌}
use mathlib.Core.Path.{◌∙◌}
use native.Mathlib.Omega.{arith}
use lib.ListN.{length-set}
use Rattle.graph_records.proofs.Laws.{fill_one, fill_none, fill_clipped}
use Rattle.graph_records.proofs.fill.Goals as goal

pub loop-i-preserved : goal.loop-i-preserved
loop-i-preserved c =
    let l = c.loop-i in
    let more : l.i < c.min-end.result = omega arith in (
      fill_one _ _ _ _ more ∙ l.invariant.0,
      simp length-set l.invariant.1,
    )

pub returns : goal.returns
returns c =
    let a = c.args in
    let l = c.loop-i in
    let end = c.min-end.result in
    fill_none l.s l.i end a.value (omega arith)
    ∙ l.invariant.0
    ∙ fill_clipped (end - a.from) a.count a.s.now a.from a.value (omega arith) (λ h. omega arith)
