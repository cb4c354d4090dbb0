-- `add_sheet` judges a sheet and adds its rows.
use mathlib.Core.Path.{ap, ◌∙◌}
use Prim.Native.Nat.{◌/◌}
use native.Mathlib.Omega.{arith}
use lib.Dec.{ltb}
use lib.ListN.{length}
use borrow.Author.Tests.{eq-eqb, ne_eqb, lt-ltb}
use Rattle.def_numbers.specs.Numbers.{entry_words}
use Rattle.def_numbers.specs.Refusals.{refusal_number, number_told}
use Rattle.def_numbers.proofs.Refused.{refused}
use Rattle.sheet_adds.specs.Judged.{few, no_whole_rows, turned_rows, served_rows}
use Rattle.sheet_adds.proofs.add_sheet.Goals as goal

pub returns-then-rows-ne0-clause-added : goal.returns-then-rows-ne0-clause-added
returns-then-rows-ne0-clause-added c =
    let a = c.args in
    no_whole_rows a.graph.now.sizes _ a.worker a.rows.now _ (ne_eqb _ _ c.if-rows-ne0.true) c.turned_away.ensures

pub returns-in-Err-clause-added : goal.returns-in-Err-clause-added
returns-in-Err-clause-added c =
    let a = c.args in
    let h = refused c.in-Err.refusal in
    turned_rows a.graph.now.sizes _ a.worker a.rows.now _ _ (eq-eqb _ _ c.if-rows-ne0.false) c.judge_sheet.ensures
    (ap (λ r. ltb 0 (number_told r)) c.in-Err.is ∙ lt-ltb 0 (refusal_number c.in-Err.refusal) (omega (arith, h)))
    (rw (c.in-Err.is, ← c.into.ensures) c.turned_away-in-Err.ensures)

pub add_rows-requires : goal.add_rows-requires
add_rows-requires c =
    let a = c.args in (
      few a.graph.now.sizes _ a.worker (length a.rows.now / entry_words) _ c.judge_sheet.ensures
          (ap (λ r. ltb 0 (number_told r)) c.in_default.is),
      omega arith,
    )

pub returns-clause-added : goal.returns-clause-added
returns-clause-added c =
    let a = c.args in
    served_rows a.graph.now.sizes _ _ a.worker a.rows.now _ _ (eq-eqb _ _ c.if-rows-ne0.false) c.judge_sheet.ensures
    (ap (λ r. ltb 0 (number_told r)) c.in_default.is) c.add_rows.ensures.added
