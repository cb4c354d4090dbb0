-- `day_list_of_two` prints the whole list of every sheet: the output suffices, so nothing is refused.
use mathlib.Core.Path.{◌≡◌, ◌∙◌, ap}
use Prim.Native.Nat.{ℕ, ◌≤◌}
use mathlib.Core.List.{List}
use lib.ListN.{length}
use native.Mathlib.Omega.{arith}
use Rattle.def_sheets.proofs.NumberLaws.{Bytes}
use Rattle.def_day_lines.specs.Day.{Printing}
use Rattle.thm_day_history.specs.Theorem.{nothing_is_refused}
use Rattle.day_of_two.proofs.day_list_of_two.Goals as goal

pub returns-in-Printed : goal.returns-in-Printed
unfolding Bytes
returns-in-Printed c =
    let a = c.args in
    let bytes : Bytes a.sheet.now = λ i. omega (arith, c.type_inv.sheet i) in
    let fits = nothing_is_refused a.sheet.now a.out.now bytes (omega arith) in
    let e = c.day_list.ensures ∙ fits in
    record {
      value = cc (ap (λ (p : Printing). p.answer) e, c.in-Printed.is);
      out_after = ap (λ (p : Printing). p.out) e;
    }

pub returns-in-Refused : goal.returns-in-Refused
unfolding Bytes
returns-in-Refused c =
    let a = c.args in
    let bytes : Bytes a.sheet.now = λ i. omega (arith, c.type_inv.sheet i) in
    let fits = nothing_is_refused a.sheet.now a.out.now bytes (omega arith) in
    let e = c.day_list.ensures ∙ fits in
    let z : ◌≡◌ {A = ℕ} 0 1 = cc (ap (λ (p : Printing). p.answer) e, c.in-Refused.is) in
    absurd (omega arith)
