-- `add_all` adds every entry. The loop's invariant: the entries that are left, added to what stands, make the whole.
use mathlib.Core.Path.{sym, ◌∙◌}
use native.Mathlib.Omega.{arith}
use native.Mathlib.Numerals.{add-one}
use Rattle.lent_graph.specs.Lent.{same_on}
use Rattle.day_adds.proofs.Laws.{entry_inside, next_entry, last_entry}
use Rattle.day_adds.proofs.add_all.Goals as goal

pub returns-in_default-clause-printed : goal.returns-in_default-clause-printed
returns-in_default-clause-printed c =
    last_entry _ _ _ _ _ _ _ _ c.read-reading.ensures (sym c.after.ensures ∙ c.in_default.is)
    ∙ c.loop-next.invariant.2

pub overflow_add-number : goal.overflow_add-number
overflow_add-number c =
    let l = c.loop-next in
    let s = entry_inside _ l.at _ c.read-reading.ensures _ (sym c.after.ensures ∙ c.in-Some.is) in
    omega (arith, s.0, s.1, l.invariant.1)

pub loop-next-smaller : goal.loop-next-smaller
loop-next-smaller c =
    let s = entry_inside _ c.loop-next.at _ c.read-reading.ensures _ (sym c.after.ensures ∙ c.in-Some.is) in
    omega (arith, s.0, s.1)

pub loop-next-preserved : goal.loop-next-preserved
loop-next-preserved c =
    let l = c.loop-next in
    let told = sym c.after.ensures ∙ c.in-Some.is in
    let s = entry_inside _ l.at _ c.read-reading.ensures _ told in
    let i = l.invariant in
    let e = c.add_entry-offset.ensures in
    let n = next_entry _ _ _ l.at _ _ _ _ c.read-reading.ensures _ _ told (rw i.0.sizes at e.printed) in
    (same_on i.0 e.same, omega (arith, s.0, i.1), rw add-one (n ∙ i.2))
