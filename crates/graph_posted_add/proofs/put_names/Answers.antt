-- `graph_posted_add::put_names` meets its contract: what is left to store, from the present name on, makes the same
-- record as all of it; past the last listed name that is 0.
use mathlib.Core.Path.{◌≡◌, ◌∙◌}
use native.Mathlib.Omega.{arith}
use Rattle.std.proofs.lemmas.List.{get_or-take}
use Rattle.def_numbers.specs.Numbers.{most_names}
use Rattle.graph_posted_add.proofs.Laws.{names_one, names_rest}
use Rattle.graph_posted_add.proofs.put_names.Goals as goal

pub loop-i-preserved : goal.loop-i-preserved
loop-i-preserved c =
    let e = c.args.entry.now in
    let l = c.loop-i in
    let one = names_one most_names e.count e.names l.workers c.names_at-from.result l.i (omega arith) (omega arith) in (
      rw (c.put_word.ensures, get_or-take c.min-listed.result e.names l.i 0 (omega arith)) (one ∙ l.invariant.0),
      c.put_word.auto.s ∙ l.invariant.1,
    )

pub returns : goal.returns
returns c =
    let e = c.args.entry.now in
    let listed = c.min-listed.result in
    let all : c.loop-i.i ≡ listed = omega arith in
    let rest = names_rest most_names e.count listed e.names (omega arith) (omega arith) (λ h. omega arith) in
    rw (
      c.fill.ensures,
      ← rest,
      ← all,
      ← c.names_at-from.ensures,
    )
    c.loop-i.invariant.0
