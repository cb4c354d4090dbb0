-- `get_all` has every worker get. The loop's invariant: the gets that are left, after those made, make the whole.
use Prim.Native.Nat.{suc, ◌-◌}
use mathlib.Core.Path.{◌≡◌, ◌∙◌}
use native.Mathlib.Omega.{arith}
use native.Mathlib.Numerals.{add-one}
use Rattle.lent_graph.specs.Lent.{words, same_on}
use Rattle.day_calls.proofs.gets.Laws.{get_first, gets_over}
use Rattle.day_calls.proofs.gets.get_all.Goals as goal

pub loop-worker-preserved : goal.loop-worker-preserved
loop-worker-preserved c =
    let l = c.loop-worker in
    let i = l.invariant in
    let z = c.args.graph.now.sizes in
    let e = c.get_one.ensures in
    let k : z.workers - l.worker ≡ suc (z.workers - suc l.worker) = omega arith in
    let s = get_first z (z.workers - suc l.worker) l.worker _ _ _ (rw i.0.sizes at e.got) in (
      same_on i.0 e.same,
      omega (arith, e.one_more),
      rw (add-one l.worker) (s ∙ rw k at i.2),
    )

pub returns-clause-got : goal.returns-clause-got
returns-clause-got c =
    let l = c.loop-worker in
    let s = gets_over c.args.graph.now.sizes l.worker (words l.graph) l.holders (omega (arith, c.min-worker-end.ensures)) in
    rw s at l.invariant.2
