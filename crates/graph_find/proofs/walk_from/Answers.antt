-- `graph_find::walk_from` meets its contract: each step of the loop is a case of the walk.
use mathlib.Core.Path.{◌≡◌, sym, ◌∙◌}
use Prim.Native.Nat.{◌-◌, ◌+◌}
use native.Mathlib.Omega.{arith}
use Rattle.graph_find.proofs.Laws.{ends, spent, outside, here, on}
use Rattle.graph_find.proofs.walk_from.Goals as goal

pub returns-then-at : goal.returns-then-at
returns-then-at c = ends _ _ _ _ _ c.if-at.true ∙ c.loop.invariant

pub returns-then-at-made : goal.returns-then-at-made
returns-then-at-made c = outside _ _ _ _ _ c.if-at.false c.if-at-made.true ∙ c.loop.invariant

pub returns-then-job_word-name : goal.returns-then-job_word-name
returns-then-job_word-name c =
    here _ _ _ _ _ (omega (arith, c.loop-test.true)) c.if-at.false
    c.if-at-made.false (sym c.job_word.ensures ∙ c.if-job_word-name.true)
    ∙ c.loop.invariant

pub loop-preserved : goal.loop-preserved
loop-preserved c =
    let z : c.args.made - (c.loop.counter + 1) ≡ c.args.made - c.loop.counter - 1 = omega arith in
    rw (z, c.job_word-at.ensures)
    (on _ _ _ _ _ (omega (arith, c.loop-test.true))
    c.if-at.false c.if-at-made.false
    (λ q. c.if-job_word-name.false (c.job_word.ensures ∙ q))
    ∙ c.loop.invariant)

pub returns-then-at-2 : goal.returns-then-at-2
returns-then-at-2 c = ends _ _ _ _ _ c.if-at-2.true ∙ c.loop.invariant

pub returns-else-at-2 : goal.returns-else-at-2
returns-else-at-2 c = spent _ _ _ _ _ (omega (arith, c.loop-test.false)) c.if-at-2.false ∙ c.loop.invariant
