-- `look_ups` meets its contract: the loop's invariant: the look-ups that are left end as all do, and
-- each job found so far is kept.
use mathlib.Core.Path.{◌≡◌, ◌∙◌}
use Prim.Native.Nat.{◌<◌}
use native.Mathlib.Nat.{lt_of_lt_of_le}
use native.Mathlib.Omega.{arith}
use lib.ListN.{length}
use Rattle.def_words.specs.Layout.{tables, view}
use Rattle.fused_plan.proofs.Laws.{told, on, missing, broken, done, kept_one, all_kept, not_unknown}
use Rattle.fused_plan.proofs.Laws.{not_broken}
use Rattle.fused_plan.proofs.look_ups.look_ups.Goals as goal

pub returns-in-Missing : goal.returns-in-Missing
returns-in-Missing c =
    λ arcs queue workers.
    let l = c.loop-i in
    let e = told _ _ c.word.ensures (c.find.ensures arcs queue workers)
    c.in-Missing.is in
    (missing _ _ _ _ _ c.loop-i-test.true e ∙ (l.invariant.1 arcs queue workers).0, λ b q. absurd (not_unknown q))

pub returns-in-Damaged : goal.returns-in-Damaged
returns-in-Damaged c =
    λ arcs queue workers.
    let l = c.loop-i in
    let e = told _ _ c.word.ensures (c.find.ensures arcs queue workers)
    c.in-Damaged.is in
    (broken _ _ _ _ _ c.loop-i-test.true e ∙ (l.invariant.1 arcs queue workers).0, λ b q. absurd (not_broken q))

pub loop-i-preserved : goal.loop-i-preserved
loop-i-preserved c =
    let l = c.loop-i in
    let a = c.args in (
      c.put_word.auto.s ∙ l.invariant.0,
      λ arcs queue workers.
          let v = view (tables a.jobs.now arcs a.buckets.now queue workers) in
          let e = told a.sizes v c.word.ensures
          (c.find.ensures arcs queue workers) c.in-At.is in (
            on a.sizes v _ _ _ _ c.loop-i-test.true e ∙ (l.invariant.1 arcs queue workers).0,
            λ b.
                let h : l.i < length l.found = rw l.invariant.0 (lt_of_lt_of_le c.loop-i-test.true b) in
                rw c.put_word.ensures
                (kept_one a.sizes v a.names.now l.found l.i _ ((l.invariant.1 arcs queue workers).1 b) h e),
          ),
    )

pub returns : goal.returns
returns c =
    λ arcs queue workers.
    let l = c.loop-i in
    let z : l.i ≡ c.args.count = omega arith in (
      done _ _ c.args.count _ l.i (omega arith) (omega arith)
          ∙ (l.invariant.1 arcs queue workers).0,
      λ b q. all_kept _ _ _ _ _ (rw (← z) ((l.invariant.1 arcs queue workers).1 b)),
    )
