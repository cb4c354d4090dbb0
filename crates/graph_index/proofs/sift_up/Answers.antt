-- `graph_index::sift_up` meets its contract: each way through an iteration is a case of one level of the way up.
use mathlib.Core.Path.{◌≡◌}
use Prim.Native.Nat.{ℕ, ◌-◌, ◌+◌, ◌<◌, ◌≤◌}
use native.Mathlib.Omega.{arith}
use borrow.Author.Tests.{eq-eqb, ne_eqb, lt-ltb, le-ltb}
use Rattle.def_words.specs.Index.{levels}
use Rattle.graph_index.proofs.Laws.{up_none, up_one}
use Rattle.graph_index.proofs.sift_up.Goals as goal

more : {n k : ℕ} → k < n → 0 < n - k
more h = omega arith

spent : {n k : ℕ} → n ≤ k → n - k ≤ 0
spent h = omega arith

pub returns-then-at-eq0 : goal.returns-then-at-eq0
returns-then-at-eq0 c =
    λ arcs buckets workers.
    rw (
      ← c.loop.invariant arcs buckets workers,
      up_one _ _ _ _ _ _ (more c.loop-test.true),
      eq-eqb c.loop.at 0 c.if-at-eq0.true,
    )

pub returns-in_default : goal.returns-in_default
returns-in_default c =
    λ arcs buckets workers.
    rw (
      ← c.loop.invariant arcs buckets workers,
      up_one _ _ _ _ _ _ (more c.loop-test.true),
      ne_eqb c.loop.at 0 c.if-at-eq0.false,
      ← c.look.ensures arcs buckets workers,
      c.in_default.is,
    )

pub returns-then-above-rank : goal.returns-then-above-rank
returns-then-above-rank c =
    λ arcs buckets workers.
    rw (
      ← c.loop.invariant arcs buckets workers,
      up_one _ _ _ _ _ _ (more c.loop-test.true),
      ne_eqb c.loop.at 0 c.if-at-eq0.false,
      ← c.look.ensures arcs buckets workers,
      c.in-Some.is,
      le-ltb c.args.rank c.in-Some.above.rank c.if-above-rank.true,
    )

pub loop-preserved : goal.loop-preserved
loop-preserved c =
    let one : levels - (c.loop.counter + 1) ≡ levels - c.loop.counter - 1 = omega arith in
    λ arcs buckets workers.
    rw (
      one,
      ← c.loop.invariant arcs buckets workers,
      up_one _ _ _ _ _ _ (more c.loop-test.true),
      ne_eqb c.loop.at 0 c.if-at-eq0.false,
      ← c.look.ensures arcs buckets workers,
      c.in-Some.is,
      lt-ltb c.args.rank c.in-Some.above.rank c.if-above-rank.false,
    )

pub returns-after-loop : goal.returns-after-loop
returns-after-loop c =
    λ arcs buckets workers.
    rw (← c.loop.invariant arcs buckets workers, up_none _ _ _ _ _ _ (spent c.loop-test.false))
