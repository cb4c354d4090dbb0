-- `graph_first::sift_down` meets its contract: each way through an iteration is a case of one level of the way down.
use mathlib.Core.Path.{◌≡◌}
use Prim.Native.Nat.{ℕ, ◌+◌, ◌-◌, ◌≤◌, ◌<◌}
use native.Mathlib.Omega.{arith}
use borrow.Author.Tests.{lt-ltb, le-ltb}
use Rattle.def_heap.specs.Sift.{left}
use Rattle.def_words.specs.Index.{levels}
use Rattle.graph_first.proofs.Laws.{down_none, down_one, count_none, count_one}
use Rattle.graph_first.proofs.sift_down.Goals as goal

more : {n k : ℕ} → k < n → 0 < n - k
more h = omega arith

spent : {n k : ℕ} → n ≤ k → n - k ≤ 0
spent h = omega arith

pub returns-then-at-filled : goal.returns-then-at-filled
returns-then-at-filled c =
    λ arcs buckets workers.
    let kept = c.loop.invariant.0 arcs buckets workers in (
      rw (
        ← kept.0,
        down_one _ _ _ _ _ _ _ (more c.loop-test.true),
        le-ltb (left c.loop.at) c.args.filled c.if-at-filled.true,
      ),
      λ moved e.
          rw (
            ← kept.1 moved e,
            count_one _ _ _ _ _ _ _ _ (more c.loop-test.true) e,
            le-ltb (left c.loop.at) c.args.filled c.if-at-filled.true,
          )
          (omega arith),
    )

pub returns-in_default : goal.returns-in_default
returns-in_default c =
    λ arcs buckets workers.
    let kept = c.loop.invariant.0 arcs buckets workers in (
      rw (
        ← kept.0,
        down_one _ _ _ _ _ _ _ (more c.loop-test.true),
        lt-ltb (left c.loop.at) c.args.filled c.if-at-filled.false,
        ← c.lesser-met.ensures.0 arcs buckets workers,
        c.in_default.is,
      ),
      λ moved e.
          rw (
            ← kept.1 moved e,
            count_one _ _ _ _ _ _ _ _ (more c.loop-test.true) e,
            lt-ltb (left c.loop.at) c.args.filled c.if-at-filled.false,
            ← c.lesser-met.ensures.0 arcs buckets workers,
            c.in_default.is,
          )
          (omega arith),
    )

pub returns-then-below-rank : goal.returns-then-below-rank
returns-then-below-rank c =
    λ arcs buckets workers.
    let kept = c.loop.invariant.0 arcs buckets workers in (
      rw (
        ← kept.0,
        down_one _ _ _ _ _ _ _ (more c.loop-test.true),
        lt-ltb (left c.loop.at) c.args.filled c.if-at-filled.false,
        ← c.lesser-met.ensures.0 arcs buckets workers,
        c.in-Some.is,
        le-ltb c.in-Some.below.rank c.args.rank c.if-below-rank.true,
      ),
      λ moved e.
          rw (
            ← kept.1 moved e,
            count_one _ _ _ _ _ _ _ _ (more c.loop-test.true) e,
            lt-ltb (left c.loop.at) c.args.filled c.if-at-filled.false,
            ← c.lesser-met.ensures.0 arcs buckets workers,
            c.in-Some.is,
            le-ltb c.in-Some.below.rank c.args.rank c.if-below-rank.true,
          )
          (omega arith),
    )

pub loop-preserved : goal.loop-preserved
loop-preserved c =
    let one : levels - (c.loop.counter + 1) ≡ levels - c.loop.counter - 1 = omega arith in (
      λ arcs buckets workers.
          let kept = c.loop.invariant.0 arcs buckets workers in (
            rw (
              one,
              ← kept.0,
              down_one _ _ _ _ _ _ _ (more c.loop-test.true),
              lt-ltb (left c.loop.at) c.args.filled c.if-at-filled.false,
              ← c.lesser-met.ensures.0 arcs buckets workers,
              c.in-Some.is,
              lt-ltb c.in-Some.below.rank c.args.rank c.if-below-rank.false,
            ),
            λ moved e.
                rw (
                  one,
                  ← kept.1 moved e,
                  count_one _ _ _ _ _ _ _ _ (more c.loop-test.true) e,
                  lt-ltb (left c.loop.at) c.args.filled c.if-at-filled.false,
                  ← c.lesser-met.ensures.0 arcs buckets workers,
                  c.in-Some.is,
                  lt-ltb c.in-Some.below.rank c.args.rank c.if-below-rank.false,
                )
                (omega arith),
          ),
      omega (arith, c.lesser-met.ensures.1, c.loop.invariant.1, c.loop-test.true),
    )

pub returns-after-loop : goal.returns-after-loop
returns-after-loop c =
    λ arcs buckets workers.
    let kept = c.loop.invariant.0 arcs buckets workers in (
      rw (
        ← kept.0,
        down_none _ _ _ _ _ _ _ (spent c.loop-test.false),
      ),
      λ moved e.
          rw (
            ← kept.1 moved e,
            count_none _ _ _ _ _ _ _ (spent c.loop-test.false),
          )
          (omega arith),
    )
