-- `run_rounds` runs rounds until one hands out nothing. The loop's invariant: the rounds that are left, after those
-- made, make the whole.
use Prim.Native.Nat.{suc, ◌+◌, ◌-◌, ◌<◌}
use mathlib.Core.Path.{◌≡◌, sym, ap, ◌∙◌}
use native.Mathlib.Omega.{arith}
use lib.ListN.{length}
use Rattle.std.proofs.lemmas.Grind.{common_steps}
use Rattle.lent_graph.specs.Lent.{same_on}
use Rattle.day_run.proofs.Laws.{round_on, round_last, no_round}
use Rattle.day_run.proofs.run_rounds.Goals as goal

pub returns-then-is_empty-clause-same : goal.returns-then-is_empty-clause-same
returns-then-is_empty-clause-same c = same_on c.loop.invariant.0 c.run_round-holders.ensures.same

pub returns-then-is_empty-clause-run : goal.returns-then-is_empty-clause-run
returns-then-is_empty-clause-run c =
    let l = c.loop in
    let i = l.invariant in
    let n = c.args.graph.now.sizes.jobs in
    let k : n + 1 - l.counter ≡ suc (n - l.counter) = omega arith in
    let none : length c.as_slice-holders.result.now ≡ 0 = grind (arith, common_steps, c.if-is_empty.ensures) in
    round_last (n - l.counter) _ _ _ _ _ (rw i.0.sizes at c.run_round-holders.ensures.run)
    (rw c.as_slice-holders.ensures.0 at none)
    ∙ rw k at i.2

pub loop-preserved : goal.loop-preserved
loop-preserved c =
    let l = c.loop in
    let i = l.invariant in
    let n = c.args.graph.now.sizes.jobs in
    let s = c.as_slice-holders in
    let r = c.run_round-holders.ensures in
    let k : n + 1 - l.counter ≡ suc (n - l.counter) = omega arith in
    let m : n + 1 - (l.counter + 1) ≡ n - l.counter = omega arith in
    let some : 0 < length s.result.now = grind (arith, common_steps, c.if-is_empty.ensures) in (
      same_on i.0 r.same,
      omega (arith, s.ensures.1, i.1),
      rw m (round_on (n - l.counter) _ _ _ _ _ _ _ (rw i.0.sizes at r.run) (ap length s.ensures.0)
          some
          (rw s.ensures.0 at c.store.ensures)
          ∙ rw k at i.2),
    )

pub returns-else-is_empty-clause-same : goal.returns-else-is_empty-clause-same
returns-else-is_empty-clause-same c = same_on c.loop.invariant.0 c.run_round-holders.ensures.same

pub returns-else-is_empty-clause-run : goal.returns-else-is_empty-clause-run
returns-else-is_empty-clause-run c =
    let l = c.loop in
    let i = l.invariant in
    let n = c.args.graph.now.sizes.jobs in
    let s = c.as_slice-holders in
    let k : n + 1 - l.counter ≡ suc 0 = omega arith in
    let some : 0 < length s.result.now = grind (arith, common_steps, c.if-is_empty.ensures) in
    sym (no_round c.args.graph.now.sizes _ _ _)
    ∙ round_on 0 _ _ _ _ _ _ _ (rw i.0.sizes at c.run_round-holders.ensures.run) (ap length s.ensures.0)
    some
    (rw s.ensures.0 at c.store.ensures)
    ∙ rw k at i.2
