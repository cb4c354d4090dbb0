-- `judge` answers the verdict on an entry. The loop's invariant: the listed names from place `i` on decide it.
use Rattle.std.proofs.Common.{sym, ◌∙◌}
use Rattle.def_numbers.specs.Numbers.{most_jobs, most_arcs}
use Rattle.def_room.specs.Room.{judged}
use Rattle.sheet_room.proofs.Judged.{known_passed, unknown_here, all_known, few_names, past_arguments}
use Rattle.sheet_room.proofs.judge.Goals as goal

pub returns-then-arguments_wrong : goal.returns-then-arguments_wrong
unfolding judged
returns-then-arguments_wrong c = rw (sym c.arguments_wrong.ensures ∙ c.if-arguments_wrong.true)

pub loop-i-init : goal.loop-i-init
loop-i-init c =
    let right = sym c.arguments_wrong.ensures ∙ c.if-arguments_wrong.false in
    (few_names _ right, past_arguments most_jobs most_arcs _ _ _ right)

pub loop-i-preserved : goal.loop-i-preserved
loop-i-preserved c =
    let l = c.loop-i.invariant in
    (l.0, rw (known_passed _ _ _ _ c.loop-i-test.true (sym c.known.ensures ∙ c.if-not-known.false)) l.1)

pub returns-then-not-known : goal.returns-then-not-known
returns-then-not-known c =
    rw (← c.loop-i.invariant.1, unknown_here _ _ _ _ c.loop-i-test.true (sym c.known.ensures ∙ c.if-not-known.true))

pub returns-then-known : goal.returns-then-known
returns-then-known c =
    rw (
      ← c.loop-i.invariant.1,
      all_known _ _ _ _ c.loop-i-test.false c.loop-i.auto.i-end,
      ← c.known-2.ensures,
      c.if-known.true,
    )

pub returns-then-is_full-arcs : goal.returns-then-is_full-arcs
returns-then-is_full-arcs c =
    rw (
      ← c.loop-i.invariant.1,
      all_known _ _ _ _ c.loop-i-test.false c.loop-i.auto.i-end,
      ← c.known-2.ensures,
      c.if-known.false,
      ← c.is_full.ensures,
      c.if-is_full-arcs.true,
    )

pub returns : goal.returns
returns c =
    rw (
      ← c.loop-i.invariant.1,
      all_known _ _ _ _ c.loop-i-test.false c.loop-i.auto.i-end,
      ← c.known-2.ensures,
      c.if-known.false,
      ← c.is_full.ensures,
      c.if-is_full-arcs.false,
    )
