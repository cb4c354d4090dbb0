-- `plan_add` meets its contract: each way through the code is a case of the definition; arguments that are not wrong
-- list at most 32 names.
use mathlib.Core.Path.{sym, ◌∙◌}
use mathlib.Core.List.{[]}
use native.Mathlib.Nat.{le_trans}
use borrow.Author.Tests.{eq-eqb, ne_eqb}
use Rattle.def_fused.specs.FusedAdd.{plan_add}
use Rattle.fused_plan.proofs.Plans.{unknown_name_lem, damaged_name, all_found, not_rejected, not_away, not_stopped}
use Rattle.fused_plan.proofs.Plans.{short}
use Rattle.fused_plan.proofs.plan_add.Goals as goal

pub returns-then-worker_word-ne-IDLE : goal.returns-then-worker_word-ne-IDLE
unfolding plan_add
returns-then-worker_word-ne-IDLE c =
    λ queue. (rw (← c.worker_word.ensures, ne_eqb _ _ c.if-worker_word-ne-IDLE.true), λ h e. absurd (not_rejected e))

pub returns-then-wrong : goal.returns-then-wrong
unfolding plan_add
returns-then-wrong c =
    λ queue. (
      rw (← c.worker_word.ensures, eq-eqb _ _ c.if-worker_word-ne-IDLE.false, ← c.arguments_wrong-wrong.ensures, c.if-wrong.true),
      λ h e. absurd (not_rejected e),
    )

pub returns-then-not-counters_ok : goal.returns-then-not-counters_ok
unfolding plan_add
returns-then-not-counters_ok c =
    λ queue. (
      rw (
        ← c.worker_word.ensures,
        eq-eqb _ _ c.if-worker_word-ne-IDLE.false,
        ← c.arguments_wrong-wrong.ensures,
        c.if-wrong.false,
        ← c.counters_ok.ensures [] [] [],
        c.if-not-counters_ok.true,
      ),
      λ h e. absurd (not_rejected e),
    )

pub returns-in-Unknown : goal.returns-in-Unknown
returns-in-Unknown c =
    λ queue. (
      unknown_name_lem _ _ _ _ c.worker_word.ensures (eq-eqb _ _ c.if-worker_word-ne-IDLE.false) c.arguments_wrong-wrong.ensures
          c.if-wrong.false (c.counters_ok.ensures [] [] []) c.if-not-counters_ok.false
          (c.look_ups.ensures _ queue _).0 c.in-Unknown.is,
      λ h e. absurd (not_away e),
    )

pub returns-in-Broken : goal.returns-in-Broken
returns-in-Broken c =
    λ queue. (
      damaged_name _ _ _ _ c.worker_word.ensures (eq-eqb _ _ c.if-worker_word-ne-IDLE.false) c.arguments_wrong-wrong.ensures
          c.if-wrong.false (c.counters_ok.ensures [] [] []) c.if-not-counters_ok.false
          (c.look_ups.ensures _ queue _).0 c.in-Broken.is,
      λ h e. absurd (not_stopped e),
    )

pub returns-in-All : goal.returns-in-All
returns-in-All c =
    λ queue.
    let wrong = c.arguments_wrong-wrong.ensures in
    let all = c.in-All.is in
    let looks = c.look_ups.ensures _ queue _ in (
      all_found _ _ _ _ c.worker_word.ensures (eq-eqb _ _ c.if-worker_word-ne-IDLE.false) wrong c.if-wrong.false
          (c.counters_ok.ensures [] [] []) c.if-not-counters_ok.false looks.0 all
          (c.plan_own.ensures queue _),
      λ h e. looks.1 (le_trans (short _ (sym wrong ∙ c.if-wrong.false)) h) all,
    )
