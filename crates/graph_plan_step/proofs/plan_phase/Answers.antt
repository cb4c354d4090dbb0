-- `graph_plan_step::plan_phase` meets its contract: each way through the code is a case of the definition.
use mathlib.Core.Path.{◌≡◌}
use native.Mathlib.Omega.{arith}
use borrow.Author.Tests.{eq-eqb, ne_eqb}
use Rattle.def_words.specs.Layout.{LOOKING, LINKING, MARKING}
use Rattle.def_words.specs.Words.{plan_phase, plan_call}
use Rattle.graph_plan_step.proofs.plan_phase.Goals as goal

pub returns-then-phase-eq-IDLE : goal.returns-then-phase-eq-IDLE
unfolding plan_phase plan_call
returns-then-phase-eq-IDLE c = rw (← c.worker_word-phase.ensures, c.if-phase-eq-IDLE.true)

pub returns-then-not-counters_ok : goal.returns-then-not-counters_ok
unfolding plan_phase plan_call
returns-then-not-counters_ok c =
    rw (
      ← c.worker_word-phase.ensures,
      ne_eqb _ _ c.if-phase-eq-IDLE.false,
      ← c.counters_ok.ensures _ _ _,
      c.if-not-counters_ok.true,
    )

pub returns-in-1 : goal.returns-in-1
unfolding plan_phase plan_call
returns-in-1 c =
    rw (
      ← c.worker_word-phase.ensures,
      ne_eqb _ _ c.if-phase-eq-IDLE.false,
      ← c.counters_ok.ensures _ _ _,
      c.if-not-counters_ok.false,
      c.in-1.is,
      ← c.plan_add.ensures,
    )

pub returns-in-2 : goal.returns-in-2
unfolding plan_phase plan_call
returns-in-2 c =
    rw (
      ← c.worker_word-phase.ensures,
      ne_eqb _ _ c.if-phase-eq-IDLE.false,
      ← c.counters_ok.ensures _ _ _,
      c.if-not-counters_ok.false,
      c.in-2.is,
      ← c.plan_links.ensures,
    )

pub returns-in-3 : goal.returns-in-3
unfolding plan_phase plan_call
returns-in-3 c =
    rw (
      ← c.worker_word-phase.ensures,
      ne_eqb _ _ c.if-phase-eq-IDLE.false,
      ← c.counters_ok.ensures _ _ _,
      c.if-not-counters_ok.false,
      c.in-3.is,
      ← c.worker_word-held.ensures,
      ← c.plan_mark.ensures _ _ _,
    )

pub returns-in_default : goal.returns-in_default
unfolding plan_phase plan_call
returns-in_default c =
    let phase = c.worker_word-phase.result in
    let looks : phase ≡ LOOKING → ⊥ = λ e. omega arith in
    let links : phase ≡ LINKING → ⊥ = λ e. omega arith in
    let marks : phase ≡ MARKING → ⊥ = λ e. omega arith in
    rw (
      ← c.worker_word-phase.ensures,
      ne_eqb _ _ c.if-phase-eq-IDLE.false,
      ← c.counters_ok.ensures _ _ _,
      c.if-not-counters_ok.false,
      ← c.worker_word-arc.ensures,
      ← c.plan_notify.ensures _ _,
      ne_eqb phase LOOKING looks,
      ne_eqb phase LINKING links,
      ne_eqb phase MARKING marks,
    )
