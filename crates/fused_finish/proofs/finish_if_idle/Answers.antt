-- `finish_if_idle` meets its contract: each way through the code is a case of the definition.
use mathlib.Core.Path.{ap, sym, ◌∙◌}
use mathlib.Core.List.{[]}
use borrow.Author.Tests.{eq-eqb, ne_eqb}
use Rattle.def_numbers.specs.Refusals.{number_told}
use Rattle.def_numbers.proofs.Refused.{refused}
use Rattle.def_fused.specs.FusedFinish.{finish_in, finish_if_idle}
use Rattle.fused_finish.proofs.Laws.{goes, judged}
use Rattle.fused_finish.proofs.finish_if_idle.Goals as goal

pub returns-then-worker_word-ne-IDLE : goal.returns-then-worker_word-ne-IDLE
unfolding finish_if_idle finish_in
returns-then-worker_word-ne-IDLE c =
    rw (
      ← c.worker_word.ensures,
      ne_eqb _ _ c.if-worker_word-ne-IDLE.true,
    )

pub returns-then-held : goal.returns-then-held
unfolding finish_if_idle finish_in
returns-then-held c =
    rw (
      ← c.worker_word.ensures,
      eq-eqb _ _ c.if-worker_word-ne-IDLE.false,
      ← c.worker_word-held.ensures,
      eq-eqb _ _ c.if-held.true,
    )

pub returns-then-job_word-name : goal.returns-then-job_word-name
unfolding finish_if_idle finish_in
returns-then-job_word-name c =
    rw (
      ← c.worker_word.ensures,
      eq-eqb _ _ c.if-worker_word-ne-IDLE.false,
      ← c.worker_word-held.ensures,
      ne_eqb _ _ c.if-held.false,
      ← c.job_word.ensures,
      ne_eqb _ _ c.if-job_word-name.true,
    )

pub returns : goal.returns
returns c =
    goes _ _ _ _ c.worker_word.ensures (eq-eqb _ _ c.if-worker_word-ne-IDLE.false)
    c.worker_word-held.ensures (ne_eqb _ _ c.if-held.false) c.job_word.ensures
    (eq-eqb _ _ c.if-job_word-name.false) (c.judge_outcome.ensures [] [] []) (ap number_told c.in_default.is)
    (rw (← c.bit.ensures)
    (c.mark_and_tell.ensures c.worker_word-held.ensures _))

pub returns-in-Err : goal.returns-in-Err
returns-in-Err c =
    judged _ _ _ _ c.worker_word.ensures (eq-eqb _ _ c.if-worker_word-ne-IDLE.false)
    c.worker_word-held.ensures (ne_eqb _ _ c.if-held.false) c.job_word.ensures
    (eq-eqb _ _ c.if-job_word-name.false) (c.judge_outcome.ensures [] [] [])
    (λ z. refused c.in-Err.refusal (sym (ap number_told c.in-Err.is) ∙ z))
    (rw (c.in-Err.is, c.into.ensures))
