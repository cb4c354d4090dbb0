-- `graph_judge::judge_admitted_finish` meets its contract: each way through the code is a case of the definition.
use borrow.Author.Tests.{eq-eqb, ne_eqb}
use Rattle.graph_judge.proofs.judge_admitted_finish.Goals as goal

pub returns : goal.returns
returns c =
    rw (
      ← c.worker_word.ensures,
      eq-eqb _ _ c.if-worker_word-ne-IDLE.false,
      ← c.worker_word-held.ensures,
      ne_eqb _ _ c.if-held.false,
      ← c.job_word.ensures,
      eq-eqb _ _ c.if-job_word-name.false,
      ← c.judge_outcome.ensures _ _ _,
    )
