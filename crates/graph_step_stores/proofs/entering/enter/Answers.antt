-- `graph_step_stores::entering::enter` meets its contract: the four tables' stores are the plan's.
use native.Mathlib.Omega.{arith}
use Rattle.def_words.specs.Words.{applied}
use Rattle.graph_step_stores.proofs.entering.enter.Goals as goal

pub returns-clause-stores : goal.returns-clause-stores
unfolding applied
returns-clause-stores c =
    λ few fits.
    rw (
      c.enter_worker.ensures,
      c.put_bucket.ensures,
      c.put_header-2.ensures,
      c.sum-2.ensures (rw c.worker_word-count.ensures fits),
      c.put_header.ensures,
      c.sum.ensures (omega (arith, few)),
      c.put_job_record.ensures,
      ← c.worker_word-name.ensures,
      ← c.worker_word-count.ensures,
      ← c.worker_word-class.ensures,
      ← c.worker_word-grower.ensures,
    )
