-- `graph_layout::fresh::fresh_job_records` meets its contract: what is left to store, from the present record on, makes the
-- same table as all of it.
use mathlib.Core.Path.{refl, ◌∙◌}
use native.Mathlib.Omega.{arith}
use Rattle.def_words.specs.Layout.{job_shape, fresh_job}
use Rattle.graph_layout.proofs.fresh.Laws.{record_one, record_none}
use Rattle.graph_layout.proofs.fresh.fresh_job_records.Goals as goal

pub loop-job-preserved : goal.loop-job-preserved
loop-job-preserved c =
    let one = record_one job_shape fresh_job refl _ c.loop-job.job c.args.count (omega arith) in (
      rw c.put_job_record.ensures (one ∙ c.loop-job.invariant.0),
      c.put_job_record.auto.jobs
          ∙ c.loop-job.invariant.1,
    )

pub returns : goal.returns
returns c = record_none job_shape fresh_job refl _ c.loop-job.job c.args.count (omega arith) ∙ c.loop-job.invariant.0
