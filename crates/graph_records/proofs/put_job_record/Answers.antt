-- `graph_records::put_job_record` meets its contract: stores field by field are one run.
use mathlib.Core.List.{[], ◌∷◌}
use Rattle.def_words.specs.Layout.{job_shape}
use Rattle.graph_records.proofs.Laws.{puts_sets}
use Rattle.graph_records.proofs.put_job_record.Goals as goal

pub returns : goal.returns
returns c =
    rw (
      c.put_job-10.ensures,
      c.put_job-9.ensures,
      c.put_job-8.ensures,
      c.put_job-7.ensures,
      c.put_job-6.ensures,
      c.put_job-5.ensures,
      c.put_job-4.ensures,
      c.put_job-3.ensures,
      c.put_job-2.ensures,
      c.put_job.ensures,
    )
    (puts_sets job_shape _ _ 0 (_ ∷ _ ∷ _ ∷ _ ∷ _ ∷ _ ∷ _ ∷ _ ∷ _ ∷ _ ∷ []))
