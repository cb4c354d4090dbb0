-- `graph_layout::fresh::fresh_job_records` meets its contract: what is left to store, from the present record on, makes the
-- same table as all of it.
use Prim.Native.Nat.{◌-◌}
use mathlib.Core.Path.{◌≡◌}
use lib.ListN.{length}
use lib.Seq.{sets}
use Rattle.def_words.specs.Columns.{offset}
use Rattle.def_words.specs.Layout.{job_shape, repeated, fresh_job}
use Rattle.graph_layout.proofs.fresh.fresh_job_records.Given as goal

abbrev pub invariant-loop-job : goal.invariant-loop-job
invariant-loop-job l =
    (sets l.jobs (offset job_shape l.job 0) (repeated (l.count - l.job) fresh_job)
    ≡ sets l.initial.jobs (offset job_shape 0 0) (repeated l.count fresh_job))
    × (length l.jobs ≡ length l.initial.jobs)
