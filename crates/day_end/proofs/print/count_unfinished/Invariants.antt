-- `count_unfinished` counts the jobs whose label is not finished. The loop's invariant: those so far are counted.
use Prim.Native.Nat.{◌≤◌}
use mathlib.Core.Path.{◌≡◌}
use Rattle.def_words.specs.Columns.{columns}
use Rattle.def_words.specs.Layout.{job_shape, LABEL}
use Rattle.def_day.specs.Rounds.{unfinished}
use Rattle.day_end.proofs.print.count_unfinished.Given as goal

abbrev pub invariant-loop-job : goal.invariant-loop-job
invariant-loop-job l = (l.left ≤ l.job) × (l.left ≡ unfinished (columns job_shape l.jobs LABEL) l.job)
