-- `count_unfinished` counts the jobs whose label is not finished. The loop's invariant: those so far are counted.
use Rattle.std.proofs.Common.{sym, ◌∙◌, arith}
use native.Mathlib.Numerals.{add-one}
use Rattle.def_words.specs.Columns.{columns}
use Rattle.def_words.specs.Layout.{job_shape, LABEL}
use Rattle.day_end.proofs.print.Counts.{unfinished_done, unfinished_more, unfinished_none}
use Rattle.day_end.proofs.print.count_unfinished.Goals as goal
use Rattle.day_end.proofs.print.count_unfinished.Goals.{then-job_word-ne-FINISHED, else-job_word-ne-FINISHED}

pub loop-job-init : goal.loop-job-init
loop-job-init c = (omega arith, unfinished_none _)

pub loop-job-preserved : goal.loop-job-preserved
loop-job-preserved c =
    let l = c.loop-job in
    let label = columns job_shape c.args.jobs.now LABEL in
    elim c.if-job_word-ne-FINISHED.branch [
      | then-job_word-ne-FINISHED w ↦
          let u = unfinished_more label l.job (λ z. w.if-job_word-ne-FINISHED.true (c.job_word.ensures ∙ z)) in
          (omega arith, rw add-one (omega (arith, u)))
      | else-job_word-ne-FINISHED w ↦
          let u = unfinished_done label l.job (sym c.job_word.ensures ∙ w.if-job_word-ne-FINISHED.false) in
          (omega arith, rw add-one (omega (arith, u)))
    ]
