-- `graph_layout::fresh::fresh_jobs` meets its contract: the counters, the minutes, then the records.
use Rattle.def_words.specs.Columns.{put_header}
use Rattle.def_minutes.specs.Minutes.{fixed_minutes}
use Rattle.graph_layout.proofs.fresh.fresh_jobs.Goals as goal

pub returns : goal.returns
unfolding put_header fixed_minutes
returns c =
    rw (
      c.fresh_job_records.ensures,
      c.fresh_minutes.ensures,
      c.put_header-5.ensures,
      c.put_header-4.ensures,
      c.put_header-3.ensures,
      c.put_header-2.ensures,
      c.put_header.ensures,
    )
