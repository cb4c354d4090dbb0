-- `put_row` stores the entry that a row of words holds, with the names read where they stand.
use native.Mathlib.Omega.{arith}
use Rattle.def_sheets.specs.Write.{entry_at}
use Rattle.sheet_limits.proofs.Judging.{few}
use Rattle.sheet_limits.proofs.Rows.{job_at_lem}
use Rattle.sheet_writer.proofs.Puts.{entry_put}
use Rattle.sheet_writer.proofs.put_row.Goals as goal

pub put_entry-requires : goal.put_entry-requires
put_entry-requires c =
    let rows = c.args.rows.now in
    let w = few (entry_at rows c.args.i) c.requires.1 in
    record { names = omega arith; room = rw (job_at_lem rows c.args.i w) at c.requires.3 }

pub returns : goal.returns
returns c =
    let rows = c.args.rows.now in
    let w = few (entry_at rows c.args.i) c.requires.1 in
    rw (job_at_lem rows c.args.i w) (entry_put _ c.put_entry.ensures)
