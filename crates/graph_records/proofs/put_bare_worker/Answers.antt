-- `graph_records::put_bare_worker` meets its contract: a record of 0, and then the words that are not.
use Rattle.graph_records.proofs.Laws.{bare_record}
use Rattle.graph_records.proofs.put_bare_worker.Goals as goal

pub returns : goal.returns
returns c =
    let a = c.args in
    rw (
      c.put_worker-5.ensures,
      c.put_worker-4.ensures,
      c.put_worker-3.ensures,
      c.put_worker-2.ensures,
      c.put_worker.ensures,
      c.fill.ensures,
      c.record_at.ensures,
    )
    (bare_record a.workers.now a.worker a.phase a.held a.note)
