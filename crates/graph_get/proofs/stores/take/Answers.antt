-- `graph_get::stores::take` meets its contract: its stores are the plan's.
use Rattle.def_words.specs.Words.{applied_get}
use Rattle.graph_get.proofs.stores.take.Goals as goal

pub returns-clause-stores : goal.returns-clause-stores
unfolding applied_get
returns-clause-stores c =
    λ h. rw (c.put_worker.ensures, c.take_seat.ensures h, c.put_job.ensures)
