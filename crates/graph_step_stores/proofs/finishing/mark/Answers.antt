-- `graph_step_stores::finishing::mark` meets its contract: its stores are the plan's.
use Rattle.def_words.specs.Words.{applied}
use Rattle.graph_step_stores.proofs.finishing.mark.Goals as goal

pub returns-clause-stores : goal.returns-clause-stores
unfolding applied
returns-clause-stores c = rw (c.mark_worker.ensures, c.put_outcome.ensures, ← c.worker_word-outcome.ensures)
