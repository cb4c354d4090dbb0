-- `graph_posted_add::put_arguments` meets its contract: stores field by field are one run.
use mathlib.Core.List.{[], ◌∷◌}
use Rattle.def_words.specs.Layout.{worker_shape, PHASE}
use Rattle.graph_records.proofs.Laws.{puts_sets}
use Rattle.graph_posted_add.proofs.put_arguments.Goals as goal

pub returns : goal.returns
returns c =
    rw (
      c.put_worker-6.ensures,
      c.put_worker-5.ensures,
      c.put_worker-4.ensures,
      c.put_worker-3.ensures,
      c.put_worker-2.ensures,
      c.put_worker.ensures,
    )
    (puts_sets worker_shape _ _ PHASE (_ ∷ _ ∷ _ ∷ _ ∷ _ ∷ _ ∷ []))
