-- `graph_get::get` meets its contract: a fitting plan, its stores and its answer are the definition's.
use Rattle.def_words.specs.Words.{get_words}
use Rattle.thm_counters_fit.specs.Fits.{plan_get_fits}
use Rattle.graph_get.proofs.get.Goals as goal

pub returns-clause-answered : goal.returns-clause-answered
unfolding get_words
returns-clause-answered c =
    let p = c.plan_get-plan in
    rw (
      ← p.ensures,
      ← c.apply_get.ensures.stores (rw p.ensures (plan_get_fits _ _ _)),
      ← c.answer_get.ensures,
    )
