-- `graph_step::step` meets its contract: a fitting plan, its stores and its answer are the definition's.
use Rattle.def_words.specs.Words.{step_words}
use Rattle.thm_counters_fit.specs.Fits.{plan_step_fits}
use Rattle.graph_step.proofs.step.Goals as goal

pub returns-clause-answered : goal.returns-clause-answered
unfolding step_words
returns-clause-answered c =
    let p = c.plan_step-plan in
    rw (
      ← p.ensures,
      ← c.apply.ensures.stores
          (rw p.ensures (plan_step_fits _ _ _)),
      ← c.answer_of.ensures,
    )
