-- `graph_drained::drained` meets its contract: each way through the code is a case of the definition.
use Rattle.def_worker_state.specs.Drained.{drained_words}
use Rattle.graph_drained.proofs.drained.Goals as goal

pub returns : goal.returns
unfolding drained_words
returns c =
    rw (
      ← c.sizes_fit.ensures,
      c.if-not-sizes_fit.false,
      ← c.all_sound.ensures,
      ← c.counters_ok.ensures,
      ← c.header-taken.ensures,
      ← c.header-put.ensures,
      c.if-not-sound.false,
      ← c.all_free.ensures,
    )
    c.judged.ensures

pub returns-then-not-sound : goal.returns-then-not-sound
unfolding drained_words
returns-then-not-sound c =
    rw (
      ← c.sizes_fit.ensures,
      c.if-not-sizes_fit.false,
      ← c.all_sound.ensures,
      ← c.counters_ok.ensures,
      ← c.header-taken.ensures,
      ← c.header-put.ensures,
      c.if-not-sound.true,
    )
    c.refused-then-not-sound.ensures

pub returns-then-not-sizes_fit : goal.returns-then-not-sizes_fit
unfolding drained_words
returns-then-not-sizes_fit c = rw (← c.sizes_fit.ensures, c.if-not-sizes_fit.true) c.refused.ensures
