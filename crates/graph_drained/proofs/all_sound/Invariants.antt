-- `graph_drained::all_sound` meets its contract. The loop's invariant: the test of the workers passed so far.
use mathlib.Core.Path.{◌≡◌}
use Rattle.def_words.specs.Layout.{tables, view}
use Rattle.def_words.specs.Words.{own_ok}
use Rattle.def_worker_state.specs.Drained.{every}
use Rattle.graph_drained.proofs.all_sound.Given as goal

abbrev pub invariant-loop-worker : goal.invariant-loop-worker
invariant-loop-worker l =
    l.sound ≡ every (own_ok l.sizes (view (tables l.jobs l.arcs l.buckets l.queue l.workers))) l.worker
