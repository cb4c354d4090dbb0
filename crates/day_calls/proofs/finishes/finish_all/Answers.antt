-- `finish_all` has each holder finish. The loop's invariant: the holders passed have finished.
use Rattle.std.proofs.Common.{sym, ap}
use Rattle.def_terms.specs.Runs.{Result}
use Rattle.def_words.specs.Layout.{Tables}
use Rattle.def_day.specs.Rounds.{holder}
use Rattle.lent_graph.specs.Lent.{same_itself, same_on}
use Rattle.day_calls.proofs.finishes.Laws.{finish_next, finish_none}
use Rattle.day_calls.proofs.finishes.finish_all.Goals as goal

pub loop-holder-init : goal.loop-holder-init
loop-holder-init c = (same_itself _, sym (finish_none _ _))

pub loop-holder-preserved : goal.loop-holder-preserved
loop-holder-preserved c =
    let i = c.loop-holder.invariant in
    let f = c.finish_whole.ensures in (
      same_on i.0 f.same,
      finish_next _ _ _ (holder 0 0) _ _ _ c.loop-holder-test.true i.1
          (ap (λ (o : Result Tables). o.state) (rw i.0.sizes at f.answered)),
    )
