-- `begin_day` adds the entries on a fresh graph, and prints the first line.
use Rattle.std.proofs.Common.{ap}
use Rattle.def_terms.specs.Runs.{Result}
use Rattle.def_words.specs.Layout.{Tables}
use Rattle.lent_graph.specs.Lent.{same_on}
use Rattle.day_begin.proofs.Laws.{begin_parts}
use Rattle.day_begin.proofs.begin_day.Goals as goal

pub returns-clause-same : goal.returns-clause-same
returns-clause-same c = same_on c.lay_out.ensures.same c.add_all-added.ensures.same

pub returns-clause-printed : goal.returns-clause-printed
returns-clause-printed c =
    let laid = c.lay_out.ensures in
    let added = c.add_all-added.ensures in
    begin_parts _ _ _ _ _ _ _ _ _ (ap (λ (o : Result Tables). o.state) laid.answered)
    (rw laid.same.sizes at added.printed) c.made.ensures
    (rw (same_on laid.same added.same).sizes at c.jobs_line.ensures)
