-- `taskgraph_totals::tg_totals_of_records` meets its contract: the fixed minutes were judged, and they pass.
use Rattle.std.proofs.Common.{◌∙◌, ap}
use Rattle.def_minutes.specs.Judged.{all_minutes}
use Rattle.totals_of_records.specs.By.{with_fixed}
use Rattle.taskgraph_totals.proofs.tg_totals_of_records.Goals as goal

pub returns : goal.returns
returns c =
    with_fixed c.into.result c.args.records.now (c.into.ensures ∙ ap all_minutes c.fixed.ensures) c.of_records.ensures
