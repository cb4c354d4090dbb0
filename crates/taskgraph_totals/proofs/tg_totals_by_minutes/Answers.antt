-- `taskgraph_totals::tg_totals_by_minutes` meets its contract: the minutes are judged, and the totals of minutes that
-- were judged are those by the table, or its refusal.
use Rattle.std.proofs.Common.{◌∙◌}
use Rattle.def_minutes.specs.Served.{judged_told}
use Rattle.def_numbers.specs.declared.refusal.Refusal.TheVariants.{WrongMinutes}
use Rattle.totals_of_records.specs.By.{with_table}
use Rattle.taskgraph_totals.proofs.tg_totals_by_minutes.Goals as goal

pub returns : goal.returns
returns c =
    let minutes = c.args.minutes.now in
    with_table c.into.result minutes c.args.records.now
    (c.into.ensures ∙ rw (c.ok_or.ensures.value, c.rising.ensures) (judged_told WrongMinutes minutes))
    c.of_records.ensures
