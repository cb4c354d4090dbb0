-- `print_refusal` prints a line for a refused entry, and nothing for any other.
use Rattle.std.proofs.Common.{sym, ◌∙◌}
use Rattle.day_text.specs.Page.{page}
use Rattle.day_entry.proofs.Laws.{refusal_printed, nothing_printed_lem}
use Rattle.day_entry.proofs.print_refusal.Goals as goal

pub returns-in-Some : goal.returns-in-Some
returns-in-Some c =
    let a = c.args in
    refusal_printed a.limit (page a.at a.out.now) a.entry a.answer _ _ (sym c.number_refused.ensures ∙ c.in-Some.is)
    c.refused_line.ensures

pub returns-in-None : goal.returns-in-None
returns-in-None c =
    let a = c.args in
    nothing_printed_lem a.limit (page a.at a.out.now) a.entry a.answer (sym c.number_refused.ensures ∙ c.in-None.is)
