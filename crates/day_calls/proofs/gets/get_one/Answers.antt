-- `get_one` makes a get, and keeps the holder.
use Rattle.std.proofs.Common.{sym, ◌∙◌, arith, length-append}
use Rattle.def_day.specs.declared.Holder.{Holder}
use Rattle.day_calls.proofs.gets.Laws.{got_handed, got_nothing}
use Rattle.day_calls.proofs.gets.get_one.Goals as goal

pub returns-in-Some-clause-got : goal.returns-in-Some-clause-got
returns-in-Some-clause-got c =
    rw c.push.ensures
    (got_handed _ _ _ _ _ _ _ c.get-answer.ensures.answered (sym c.name_handed.ensures ∙ c.in-Some.is))

pub returns-in-Some-clause-one_more : goal.returns-in-Some-clause-one_more
returns-in-Some-clause-one_more c = rw c.push.ensures (omega (arith, length-append {A = Holder}))

pub returns-in_default-clause-got : goal.returns-in_default-clause-got
returns-in_default-clause-got c =
    got_nothing _ _ _ _ _ _ c.get-answer.ensures.answered (sym c.name_handed.ensures ∙ c.in_default.is)

pub returns-in_default-clause-one_more : goal.returns-in_default-clause-one_more
returns-in_default-clause-one_more c = omega arith
