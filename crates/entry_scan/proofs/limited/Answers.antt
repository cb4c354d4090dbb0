-- `limited` reads a number, and judges it.
use Rattle.std.proofs.Common.{rules, tests}
use Rattle.std.proofs.lemmas.Result.{err_from_is_err_and}
use Rattle.entry_scan.proofs.Fields.{limited_is}
use Rattle.entry_scan.proofs.limited.Goals as goal

pub returns-in_err-value : goal.returns-in_err-value
returns-in_err-value g c =
    let p = err_from_is_err_and c.from_residual.result c.from_residual.ensures.1 in
    rw (p.1, p.2, limited_is, ← c.in_err-value.ensures)

pub returns-then-value-lt1 : goal.returns-then-value-lt1
returns-then-value-lt1 g c = rw (limited_is, ← c.in_ok-value.ensures) (search (tests, rules))

pub returns : goal.returns
returns g c = rw (limited_is, ← c.in_ok-value.ensures) (search (tests, rules))
