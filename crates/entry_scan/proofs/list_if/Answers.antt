-- `list_if` answers a list that its bit lets stand: its count, once its names are there.
use Rattle.std.proofs.Common.{rules, arith, sym}
use Rattle.def_numbers.specs.Numbers.{most_names, count_bytes}
use Rattle.def_sheets.specs.Decode.{list_at}
use Rattle.entry_scan.proofs.Fields.{limited_got, number_passed}
use Rattle.entry_scan.proofs.list_if.Goals as goal

pub returns-in_err-count : goal.returns-in_err-count
unfolding list_at
returns-in_err-count c = search rules

pub overflow_add-end : goal.overflow_add-end
overflow_add-end c =
    let l = limited_got count_bytes most_names _ _ _ _ (sym c.in_ok-count.ensures) in
    omega (arith, l.1, (number_passed _ _ _ _ _ l.0).within)

pub returns-then-s-end : goal.returns-then-s-end
unfolding list_at
returns-then-s-end c = search rules

pub returns : goal.returns
unfolding list_at
returns c = search rules
