-- `scan` answers the numbers of what `decode` finds.
use Rattle.std.proofs.Common.{◌%◌, rules, arith, sym, lt-ltb, eq-eqb}
use Rattle.std.proofs.lemmas.Result.{err_from_is_err_and}
use Rattle.def_numbers.specs.Numbers.{name_bytes, most_class, class_bytes}
use Rattle.def_sheets.proofs.NumberLaws.{length_names_at}
use Rattle.def_sheets.specs.Decode.{map_at, decode}
use Rattle.entry_scan.proofs.Fields.{number_passed, number_behind, limited_got, listed}
use Rattle.entry_scan.proofs.scan.Goals as goal

pub returns-then-s-at : goal.returns-then-s-at
unfolding decode
returns-then-s-at c = search rules

pub returns-then-map-ge16 : goal.returns-then-map-ge16
unfolding decode map_at
returns-then-map-ge16 c = search rules

pub returns-in_err-name : goal.returns-in_err-name
unfolding decode map_at
returns-in_err-name c = search rules

pub list_if-requires : goal.list_if-requires
list_if-requires c = (number_passed _ _ _ _ _ (sym c.in_ok-name.ensures)).within

pub returns-in_err-count : goal.returns-in_err-count
unfolding decode map_at
returns-in_err-count c =
    let p = err_from_is_err_and c.from_residual-in_err-count.result c.from_residual-in_err-count.ensures.1 in
    rw (
      p.1,
      p.2,
      lt-ltb _ _ c.if-s-at.false,
      ← c.from-map.ensures,
      lt-ltb _ _ c.if-map-ge16.false,
      eq-eqb (c.from-map.result % 2) 1 (omega arith),
      ← c.in_ok-name.ensures,
      ← c.in_err-count.ensures,
    )

pub limited_if-requires-clause-inside : goal.limited_if-requires-clause-inside
limited_if-requires-clause-inside c =
    (listed name_bytes _ _ _ _ _ (number_passed _ _ _ _ _ (sym c.in_ok-name.ensures)).within
    (sym c.in_ok-count.ensures)).within

pub limited_if-requires-2-clause-inside : goal.limited_if-requires-2-clause-inside
limited_if-requires-2-clause-inside c =
    let l = listed name_bytes _ _ _ _ _ (number_passed _ _ _ _ _ (sym c.in_ok-name.ensures)).within
    (sym c.in_ok-count.ensures) in
    (number_behind class_bytes _ _ _ _ _ _ (λ e. (limited_got class_bytes most_class _ _ _ _ e).0) l.within
    (sym c.in_ok-class.ensures)).within

pub returns-in_err-class : goal.returns-in_err-class
unfolding decode map_at
returns-in_err-class c =
    let p = err_from_is_err_and c.from_residual-in_err-class.result c.from_residual-in_err-class.ensures.1 in
    rw (
      p.1,
      p.2,
      lt-ltb _ _ c.if-s-at.false,
      ← c.from-map.ensures,
      lt-ltb _ _ c.if-map-ge16.false,
      eq-eqb (c.from-map.result % 2) 1 (omega arith),
      ← c.in_ok-name.ensures,
      ← c.in_ok-count.ensures,
      ← c.in_err-class.ensures,
    )

pub returns-in_err-grower : goal.returns-in_err-grower
unfolding decode map_at
returns-in_err-grower c =
    let p = err_from_is_err_and c.from_residual-in_err-grower.result c.from_residual-in_err-grower.ensures.1 in
    rw (
      p.1,
      p.2,
      lt-ltb _ _ c.if-s-at.false,
      ← c.from-map.ensures,
      lt-ltb _ _ c.if-map-ge16.false,
      eq-eqb (c.from-map.result % 2) 1 (omega arith),
      ← c.in_ok-name.ensures,
      ← c.in_ok-count.ensures,
      ← c.in_ok-class.ensures,
      ← c.in_err-grower.ensures,
    )

pub returns : goal.returns
unfolding decode map_at
returns c =
    rw (
      lt-ltb _ _ c.if-s-at.false,
      ← c.from-map.ensures,
      lt-ltb _ _ c.if-map-ge16.false,
      eq-eqb (c.from-map.result % 2) 1 (omega arith),
      ← c.in_ok-name.ensures,
      ← c.in_ok-count.ensures,
      ← c.in_ok-class.ensures,
      ← c.in_ok-grower.ensures,
      length_names_at,
    )
