-- `judge` finds the first field off its limits, or the bytes of the entry (docs/NUMBERS.md, 14).
use native.Mathlib.Omega.{arith}
use borrow.Author.Tests.{le-leb, lt-leb}
use Rattle.def_numbers.specs.Numbers.{most_names, most_class, most_grower}
use Rattle.def_sheets.specs.Write.{fault_of}
use Rattle.sheet_limits.specs.Judge.{judged}
use Rattle.sheet_limits.proofs.Sizes.{encode_length}
use Rattle.sheet_limits.proofs.judge.Goals as goal

pub returns-then-count-gt-MOST_NAMES : goal.returns-then-count-gt-MOST_NAMES
unfolding judged fault_of
returns-then-count-gt-MOST_NAMES c = λ name names all. rw (lt-leb c.args.count most_names (omega arith))

pub returns-then-class-gt-MOST_CLASS : goal.returns-then-class-gt-MOST_CLASS
unfolding judged fault_of
returns-then-class-gt-MOST_CLASS c = λ name names all.
    let a = c.args in
    rw (
      le-leb a.count most_names (omega arith),
      lt-leb a.class most_class (omega arith),
      c.list_bytes-offset.ensures.0,
    )

pub returns-then-grower-gt-MOST_GROWER : goal.returns-then-grower-gt-MOST_GROWER
unfolding judged fault_of
returns-then-grower-gt-MOST_GROWER c =
    λ name names all.
    let a = c.args in
    rw (
      le-leb a.count most_names (omega arith),
      le-leb a.class most_class (omega arith),
      lt-leb a.grower most_grower (omega arith),
      c.list_bytes-offset.ensures.0,
      c.bit.ensures.0,
    )

pub returns : goal.returns
unfolding judged fault_of
returns c =
    λ name names all.
    let a = c.args in
    rw (
      le-leb a.count most_names (omega arith),
      le-leb a.class most_class (omega arith),
      le-leb a.grower most_grower (omega arith),
      encode_length names 0 a.count a.class a.grower (omega arith) name,
      c.list_bytes-offset.ensures.0,
      c.bit.ensures.0,
      c.bit-2.ensures.0,
    )
