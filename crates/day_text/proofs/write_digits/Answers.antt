-- `write_digits` writes a number's digits from the last on. The loop's invariant: what is left of the number, before
-- the digits written, makes the whole.
use Prim.Native.Nat.{suc, ◌+◌, ◌-◌, ◌%◌}
use mathlib.Core.Path.{◌≡◌, sym, ◌∙◌}
use native.Mathlib.Omega.{arith}
use lib.ListN.{drop, length-set}
use Rattle.day_text.proofs.Laws.{digits_end, digits_on, digits_none, drop_set}
use Rattle.day_text.proofs.write_digits.Goals as goal

pub returns-then-rest-lt10 : goal.returns-then-rest-lt10
returns-then-rest-lt10 c =
    let l = c.loop-from in
    let k = l.from - 1 in
    let e : l.from ≡ suc k = omega arith in (
      rw (c.digit.ensures, drop_set l.bytes k (48 + l.rest % 10) (omega arith))
          (sym (digits_end k l.rest (drop (suc k) l.bytes) c.if-rest-lt10.true) ∙ rw e at l.invariant.2),
      omega arith,
    )

pub loop-from-preserved : goal.loop-from-preserved
loop-from-preserved c =
    let l = c.loop-from in
    let k = l.from - 1 in
    let e : l.from ≡ suc k = omega arith in (
      omega arith,
      simp length-set l.invariant.1,
      rw (c.digit.ensures, drop_set l.bytes k (48 + l.rest % 10) (omega arith))
          (sym (digits_on k l.rest (drop (suc k) l.bytes) c.if-rest-lt10.false) ∙ rw e at l.invariant.2),
    )

pub returns : goal.returns
returns c =
    let l = c.loop-from in
    let e : l.from ≡ 0 = omega arith in
    let w = rw e at l.invariant.2 in
    (sym (digits_none l.rest l.bytes) ∙ w, omega arith)
