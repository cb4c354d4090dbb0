-- `emit_text` prints bytes one after the other. The loop's invariant: the bytes so far are printed.
use Rattle.std.proofs.Common.{arith, sym}
use Rattle.std.proofs.lemmas.List.{take_more}
use Rattle.day_text.specs.Page.{print_nothing}
use Rattle.day_text.proofs.Laws.{moved_on, next}
use Rattle.day_text.proofs.emit_text.Goals as goal

pub loop-byte-init : goal.loop-byte-init
loop-byte-init c = (omega arith, sym (print_nothing _ _))

pub loop-byte-preserved : goal.loop-byte-preserved
loop-byte-preserved c = (
  omega (arith, moved_on _ _ _ _ c.emit-next.ensures),
  rw (take_more c.args.text.now c.loop-byte.byte-index 0 c.loop-byte-test.true)
      (next _ _ _ _ _ _ c.loop-byte.invariant.1 c.emit-next.ensures),
)
