-- `emit_text` prints bytes one after the other. The loop's invariant: the bytes so far are printed.
use Rattle.std.proofs.Common.{◌≡◌, ◌+◌, take}
use Rattle.day_text.specs.Page.{page, print}
use Rattle.day_text.proofs.emit_text.Given as goal

abbrev pub invariant-loop-byte : goal.invariant-loop-byte
invariant-loop-byte l =
    (l.next ≡ l.at + l.byte-index)
    × (page l.next l.out ≡ print l.limit (page l.at l.initial.out) (take l.byte-index l.text))
