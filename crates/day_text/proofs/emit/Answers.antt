-- `emit` prints a byte.
use borrow.Author.Tests.{le-ltb, lt-ltb}
use Rattle.day_text.specs.Page.{print, emitted}
use Rattle.day_text.proofs.emit.Goals as goal
use Rattle.day_text.proofs.emit.Goals.{then-at-limit, else-at-limit}

pub returns : goal.returns
unfolding print emitted
returns c =
    let a = c.args in
    elim c.if-at-limit.branch [
      | then-at-limit w ↦ rw (lt-ltb a.at a.limit w.if-at-limit.true, ← w.put.ensures, w.out-is)
      | else-at-limit w ↦ rw (le-ltb a.at a.limit w.if-at-limit.false, w.out-is)
    ]
