-- `graph_words::column` meets its contract: the offset fits 64 bits, and a field past the width answers 0.
use borrow.Author.Tests.{lt-ltb, le-ltb}
use Rattle.def_words.specs.Columns.{columns}
use Rattle.graph_words.proofs.column.Goals as goal

pub returns-then-field-width : goal.returns-then-field-width
unfolding columns
returns-then-field-width c = rw (lt-ltb _ _ c.if-field-width.true) c.word.ensures

pub returns-else-field-width : goal.returns-else-field-width
unfolding columns
returns-else-field-width c = rw (le-ltb _ _ c.if-field-width.false)
