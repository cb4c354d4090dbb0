-- `graph_words::header` meets its contract: a counter is a word.
use borrow.Author.Rules.{rules}
use Rattle.def_words.specs.Columns.{header}
use Rattle.graph_words.proofs.header.Goals as goal

pub returns : goal.returns
unfolding header
returns c = search rules
