-- `graph_words::put_column` meets its contract: the offset fits 64 bits, and the store is the definition's.
use borrow.Author.Rules.{rules}
use Rattle.def_words.specs.Columns.{put}
use Rattle.graph_words.proofs.put_column.Goals as goal

pub returns : goal.returns
unfolding put
returns c = search rules
