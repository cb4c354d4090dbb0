-- `graph_words::put_header` meets its contract: a counter is a word.
use borrow.Author.Rules.{rules}
use Rattle.def_words.specs.Columns.{put_header}
use Rattle.graph_words.proofs.put_header.Goals as goal

pub returns : goal.returns
unfolding put_header
returns c = search rules
