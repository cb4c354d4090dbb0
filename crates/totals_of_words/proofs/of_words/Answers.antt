-- `totals_of_words::of_words` meets its contract: a row of words is a table of records of two words.
use Rattle.std.proofs.Common.{arith, refl}
use Rattle.def_minutes.specs.Minutes.{fixed_minutes}
use Rattle.def_minutes.specs.Judged.{fixed_passes}
use Rattle.totals_of_words.proofs.Tables.{even_words, odd_words}
use Rattle.totals_of_words.proofs.of_words.Goals as goal

pub returns-then-words-ne0 : goal.returns-then-words-ne0
returns-then-words-ne0 c = odd_words fixed_minutes _ c.if-words-ne0.true refl

pub returns : goal.returns
returns c =
    let is = c.fixed.ensures in
    even_words fixed_minutes _ _ c.if-words-ne0.false (omega arith)
    (rw is at (c.of_table.ensures (rw is fixed_passes)))
