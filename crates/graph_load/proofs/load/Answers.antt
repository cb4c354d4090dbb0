-- `graph_load::load` meets its contract: the number that refuses is the definition's, and so are the stored words.
use Rattle.def_words.specs.Words.{load_words, loading}
use Rattle.def_numbers.proofs.Refused.{refused}
use Rattle.graph_load.proofs.Loading.{loading_not}
use Rattle.graph_load.proofs.load.Goals as goal

pub returns-in-Err-clause-answered : goal.returns-in-Err-clause-answered
unfolding load_words
returns-in-Err-clause-answered c =
    let h = refused c.in-Err.refusal in
    rw (← c.judge_load.ensures, c.in-Err.is, c.into.ensures, loading_not)

pub returns-clause-answered : goal.returns-clause-answered
unfolding load_words loading
returns-clause-answered c = rw (← c.judge_load.ensures, c.in_default.is, c.put_words.ensures)
