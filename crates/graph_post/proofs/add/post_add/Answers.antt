-- `graph_post::add::post_add` meets its contract: the number that refuses is the definition's, and so is the stored
-- record.
use Rattle.def_numbers.proofs.Refused.{refused}
use Rattle.def_words.specs.Words.{add_words, posted}
use Rattle.graph_judge.proofs.Posted.{posted_not}
use Rattle.graph_post.proofs.add.post_add.Goals as goal

pub returns-in-Err-clause-answered : goal.returns-in-Err-clause-answered
unfolding add_words
returns-in-Err-clause-answered c =
    let h = refused c.in-Err.refusal in
    rw (← c.judge_add.ensures, c.in-Err.is, c.into.ensures, posted_not)

pub returns-clause-answered : goal.returns-clause-answered
unfolding add_words posted
returns-clause-answered c =
    rw (
      ← c.judge_add.ensures,
      c.in_default.is,
      c.put_adding_worker.ensures,
      ← c.worker_word-held.ensures,
    )
