-- `graph_post::finish::post_finish` meets its contract: the number that refuses is the definition's, and so is the
-- stored record.
use Rattle.def_numbers.proofs.Refused.{refused}
use Rattle.def_words.specs.Words.{finish_words, posted}
use Rattle.graph_judge.proofs.Posted.{posted_not}
use Rattle.graph_post.proofs.finish.post_finish.Goals as goal

pub returns-in-Err-clause-answered : goal.returns-in-Err-clause-answered
unfolding finish_words
returns-in-Err-clause-answered c =
    let h = refused c.in-Err.refusal in
    rw (← c.judge_finish.ensures, c.in-Err.is, c.into.ensures, posted_not)

pub returns-clause-answered : goal.returns-clause-answered
unfolding finish_words posted
returns-clause-answered c =
    rw (
      ← c.judge_finish.ensures,
      c.in_default.is,
      c.put_bare_worker.ensures,
      c.bit.ensures,
      ← c.worker_word-held.ensures,
    )
