-- `graph_find::find` meets its contract: each way through the code is a case of the definition.
use Rattle.def_words.specs.Words.{find_of}
use Rattle.graph_find.proofs.find.Goals as goal

pub returns : goal.returns
unfolding find_of
returns c =
    λ arcs queue workers.
    rw (
      ← c.header-made.ensures,
      ← c.bucket.ensures,
      ← c.bucket_word-newest.ensures,
      ← c.walk_from.ensures,
    )
