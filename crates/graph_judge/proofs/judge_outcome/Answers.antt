-- `graph_judge::judge_outcome` meets its contract: each way through the code is a case of the definition.
use Rattle.graph_judge.proofs.judge_outcome.Goals as goal

pub returns-then-not-sound : goal.returns-then-not-sound
returns-then-not-sound c =
    λ buckets queue workers. let h = c.if-not-sound.true in
    rw (← c.job_word-spoiled.ensures, ← c.counters_ok.ensures, c.if-not-sound.true)

pub returns-then-spoiled-failed : goal.returns-then-spoiled-failed
returns-then-spoiled-failed c =
    λ buckets queue workers.
    let h = c.if-spoiled-failed.true in
    let g = c.if-not-sound.false in
    rw (← c.job_word-spoiled.ensures, ← c.counters_ok.ensures, c.if-not-sound.false, c.if-spoiled-failed.true)

pub returns : goal.returns
returns c =
    λ buckets queue workers.
    rw (← c.job_word-spoiled.ensures, ← c.counters_ok.ensures, c.if-not-sound.false, c.if-spoiled-failed.false)
