-- What a host hears of an add or a finish run whole: the struct alone tells whether damage stopped the call half done,
-- and else which answer it had. Follows docs/RULES.md, "Whole calls".
use Rattle.std.specs.Prelude.{◌≡◌, refl, eqb}
use Rattle.std.proofs.Common.{ap}
use Rattle.std.proofs.Math.Option.{Option, none, some}
use Rattle.def_basics.specs.Base.{pick}
use Rattle.def_terms.specs.declared.Answer.{Answer}
use Rattle.def_terms.specs.declared.Answer.TheVariants.{Laid, Loaded, Posted, Going, Ended, NoneReady, Handed, Refused}
use Rattle.taskgraph_answer.specs.Answers.{graph_answer}
use Rattle.taskgraph_answer.specs.WholeAnswers.{Whole, answered, stopped, told_whole}
use Rattle.taskgraph_answer.proofs.Heard.{heard, answers_heard}
use Rattle.taskgraph_answer.specs.declared.GraphAnswer.{GraphAnswer}

abbrev pub answered_if : Option Answer → Option Whole
answered_if none = none
answered_if (some x) = some (answered x)

-- kind 8 is "stopped"; any other is heard as an answer
abbrev pub heard_whole : GraphAnswer → Option Whole
heard_whole r = pick (eqb r.kind 8) (some stopped) (answered_if (heard r))

-- any telling of whole calls must be heard so, an answer told as ever; of a stopped call the number is 9 and all else 0
pub record WholesHeard (told : Whole → GraphAnswer) : Type 0 where
  pub heard_as_told : (x : Whole) → heard_whole (told x) ≡ some x
  pub answers : (x : Answer) → told (answered x) ≡ graph_answer x
  pub silent : told stopped ≡ record { kind = 8; number = 9; place = 0; job = 0; name = 0; spoiled = 0 }

whole_heard : (x : Whole) → heard_whole (told_whole x) ≡ some x
whole_heard stopped = refl
whole_heard (answered Laid) = refl
whole_heard (answered Loaded) = refl
whole_heard (answered Posted) = refl
whole_heard (answered Going) = refl
whole_heard (answered Ended) = refl
whole_heard (answered NoneReady) = refl
whole_heard (answered (Handed h)) = ap answered_if (answers_heard.heard_as_told (Handed h))
whole_heard (answered (Refused n i)) = refl

pub wholes_heard : WholesHeard told_whole
wholes_heard = record { heard_as_told = whole_heard; answers = λ x. refl; silent = refl }
