-- Tellings of the graph's answers by which something is lost or said otherwise than include/taskgraph.h has it, each
-- refuted by one answer or by two that are told alike.
use Rattle.std.specs.Prelude.{◌≡◌, refl, Bool, true, false, ℕ}
use Rattle.std.proofs.Common.{ap, sym, ◌∙◌, arith}
use Rattle.std.proofs.Math.Option.{some}
use Rattle.std.proofs.lemmas.Bool.{eqb-false}
use Rattle.def_terms.specs.Terms.{bit}
use Rattle.def_terms.specs.declared.Answer.{Answer}
use Rattle.def_terms.specs.declared.Answer.TheVariants.{Laid, Loaded, Posted, Going, Ended, NoneReady, Handed, Refused}
use Rattle.def_terms.specs.declared.HandOut.{HandOut}
use Rattle.taskgraph_answer.specs.Answers.{plain, graph_answer}
use Rattle.taskgraph_answer.proofs.Heard.{heard, AnswersHeard}
use Rattle.taskgraph_answer.specs.declared.GraphAnswer.{GraphAnswer}

abbrev Wrong : (Answer → GraphAnswer) → Type 0
Wrong told = AnswersHeard told → ⊥

-- two answers that are told alike are one
alike : (told : Answer → GraphAnswer) → AnswersHeard told → (x y : Answer) → told x ≡ told y → some x ≡ some y
alike told h x y e = sym (h.heard_as_told x) ∙ ap heard e ∙ h.heard_as_told y

-- the right telling, but of a job handed out, or of a refusal
abbrev handed_as : (ℕ → ℕ → Bool → GraphAnswer) → Answer → GraphAnswer
handed_as out Laid = graph_answer Laid
handed_as out Loaded = graph_answer Loaded
handed_as out Posted = graph_answer Posted
handed_as out Going = graph_answer Going
handed_as out Ended = graph_answer Ended
handed_as out NoneReady = graph_answer NoneReady
handed_as out (Handed h) = out h.job h.name h.spoiled
handed_as out (Refused n i) = graph_answer (Refused n i)

abbrev job : ℕ → ℕ → Bool → HandOut
job j n b = record { job = j; name = n; spoiled = b }

abbrev out : ℕ → ℕ → Bool → Answer
out j n b = Handed (job j n b)

-- a job that is handed out is told as "none ready", and the worker holds it all the same
pub get_as_none_ready : Wrong (handed_as λ j n b. plain 5)
get_as_none_ready h = let z : ◌≡◌ {A = ℕ} 0 1 = cc (alike _ h NoneReady (out 0 7 false) refl) in omega arith

-- that it is spoiled is not told: "and told by `spoiled`"
pub spoiled_not_told : Wrong (handed_as λ j n b. record {
  kind = 6;
  number = 0;
  place = 0;
  job = j;
  name = n;
  spoiled = 0;
})
spoiled_not_told h =
    let q : job 0 7 false ≡ job 0 7 true = cc (alike _ h (out 0 7 false) (out 0 7 true) refl) in
    let z : ◌≡◌ {A = ℕ} 0 1 = ap (λ (o : HandOut). bit o.spoiled) q in
    omega arith

-- the number of the job is left behind in the place: all is heard, and a field that belongs to a refusal is not 0
pub job_in_the_place : Wrong (handed_as λ j n b. record {
  kind = 6;
  number = 0;
  place = j;
  job = j;
  name = n;
  spoiled = bit b;
})
job_in_the_place h =
    let z : ◌≡◌ {A = ℕ} 3 0 = ((h.silent (out 3 7 false)).not_refused (eqb-false 6 0 refl)).1 in omega arith

-- a refusal is told without the place in the list, so no host knows which name was unknown
abbrev placeless : Answer → GraphAnswer
placeless Laid = graph_answer Laid
placeless Loaded = graph_answer Loaded
placeless Posted = graph_answer Posted
placeless Going = graph_answer Going
placeless Ended = graph_answer Ended
placeless NoneReady = graph_answer NoneReady
placeless (Handed h) = graph_answer (Handed h)
placeless (Refused n i) = graph_answer (Refused n 0)

pub place_not_told : Wrong placeless
place_not_told h = let z : ◌≡◌ {A = ℕ} 0 1 = cc (alike _ h (Refused 6 0) (Refused 6 1) refl) in omega arith

-- a call that goes on is told as one that has ended
abbrev hurried : Answer → GraphAnswer
hurried Laid = graph_answer Laid
hurried Loaded = graph_answer Loaded
hurried Posted = graph_answer Posted
hurried Going = graph_answer Ended
hurried Ended = graph_answer Ended
hurried NoneReady = graph_answer NoneReady
hurried (Handed h) = graph_answer (Handed h)
hurried (Refused n i) = graph_answer (Refused n i)

pub going_on_as_ended : Wrong hurried
going_on_as_ended h = let z : ◌≡◌ {A = ℕ} 0 1 = cc (alike _ h Going Ended refl) in omega arith

-- none are told alike, but "posted" by the kind of "ended" and the other way round
abbrev exchanged : Answer → GraphAnswer
exchanged Laid = graph_answer Laid
exchanged Loaded = graph_answer Loaded
exchanged Posted = graph_answer Ended
exchanged Going = graph_answer Going
exchanged Ended = graph_answer Posted
exchanged NoneReady = graph_answer NoneReady
exchanged (Handed h) = graph_answer (Handed h)
exchanged (Refused n i) = graph_answer (Refused n i)

pub kinds_exchanged : Wrong exchanged
kinds_exchanged h = let z : ◌≡◌ {A = ℕ} 0 1 = cc (h.heard_as_told Posted) in omega arith
