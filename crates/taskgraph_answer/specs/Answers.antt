-- The struct of the C interface for the calls of the graph: for each case of an answer the number and the values that
-- docs/RULES.md, "Turned-away calls" and "Steps", has for it. What does not belong to a case is 0.
use Rattle.std.specs.Prelude.{◌≡◌, not, ℕ, eqb}
use Rattle.def_numbers.specs.Numbers.{accepted, kind_refused, kind_laid_out, kind_posted, kind_going_on, kind_ended}
use Rattle.def_numbers.specs.Numbers.{kind_none_ready}
use Rattle.def_numbers.specs.Numbers.{kind_handed_out, kind_loaded}
use Rattle.def_terms.specs.Terms.{bit, Finish, finish_of}
use Rattle.def_terms.specs.Runs.{Result}
use Rattle.def_terms.specs.declared.Answer.{Answer}
use Rattle.def_words.specs.Layout.{Tables}
use Rattle.taskgraph_answer.specs.declared.GraphAnswer.{GraphAnswer}

-- an answer that has nothing but its kind
abbrev pub plain : ℕ → GraphAnswer
plain kind = record { kind = kind; number = accepted; place = 0; job = 0; name = 0; spoiled = 0 }

-- a get hands out a job's place and name, and 1 for a spoiled one. A refusal has its number, and 6 also the "place in
-- the list from 0"
abbrev pub graph_answer : Answer → GraphAnswer
graph_answer Answer.Laid = plain kind_laid_out
graph_answer Answer.Loaded = plain kind_loaded
graph_answer Answer.Posted = plain kind_posted
graph_answer Answer.Going = plain kind_going_on
graph_answer Answer.Ended = plain kind_ended
graph_answer Answer.NoneReady = plain kind_none_ready
graph_answer (Answer.Handed h) =
    record {
      kind = kind_handed_out;
      number = accepted;
      place = 0;
      job = h.job;
      name = h.name;
      spoiled = bit h.spoiled;
    }
graph_answer (Answer.Refused number place) =
    record { kind = kind_refused; number = number; place = place; job = 0; name = 0; spoiled = 0 }

-- the finish that C brings by a name and a number: "Any number but 0 counts as failed"
abbrev pub finish_taken : ℕ → ℕ → Finish
finish_taken name outcome = finish_of name (not (eqb outcome 0))

-- a call answers so and leaves these tables: those of a definition's result, as C has them
abbrev pub Gives : GraphAnswer → Tables → Result Tables → Type 0
Gives r t said = (r ≡ graph_answer said.answer) × (t ≡ said.state)
