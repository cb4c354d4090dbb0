-- The struct of the C interface for an add and a finish run whole: a call that damage stopped half done has a kind of
-- its own, so that a refusal by 9 is one that changed nothing. Follows docs/RULES.md, "Whole calls".
use Rattle.std.specs.Prelude.{◌≡◌, refl, ◌≢◌, Bool, true, false, ℕ}
use Rattle.std.proofs.Common.{◌∙◌}
use Rattle.def_numbers.specs.Numbers.{damaged, kind_stopped}
use Rattle.def_basics.specs.Base.{pick}
use Rattle.def_terms.specs.Runs.{Result}
use Rattle.def_terms.specs.declared.Answer.{Answer}
use Rattle.def_terms.specs.declared.Answer.TheVariants.{Laid, Loaded, Posted, Going, Ended, NoneReady, Handed, Refused}
use Rattle.def_words.specs.Layout.{Tables, view, PHASE}
use Rattle.def_sheet_rows.specs.SheetRows.{number_of}
use Rattle.def_stops.specs.Stopped.{stopped_as, stopped_by}
use Rattle.def_stops.specs.Known.{stopped_known}
use Rattle.taskgraph_answer.specs.Answers.{graph_answer}
use Rattle.taskgraph_answer.specs.declared.GraphAnswer.{GraphAnswer}

-- the call answered, or damage stopped it half done
pub data Whole : Type 0 where
  answered : Answer → Whole
  stopped : Whole

-- of a call of worker w on the tables t that has this result
abbrev pub whole_of : Tables → ℕ → Result Tables → Whole
whole_of t w o = pick (stopped_by t w o) stopped (answered o.answer)

abbrev pub stopped_answer : GraphAnswer
stopped_answer = record { kind = kind_stopped; number = damaged; place = 0; job = 0; name = 0; spoiled = 0 }

abbrev pub told_whole : Whole → GraphAnswer
told_whole (answered x) = graph_answer x
told_whole stopped = stopped_answer

-- a call of worker w on the tables t answers so and leaves these tables: those of a definition's result, as C has them
abbrev pub GivesWhole : GraphAnswer → Tables → Tables → ℕ → Result Tables → Type 0
GivesWhole r t' t w said = (r ≡ told_whole (whole_of t w said)) × (t' ≡ said.state)

-- ---- as the code tells it: by the answer's number, and the phases p before and q after the call, of a worker that is
-- there
pub number_told : (x : Answer) → (graph_answer x).number ≡ number_of x
number_told Laid = refl
number_told Loaded = refl
number_told Posted = refl
number_told Going = refl
number_told Ended = refl
number_told NoneReady = refl
number_told (Handed h) = refl
number_told (Refused n i) = refl

told_by_lem : (b : Bool) (x : Answer) → pick b stopped_answer (graph_answer x) ≡ told_whole (pick b stopped (answered x))
told_by_lem true x = refl
told_by_lem false x = refl

pub whole_in_c : {made said : Result Tables} {r g : GraphAnswer} {b : Bool} {p q : ℕ} (t : Tables) (w : ℕ)
    (known : Bool)
    → made ≡ said → (known ≡ false → number_of said.answer ≢ damaged) → g ≡ graph_answer made.answer
    → p ≡ pick known ((view t).worker PHASE w) 0 → q ≡ pick known ((view made.state).worker PHASE w) 0
    → b ≡ stopped_as g.number p q → r ≡ pick b stopped_answer g
    → GivesWhole r made.state t w said
whole_in_c {made} t w known told away g p q b r =
    let before = (view t).worker PHASE w in
    let after = (view made.state).worker PHASE w in
    let same = stopped_known known (number_of made.answer) before after (λ e. rw told (away e)) in
    rw (← told)
    (r ∙ (rw (b, g, p, q, number_told made.answer, same) (told_by_lem (stopped_by t w made) made.answer)), refl)
