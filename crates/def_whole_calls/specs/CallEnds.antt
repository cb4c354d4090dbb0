-- How a call run whole by an idle worker ends, by its answer: it is never cut short ("Steps", "Turned-away calls").
use Rattle.std.specs.Prelude.{List, [], ◌∷◌, ℕ, ◌≤◌}
use Rattle.def_numbers.specs.Numbers.{wrong_arguments, tables_full, not_held, good_for_spoiled}
use Rattle.def_terms.specs.declared.Answer.{Answer}
use Rattle.def_terms.specs.declared.Answer.TheVariants.{Ended, Refused}

-- an add is accepted, or refused by one of 5 to 8
pub data AddAnswer : Answer → Type 0 where
  accepted : AddAnswer Ended
  refused : (n i : ℕ) → wrong_arguments ≤ n → n ≤ tables_full → AddAnswer (Refused n i)

-- a finish is accepted, or refused by 11 or 19
pub data FinishAnswer : Answer → Type 0 where
  accepted : FinishAnswer Ended
  not_held_lem : FinishAnswer (Refused not_held 0)
  good_for_spoiled_lem : FinishAnswer (Refused good_for_spoiled 0)

-- a sheet has an answer for each entry
pub data AddAnswers {A : Type 0} : List A → List Answer → Type 0 where
  none : AddAnswers [] []
  more : {a : A} {l : List A} {x : Answer} {xs : List Answer} → AddAnswer x → AddAnswers l xs
      → AddAnswers (a ∷ l) (x ∷ xs)
