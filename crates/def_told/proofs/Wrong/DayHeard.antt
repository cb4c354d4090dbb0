-- Tellings of the day list by which something is lost, or left where nothing is to be said, each refuted by one answer.
use Rattle.std.specs.Prelude.{◌≡◌, refl, ℕ}
use Rattle.std.proofs.Common.{arith}
use Rattle.std.proofs.lemmas.Bool.{eqb-false}
use Rattle.def_day_lines.specs.declared.DayAnswer.{DayAnswer}
use Rattle.def_day_lines.specs.declared.DayAnswer.TheVariants.{Printed, Refused}
use Rattle.def_told.specs.Day.{day_printed}
use Rattle.def_told.proofs.DayHeard.{Answers, DaysHeard}
use Rattle.def_told.specs.declared.DayPrinted.{DayPrinted}

-- an output that is too short is told as a list of no lines
abbrev nothing_printed : DayAnswer → DayPrinted
nothing_printed (Printed bytes) = day_printed (Printed bytes)
nothing_printed (Refused number) = day_printed (Printed 0)

pub refused_as_printed : DaysHeard nothing_printed → ⊥
refused_as_printed h = let z : ◌≡◌ {A = ℕ} 0 1 = cc (h.heard_as_told (Refused 15) Answers.by_15) in omega arith

-- no workers are told as an output that is too short
abbrev one_number : DayAnswer → DayPrinted
one_number (Printed bytes) = day_printed (Printed bytes)
one_number (Refused number) = day_printed (Refused 15)

pub number_not_told : DaysHeard one_number → ⊥
number_not_told h = let z : ◌≡◌ {A = ℕ} 15 1 = cc (h.heard_as_told (Refused 1) Answers.by_1) in omega arith

-- a refusal says how many bytes there might have been
abbrev bytes_beside : DayAnswer → DayPrinted
bytes_beside (Printed bytes) = day_printed (Printed bytes)
bytes_beside (Refused number) = record { number = number; bytes = 97979 }

pub bytes_beside_a_refusal : DaysHeard bytes_beside → ⊥
bytes_beside_a_refusal h =
    let z : ◌≡◌ {A = ℕ} 97979 0 = h.silent (Refused 15) Answers.by_15 (eqb-false 15 0 refl) in omega arith
