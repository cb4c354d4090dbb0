-- What C is told of a board, or of its refusal.
use Rattle.std.specs.Prelude.{Result, Ok, Err}
use Rattle.def_numbers.specs.Numbers.{accepted}
use Rattle.def_numbers.specs.Refusals.{refusal_number}
use Rattle.def_numbers.specs.declared.refusal.Refusal.{Refusal}
use Rattle.def_totals.specs.Board.{refused}
use Rattle.def_totals.specs.declared.Board.{Board}
use Rattle.def_totals.specs.declared.Totals.{Totals}

abbrev pub told_totals : Result Board Refusal → Totals
told_totals (Ok board) = record { number = accepted; jobs = board.jobs; minutes = board.minutes }
told_totals (Err refusal) = refused (refusal_number refusal)

-- the board that a count leaves, or its refusal
abbrev pub left : Result (Unit {0}) Refusal → Board → Result Board Refusal
left (Ok counted) board = Ok board
left (Err refusal) board = Err refusal
