-- The number of each refusal, and the number that a judgement tells.
use Rattle.std.specs.Prelude.{ℕ, Result, Ok, Err}
use Rattle.def_numbers.specs.Numbers.{accepted, wrong_size, no_such_worker, half_done, worker_idle, wrong_arguments}
use Rattle.def_numbers.specs.Numbers.{unknown_name, name_present, tables_full, damaged, already_holding, not_held, cut}
use Rattle.def_numbers.specs.Numbers.{wrong_map, wrong_value, no_room, too_many_entries, wrong_minutes, jobs_entered}
use Rattle.def_numbers.specs.Numbers.{good_for_spoiled}
use Rattle.def_numbers.specs.declared.refusal.Refusal.{Refusal}
use Rattle.def_numbers.specs.declared.refusal.Refusal.TheVariants.{WrongSize, NoSuchWorker, HalfDone, WorkerIdle}
use Rattle.def_numbers.specs.declared.refusal.Refusal.TheVariants.{WrongArguments, UnknownName, NamePresent}
use Rattle.def_numbers.specs.declared.refusal.Refusal.TheVariants.{TablesFull, Damaged, AlreadyHolding, NotHeld, Cut}
use Rattle.def_numbers.specs.declared.refusal.Refusal.TheVariants.{WrongMap, WrongValue, NoRoom, TooManyEntries}
use Rattle.def_numbers.specs.declared.refusal.Refusal.TheVariants.{WrongMinutes, JobsEntered, GoodForSpoiled}

abbrev pub refusal_number : Refusal → ℕ
refusal_number WrongSize = wrong_size
refusal_number NoSuchWorker = no_such_worker
refusal_number HalfDone = half_done
refusal_number WorkerIdle = worker_idle
refusal_number WrongArguments = wrong_arguments
refusal_number UnknownName = unknown_name
refusal_number NamePresent = name_present
refusal_number TablesFull = tables_full
refusal_number Damaged = damaged
refusal_number AlreadyHolding = already_holding
refusal_number NotHeld = not_held
refusal_number Cut = cut
refusal_number WrongMap = wrong_map
refusal_number WrongValue = wrong_value
refusal_number NoRoom = no_room
refusal_number TooManyEntries = too_many_entries
refusal_number WrongMinutes = wrong_minutes
refusal_number JobsEntered = jobs_entered
refusal_number GoodForSpoiled = good_for_spoiled

-- a judgement is Ok, or it says what turns the call away
abbrev pub number_told : Result Unit Refusal → ℕ
number_told (Ok _) = accepted
number_told (Err refusal) = refusal_number refusal
