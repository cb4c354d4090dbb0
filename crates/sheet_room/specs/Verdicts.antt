-- What is judged of an entry, as the code answers it, and what is told of a sheet that cannot be read.
use Rattle.std.specs.Prelude.{List, ℕ, Result, Ok, Err}
use Rattle.def_terms.specs.Terms.{Arguments}
use Rattle.def_terms.specs.Cases.{if_refused}
use Rattle.def_terms.specs.declared.Answer.{Answer}
use Rattle.def_sheets.specs.Decode.{Sheet, jobs, broken, refusal}
use Rattle.def_sheets.specs.declared.Numbers.{Numbers}
use Rattle.def_sheets.specs.declared.Refusal.{Refusal}
use Rattle.def_room.specs.declared.Room.{Room}
use Rattle.sheet_room.specs.declared.Refused.{Refused}

-- an entry's numbers and the names of its list, as the arguments of an add
abbrev pub arguments : Numbers → List ℕ → Arguments
arguments n names =
    record { name = n.name; count = n.count; names = names; class = n.class; grower = n.grower }

abbrev pub refused_at : ℕ → ℕ → Refused
refused_at number place = record { number = number; place = place }

abbrev pub verdict_of : Answer → Result (Unit {0}) Refused
verdict_of a = if_refused a (λ number place. Err (refused_at number place)) (Ok tt)

-- whether a sheet can be read
abbrev pub readable : Sheet → Result (Unit {0}) Refusal
readable (jobs js) = Ok tt
readable (broken number at) = Err (refusal number at)

-- where a sheet cannot be read, that is told in place of what it comes to
abbrev pub room_or_unreadable : Result Room Refusal → Room
room_or_unreadable (Ok room) = room
room_or_unreadable (Err e) = Room.Unreadable e.number e.at
