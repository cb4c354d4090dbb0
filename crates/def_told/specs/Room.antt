-- The struct of the C interface for what a sheet comes to: for each case the number and the values that docs/RULES.md,
-- "The room of a sheet", has for it. What does not belong to a case is 0.
use Rattle.def_numbers.specs.Numbers.{accepted}
use Rattle.def_room.specs.declared.Room.{Room}
use Rattle.def_room.specs.declared.Room.TheVariants.{Fits, TurnedAway, Unreadable}
use Rattle.def_told.specs.declared.SheetRoom.{SheetRoom}

abbrev pub sheet_room : Room → SheetRoom
sheet_room (Fits jobs arcs steps) =
    record { number = accepted; entry = 0; place = 0; jobs = jobs; arcs = arcs; steps = steps; at = 0 }
sheet_room (TurnedAway entry number place) =
    record { number = number; entry = entry; place = place; jobs = 0; arcs = 0; steps = 0; at = 0 }
sheet_room (Unreadable number field) =
    record { number = number; entry = 0; place = 0; jobs = 0; arcs = 0; steps = 0; at = field }
