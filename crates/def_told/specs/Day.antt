-- The struct of the C interface for the day list: for each case of an answer the number and the bytes.
use Rattle.def_numbers.specs.Numbers.{accepted}
use Rattle.def_day_lines.specs.declared.DayAnswer.{DayAnswer}
use Rattle.def_told.specs.declared.DayPrinted.{DayPrinted}

-- how many bytes the day list printed; 1 and 15 have none
abbrev pub day_printed : DayAnswer → DayPrinted
day_printed (DayAnswer.Printed bytes) = record { number = accepted; bytes = bytes }
day_printed (DayAnswer.Refused number) = record { number = number; bytes = 0 }
