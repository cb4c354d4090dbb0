-- The structs of the C interface for writing job sheets: for each case of an answer the number and the values that
-- docs/RULES.md, "Turned-away calls" and "Job sheets", has for it. What does not belong to a case is 0.
use Rattle.def_numbers.specs.Numbers.{accepted}
use Rattle.def_sheets.specs.declared.Wrote.{Wrote}
use Rattle.def_sheets.specs.declared.SheetWrote.{SheetWrote}
use Rattle.def_told.specs.declared.EntryWritten.{EntryWritten}
use Rattle.def_told.specs.declared.SheetWritten.{SheetWritten}

-- the offset past the entry in the output. 14: the offset "of the first such field, from the entry's start"; 15 has
-- none, and 0 stands there
abbrev pub entry_written : Wrote → EntryWritten
entry_written (Wrote.Done next) = record { number = accepted; at = next }
entry_written (Wrote.Refused number field) = record { number = number; at = field }

-- how many entries were written, in how many bytes. 14: which entry, from 0, and the offset from its start; 1 and 15
-- have neither
abbrev pub sheet_written : SheetWrote → SheetWritten
sheet_written (SheetWrote.Done entries bytes) = record { number = accepted; entry = entries; at = bytes }
sheet_written (SheetWrote.Refused number entry field) = record { number = number; entry = entry; at = field }
