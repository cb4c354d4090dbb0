-- The structs of the C interface for reading job sheets: for each case of an answer the number and the values that
-- docs/RULES.md, "Turned-away calls" and "Job sheets", has for it. What does not belong to a case is 0.
use Rattle.std.specs.Prelude.{ℕ}
use Rattle.def_numbers.specs.Numbers.{accepted}
use Rattle.def_sheets.specs.Decode.{Decoded, job, end, refused, entry_of, blank}
use Rattle.std.specs.Prelude.{Ok, Err}
use Rattle.def_sheets.specs.Decode.{SheetRead}
use Rattle.def_told.specs.declared.EntryRead.{EntryRead}
use Rattle.def_told.specs.declared.SheetScanned.{SheetScanned}

-- what stands at an offset of a sheet. 12 to 14: "nothing handed out for that entry", so it is blank, and the byte
-- offset of the field. At the end of the sheet the offset is the one asked for.
abbrev pub entry_read : ℕ → Decoded → EntryRead
entry_read asked (job j next) = record { number = accepted; found = 1; at = next; entry = entry_of j }
entry_read asked end = record { number = accepted; found = 0; at = asked; entry = blank }
entry_read asked (refused number field) = record { number = number; found = 0; at = field; entry = blank }

-- how many entries the sheet has. 12 to 14: the byte offset of the field; 15, of rows that are too few, has none; a
-- sheet that is only counted has no rows, and is never 15
abbrev pub sheet_read : SheetRead → SheetScanned
sheet_read (Ok entries) = record { number = accepted; entries = entries; at = 0 }
sheet_read (Err e) = record { number = e.number; entries = 0; at = e.at }
