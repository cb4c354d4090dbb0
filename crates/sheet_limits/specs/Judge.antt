-- What judging answers before a byte is written (docs/NUMBERS.md, 14 and 15): where the first field off its limits
-- stands, or the bytes that are needed.
use Rattle.std.specs.Prelude.{ℕ, List, map, length, Result, Ok, Err}
use Rattle.def_sheets.specs.Job.{encode, encode_sheet}
use Rattle.def_sheets.specs.Write.{Fault, job_of, fault_of, SheetFault, sheet_fault}
use Rattle.def_sheets.specs.declared.Entry.{Entry}
use Rattle.sheet_limits.specs.declared.WrongField.{WrongField}
use Rattle.sheet_limits.specs.declared.WrongEntry.{WrongEntry}

abbrev pub wrong_field : ℕ → WrongField
wrong_field offset = record { at = offset }

abbrev pub wrong_entry : ℕ → ℕ → WrongEntry
wrong_entry i offset = record { entry = i; at = offset }

-- an entry: "14 comes before 15, its offset that of the first such field, from the entry's start"
abbrev pub judged_by : Fault → ℕ → Result ℕ WrongField
judged_by (Fault.at offset) bytes = Err (wrong_field offset)
judged_by Fault.none bytes = Ok bytes

unfoldable pub judged : Entry → Result ℕ WrongField
judged e = judged_by (fault_of e) (length (encode (job_of e)))

-- a sheet: the first entry that has such a field
abbrev pub sheet_judged_by : SheetFault → ℕ → Result ℕ WrongEntry
sheet_judged_by (SheetFault.at i offset) bytes = Err (wrong_entry i offset)
sheet_judged_by SheetFault.none bytes = Ok bytes

unfoldable pub sheet_judged : List Entry → Result ℕ WrongEntry
sheet_judged es = sheet_judged_by (sheet_fault 0 es) (length (encode_sheet (map job_of es)))
