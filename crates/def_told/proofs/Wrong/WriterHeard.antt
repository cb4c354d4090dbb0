-- Tellings of sheets that are written by which something is lost, or left where nothing is to be said, each refuted by
-- one answer.
use Rattle.std.specs.Prelude.{◌≡◌, ℕ}
use Rattle.std.proofs.Common.{arith}
use Rattle.def_sheets.specs.declared.Wrote.{Wrote}
use Rattle.def_sheets.specs.declared.Wrote.TheVariants.{Done, Refused}
use Rattle.def_sheets.specs.declared.SheetWrote.{SheetWrote}
use Rattle.def_told.specs.Writer.{entry_written, sheet_written}
use Rattle.def_told.specs.WriterHeard.{EntriesHeard, SheetsHeard, Writes, WritesAll}
use Rattle.def_told.specs.declared.EntryWritten.{EntryWritten}
use Rattle.def_told.specs.declared.SheetWritten.{SheetWritten}

-- a refused entry is told as written, up to the refused field
abbrev partly : Wrote → EntryWritten
partly (Done next) = entry_written (Done next)
partly (Refused number field) = entry_written (Done field)

pub refused_as_written : EntriesHeard partly → ⊥
refused_as_written h = let z : ◌≡◌ {A = ℕ} 0 1 = cc (h.heard_as_told (Refused 14 5) Writes.by_14) in omega arith

-- where the entry ends is not told
abbrev endless : Wrote → EntryWritten
endless (Done next) = entry_written (Done 0)
endless (Refused number field) = entry_written (Refused number field)

pub end_not_told : EntriesHeard endless → ⊥
end_not_told h = let z : ◌≡◌ {A = ℕ} 0 5 = cc (h.heard_as_told (Done 5) Writes.done) in omega arith

-- A SHEET

-- the field's offset is told and not its entry
abbrev which : SheetWrote → SheetWritten
which (SheetWrote.Done entries bytes) = sheet_written (SheetWrote.Done entries bytes)
which (SheetWrote.Refused number entry field) = sheet_written (SheetWrote.Refused number 0 field)

pub entry_not_told : SheetsHeard which → ⊥
entry_not_told h =
    let z : ◌≡◌ {A = ℕ} 0 1 = cc (h.heard_as_told (SheetWrote.Refused 14 1 5) WritesAll.by_14) in omega arith

-- bytes and entries are told in each other's field: all is told, and not as include/taskgraph.h has it
abbrev crosswise : SheetWrote → SheetWritten
crosswise (SheetWrote.Done entries bytes) = sheet_written (SheetWrote.Done bytes entries)
crosswise (SheetWrote.Refused number entry field) = sheet_written (SheetWrote.Refused number entry field)

pub entries_for_bytes : SheetsHeard crosswise → ⊥
entries_for_bytes h =
    let z : ◌≡◌ {A = ℕ} 29 2 = cc (h.heard_as_told (SheetWrote.Done 2 29) WritesAll.done) in omega arith

-- rows that are cut are told as written with none of them
abbrev served : SheetWrote → SheetWritten
served (SheetWrote.Done entries bytes) = sheet_written (SheetWrote.Done entries bytes)
served (SheetWrote.Refused number entry field) = record { number = 0; entry = entry; at = field }

pub cut_rows_as_written : SheetsHeard served → ⊥
cut_rows_as_written h =
    let z : ◌≡◌ {A = ℕ} 0 1 = cc (h.heard_as_told (SheetWrote.Refused 1 0 0) WritesAll.by_1) in omega arith
