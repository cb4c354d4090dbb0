-- Cases of job sheets as rows, from docs/RULES.md: case 8 of "Checked by hand" (starred), the 29 bytes of "The board
-- and the day list", and rules that "Job sheets" states. One theorem shows all rows from the definitions.
use Rattle.std.specs.Prelude.{ℕ, ◌≡◌, refl, List, [], ◌∷◌, map, replicate}
use Rattle.def_numbers.specs.Numbers.{most_names}
use Rattle.def_sheets.specs.Number.{number_at}
use Rattle.def_sheets.specs.Job.{Job}
use Rattle.def_sheets.specs.Decode.{map_at, name_at, limited_at, list_at, names_at, decode, Sheet, jobs, broken}
use Rattle.def_sheets.specs.Decode.{decode_from, decode_sheet}
use Rattle.def_sheets.specs.Write.{Fault, fault_of}
use Rattle.def_sheets.specs.declared.Entry.{Entry}

-- a sheet and what it is read as
pub record Case : Type 0 where
  pub bytes : List ℕ
  pub reads : Sheet

abbrev row : List ℕ → Sheet → Case
row bytes reads = record { bytes = bytes; reads = reads }

abbrev a_job : ℕ → List ℕ → ℕ → ℕ → Job
a_job name list class grower = record { name = name; list = list; class = class; grower = grower }

-- case 8: "Map byte 02 gives 13; class byte 0 gives 14; a map byte alone of 01 gives 12"
abbrev pub case_8 : List Case
case_8 =
    row (2 ∷ []) (broken 13 0)
    ∷ row (5 ∷ 1 ∷ 0 ∷ 0 ∷ 0 ∷ 0 ∷ []) (broken 14 5)
    ∷ row (1 ∷ []) (broken 12 1)
    ∷ []

-- "jobs 1, 2, 3 and 4 needing 1 and 2"; "The empty sheet has no jobs"
abbrev pub whole_sheets : List Case
whole_sheets =
    row (1 ∷ 1 ∷ 0 ∷ 0 ∷ 0 ∷ 1 ∷ 2 ∷ 0 ∷ 0 ∷ 0 ∷ 1 ∷ 3 ∷ 0 ∷ 0 ∷ 0 ∷ 3 ∷ 4 ∷ 0 ∷ 0 ∷ 0 ∷ 2 ∷ 1 ∷ 0 ∷ 0 ∷ 0 ∷ 2 ∷ 0 ∷ 0
    ∷ 0 ∷ [])
    (jobs (a_job 1 [] 0 0 ∷ a_job 2 [] 0 0 ∷ a_job 3 [] 0 0 ∷ a_job 4 (1 ∷ 2 ∷ []) 0 0 ∷ []))
    ∷ row [] (jobs [])
    ∷ []

-- bits 4 to 7 of the map, "a count byte 1 to 32", "a byte 1 to 15", "2 bytes, least first"; a list's count is judged
-- before its names are looked for, and a cut is noticed before a wrong value
abbrev pub rules : List Case
rules =
    row (17 ∷ 1 ∷ 0 ∷ 0 ∷ 0 ∷ []) (broken 13 0)
    ∷ row (3 ∷ 1 ∷ 0 ∷ 0 ∷ 0 ∷ 33 ∷ []) (broken 14 5)
    ∷ row (3 ∷ 1 ∷ 0 ∷ 0 ∷ 0 ∷ 32 ∷ []) (broken 12 5)
    ∷ row (5 ∷ 1 ∷ 0 ∷ 0 ∷ 0 ∷ 15 ∷ []) (jobs (a_job 1 [] 15 0 ∷ []))
    ∷ row (5 ∷ 1 ∷ 0 ∷ 0 ∷ 0 ∷ 16 ∷ []) (broken 14 5)
    ∷ row (9 ∷ 1 ∷ 0 ∷ 0 ∷ 0 ∷ 1 ∷ 2 ∷ []) (jobs (a_job 1 [] 0 513 ∷ []))
    ∷ row (9 ∷ 1 ∷ 0 ∷ 0 ∷ 0 ∷ 0 ∷ []) (broken 12 5)
    ∷ []

-- the fault in the second entry, which starts at byte 5: offsets run from the sheet's start
abbrev behind_one : List ℕ → ℕ → ℕ → Case
behind_one bytes number offset = row (1 ∷ 7 ∷ 0 ∷ 0 ∷ 0 ∷ bytes) (broken number offset)

abbrev pub second_entries : List Case
second_entries =
    behind_one (14 ∷ 8 ∷ 0 ∷ 0 ∷ 0 ∷ []) 13 5
    ∷ behind_one (129 ∷ []) 13 5
    ∷ behind_one (1 ∷ 8 ∷ 0 ∷ 0 ∷ []) 12 6
    ∷ behind_one (3 ∷ 8 ∷ 0 ∷ 0 ∷ 0 ∷ []) 12 10
    ∷ behind_one (3 ∷ 8 ∷ 0 ∷ 0 ∷ 0 ∷ 0 ∷ []) 14 10
    ∷ behind_one (3 ∷ 8 ∷ 0 ∷ 0 ∷ 0 ∷ 33 ∷ []) 14 10
    ∷ behind_one (3 ∷ 8 ∷ 0 ∷ 0 ∷ 0 ∷ 2 ∷ 1 ∷ 0 ∷ 0 ∷ 0 ∷ 2 ∷ []) 12 10
    ∷ behind_one (5 ∷ 8 ∷ 0 ∷ 0 ∷ 0 ∷ []) 12 10
    ∷ behind_one (5 ∷ 8 ∷ 0 ∷ 0 ∷ 0 ∷ 0 ∷ []) 14 10
    ∷ behind_one (7 ∷ 8 ∷ 0 ∷ 0 ∷ 0 ∷ 1 ∷ 7 ∷ 0 ∷ 0 ∷ 0 ∷ 16 ∷ []) 14 15
    ∷ behind_one (9 ∷ 8 ∷ 0 ∷ 0 ∷ 0 ∷ 1 ∷ []) 12 10
    ∷ behind_one (9 ∷ 8 ∷ 0 ∷ 0 ∷ 0 ∷ 0 ∷ 0 ∷ []) 14 10
    ∷ behind_one (13 ∷ 8 ∷ 0 ∷ 0 ∷ 0 ∷ 9 ∷ 1 ∷ []) 12 11
    ∷ behind_one (15 ∷ 8 ∷ 0 ∷ 0 ∷ 0 ∷ 1 ∷ 7 ∷ 0 ∷ 0 ∷ 0 ∷ 9 ∷ 0 ∷ 0 ∷ []) 14 16
    ∷ []

-- an entry and its first field off the limits on writing
pub record WriteCase : Type 0 where
  pub entry : Entry
  pub fault : Fault

abbrev an_entry : ℕ → ℕ → ℕ → Fault → WriteCase
an_entry count class grower fault =
    record {
      entry = record { name = 1; count = count; class = class; grower = grower; names = replicate most_names 2 };
      fault = fault;
    }

-- "on writing, a list over 32, a class over 15, a grower over 65,535", "its offset that of the first such field, from
-- the entry's start"
abbrev pub faults : List WriteCase
faults =
    an_entry 32 15 65535 Fault.none
    ∷ an_entry 33 16 65536 (Fault.at 5)
    ∷ an_entry 0 16 65536 (Fault.at 5)
    ∷ an_entry 2 16 0 (Fault.at 14)
    ∷ an_entry 0 0 65536 (Fault.at 5)
    ∷ an_entry 2 1 65536 (Fault.at 15)
    ∷ []

-- every row of a list of cases is as it says
abbrev pub Hold : List Case → Type 0
Hold rows = map (λ (c : Case). decode_sheet c.bytes) rows ≡ map (λ (c : Case). c.reads) rows

abbrev pub FaultsHold : List WriteCase → Type 0
FaultsHold rows = map (λ (c : WriteCase). fault_of c.entry) rows ≡ map (λ (c : WriteCase). c.fault) rows

pub cases_hold : Hold case_8 × Hold whole_sheets × Hold rules × Hold second_entries × FaultsHold faults
unfolding decode_sheet decode_from decode map_at name_at limited_at list_at names_at number_at fault_of
cases_hold = (refl, refl, refl, refl, refl)
