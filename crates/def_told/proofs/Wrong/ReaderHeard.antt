-- Tellings of sheets that are read by which something is lost, or left where nothing is to be said, each refuted by one
-- answer.
use Rattle.std.specs.Prelude.{◌≡◌, refl, List, [], ◌∷◌, ℕ, length, get_or, set}
use Rattle.std.proofs.Common.{ap, arith, lit≤}
use Rattle.std.proofs.Math.Option.{Option, none, some}
use Rattle.std.proofs.lemmas.Bool.{eqb-false}
use Rattle.def_sheets.specs.Job.{Job}
use Rattle.def_sheets.specs.Decode.{Decoded, job, end, refused, entry_of}
use Rattle.def_sheets.specs.declared.Entry.{Entry}
use Rattle.std.specs.Prelude.{Ok, Err}
use Rattle.def_sheets.specs.Decode.{SheetRead, refusal}
use Rattle.def_told.specs.Reader.{entry_read, sheet_read}
use Rattle.def_told.proofs.ReaderHeard.{JobsHeard, EntriesHeard, SheetsHeard, Stands, Scanned, ReadIn}
use Rattle.def_told.specs.declared.EntryRead.{EntryRead}
use Rattle.def_told.specs.declared.SheetScanned.{SheetScanned}

abbrev WrongEntry : (ℕ → Decoded → EntryRead) → Type 0
WrongEntry told = EntriesHeard told → ⊥

-- a job with the prerequisites 1 and 2
abbrev two : Job
two = record { name = 7; list = 1 ∷ 2 ∷ []; class = 9; grower = 513 }

two_stands : (next : ℕ) → Stands (job two next)
two_stands next = Stands.a_job (lit≤ tt)

-- the names past the count are not 0: the last of them is kept
abbrev keeps_last : Job → Entry
keeps_last j =
    let e = entry_of j in
    record { name = e.name; count = e.count; class = e.class; grower = e.grower; names = set e.names 31 8 }

pub names_past_the_count : JobsHeard keeps_last → ⊥
names_past_the_count h =
    let z : ◌≡◌ {A = ℕ} 8 0 = ap (λ (l : List ℕ). get_or l 29 0) (h.tidy two (lit≤ tt)).past in omega arith

-- class and grower stand in each other's field
abbrev crosswise : Job → Entry
crosswise j =
    let e = entry_of j in
    record { name = e.name; count = e.count; class = e.grower; grower = e.class; names = e.names }

pub class_for_grower : JobsHeard crosswise → ⊥
class_for_grower h =
    let z : ◌≡◌ {A = ℕ} 513 9 = ap (λ (j : Job). j.class) (h.heard_as_told two (lit≤ tt)) in omega arith

-- a refused entry is told as the end of the sheet: a grower's later entries are lost, and nobody is told
abbrev quietly : ℕ → Decoded → EntryRead
quietly asked (job j next) = entry_read asked (job j next)
quietly asked end = entry_read asked end
quietly asked (refused number field) = entry_read asked end

pub refused_as_the_end : WrongEntry quietly
refused_as_the_end h = let z : ◌≡◌ {A = ℕ} 0 1 = cc (h.heard_as_told 0 (refused 13 0) Stands.by_13) in omega arith

-- a refusal's offset is the one asked, and not the field's
abbrev asked_again : ℕ → Decoded → EntryRead
asked_again asked (job j next) = entry_read asked (job j next)
asked_again asked end = entry_read asked end
asked_again asked (refused number field) = entry_read asked (refused number asked)

pub field_not_told : WrongEntry asked_again
field_not_told h = let z : ◌≡◌ {A = ℕ} 0 5 = cc (h.heard_as_told 0 (refused 12 5) Stands.by_12) in omega arith

-- the count is always 32: the job has 30 prerequisites more, of the name 0
abbrev count_of : ℕ → Entry → Entry
count_of n e = record { name = e.name; count = n; class = e.class; grower = e.grower; names = e.names }

abbrev full : ℕ → Decoded → EntryRead
full asked (job j next) = record { number = 0; found = 1; at = next; entry = count_of 32 (entry_of j) }
full asked end = entry_read asked end
full asked (refused number field) = entry_read asked (refused number field)

pub count_not_told : WrongEntry full
count_not_told h =
    let z : ◌≡◌ {A = ℕ} 32 2 = ap listed (h.heard_as_told 0 (job two 16) (two_stands 16)) in omega arith
  where
    listed : Option Decoded → ℕ
    listed none = 0
    listed (some (job j next)) = length j.list
    listed (some end) = 0
    listed (some (refused number field)) = 0

-- an entry that is refused is told beside its number: "nothing handed out for that entry"
abbrev leftovers : Entry → ℕ → Decoded → EntryRead
leftovers e asked (job j next) = entry_read asked (job j next)
leftovers e asked end = entry_read asked end
leftovers e asked (refused number field) = record { number = number; found = 0; at = field; entry = e }

pub refused_and_handed_out : WrongEntry (leftovers (entry_of two))
refused_and_handed_out h =
    let z : ◌≡◌ {A = ℕ} 7 0 = ((h.silent 0 (refused 14 5) Stands.by_14).not_found (eqb-false 0 1 refl)).name in
    omega arith

-- A SHEET

abbrev WrongSheet : (SheetRead → SheetScanned) → Type 0
WrongSheet told = SheetsHeard told → ⊥

-- every broken sheet is told as one without entries
abbrev empty : SheetRead → SheetScanned
empty (Ok n) = sheet_read (Ok n)
empty (Err e) = sheet_read (Ok 0)

pub broken_as_empty : WrongSheet empty
broken_as_empty h =
    let z : ◌≡◌ {A = ℕ} 0 1 = cc (h.heard_as_told (Err (refusal 13 0)) (ReadIn.scanned Scanned.by_13)) in omega arith

-- every refusal is told by one number
abbrev one_number : SheetRead → SheetScanned
one_number (Ok n) = sheet_read (Ok n)
one_number (Err e) = sheet_read (Err (refusal 12 e.at))

pub number_not_told : WrongSheet one_number
number_not_told h = let z : ◌≡◌ {A = ℕ} 12 15 = cc (h.heard_as_told (Err (refusal 15 0)) ReadIn.by_15) in omega arith

-- of a broken sheet the entries before the field are told too: as if they were to be used
abbrev some_entries : ℕ → SheetRead → SheetScanned
some_entries k (Ok n) = sheet_read (Ok n)
some_entries k (Err e) = record { number = e.number; entries = k; at = e.at }

pub entries_beside_a_refusal : WrongSheet (some_entries 2)
entries_beside_a_refusal h =
    let z : ◌≡◌ {A = ℕ} 2 0 =
    (h.silent (Err (refusal 12 8)) (ReadIn.scanned Scanned.by_12)).refused (eqb-false 12 0 refl) in
    omega arith
