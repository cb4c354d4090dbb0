-- Tellings of a sheet of adds by which something is lost, or left where nothing is to be said, each refuted by one
-- answer.
use Rattle.std.specs.Prelude.{◌≡◌, List, [], ◌∷◌, ℕ, zero, suc, ◌<◌, get_or, replicate}
use Rattle.std.proofs.Common.{arith}
use Rattle.def_terms.specs.declared.Answer.{Answer}
use Rattle.def_terms.specs.declared.Answer.TheVariants.{Laid, Refused}
use Rattle.def_sheet_rows.specs.declared.SheetAdded.{SheetAdded}
use Rattle.def_basics.specs.Laws.{never}
use Rattle.thm_answers_heard.specs.Heard.{AddEnded, Adds, served, SheetsHeard, sheet_told}

-- an entry that was refused is told as accepted
abbrev all_accepted : ℕ → ℕ → List Answer → SheetAdded
all_accepted stop n xs =
    record { number = n; numbers = replicate 64 0; places = replicate 64 0; stopped = stop }

one_entry : (x : Answer) → AddEnded x → Adds 0 (x ∷ [])
one_entry x e = served {xs = x ∷ []} (omega arith) at
  where
    at : (i : ℕ) → i < 1 → AddEnded (get_or (x ∷ []) i Laid)
    at zero h = e
    at (suc i) h = absurd (omega arith)

pub refused_as_accepted : SheetsHeard all_accepted → ⊥
refused_as_accepted h =
    let told = h.heard_as_told 0 0 (Refused 7 0 ∷ []) (one_entry (Refused 7 0) AddEnded.by_7) in
    never (cc (told.entries 0 (omega arith)))

-- the places stand where the numbers belong
abbrev swapped : ℕ → ℕ → List Answer → SheetAdded
swapped stop n xs =
    record {
      number = n;
      numbers = (sheet_told stop n xs).places;
      places = (sheet_told stop n xs).numbers;
      stopped = stop;
    }

pub place_as_number : SheetsHeard swapped → ⊥
place_as_number h =
    let e = (h.heard_as_told 0 0 (Refused 6 3 ∷ []) (one_entry (Refused 6 3) AddEnded.by_6)).entries 0 (omega arith) in
    let z : ◌≡◌ {A = ℕ} 3 6 = cc (e) in
    omega arith

-- a sheet that was turned away is told as one whose entries were all accepted
abbrev served_all : ℕ → ℕ → List Answer → SheetAdded
served_all stop n xs = sheet_told stop 0 xs

pub turned_away_as_served : SheetsHeard served_all → ⊥
turned_away_as_served h = let z : ◌≡◌ {A = ℕ} 0 16 = (h.heard_as_told 0 16 [] Adds.by_16).number in omega arith

-- past the last entry a number stands, as if an entry more had been refused
abbrev one_more : ℕ → ℕ → List Answer → SheetAdded
one_more stop n [] = record { number = n; numbers = replicate 64 8; places = replicate 64 0; stopped = stop }
one_more stop n (x ∷ xs) = sheet_told stop n (x ∷ xs)

pub an_entry_too_many : SheetsHeard one_more → ⊥
an_entry_too_many h =
    let z : ◌≡◌ {A = ℕ} 8 0 = ((h.heard_as_told 0 3 [] Adds.by_3).past 0 (omega arith)).0 in omega arith

-- a place stands beside a number that has none: 7 as if the fifth name were present
abbrev placed : ℕ → ℕ → List Answer → SheetAdded
placed stop n xs =
    record { number = n; numbers = (sheet_told stop n xs).numbers; places = 4 ∷ replicate 63 0; stopped = stop }

pub place_beside_7 : SheetsHeard placed → ⊥
place_beside_7 h =
    let e = (h.heard_as_told 0 0 (Refused 7 0 ∷ []) (one_entry (Refused 7 0) AddEnded.by_7)).entries 0 (omega arith) in
    let z : ◌≡◌ {A = ℕ} 4 0 = cc (e) in
    omega arith

-- which entry was stopped is not told
abbrev unstopped : ℕ → ℕ → List Answer → SheetAdded
unstopped stop n xs = sheet_told 0 n xs

pub stop_not_told : SheetsHeard unstopped → ⊥
stop_not_told h = let z : ◌≡◌ {A = ℕ} 0 1 = (h.heard_as_told 1 3 [] Adds.by_3).stopped in omega arith
