-- Readers of a sheet into rows that lay a row out otherwise, or do not clear it, each refuted by a sheet of one entry.
use Rattle.std.specs.Prelude.{◌≡◌, refl, List, [], ◌∷◌, ℕ, length, get_or, replicate}
use Rattle.std.proofs.Common.{ap, arith, lit<}
use Rattle.std.proofs.lemmas.List.Edits.{sets}
use Rattle.def_sheets.specs.Number.{number_at}
use Rattle.def_sheets.specs.Job.{Job}
use Rattle.def_sheets.specs.Decode.{Sheet, jobs, broken, decode_sheet, decode_from, decode, map_at, name_at, limited_at}
use Rattle.def_sheets.specs.Decode.{list_at, names_at, padded}
use Rattle.def_told.proofs.ReaderRows.{RowsHeard}

-- the job 7 after 1, of class 9 and grower 513, as bytes, and rows with room for it
abbrev job : Job
job = record { name = 7; list = 1 ∷ []; class = 9; grower = 513 }

abbrev sheet : List ℕ
sheet = 15 ∷ 7 ∷ 0 ∷ 0 ∷ 0 ∷ 1 ∷ 1 ∷ 0 ∷ 0 ∷ 0 ∷ 9 ∷ 1 ∷ 2 ∷ []

pub sheet_of_one : decode_sheet sheet ≡ jobs (job ∷ [])
unfolding decode_sheet decode_from decode map_at name_at limited_at list_at names_at number_at
sheet_of_one = refl

abbrev rows : List ℕ
rows = replicate 36 5

-- a reader that lays each job out so
abbrev laid_out : (Job → List ℕ) → Sheet → List ℕ → List ℕ
laid_out row (jobs []) r = r
laid_out row (jobs (j ∷ js)) r = sets r 0 (row j)
laid_out row (broken number field) r = r

abbrev Wrong : (Job → List ℕ) → Type 0
Wrong row = RowsHeard (laid_out row) sheet rows (job ∷ []) → ⊥

-- class and grower stand in each other's place: written again by a writer that reads them so, it is the same sheet
pub class_for_grower : Wrong (λ j. j.name ∷ length j.list ∷ j.grower ∷ j.class ∷ padded j.list)
class_for_grower h =
    let z : ◌≡◌ {A = ℕ} 513 9 =
    ap (λ (j : Job). j.class) (rw sheet_of_one at (h.heard_as_told 0 (lit< tt))) in
    omega arith

-- the words of an earlier reading stay past the count
pub names_not_cleared : Wrong (λ j. j.name ∷ length j.list ∷ j.class ∷ j.grower ∷ j.list)
names_not_cleared h =
    let z : ◌≡◌ {A = ℕ} 5 0 =
    ap (λ (l : List ℕ). get_or l 0 0) (rw sheet_of_one at (h.tidy 0 (lit< tt))).past in
    omega arith
