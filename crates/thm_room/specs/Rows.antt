-- Small sheets with their room, by computation: of no jobs, of the four jobs of docs/RULES.md, and one for each number
-- but 8, for which more entries or names are needed. Follows docs/RULES.md, "The room of a sheet".
use Rattle.std.specs.Prelude.{◌≡◌, refl, List, [], ◌∷◌, ◌++◌, map, ℕ, length}
use Rattle.def_basics.specs.Base.{contains, repeats, prefix}
use Rattle.def_terms.specs.Terms.{arguments_wrong}
use Rattle.def_sheets.specs.Number.{number_at}
use Rattle.def_sheets.specs.Decode.{map_at, name_at, limited_at, list_at, names_at, decode, decode_from, decode_sheet}
use Rattle.def_room.specs.Room.{first_unknown, judged, room_from, room_of}
use Rattle.def_room.specs.declared.Room.{Room}
use Rattle.def_room.specs.declared.Room.TheVariants.{Fits, TurnedAway, Unreadable}

-- ---- entries, byte by byte: a job that needs none, and one that needs these
abbrev pub alone : ℕ → List ℕ
alone name = 1 ∷ name ∷ 0 ∷ 0 ∷ 0 ∷ []

unfoldable pub needing : ℕ → List ℕ → List ℕ
needing name list = 3 ∷ name ∷ 0 ∷ 0 ∷ 0 ∷ length list ∷ spell list
  where
    spell : List ℕ → List ℕ
    spell [] = []
    spell (x ∷ l) = x ∷ 0 ∷ 0 ∷ 0 ∷ spell l

-- what a row computes with
unfoldable pub computing : ℕ
unfolding contains repeats prefix arguments_wrong number_at map_at name_at limited_at list_at names_at decode decode_from
    decode_sheet first_unknown judged room_from room_of needing
computing = 0

-- ---- a sheet, and what it comes to
pub record Row : Type 0 where
  pub sheet : List ℕ
  pub comes_to : Room

abbrev row : List ℕ → Room → Row
row sheet r = record { sheet = sheet; comes_to = r }

abbrev pub rows : List Row
rows =
    -- "The empty sheet has no jobs"
    row [] (Fits 0 0 0)
    -- "jobs 1, 2, 3 and 4 needing 1 and 2": 4 jobs, 2 arcs, 4 * 4 + 3 * 2 steps
    ∷ row
    (1 ∷ 1 ∷ 0 ∷ 0 ∷ 0 ∷ 1 ∷ 2 ∷ 0 ∷ 0 ∷ 0 ∷ 1 ∷ 3 ∷ 0 ∷ 0 ∷ 0 ∷ 3 ∷ 4 ∷ 0 ∷ 0 ∷ 0 ∷ 2 ∷ 1 ∷ 0 ∷ 0 ∷ 0 ∷ 2 ∷ 0 ∷ 0
    ∷ 0 ∷ [])
    (Fits 4 2 22)
    -- 5: job 1 needs itself; 6 with its place: no job has the name 5; 7: the second entry has the name of the first
    ∷ row (needing 1 (1 ∷ [])) (TurnedAway 0 5 0)
    ∷ row (alone 1 ++ needing 2 (1 ∷ 5 ∷ [])) (TurnedAway 1 6 1)
    ∷ row (alone 7 ++ alone 7) (TurnedAway 1 7 0)
    -- 12, 13 and 14 with their offsets, though an entry before would be turned away
    ∷ row (needing 1 (5 ∷ []) ++ (1 ∷ [])) (Unreadable 12 11)
    ∷ row (needing 1 (5 ∷ []) ++ (2 ∷ [])) (Unreadable 13 10)
    ∷ row (needing 1 (5 ∷ []) ++ (5 ∷ 2 ∷ 0 ∷ 0 ∷ 0 ∷ 0 ∷ [])) (Unreadable 14 15)
    ∷ []

pub rows_hold : map (λ (r : Row). room_of r.sheet) rows ≡ map (λ (r : Row). r.comes_to) rows
unfolding computing
rows_hold = refl
