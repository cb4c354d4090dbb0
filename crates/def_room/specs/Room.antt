-- The room that a sheet will need, by the names and the lists of its jobs alone (docs/RULES.md, "The room of a sheet").
-- That it is what the adds themselves come to is thm_room's theorem, and that the steps are those of every full run is
-- thm_full_run's.
use Rattle.std.specs.Prelude.{◌||◌, List, [], ◌∷◌, ◌++◌, ℕ, suc, ◌+◌, ◌*◌, ltb, leb, length}
use Rattle.std.proofs.Math.Option.{Option, none, some}
use Rattle.def_numbers.specs.Numbers.{most_jobs, most_arcs, wrong_arguments, unknown_name, name_present, tables_full}
use Rattle.def_basics.specs.Base.{pick, contains}
use Rattle.def_terms.specs.Terms.{Arguments, listed, arguments_wrong}
use Rattle.def_terms.specs.Cases.{if_refused}
use Rattle.def_terms.specs.declared.Answer.{Answer}
use Rattle.def_terms.specs.declared.Answer.TheVariants.{Ended, Refused}
use Rattle.def_sheets.specs.Job.{Job}
use Rattle.def_sheets.specs.Decode.{Sheet, jobs, broken, decode_sheet}
use Rattle.def_room.specs.declared.Room.{Room}
use Rattle.def_room.specs.declared.Room.TheVariants.{Fits, TurnedAway, Unreadable}

-- an add of the job that a sheet tells of
abbrev pub arguments_of : Job → Arguments
arguments_of j = record {
  name = j.name;
  count = length j.list;
  names = j.list;
  class = j.class;
  grower = j.grower;
}

-- ---- an add, where jobs of these names are there, whose lists have so many names together
-- the first place of a list whose name is none of these
unfoldable pub first_unknown : List ℕ → List ℕ → ℕ → Option ℕ
first_unknown names [] i = none
first_unknown names (x ∷ l) i = pick (contains x names) (first_unknown names l (suc i)) (some i)

-- "7 if its own name is there; else 8 if R jobs are there or the lists of all jobs and its own together have over A
-- names; else accepted"
abbrev pub judged_entering : (R A : ℕ) → List ℕ → ℕ → Arguments → Option ℕ → Answer
judged_entering R A names arcs a (some i) = Refused unknown_name i
judged_entering R A names arcs a none =
    pick (contains a.name names) (Refused name_present 0)
    (pick (leb R (length names) || ltb A (arcs + a.count)) (Refused tables_full 0) Ended)

-- "5 by its arguments; else 6 with the first place whose name no job has"
unfoldable pub judged : (R A : ℕ) → List ℕ → ℕ → Arguments → Answer
judged R A names arcs a =
    pick (arguments_wrong a) (Refused wrong_arguments 0)
    (judged_entering R A names arcs a (first_unknown names (listed a) 0))

-- ---- these jobs, one after the other, on a graph of greatest size, after adds that were all accepted: an accepted one
-- is there for those that follow; the first that is refused is told
unfoldable pub room_from : List ℕ → ℕ → List Job → Room
room_from names arcs [] = Fits (length names) arcs (4 * length names + 3 * arcs)
room_from names arcs (j ∷ js) =
    if_refused (judged most_jobs most_arcs names arcs (arguments_of j)) (λ n p. TurnedAway (length names) n p)
    (room_from (names ++ (j.name ∷ [])) (arcs + length j.list) js)

-- "an unreadable one 12, 13 or 14 with the offset", whatever its earlier entries are
abbrev pub room_of_sheet : Sheet → Room
room_of_sheet (jobs js) = room_from [] 0 js
room_of_sheet (broken n at) = Unreadable n at

unfoldable pub room_of : List ℕ → Room
room_of s = room_of_sheet (decode_sheet s)
