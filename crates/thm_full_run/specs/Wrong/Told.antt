-- A machine that tells other steps of a sheet than its full runs take: there is such a run, and it takes one step less.
-- Follows docs/RULES.md, "The room of a sheet".
use Rattle.std.specs.Prelude.{◌≡◌, refl, List, [], ◌∷◌, map, suc}
use Rattle.std.proofs.Common.{arith, lit<}
use Rattle.def_terms.specs.Terms.{within_limits}
use Rattle.def_terms.specs.declared.Sizes.{Sizes}
use Rattle.def_sheets.specs.Job.{Job}
use Rattle.def_sheets.specs.Decode.{jobs, decode_sheet}
use Rattle.def_room.specs.Room.{arguments_of, room_of}
use Rattle.def_room.specs.declared.Room.{Room}
use Rattle.def_room.specs.declared.Room.TheVariants.{Fits, TurnedAway, Unreadable}
use Rattle.thm_room.specs.Adds.{adds_of_lem}
use Rattle.thm_room.specs.Settled.{blank, lays_out}
use Rattle.thm_room.specs.Rows.{alone, computing}
use Rattle.thm_full_run.specs.SheetRuns.{FullRuns}
use Rattle.thm_full_run.specs.SheetSteps.{full_runs}

-- one job, and a graph for it
abbrev seven : List Job
seven = record { name = 7; list = []; class = 0; grower = 0 } ∷ []

abbrev small : Sizes
small = record { jobs = 1; arcs = 0; bits = 1; workers = 1 }

read_seven : decode_sheet (alone 7) ≡ jobs seven
unfolding computing
read_seven = refl

-- ---- a step too many
abbrev one_step_more : Room → Room
one_step_more (Fits n a k) = Fits n a (suc k)
one_step_more (TurnedAway k n p) = TurnedAway k n p
one_step_more (Unreadable n at) = Unreadable n at

pub tells_a_step_too_many : FullRuns (λ sheet. one_step_more (room_of sheet)) → ⊥
unfolding computing within_limits
tells_a_step_too_many F =
    let laid = lays_out small refl in
    let (work, full, enter, takes) =
    F.there_is_one (alone 7) 1 0 5 refl seven read_seven (map arguments_of seven) (adds_of_lem seven) small (blank small)
    laid (omega arith) (omega arith) 0 (lit< tt) in
    let more = F.as_told (alone 7) 1 0 5 refl seven read_seven small (blank small) laid _ work full enter in
    let right = full_runs.as_told (alone 7) 1 0 4 refl seven read_seven small (blank small) laid _ work full enter in
    omega (arith, more, right)
