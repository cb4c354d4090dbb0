-- Tellings of the room of a sheet by which something is lost, or left where nothing is to be said, each refuted by one
-- answer.
use Rattle.std.specs.Prelude.{◌≡◌, ℕ, suc}
use Rattle.std.proofs.Common.{arith}
use Rattle.def_room.specs.declared.Room.{Room}
use Rattle.def_room.specs.declared.Room.TheVariants.{Fits, TurnedAway, Unreadable}
use Rattle.def_told.specs.Room.{sheet_room}
use Rattle.def_told.proofs.RoomHeard.{Tells, RoomsHeard}
use Rattle.def_told.specs.declared.SheetRoom.{SheetRoom}

-- a sheet with an entry turned away is told as one that needs nothing
abbrev needs_nothing : Room → SheetRoom
needs_nothing (Fits n a k) = sheet_room (Fits n a k)
needs_nothing (TurnedAway i n p) = sheet_room (Fits 0 0 0)
needs_nothing (Unreadable n at) = sheet_room (Unreadable n at)

pub turned_away_as_fitting : RoomsHeard needs_nothing → ⊥
turned_away_as_fitting h =
    let z : ◌≡◌ {A = ℕ} 0 1 = cc (h.heard_as_told (TurnedAway 3 7 0) Tells.by_7) in omega arith

-- the entry is counted from 1
abbrev from_one : Room → SheetRoom
from_one (Fits n a k) = sheet_room (Fits n a k)
from_one (TurnedAway i n p) = sheet_room (TurnedAway (suc i) n p)
from_one (Unreadable n at) = sheet_room (Unreadable n at)

pub entries_from_one : RoomsHeard from_one → ⊥
entries_from_one h = let z : ◌≡◌ {A = ℕ} 4 3 = cc (h.heard_as_told (TurnedAway 3 7 0) Tells.by_7) in omega arith

-- the place in the list is not told
abbrev no_place : Room → SheetRoom
no_place (Fits n a k) = sheet_room (Fits n a k)
no_place (TurnedAway i n p) = sheet_room (TurnedAway i n 0)
no_place (Unreadable n at) = sheet_room (Unreadable n at)

pub place_not_told : RoomsHeard no_place → ⊥
place_not_told h = let z : ◌≡◌ {A = ℕ} 0 2 = cc (h.heard_as_told (TurnedAway 3 6 2) Tells.by_6) in omega arith

-- jobs and arcs are exchanged
abbrev exchanged : Room → SheetRoom
exchanged (Fits n a k) = sheet_room (Fits a n k)
exchanged (TurnedAway i n p) = sheet_room (TurnedAway i n p)
exchanged (Unreadable n at) = sheet_room (Unreadable n at)

pub jobs_for_arcs : RoomsHeard exchanged → ⊥
jobs_for_arcs h = let z : ◌≡◌ {A = ℕ} 2 4 = cc (h.heard_as_told (Fits 4 2 22) Tells.fits) in omega arith

-- beside a refusal stand the jobs that were counted so far
abbrev jobs_beside : Room → SheetRoom
jobs_beside (Fits n a k) = sheet_room (Fits n a k)
jobs_beside (TurnedAway i n p) =
    record { number = n; entry = i; place = p; jobs = i; arcs = 0; steps = 0; at = 0 }
jobs_beside (Unreadable n at) = sheet_room (Unreadable n at)

pub jobs_beside_a_refusal : RoomsHeard jobs_beside → ⊥
jobs_beside_a_refusal h =
    let z : ◌≡◌ {A = ℕ} 3 0 = ((h.silent (TurnedAway 3 7 0) Tells.by_7).of_turned (omega arith) (omega arith)).0 in
    omega arith

-- the offset at which a sheet cannot be read is lost
abbrev no_offset : Room → SheetRoom
no_offset (Fits n a k) = sheet_room (Fits n a k)
no_offset (TurnedAway i n p) = sheet_room (TurnedAway i n p)
no_offset (Unreadable n at) = sheet_room (Unreadable n 0)

pub offset_not_told : RoomsHeard no_offset → ⊥
offset_not_told h = let z : ◌≡◌ {A = ℕ} 0 11 = cc (h.heard_as_told (Unreadable 12 11) Tells.by_12) in omega arith

-- a sheet that cannot be read is told as one with an entry turned away: the number is kept, and the offset is its entry
abbrev offset_as_entry : Room → SheetRoom
offset_as_entry (Fits n a k) = sheet_room (Fits n a k)
offset_as_entry (TurnedAway i n p) = sheet_room (TurnedAway i n p)
offset_as_entry (Unreadable n at) = sheet_room (TurnedAway at n 0)

pub unreadable_as_turned_away : RoomsHeard offset_as_entry → ⊥
unreadable_as_turned_away h =
    let z : ◌≡◌ {A = ℕ} 10 0 = ((h.silent (Unreadable 13 10) Tells.by_13).of_unreadable (omega arith)).0 in omega arith
