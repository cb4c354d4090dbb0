-- What a host hears of the room of a sheet, by the fields of the struct and the numerals of include/taskgraph.h: jobs,
-- arcs and steps, the first entry turned away, or where the sheet cannot be read, are read off it, so no two are told
-- alike, and a field that says nothing is 0. Follows docs/RULES.md, "The room of a sheet". (Wrong/RoomHeard.antt has
-- tellings that lose something.)
use Rattle.std.specs.Prelude.{◌≡◌, refl, List, [], ◌∷◌, ◌++◌, ℕ, ◌+◌, ◌≤◌, ◌<◌, eqb, leb, ltb, length, ◌||◌}
use Rattle.std.proofs.Common.{ap, ◌∙◌, arith, eqb-true, leb-true, leb-false}
use Rattle.std.proofs.Math.Option.{Option, none, some}
use Rattle.std.proofs.lemmas.Bool.{eqb-false}
use Rattle.def_numbers.specs.Numbers.{most_jobs, most_arcs}
use Rattle.def_basics.specs.Base.{pick, contains}
use Rattle.def_basics.specs.Laws.{pick_by}
use Rattle.def_terms.specs.Terms.{Arguments, listed, arguments_wrong}
use Rattle.def_terms.specs.Cases.{if_refused}
use Rattle.def_terms.specs.declared.Answer.{Answer}
use Rattle.def_terms.specs.declared.Answer.TheVariants.{Ended, Refused}
use Rattle.def_sheets.specs.Job.{Job}
use Rattle.def_sheets.specs.Decode.{Sheet, jobs, broken, decode_sheet, scan_sheet}
use Rattle.def_room.specs.Room.{arguments_of, first_unknown, judged_entering, judged, room_from, room_of_sheet, room_of}
use Rattle.def_room.specs.declared.Room.{Room}
use Rattle.def_room.specs.declared.Room.TheVariants.{Fits, TurnedAway, Unreadable}
use Rattle.def_told.proofs.ReaderHeard.{Scanned, how_scanned}
use Rattle.def_told.specs.Room.{sheet_room}
use Rattle.def_told.specs.declared.SheetRoom.{SheetRoom}

-- "number 0: … It needs `jobs` jobs and `arcs` arcs"; "number 5, 6, 7 or 8: `entry` is … the first entry whose add would
-- be refused"; "number 12, 13 or 14: the sheet cannot be read"
abbrev pub heard : SheetRoom → Room
heard r =
    pick (eqb r.number 0) (Fits r.jobs r.arcs r.steps)
    (pick (leb r.number 8) (TurnedAway r.entry r.number r.place) (Unreadable r.number r.at))

-- what a sheet can come to: "for 6 `place` is the place in its list", and 0 for every other number
pub data Tells : Room → Type 0 where
  fits : {jobs arcs steps : ℕ} → Tells (Fits jobs arcs steps)
  by_5 : {entry : ℕ} → Tells (TurnedAway entry 5 0)
  by_6 : {entry place : ℕ} → Tells (TurnedAway entry 6 place)
  by_7 : {entry : ℕ} → Tells (TurnedAway entry 7 0)
  by_8 : {entry : ℕ} → Tells (TurnedAway entry 8 0)
  by_12 : {field : ℕ} → Tells (Unreadable 12 field)
  by_13 : {field : ℕ} → Tells (Unreadable 13 field)
  by_14 : {field : ℕ} → Tells (Unreadable 14 field)

-- "Fields that a case does not name are 0"
pub record Silent (r : SheetRoom) : Type 0 where
  pub of_fits : r.number ≡ 0 → (r.entry ≡ 0) × (r.place ≡ 0) × (r.at ≡ 0)
  pub of_turned : 0 < r.number → r.number ≤ 8 → (r.jobs ≡ 0) × (r.arcs ≡ 0) × (r.steps ≡ 0) × (r.at ≡ 0)
  pub of_unreadable : 8 < r.number
      → (r.entry ≡ 0) × (r.place ≡ 0) × (r.jobs ≡ 0) × (r.arcs ≡ 0) × (r.steps ≡ 0)

-- any telling of what a sheet comes to is to be heard so
pub record RoomsHeard (told : Room → SheetRoom) : Type 0 where
  pub heard_as_told : (x : Room) → Tells x → heard (told x) ≡ x
  pub silent : (x : Room) → Tells x → Silent (told x)

-- ---- what C is told is heard,
room_heard : (x : Room) → Tells x → heard (sheet_room x) ≡ x
room_heard x fits = refl
room_heard x by_5 = refl
room_heard x by_6 = refl
room_heard x by_7 = refl
room_heard x by_8 = refl
room_heard x by_12 = refl
room_heard x by_13 = refl
room_heard x by_14 = refl

turned_silent : (entry number place : ℕ) → 0 < number → number ≤ 8 → Silent (sheet_room (TurnedAway entry number place))
turned_silent entry number place h l = record {
  of_fits = λ e. absurd (omega arith);
  of_turned = λ a b. (refl, refl, refl, refl);
  of_unreadable = λ a. absurd (omega arith);
}

unreadable_silent : (number field : ℕ) → 8 < number → Silent (sheet_room (Unreadable number field))
unreadable_silent number field h = record {
  of_fits = λ e. absurd (omega arith);
  of_turned = λ a b. absurd (omega arith);
  of_unreadable = λ a. (refl, refl, refl, refl, refl);
}

room_silent : (x : Room) → Tells x → Silent (sheet_room x)
room_silent x fits = record {
  of_fits = λ e. (refl, refl, refl);
  of_turned = λ a b. absurd (omega arith);
  of_unreadable = λ a. absurd (omega arith);
}
room_silent x (by_5 {entry}) = turned_silent entry 5 0 (omega arith) (omega arith)
room_silent x (by_6 {entry} {place}) = turned_silent entry 6 place (omega arith) (omega arith)
room_silent x (by_7 {entry}) = turned_silent entry 7 0 (omega arith) (omega arith)
room_silent x (by_8 {entry}) = turned_silent entry 8 0 (omega arith) (omega arith)
room_silent x (by_12 {field}) = unreadable_silent 12 field (omega arith)
room_silent x (by_13 {field}) = unreadable_silent 13 field (omega arith)
room_silent x (by_14 {field}) = unreadable_silent 14 field (omega arith)

pub rooms_heard : RoomsHeard sheet_room
rooms_heard = record { heard_as_told = room_heard; silent = room_silent }

-- no other telling is heard so,
room_back : (r : SheetRoom) → Silent r → r ≡ sheet_room (heard r)
room_back r q =
    pick_by (λ y. r ≡ sheet_room y) (eqb r.number 0)
    (λ e.
    let number = eqb-true r.number 0 e in
    let (entry, place, at) = q.of_fits number in
    λ i. record {
      number = number i;
      entry = entry i;
      place = place i;
      jobs = r.jobs;
      arcs = r.arcs;
      steps = r.steps;
      at = at i;
    })
    (λ e.
    let some : 0 < r.number = omega (arith, eqb-false r.number 0 e) in
    pick_by (λ y. r ≡ sheet_room y) (leb r.number 8)
    (λ l.
    let (no_jobs_lem, arcs, steps, at) = q.of_turned some (leb-true r.number 8 l) in
    λ i. record {
      number = r.number;
      entry = r.entry;
      place = r.place;
      jobs = no_jobs_lem i;
      arcs = arcs i;
      steps = steps i;
      at = at i;
    })
    (λ l.
    let (entry, place, no_jobs_lem, arcs, steps) = q.of_unreadable (leb-false r.number 8 l) in
    λ i. record {
      number = r.number;
      entry = entry i;
      place = place i;
      jobs = no_jobs_lem i;
      arcs = arcs i;
      steps = steps i;
      at = r.at;
    }))

pub rooms_told_one_way : (told : Room → SheetRoom) → RoomsHeard told → (x : Room) → Tells x → told x ≡ sheet_room x
rooms_told_one_way told h x t = room_back (told x) (h.silent x t) ∙ ap sheet_room (h.heard_as_told x t)

-- ---- and no sheet comes to anything else: an add is refused by one of these numbers, or ends
data Judges : Answer → Type 0 where
  by_5 : Judges (Refused 5 0)
  by_6 : {i : ℕ} → Judges (Refused 6 i)
  by_7 : Judges (Refused 7 0)
  by_8 : Judges (Refused 8 0)
  ended : Judges Ended

how_judged : (R A : ℕ) (names : List ℕ) (arcs : ℕ) (a : Arguments) → Judges (judged R A names arcs a)
unfolding judged
how_judged R A names arcs a =
    pick_by Judges (arguments_wrong a) (λ e. Judges.by_5) (λ e. go (first_unknown names (listed a) 0))
  where
    go : (o : Option ℕ) → Judges (judged_entering R A names arcs a o)
    go (some i) = Judges.by_6
    go none =
        pick_by Judges (contains a.name names) (λ e. Judges.by_7)
        (λ e. pick_by Judges (leb R (length names) || ltb A (arcs + a.count)) (λ f. Judges.by_8) (λ f. ended))

from : (names : List ℕ) (arcs : ℕ) (js : List Job) → Tells (room_from names arcs js)
unfolding room_from
from names arcs [] = fits
from names arcs (j ∷ js) =
    go (judged most_jobs most_arcs names arcs (arguments_of j)) (how_judged most_jobs most_arcs names arcs (arguments_of j))
    (from (names ++ (j.name ∷ [])) (arcs + length j.list) js)
  where
    go : (x : Answer) → Judges x → {rest : Room} → Tells rest
        → Tells (if_refused x (λ n p. TurnedAway (length names) n p) rest)
    go x Judges.by_5 h = Tells.by_5
    go x Judges.by_6 h = Tells.by_6
    go x Judges.by_7 h = Tells.by_7
    go x Judges.by_8 h = Tells.by_8
    go x ended h = h

pub how_told : (sheet : List ℕ) → Tells (room_of sheet)
unfolding room_of
how_told sheet = go (decode_sheet sheet) (how_scanned sheet)
  where
    go : (x : Sheet) → Scanned (scan_sheet x) → Tells (room_of_sheet x)
    go (jobs js) h = from [] 0 js
    go (broken c a) Scanned.by_12 = Tells.by_12
    go (broken c a) Scanned.by_13 = Tells.by_13
    go (broken c a) Scanned.by_14 = Tells.by_14
