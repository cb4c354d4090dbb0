-- Machines that judge sheets wrongly, each with a sheet of which it tells another room than the adds come to: so none
-- of them meets the statement of Tells.antt. Follows docs/RULES.md, "The room of a sheet".
use Rattle.std.specs.Prelude.{◌≡◌, true, List, [], ◌∷◌, ◌++◌, map, ℕ, zero, suc, ◌+◌, ◌*◌, ◌<◌, ltb, length, replicate}
use Rattle.std.proofs.Common.{sym, ◌∙◌, arith, lit<, lit≤, lt-ltb}
use Rattle.std.proofs.Math.Option.{Option, none, some}
use Rattle.std.proofs.lemmas.List.{length-replicate}
use Rattle.def_numbers.specs.Numbers.{most_jobs, most_arcs}
use Rattle.def_basics.specs.Base.{pick, contains, repeats, prefix}
use Rattle.def_basics.specs.Laws.{never}
use Rattle.def_terms.specs.Terms.{Arguments, listed, arguments_wrong}
use Rattle.def_terms.specs.Cases.{if_refused}
use Rattle.def_terms.specs.declared.Answer.{Answer}
use Rattle.def_terms.specs.declared.Answer.TheVariants.{Ended, Refused}
use Rattle.def_sheets.specs.Job.{Job, Below, Valid, encode_sheet}
use Rattle.def_sheets.specs.Decode.{Decoded, job, end, refused, decode, Sheet, jobs, broken, decode_sheet}
use Rattle.def_sheets.proofs.SheetTrip.{Each, sheet_there}
use Rattle.def_room.specs.Room.{arguments_of, first_unknown, judged_entering, judged, room_from, room_of}
use Rattle.def_room.specs.declared.Room.{Room}
use Rattle.def_room.specs.declared.Room.TheVariants.{Fits, TurnedAway, Unreadable}
use Rattle.thm_room.specs.Tells.{arcs_of, TellsRoom}
use Rattle.thm_room.specs.Judged.{lacks}
use Rattle.thm_room.specs.Settled.{one_room}
use Rattle.thm_room.specs.Rows.{alone, needing, computing}

-- ---- machines that read right, and judge the jobs in a way of their own
abbrev pub reading : (List Job → Room) → List ℕ → Room
reading room sheet = of (decode_sheet sheet)
  where
    of : Sheet → Room
    of (jobs js) = room js
    of (broken n at) = Unreadable n at

-- one job after the other, by another test of each
unfoldable pub one_by_one : (List ℕ → ℕ → Arguments → Answer) → List ℕ → ℕ → List Job → Room
one_by_one judge names arcs [] = Fits (length names) arcs (4 * length names + 3 * arcs)
one_by_one judge names arcs (j ∷ js) =
    if_refused (judge names arcs (arguments_of j)) (λ n p. TurnedAway (length names) n p)
    (one_by_one judge (names ++ (j.name ∷ [])) (arcs + length j.list) js)

-- ---- a job whose name is there is counted once more: its own name is not looked for
abbrev entering_anyway : List ℕ → ℕ → Arguments → Option ℕ → Answer
entering_anyway names arcs a (some i) = Refused 6 i
entering_anyway names arcs a none = pick (lacks most_jobs most_arcs names arcs a) (Refused 8 0) Ended

abbrev pub counting_twice : List ℕ → Room
counting_twice =
    reading (one_by_one (λ names arcs a.
    pick (arguments_wrong a) (Refused 5 0) (entering_anyway names arcs a (first_unknown names (listed a) 0))) [] 0)

pub counts_twice : ((sheet : List ℕ) → TellsRoom counting_twice sheet) → ⊥
unfolding computing one_by_one
counts_twice tells =
    let sheet = alone 7 ++ alone 7 in
    let z : Fits 2 0 8 ≡ TurnedAway 1 7 0 = one_room counting_twice sheet (tells sheet) in
    never (cc)

-- ---- a name that a later entry has counts as known: the names of the whole sheet are taken first
abbrev pub looking_ahead : List ℕ → Room
looking_ahead =
    reading (λ js.
    one_by_one (λ names arcs a.
    pick (arguments_wrong a) (Refused 5 0) (judged_entering most_jobs most_arcs names arcs a
    (first_unknown (map (λ (j : Job). j.name) js) (listed a) 0))) [] 0 js)

pub looks_ahead : ((sheet : List ℕ) → TellsRoom looking_ahead sheet) → ⊥
unfolding computing one_by_one
looks_ahead tells =
    let sheet = needing 1 (2 ∷ []) ++ alone 2 in
    let z : Fits 2 1 11 ≡ TurnedAway 0 6 0 = one_room looking_ahead sheet (tells sheet) in
    never (cc)

-- ---- an entry that is turned away is told before the sheet is read to its end
abbrev after_entry : Decoded → (Job → ℕ → Room) → Room → Room
after_entry (job j n) more whole = more j n
after_entry end more whole = whole
after_entry (refused n at) more whole = Unreadable n at

unfoldable pub eager_from : ℕ → List ℕ → ℕ → List ℕ → ℕ → Room
eager_from zero sheet at names arcs = Fits (length names) arcs (4 * length names + 3 * arcs)
eager_from (suc k) sheet at names arcs =
    after_entry (decode sheet at) (λ j n.
    if_refused (judged most_jobs most_arcs names arcs (arguments_of j)) (λ c p. TurnedAway (length names) c p)
    (eager_from k sheet n (names ++ (j.name ∷ [])) (arcs + length j.list)))
    (Fits (length names) arcs (4 * length names + 3 * arcs))

abbrev pub eager : List ℕ → Room
eager sheet = eager_from (length sheet) sheet 0 [] 0

pub tells_too_early : ((sheet : List ℕ) → TellsRoom eager sheet) → ⊥
unfolding computing eager_from
tells_too_early tells =
    let sheet = needing 1 (5 ∷ []) ++ (2 ∷ []) in
    let z : TurnedAway 0 6 0 ≡ Unreadable 13 10 = one_room eager sheet (tells sheet) in
    never (cc)

-- ---- a job that is refused is counted too, with its arcs, and each sheet fits
abbrev pub counting_refused : List ℕ → Room
counting_refused = reading (λ js. Fits (length js) (arcs_of js) (4 * length js + 3 * arcs_of js))

pub counts_refused : ((sheet : List ℕ) → TellsRoom counting_refused sheet) → ⊥
unfolding computing arcs_of
counts_refused tells =
    let sheet = alone 1 ++ needing 2 (1 ∷ 5 ∷ []) in
    let z : Fits 2 2 14 ≡ TurnedAway 1 6 1 = one_room counting_refused sheet (tells sheet) in
    never (cc)

-- ---- 4n + 2a steps: an arc takes three, its look-up, its link and its notice
abbrev fewer_steps : Room → Room
fewer_steps (Fits n a k) = Fits n a (4 * n + 2 * a)
fewer_steps (TurnedAway k n p) = TurnedAway k n p
fewer_steps (Unreadable n at) = Unreadable n at

abbrev pub counting_fewer : List ℕ → Room
counting_fewer sheet = fewer_steps (room_of sheet)

pub counts_fewer : ((sheet : List ℕ) → TellsRoom counting_fewer sheet) → ⊥
unfolding computing
counts_fewer tells =
    let sheet = alone 1 ++ needing 2 (1 ∷ []) in
    let z : Fits 2 1 10 ≡ Fits 2 1 11 = one_room counting_fewer sheet (tells sheet) in
    let steps : ◌≡◌ {A = ℕ} 10 11 = cc in
    omega arith

-- ---- entries counted from 1
abbrev from_one : Room → Room
from_one (Fits n a k) = Fits n a k
from_one (TurnedAway k n p) = TurnedAway (suc k) n p
from_one (Unreadable n at) = Unreadable n at

abbrev pub counting_from_one : List ℕ → Room
counting_from_one sheet = from_one (room_of sheet)

pub counts_from_one_lem : ((sheet : List ℕ) → TellsRoom counting_from_one sheet) → ⊥
unfolding computing
counts_from_one_lem tells =
    let sheet = alone 7 ++ alone 7 in
    let z : TurnedAway 2 7 0 ≡ TurnedAway 1 7 0 = one_room counting_from_one sheet (tells sheet) in
    let entry : ◌≡◌ {A = ℕ} 2 1 = cc in
    omega arith

-- ---- the place of 6 left at 0
abbrev no_place : Room → Room
no_place (Fits n a k) = Fits n a k
no_place (TurnedAway k n p) = TurnedAway k n 0
no_place (Unreadable n at) = Unreadable n at

abbrev pub telling_no_place : List ℕ → Room
telling_no_place sheet = no_place (room_of sheet)

pub tells_no_place : ((sheet : List ℕ) → TellsRoom telling_no_place sheet) → ⊥
unfolding computing
tells_no_place tells =
    let sheet = alone 1 ++ needing 2 (1 ∷ 5 ∷ []) in
    let z : TurnedAway 1 6 0 ≡ TurnedAway 1 6 1 = one_room telling_no_place sheet (tells sheet) in
    let place : ◌≡◌ {A = ℕ} 0 1 = cc in
    omega arith

-- ---- 8 at entry 4,096 for each sheet of more entries, though an earlier one is refused: by 4,097 entries of one name,
-- of which the second is turned away. Nothing here counts to 4,097: the sheet is read back by the round trip
abbrev pub full_first : List ℕ → Room
full_first = reading (λ js. pick (ltb 4096 (length js)) (TurnedAway 4096 8 0) (room_from [] 0 js))

abbrev seven : Job
seven = record { name = 7; list = []; class = 0; grower = 0 }

sevens_valid : (n : ℕ) → Each Valid (replicate n seven)
sevens_valid zero = Each.none
sevens_valid (suc n) =
    Each.more (record { name = lit< tt; names = Below.none; count = lit≤ tt; class = lit≤ tt; grower = lit≤ tt })
    (sevens_valid n)

module _ (n : ℕ) where
  abbrev sevens : List Job
  sevens = seven ∷ (seven ∷ replicate n seven)

  read_back : decode_sheet (encode_sheet sevens) ≡ jobs sevens
  read_back = sheet_there sevens (sevens_valid (suc (suc n)))

  second_turned : room_of (encode_sheet sevens) ≡ TurnedAway 1 7 0
  unfolding room_of room_from judged first_unknown contains repeats prefix arguments_wrong
  second_turned = rw read_back

  told_full : 4096 < suc (suc n) → full_first (encode_sheet sevens) ≡ TurnedAway 4096 8 0
  told_full h =
      let many : ltb 4096 (length sevens) ≡ true =
      lt-ltb 4096 (length sevens) (omega (arith, length-replicate n seven)) in
      rw (read_back, many)

  full_too_early : 4096 < suc (suc n) → ((sheet : List ℕ) → TellsRoom full_first sheet) → ⊥
  full_too_early h tells =
      let sheet = encode_sheet sevens in
      let z : TurnedAway 4096 8 0 ≡ TurnedAway 1 7 0 =
      sym (told_full h) ∙ one_room full_first sheet (tells sheet) ∙ second_turned in
      let entry : ◌≡◌ {A = ℕ} 4096 1 = cc in
      omega arith

pub fills_too_early : ((sheet : List ℕ) → TellsRoom full_first sheet) → ⊥
fills_too_early = full_too_early 4095 (omega arith)
