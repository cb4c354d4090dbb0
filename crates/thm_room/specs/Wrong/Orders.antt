-- Machines that go on past an entry that is turned away, that test an entry in another order, or that count an offset
-- from elsewhere, each with a sheet of which it tells another room than the adds come to. Follows docs/RULES.md, "The
-- room of a sheet".
use Rattle.std.specs.Prelude.{◌≡◌, List, [], ◌∷◌, ◌++◌, ℕ, zero, suc, ◌+◌, ◌*◌, ◌-◌, length}
use Rattle.std.proofs.Common.{arith}
use Rattle.def_numbers.specs.Numbers.{most_jobs, most_arcs}
use Rattle.def_basics.specs.Base.{pick, contains}
use Rattle.def_basics.specs.Laws.{never}
use Rattle.def_terms.specs.Terms.{listed, arguments_wrong}
use Rattle.def_terms.specs.Cases.{if_refused}
use Rattle.def_terms.specs.declared.Answer.TheVariants.{Refused}
use Rattle.def_sheets.specs.Job.{Job}
use Rattle.def_sheets.specs.Decode.{Decoded, job, end, refused, decode, Sheet, jobs, onward}
use Rattle.def_room.specs.Room.{arguments_of, first_unknown, judged_entering, judged, room_of_sheet}
use Rattle.def_room.specs.declared.Room.{Room}
use Rattle.def_room.specs.declared.Room.TheVariants.{Fits, TurnedAway, Unreadable}
use Rattle.thm_room.specs.Tells.{TellsRoom}
use Rattle.thm_room.specs.Settled.{one_room}
use Rattle.thm_room.specs.Rows.{alone, needing, computing}
use Rattle.thm_room.specs.Wrong.Rooms.{reading, one_by_one}

-- ---- an entry that is turned away is skipped, and what the accepted rest needs is told as what the sheet needs
unfoldable pub skipping_from : List ℕ → ℕ → List Job → Room
skipping_from names arcs [] = Fits (length names) arcs (4 * length names + 3 * arcs)
skipping_from names arcs (j ∷ js) =
    if_refused (judged most_jobs most_arcs names arcs (arguments_of j)) (λ n p. skipping_from names arcs js)
    (skipping_from (names ++ (j.name ∷ [])) (arcs + length j.list) js)

abbrev pub skipping : List ℕ → Room
skipping = reading (skipping_from [] 0)

pub skips_refused : ((sheet : List ℕ) → TellsRoom skipping sheet) → ⊥
unfolding computing skipping_from
skips_refused tells =
    let sheet = alone 7 ++ alone 7 in
    let z : Fits 1 0 4 ≡ TurnedAway 1 7 0 = one_room skipping sheet (tells sheet) in
    never (cc)

-- ---- the last entry that is turned away is told, and not the first
abbrev unless_fits : Room → Room → Room
unless_fits (Fits n a k) r = r
unless_fits (TurnedAway k n p) r = TurnedAway k n p
unless_fits (Unreadable n at) r = Unreadable n at

unfoldable pub last_from : ℕ → List ℕ → ℕ → List Job → Room
last_from k names arcs [] = Fits (length names) arcs (4 * length names + 3 * arcs)
last_from k names arcs (j ∷ js) =
    if_refused (judged most_jobs most_arcs names arcs (arguments_of j))
    (λ n p. unless_fits (last_from (suc k) names arcs js) (TurnedAway k n p))
    (last_from (suc k) (names ++ (j.name ∷ [])) (arcs + length j.list) js)

abbrev pub telling_last : List ℕ → Room
telling_last = reading (last_from 0 [] 0)

pub tells_the_last : ((sheet : List ℕ) → TellsRoom telling_last sheet) → ⊥
unfolding computing last_from
tells_the_last tells =
    let sheet = alone 7 ++ alone 7 ++ needing 1 (7 ∷ 5 ∷ []) in
    let z : TurnedAway 2 6 1 ≡ TurnedAway 1 7 0 = one_room telling_last sheet (tells sheet) in
    let entry : ◌≡◌ {A = ℕ} 2 1 = cc in
    omega arith

-- ---- 7 before 6: a job's own name is judged before its listed names
abbrev pub own_name_first : List ℕ → Room
own_name_first =
    reading (one_by_one (λ names arcs a.
    pick (arguments_wrong a) (Refused 5 0) (pick (contains a.name names) (Refused 7 0)
    (judged_entering most_jobs most_arcs names arcs a (first_unknown names (listed a) 0)))) [] 0)

pub judges_own_name_first : ((sheet : List ℕ) → TellsRoom own_name_first sheet) → ⊥
unfolding computing one_by_one
judges_own_name_first tells =
    let sheet = alone 1 ++ needing 1 (5 ∷ []) in
    let z : TurnedAway 1 7 0 ≡ TurnedAway 1 6 0 = one_room own_name_first sheet (tells sheet) in
    let number : ◌≡◌ {A = ℕ} 7 6 = cc in
    omega arith

-- ---- an offset that counts from the start of its entry, and not from the start of the sheet
abbrev from_entry : ℕ → Decoded → Decoded
from_entry start (job j n) = job j n
from_entry start end = end
from_entry start (refused n at) = refused n (at - start)

unfoldable pub entries_from : ℕ → List ℕ → ℕ → Sheet
entries_from zero sheet at = jobs []
entries_from (suc k) sheet at = onward (from_entry at (decode sheet at)) (entries_from k sheet)

abbrev pub offset_in_entry : List ℕ → Room
offset_in_entry sheet = room_of_sheet (entries_from (length sheet) sheet 0)

pub counts_from_entry : ((sheet : List ℕ) → TellsRoom offset_in_entry sheet) → ⊥
unfolding computing entries_from
counts_from_entry tells =
    let sheet = alone 1 ++ (1 ∷ []) in
    let z : Unreadable 12 1 ≡ Unreadable 12 6 = one_room offset_in_entry sheet (tells sheet) in
    let at : ◌≡◌ {A = ℕ} 1 6 = cc in
    omega arith
