-- The invariant of the loop over a sheet's entries, `Left`: how it starts, ends and goes on.
use Rattle.std.specs.Prelude.{◌≡◌, refl, List, [], ◌∷◌, ◌++◌, ℕ, ◌+◌, ◌*◌, ◌≤◌, ◌<◌, length, Result, Ok, Err}
use Rattle.std.proofs.Common.{sym, ap, ◌∙◌, arith}
use Rattle.def_numbers.specs.Numbers.{most_jobs, most_arcs, most_names, name_bytes}
use Rattle.def_basics.specs.Base.{prefix}
use Rattle.def_sheets.proofs.NumberLaws.{length_names_at}
use Rattle.def_sheets.specs.Decode.{end, refused, decode, Sheet, jobs, broken, before, names_at, decode_sheet}
use Rattle.def_sheets.specs.declared.Refusal.{Refusal}
use Rattle.def_sheets.specs.declared.Scanned.{Scanned}
use Rattle.entry_scan.proofs.Entries.{Found, job_of_scan}
use Rattle.sheet_scan.proofs.Sheets.{rest, rest_start, rest_on}
use Rattle.def_room.specs.Room.{arguments_of, judged, room_from, room_of_sheet, room_of}
use Rattle.def_room.specs.declared.Room.{Room}
use Rattle.sheet_room.specs.Verdicts.{arguments, verdict_of, readable}
use Rattle.sheet_room.specs.declared.Refused.{Refused}
use Rattle.sheet_room.proofs.Judged.{accepted_room, judged_same}
use Rattle.sheet_room.proofs.Rooms.{room_after, room_accepted, room_refused, room_unreadable}

-- after accepted entries of these names, the others come to what the sheet does
pub record Left (sheet names list : List ℕ) (arcs at : ℕ) : Type 0 where
  pub inside : at ≤ length sheet
  pub places : length list ≡ most_names
  pub few : arcs ≤ most_arcs
  pub whole : room_after names arcs (rest sheet at) ≡ room_of sheet

pub left_start : (sheet list : List ℕ) → length list ≡ most_names → Left sheet [] list 0 0
unfolding room_of
left_start sheet list e = record {
  inside = omega arith;
  places = e;
  few = omega arith;
  whole = rw rest_start (none (decode_sheet sheet));
}
  where
    none : (t : Sheet) → room_after [] 0 t ≡ room_of_sheet t
    none (jobs js) = refl
    none (broken n at) = refl

module _ {sheet names list : List ℕ} {arcs at : ℕ} (l : Left sheet names list arcs at) where
  pub left_none : decode sheet at ≡ end → Room.Fits (length names) arcs (4 * length names + 3 * arcs) ≡ room_of sheet
  unfolding room_from
  left_none e = let w = l.whole in rw (rest_on, e) at w

  pub left_broken : {n a : ℕ} → decode sheet at ≡ refused n a → Room.Unreadable n a ≡ room_of sheet
  left_broken e = let w = l.whole in rw (rest_on, e) at w

-- ---- an entry that was read, with its names stored, and its verdict
-- the stored names are judged as the job's are
judged_read : (sheet names : List ℕ) (arcs at : ℕ) (x : Scanned) (stored : List ℕ)
    → prefix x.numbers.count stored ≡ prefix x.numbers.count (names_at name_bytes sheet (at + 6) x.numbers.count)
    → judged most_jobs most_arcs names arcs (arguments x.numbers stored)
    ≡ judged most_jobs most_arcs names arcs (arguments_of (job_of_scan sheet at x))
judged_read sheet names arcs at x stored p =
    let list = names_at name_bytes sheet (at + 6) x.numbers.count in
    rw (length_names_at name_bytes sheet (at + 6) x.numbers.count)
    (judged_same most_jobs most_arcs names arcs (arguments x.numbers list) stored p)

module _ {sheet names list : List ℕ} {arcs at : ℕ} (l : Left sheet names list arcs at) {x : Scanned} (e : Found sheet at x)
  where
    on : room_after names arcs (before (job_of_scan sheet at x) (rest sheet x.next)) ≡ room_of sheet
    on = let w = l.whole in rw (rest_on, e.entry) at w

    pub left_unreadable : {r : Refusal} → readable (rest sheet x.next) ≡ Err r → Room.Unreadable r.number r.at ≡ room_of sheet
    left_unreadable b = sym (room_unreadable names arcs (job_of_scan sheet at x) (rest sheet x.next) b) ∙ on

    module _ (stored : List ℕ) (v : Result (Unit {0}) Refused)
        (p : prefix x.numbers.count stored
        ≡ prefix x.numbers.count (names_at name_bytes sheet (at + 6) x.numbers.count))
        (judge : v ≡ verdict_of (judged most_jobs most_arcs names arcs (arguments x.numbers stored))) where
      verdict : v ≡ verdict_of (judged most_jobs most_arcs names arcs (arguments_of (job_of_scan sheet at x)))
      verdict = judge ∙ ap verdict_of (judged_read sheet names arcs at x stored p)

      pub left_room : v ≡ Ok tt → (length names < most_jobs) × (arcs + x.numbers.count ≤ most_arcs)
      left_room a = accepted_room most_jobs most_arcs names arcs _ (sym judge ∙ a)

      pub left_refused : {r : Refused} → v ≡ Err r → readable (rest sheet x.next) ≡ Ok tt
          → Room.TurnedAway (length names) r.number r.place ≡ room_of sheet
      left_refused a b =
          sym (room_refused names arcs (job_of_scan sheet at x) (rest sheet x.next) (sym verdict ∙ a) b) ∙ on

      pub left_more : length stored ≡ most_names → v ≡ Ok tt
          → Left sheet (names ++ x.numbers.name ∷ []) stored (arcs + x.numbers.count) x.next
      left_more k a =
          let n = length_names_at name_bytes sheet (at + 6) x.numbers.count in
          record {
            inside = e.reach.within;
            places = k;
            few = (left_room a).1;
            whole = sym (rw n at (room_accepted names arcs (job_of_scan sheet at x) (rest sheet x.next) (sym verdict ∙ a)))
                ∙ on;
          }
