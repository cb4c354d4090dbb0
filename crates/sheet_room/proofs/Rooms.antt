-- What the rest of a sheet comes to, entry by entry.
use mathlib.Core.Path.{◌≡◌, refl, ◌∙◌}
use mathlib.Core.List.{List, [], ◌∷◌, ◌++◌}
use Prim.Native.Nat.{ℕ, ◌+◌, ◌-◌}
use lib.ListN.{length}
use Rattle.def_numbers.specs.Numbers.{most_jobs, most_arcs}
use Rattle.def_terms.specs.Cases.{if_refused}
use Rattle.def_terms.specs.declared.Answer.{Answer}
use Rattle.def_terms.specs.declared.Answer.TheVariants.{Laid, Loaded, Posted, Going, Ended, NoneReady, Handed}
use Rattle.def_sheets.specs.Job.{Job}
use Rattle.def_sheets.specs.Decode.{Sheet, jobs, broken, before, decode_from}
use Rattle.sheet_scan.proofs.Sheets.{rest}
use Rattle.def_room.specs.Room.{arguments_of, judged, room_from}
use Rattle.def_room.specs.declared.Room.{Room}
use Rattle.std.specs.Prelude.{Result, Ok, Err}
use Rattle.def_basics.specs.Laws.{never}
use Rattle.def_sheets.specs.Decode.{refusal}
use Rattle.def_sheets.specs.declared.Refusal.{Refusal}
use Rattle.sheet_room.specs.Verdicts.{verdict_of, readable}
use Rattle.sheet_room.specs.declared.Refused.{Refused}

pub rest_is : (s : List ℕ) (at : ℕ) → rest s at ≡ decode_from (length s - at) s at
unfolding rest
rest_is s at = refl

-- whether a sheet can be read is told by what follows an entry that can be
pub readable_before : (j : Job) (t : Sheet) → readable (before j t) ≡ readable t
readable_before j (jobs js) = refl
readable_before j (broken n at) = refl

-- what a sheet comes to whose earlier entries were all accepted
abbrev pub room_after : List ℕ → ℕ → Sheet → Room
room_after names arcs (jobs js) = room_from names arcs js
room_after names arcs (broken number at) = Room.Unreadable number at

-- what is told where an entry is turned away
abbrev turned_away : Sheet → ℕ → Refused → Room
turned_away (jobs js) entry r = Room.TurnedAway entry r.number r.place
turned_away (broken number at) entry r = Room.Unreadable number at

-- ---- the first entry of those that are left, accepted or refused
by_verdict : {A : Type 0} → Result (Unit {0}) Refused → (ℕ → ℕ → A) → A → A
by_verdict (Err r) f e = f r.number r.place
by_verdict (Ok u) f e = e

by_verdict_lem : {A : Type 0} (x : Answer) (f : ℕ → ℕ → A) (e : A) → if_refused x f e ≡ by_verdict (verdict_of x) f e
unfolding by_verdict
by_verdict_lem Laid f e = refl
by_verdict_lem Loaded f e = refl
by_verdict_lem Posted f e = refl
by_verdict_lem Going f e = refl
by_verdict_lem Ended f e = refl
by_verdict_lem NoneReady f e = refl
by_verdict_lem (Handed h) f e = refl
by_verdict_lem (Answer.Refused n p) f e = refl

module _ (names : List ℕ) (arcs : ℕ) (j : Job) where
  abbrev verdict : Result (Unit {0}) Refused
  verdict = verdict_of (judged most_jobs most_arcs names arcs (arguments_of j))

  pub room_accepted : (t : Sheet) → verdict ≡ Ok tt
      → room_after names arcs (before j t) ≡ room_after (names ++ (j.name ∷ [])) (arcs + length j.list) t
  unfolding room_from by_verdict
  room_accepted (jobs js) v = by_verdict_lem (judged most_jobs most_arcs names arcs (arguments_of j)) _ _ ∙ rw v
  room_accepted (broken n at) v = refl

  -- the entry that is turned away is told, unless the rest cannot be read
  turned : {r : Refused} → verdict ≡ Err r → (t : Sheet)
      → room_after names arcs (before j t) ≡ turned_away t (length names) r
  unfolding room_from by_verdict
  turned v (jobs js) = by_verdict_lem (judged most_jobs most_arcs names arcs (arguments_of j)) _ _ ∙ rw v
  turned v (broken n at) = refl

  pub room_refused : (t : Sheet) {r : Refused} → verdict ≡ Err r → readable t ≡ Ok tt
      → room_after names arcs (before j t) ≡ Room.TurnedAway (length names) r.number r.place
  room_refused (jobs js) v e = turned v (jobs js)
  room_refused (broken n at) v e = never (cc)

  pub room_unreadable : (t : Sheet) {e : Refusal} → readable t ≡ Err e
      → room_after names arcs (before j t) ≡ Room.Unreadable e.number e.at
  room_unreadable (jobs js) h = never (cc)
  room_unreadable (broken n at) {e} h = let x : refusal n at ≡ e = cc in rw (← x)
