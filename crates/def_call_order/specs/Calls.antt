-- The whole calls of a history, read off its items and their answers alone: per worker the posted call and how many of
-- its steps were answered ("Deciding steps", "The plain book").
use Rattle.std.specs.Prelude.{◌≡◌, Bool, true, false, ◌&&◌, ◌||◌, not, List, [], ◌∷◌, ◌++◌, ℕ, suc, ltb, leb, eqb}
use Rattle.def_numbers.specs.Numbers.{damaged}
use Rattle.def_basics.specs.Base.{pick, update}
use Rattle.def_minutes.specs.Minutes.{fixed_minutes}
use Rattle.def_terms.specs.Terms.{Arguments, Finish}
use Rattle.def_terms.specs.Runs.{Item, post_add, post_finish, step, get, load, Event}
use Rattle.def_terms.specs.Cases.{if_loaded, if_posted, if_going, if_ended, if_none_ready, if_handed, if_refused}
use Rattle.def_terms.specs.declared.Answer.{Answer}
use Rattle.def_book.specs.Book.{Call, add, finish, End, accepted, none_ready, handed, refused, if_accepted}
use Rattle.def_book.specs.Book as book

-- a worker's call half done, with the steps answered so far: an add with its arguments, a finish with what it brings
pub data Pending : Type 0 where
  idle : Pending
  adding : Arguments → ℕ → Pending
  finishing : Finish → ℕ → Pending

-- the calls half done; the calls decided so far, in the order of their deciding steps, with how they ended;
-- the names of the jobs whose add has ended accepted, and of those of which an accepted finish call has ended
pub record Reading : Type 0 where
  pub pending : ℕ → Pending
  pub calls : List book.Ended
  pub added : List ℕ
  pub finished : List ℕ

abbrev pub reading_by : (ℕ → Pending) → List book.Ended → List ℕ → List ℕ → Reading
reading_by pending calls added finished =
    record { pending = pending; calls = calls; added = added; finished = finished }

unfoldable pub unread : Reading
unread = reading_by (λ w. idle) [] [] []

-- ---- what is noted
abbrev pub becomes : Reading → ℕ → Pending → Reading
becomes r w p = reading_by (update r.pending w p) r.calls r.added r.finished

abbrev pub decided : Reading → Call → End → Reading
decided r c e = reading_by r.pending (r.calls ++ (record { call = c; end = e } ∷ [])) r.added r.finished

abbrev pub decided_if : Bool → Reading → Call → End → Reading
decided_if true r c e = decided r c e
decided_if false r c e = r

abbrev pub add_ended : Reading → ℕ → Reading
add_ended r name = reading_by r.pending r.calls (r.added ++ (name ∷ [])) r.finished

abbrev pub finish_ended : Reading → ℕ → Reading
finish_ended r name = reading_by r.pending r.calls r.added (r.finished ++ (name ∷ []))

-- "for a refused call the step or post that refuses": a call that a number ends was not accepted, even where an earlier
-- step had decided it so. What that step noted is withdrawn: the last add or finish of the worker.
abbrev pub is_call_of : ℕ → Call → Bool
is_call_of w (add v a) = eqb v w
is_call_of w (finish v f) = eqb v w
is_call_of w (Call.get v) = false

unfoldable pub any_call_of : ℕ → List book.Ended → Bool
any_call_of w [] = false
any_call_of w (x ∷ l) = is_call_of w x.call || any_call_of w l

unfoldable pub without_last : ℕ → List book.Ended → List book.Ended
without_last w [] = []
without_last w (x ∷ l) = pick (is_call_of w x.call && not (any_call_of w l)) l (x ∷ without_last w l)

abbrev pub withdrawn_if : Bool → Reading → ℕ → Reading
withdrawn_if true r w = reading_by r.pending (without_last w r.calls) r.added r.finished
withdrawn_if false r w = r

-- "refused by 1 to 4 … end no call", and neither does 9, which leaves the call half done
abbrev pub ends_call : ℕ → Bool
ends_call n = ltb 4 n && not (eqb n damaged)

-- ---- a step, by the call that its worker is in. Deciding: "entering for an accepted add", which is step d + 1, or the
-- step that ends it where that comes earlier; "the mark for an accepted finish", which is step 1; "and for a refused
-- call the step that refuses"
unfoldable pub note_step : Reading → ℕ → Pending → Answer → Reading
note_step r w (adding a k) x =
    if_going x (becomes (decided_if (eqb k a.count) r (add w a) accepted) w (adding a (suc k)))
    (if_ended x (becomes (add_ended (decided_if (leb k a.count) r (add w a) accepted) a.name) w idle)
    (if_refused x (λ n i.
    pick (ends_call n) (becomes (decided (withdrawn_if (ltb a.count k) r w) (add w a) (refused n i)) w idle) r) r))
note_step r w (finishing f k) x =
    if_going x (becomes (decided_if (eqb k 0) r (finish w f) accepted) w (finishing f (suc k)))
    (if_ended x (becomes (finish_ended (decided_if (eqb k 0) r (finish w f) accepted) f.name) w idle)
    (if_refused x (λ n i.
    pick (ends_call n) (becomes (decided (withdrawn_if (ltb 0 k) r w) (finish w f) (refused n i)) w idle) r) r))
note_step r w idle x = r

-- ---- posts and gets: a post that is taken makes the call half done, one that refuses decides it; a get is decided as
-- it is made
unfoldable pub note_add : Reading → ℕ → Arguments → Answer → Reading
note_add r w a x =
    if_posted x (becomes r w (adding a 0))
    (if_refused x (λ n i. decided_if (ends_call n) r (add w a) (refused n i)) r)

unfoldable pub note_finish : Reading → ℕ → Finish → Answer → Reading
note_finish r w f x =
    if_posted x (becomes r w (finishing f 0))
    (if_refused x (λ n i. decided_if (ends_call n) r (finish w f) (refused n i)) r)

unfoldable pub note_get : Reading → ℕ → Answer → Reading
note_get r w x =
    if_handed x (λ h. decided r (Call.get w) (handed h))
    (if_none_ready x (decided r (Call.get w) none_ready)
    (if_refused x (λ n i. decided_if (ends_call n) r (Call.get w) (refused n i)) r))

unfoldable pub note : Reading → Item → Answer → Reading
note r (post_add s w a) x = note_add r w a x
note r (post_finish s w f) x = note_finish r w f x
note r (step s w) x = note_step r w (r.pending w) x
note r (get s w) x = note_get r w x
note r (load s m) x = r

-- ---- "Loads may stand in demand 3's list, and the book is not fed them": what is read of them is the minutes, which
-- are those of the last load that was accepted, and the fixed ones before any
abbrev pub note_minutes : List ℕ → Item → Answer → List ℕ
note_minutes before (load s m) x = if_loaded x m before
note_minutes before (post_add s w a) x = before
note_minutes before (post_finish s w f) x = before
note_minutes before (step s w) x = before
note_minutes before (get s w) x = before

unfoldable pub minutes_on : List ℕ → List Event → List ℕ
minutes_on m [] = m
minutes_on m (e ∷ es) = minutes_on (note_minutes m e.item e.answer) es

abbrev pub minutes_loaded : List Event → List ℕ
minutes_loaded es = minutes_on fixed_minutes es

-- ---- the reading of a history
unfoldable pub read_on : Reading → List Event → Reading
read_on r [] = r
read_on r (e ∷ es) = read_on (note r e.item e.answer) es

abbrev pub reading : List Event → Reading
reading es = read_on unread es

-- no call is half done
abbrev pub Quiet : Reading → Type 0
Quiet r = (w : ℕ) → r.pending w ≡ idle

-- the adds accepted so far: "Jobs are numbered in the order they enter", so the j-th is that of job j
unfoldable pub accepted_adds : List book.Ended → List Arguments
accepted_adds [] = []
accepted_adds (x ∷ l) = more x.call x.end (accepted_adds l)
  where
    more : Call → End → List Arguments → List Arguments
    more (add w a) e rest = if_accepted e (a ∷ rest) rest
    more (Call.get w) e rest = rest
    more (finish w f) e rest = rest

-- the names of the accepted finishes so far
unfoldable pub accepted_finishes : List book.Ended → List ℕ
accepted_finishes [] = []
accepted_finishes (x ∷ l) = more x.call x.end (accepted_finishes l)
  where
    more : Call → End → List ℕ → List ℕ
    more (finish w f) e rest = if_accepted e (f.name ∷ rest) rest
    more (add w a) e rest = rest
    more (Call.get w) e rest = rest
