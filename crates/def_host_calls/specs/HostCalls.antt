-- What a host calls: a single item, an add or a finish run whole, a sheet of adds; what each answers, and which items
-- it is worth: its posts and steps, "with no other worker's step between" (docs/RULES.md, "Whole calls"). One
-- definition for every machine that answers items.
use Rattle.std.specs.Prelude.{List, [], ◌∷◌, ◌++◌, ℕ, zero, suc, ◌+◌, ◌-◌, ◌*◌}
use Rattle.def_basics.specs.Base.{occurrences}
use Rattle.def_terms.specs.Terms.{Arguments, Finish}
use Rattle.def_terms.specs.Runs.{Item, post_add, post_finish, step, Result, Event, after, events}
use Rattle.def_terms.specs.Cases.{if_posted, if_going}
use Rattle.def_terms.specs.declared.Sizes.{Sizes}
use Rattle.def_terms.specs.declared.Answer.{Answer}
use Rattle.def_terms.specs.declared.Answer.TheVariants.{Laid}

-- a call of a host: an item, an add run whole, a finish run whole, or a sheet, whose adds are run whole in order
pub data HostCall : Type 0 where
  single : Item → HostCall
  whole_add : Sizes → ℕ → Arguments → HostCall
  whole_finish : Sizes → ℕ → Finish → HostCall
  sheet : Sizes → ℕ → List Arguments → HostCall

-- what it answers: one answer; or, of a sheet, the number that turned it away (0 if none) and the answers of its adds
pub data Reply : Type 0 where
  one : Answer → Reply
  each : ℕ → List Answer → Reply

-- a reply, and the state that the call leaves
pub record Replied (S : Type 0) : Type 0 where
  pub reply : Reply
  pub state : S

abbrev pub replied : {S : Type 0} → Reply → S → Replied S
replied r x = record { reply = r; state = x }

-- what follows where a post or a step goes on
abbrev pub where_going : {A : Type 0} → Answer → List A → List A
where_going x l = if_posted x l (if_going x l [])

-- how a list of events ended: the last answer, after an answer x
unfoldable pub last_answer : Answer → List Event → Answer
last_answer x [] = x
last_answer x (e ∷ es) = last_answer e.answer es

module _ {S : Type 0} (perform : S → Item → Result S) where
  -- the steps of a worker's call, until one does not go on, at most k
  unfoldable pub steps_made : ℕ → Sizes → ℕ → S → List Item
  steps_made zero s w x = []
  steps_made (suc k) s w x =
      step s w ∷ where_going (perform x (step s w)).answer (steps_made k s w (perform x (step s w)).state)

  -- a post, and its steps
  unfoldable pub call_made : Item → ℕ → Sizes → ℕ → S → List Item
  call_made i k s w x = i ∷ where_going (perform x i).answer (steps_made k s w (perform x i).state)

  -- "An accepted add takes exactly 2d + 2 steps", and a finish "1 step more than it has arcs", of which there are at
  -- most A
  abbrev pub add_made : Sizes → ℕ → Arguments → S → List Item
  add_made s w a x = call_made (post_add s w a) (2 * a.count + 2) s w x

  abbrev pub finish_made : Sizes → ℕ → Finish → S → List Item
  finish_made s w f x = call_made (post_finish s w f) (s.arcs + 1) s w x

  -- the adds of a sheet, one after another
  unfoldable pub adds_made : Sizes → ℕ → List Arguments → S → List Item
  adds_made s w [] x = []
  adds_made s w (a ∷ l) x = add_made s w a x ++ adds_made s w l (after perform x (add_made s w a x))

  -- what these items answer: a whole call its last answer, the adds of a sheet each its own
  abbrev pub last_of : List Item → S → Answer
  last_of is x = last_answer Laid (events perform x is)

  unfoldable pub adds_answer : Sizes → ℕ → List Arguments → S → List Answer
  adds_answer s w [] x = []
  adds_answer s w (a ∷ l) x =
      last_of (add_made s w a x) x ∷ adds_answer s w l (after perform x (add_made s w a x))

  -- "for the ordering by deciding steps it counts as its separate adds, and as none if 1 to 3 or 16 turns it away"
  abbrev pub sheet_worth : ℕ → Sizes → ℕ → List Arguments → S → List Item
  sheet_worth zero s w l x = adds_made s w l x
  sheet_worth (suc n) s w l x = []

  abbrev pub sheet_reply : ℕ → Sizes → ℕ → List Arguments → S → Reply
  sheet_reply zero s w l x = each 0 (adds_answer s w l x)
  sheet_reply (suc n) s w l x = each (suc n) []

  -- the items that a call is worth, and what they make it reply, given the number that turns a sheet away
  module _ (turned : S → Sizes → ℕ → List Arguments → ℕ) where
    unfoldable pub worth : S → HostCall → List Item
    worth x (single i) = i ∷ []
    worth x (whole_add s w a) = add_made s w a x
    worth x (whole_finish s w f) = finish_made s w f x
    worth x (sheet s w l) = sheet_worth (turned x s w l) s w l x

    unfoldable pub reply_worth : S → HostCall → Reply
    reply_worth x (single i) = one (perform x i).answer
    reply_worth x (whole_add s w a) = one (last_of (add_made s w a x) x)
    reply_worth x (whole_finish s w f) = one (last_of (finish_made s w f x) x)
    reply_worth x (sheet s w l) = sheet_reply (turned x s w l) s w l x

-- ---- a list of calls, each given the state as the last left it
module _ {S : Type 0} (answer : S → HostCall → Replied S) where
  unfoldable pub after_calls : S → List HostCall → S
  after_calls x [] = x
  after_calls x (c ∷ cs) = after_calls (answer x c).state cs

  -- the entries of a job into the queue, by calls: "how many more places it has there just after the item than just
  -- before (nought if not more)"
  unfoldable pub queue_entries_by_calls : (S → List ℕ) → S → List HostCall → ℕ → ℕ
  queue_entries_by_calls queue x [] j = 0
  queue_entries_by_calls queue x (c ∷ cs) j =
      (occurrences j (queue (answer x c).state) - occurrences j (queue x))
      + queue_entries_by_calls queue (answer x c).state cs j
