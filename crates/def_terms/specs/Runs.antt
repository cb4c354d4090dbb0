-- Items, and what a list of them does: one definition for every machine that answers items.
use Rattle.std.specs.Prelude.{Bool, true, false, List, [], ◌∷◌, ℕ, ◌+◌, ◌-◌}
use Rattle.def_basics.specs.Base.{occurrences}
use Rattle.def_terms.specs.Terms.{Arguments, Finish}
use Rattle.def_terms.specs.declared.Sizes.{Sizes}
use Rattle.def_terms.specs.declared.Answer.{Answer}

-- an item of demand 3's list: a post of an add or a finish, a step or a get, with the sizes and the worker that it
-- brings; or a load of minute values, with its sizes, which has no worker
pub data Item : Type 0 where
  post_add : Sizes → ℕ → Arguments → Item
  post_finish : Sizes → ℕ → Finish → Item
  step : Sizes → ℕ → Item
  get : Sizes → ℕ → Item
  load : Sizes → List ℕ → Item

abbrev pub sizes_of : Item → Sizes
sizes_of (post_add s w a) = s
sizes_of (post_finish s w f) = s
sizes_of (step s w) = s
sizes_of (get s w) = s
sizes_of (load s m) = s

abbrev pub is_load : Item → Bool
is_load (post_add s w a) = false
is_load (post_finish s w f) = false
is_load (step s w) = false
is_load (get s w) = false
is_load (load s m) = true

-- the worker of an item that is no load; of a load it says nothing
abbrev pub worker_of : Item → ℕ
worker_of (post_add s w a) = w
worker_of (post_finish s w f) = w
worker_of (step s w) = w
worker_of (get s w) = w
worker_of (load s m) = 0

-- what an item answers, and the state that it leaves
pub record Result (S : Type 0) : Type 0 where
  pub answer : Answer
  pub state : S

abbrev pub result_of : {S : Type 0} → Answer → S → Result S
result_of a s = record { answer = a; state = s }

-- an item with its answer
pub record Event : Type 0 where
  pub item : Item
  pub answer : Answer

module _ {S : Type 0} (perform : S → Item → Result S) where
  -- the state after a list of items, each given the state as the last left it
  unfoldable pub after : S → List Item → S
  after s [] = s
  after s (i ∷ is) = after (perform s i).state is

  -- the items with their answers
  unfoldable pub events : S → List Item → List Event
  events s [] = []
  events s (i ∷ is) = record { item = i; answer = (perform s i).answer } ∷ events (perform s i).state is

  -- "Its count of entries is the sum, over the items of the list, of how many more places it has [in the queue] just
  -- after the item than just before (nought if not more)"
  unfoldable pub queue_entries : (S → List ℕ) → S → List Item → ℕ → ℕ
  queue_entries queue s [] j = 0
  queue_entries queue s (i ∷ is) j =
      (occurrences j (queue (perform s i).state) - occurrences j (queue s))
      + queue_entries queue (perform s i).state is j
