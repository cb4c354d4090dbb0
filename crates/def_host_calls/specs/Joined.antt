-- Two lists of items, one after the other: the state left, the answers, the entries and what is read. Of any machine.
use Rattle.std.specs.Prelude.{◌≡◌, ℕ, ◌+◌}
use Rattle.std.proofs.Math.Path.{refl}
use mathlib.Core.List.{List, [], ◌∷◌, ◌++◌}
use native.Mathlib.Omega.{arith}
use Rattle.def_terms.specs.Runs.{Item, Result, Event, after, events, queue_entries}
use Rattle.def_call_order.specs.Calls.{Reading, note, read_on}

pub read_joined : (r : Reading) (a b : List Event) → read_on r (a ++ b) ≡ read_on (read_on r a) b
unfolding read_on
read_joined r [] b = refl
read_joined r (e ∷ a) b = read_joined (note r e.item e.answer) a b

module _ {S : Type 0} (perform : S → Item → Result S) where
  pub after_joined : (x : S) (a b : List Item) → after perform x (a ++ b) ≡ after perform (after perform x a) b
  unfolding after
  after_joined x [] b = refl
  after_joined x (i ∷ a) b = after_joined (perform x i).state a b

  pub events_joined : (x : S) (a b : List Item)
      → events perform x (a ++ b) ≡ events perform x a ++ events perform (after perform x a) b
  unfolding after events
  events_joined x [] b = refl
  events_joined x (i ∷ a) b = rw (events_joined (perform x i).state a b)

  pub queue_entries_joined : (queue : S → List ℕ) (x : S) (a b : List Item) (j : ℕ)
      → queue_entries perform queue x (a ++ b) j
      ≡ queue_entries perform queue x a j + queue_entries perform queue (after perform x a) b j
  unfolding after queue_entries
  queue_entries_joined queue x [] b j = omega arith
  queue_entries_joined queue x (i ∷ a) b j = omega (arith, queue_entries_joined queue (perform x i).state a b j)

  -- what is read of both
  pub reads_joined : (r : Reading) (x : S) (a b : List Item)
      → read_on r (events perform x (a ++ b))
      ≡ read_on (read_on r (events perform x a)) (events perform (after perform x a) b)
  reads_joined r x a b = rw (events_joined x a b, read_joined)
