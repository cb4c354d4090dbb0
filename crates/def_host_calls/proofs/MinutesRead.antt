-- What is read of minutes off calls and replies is what is read off the items that the calls are worth: no post, step
-- or get is a load. Of any machine.
use Rattle.std.specs.Prelude.{◌≡◌}
use Rattle.std.proofs.Math.Path.{refl, sym}
use Rattle.std.proofs.Common.{◌∙◌}
use mathlib.Core.List.{List, [], ◌∷◌, ◌++◌}
use Prim.Native.Nat.{ℕ, zero, suc}
use Rattle.def_terms.specs.Terms.{Arguments, Finish}
use Rattle.def_terms.specs.Runs.{Item, post_add, post_finish, step, Result, after, events}
use Rattle.def_terms.specs.declared.Sizes.{Sizes}
use Rattle.def_terms.specs.declared.Answer.{Answer}
use Rattle.def_terms.specs.declared.Answer.TheVariants.{Laid, Loaded, Posted, Going, Ended, NoneReady, Handed, Refused}
use Rattle.def_call_order.specs.Calls.{note_minutes, minutes_on}
use Rattle.def_host_calls.specs.HostCalls.{HostCall, single, whole_add, whole_finish, sheet, where_going, steps_made}
use Rattle.def_host_calls.specs.HostCalls.{call_made, add_made, adds_made, sheet_worth, worth, reply_worth}
use Rattle.def_host_calls.specs.CallsDemand.{note_load}

module _ {S : Type 0} (perform : S → Item → Result S) where
  -- a list of items and then another
  pub minutes_joined : (m : List ℕ) (is js : List Item) (x : S)
      → minutes_on m (events perform x (is ++ js))
      ≡ minutes_on (minutes_on m (events perform x is)) (events perform (after perform x is) js)
  unfolding minutes_on events after
  minutes_joined m [] js x = refl
  minutes_joined m (i ∷ is) js x = minutes_joined (note_minutes m i (perform x i).answer) is js (perform x i).state

  -- no items, or those of which nothing is read
  where_going_lem : (y : Answer) (m : List ℕ) (is : List Item) (x : S) → minutes_on m (events perform x is) ≡ m
      → minutes_on m (events perform x (where_going y is)) ≡ m
  unfolding minutes_on events
  where_going_lem Posted m is x e = e
  where_going_lem Going m is x e = e
  where_going_lem Laid m is x e = refl
  where_going_lem Loaded m is x e = refl
  where_going_lem Ended m is x e = refl
  where_going_lem NoneReady m is x e = refl
  where_going_lem (Handed h) m is x e = refl
  where_going_lem (Refused n i) m is x e = refl

  steps_unread : (m : List ℕ) (k : ℕ) (s : Sizes) (w : ℕ) (x : S)
      → minutes_on m (events perform x (steps_made perform k s w x)) ≡ m
  unfolding minutes_on events steps_made
  steps_unread m zero s w x = refl
  steps_unread m (suc k) s w x =
      where_going_lem (perform x (step s w)).answer m _ _ (steps_unread m k s w (perform x (step s w)).state)

  add_unread : (m : List ℕ) (s : Sizes) (w : ℕ) (a : Arguments) (x : S)
      → minutes_on m (events perform x (add_made perform s w a x)) ≡ m
  unfolding minutes_on events call_made
  add_unread m s w a x =
      where_going_lem (perform x (post_add s w a)).answer m _ _ (steps_unread m _ s w (perform x (post_add s w a)).state)

  finish_unread : (m : List ℕ) (k : ℕ) (s : Sizes) (w : ℕ) (f : Finish) (x : S)
      → minutes_on m (events perform x (call_made perform (post_finish s w f) k s w x)) ≡ m
  unfolding minutes_on events call_made
  finish_unread m k s w f x =
      where_going_lem (perform x (post_finish s w f)).answer m _ _
      (steps_unread m k s w (perform x (post_finish s w f)).state)

  adds_unread : (m : List ℕ) (s : Sizes) (w : ℕ) (l : List Arguments) (x : S)
      → minutes_on m (events perform x (adds_made perform s w l x)) ≡ m
  unfolding minutes_on events adds_made
  adds_unread m s w [] x = refl
  adds_unread m s w (a ∷ l) x =
      minutes_joined m (add_made perform s w a x) _ x ∙ rw (add_unread m s w a x) (adds_unread m s w l _)

  sheet_unread : (n : ℕ) (m : List ℕ) (s : Sizes) (w : ℕ) (l : List Arguments) (x : S)
      → minutes_on m (events perform x (sheet_worth perform n s w l x)) ≡ m
  unfolding minutes_on events
  sheet_unread zero m s w l x = adds_unread m s w l x
  sheet_unread (suc n) m s w l x = refl

  pub call_minutes : (turned : S → Sizes → ℕ → List Arguments → ℕ) (m : List ℕ) (x : S) (c : HostCall)
      → note_load m c (reply_worth perform turned x c) ≡ minutes_on m (events perform x (worth perform turned x c))
  unfolding note_load reply_worth worth minutes_on events
  call_minutes turned m x (single i) = refl
  call_minutes turned m x (whole_add s w a) = sym (add_unread m s w a x)
  call_minutes turned m x (whole_finish s w f) = sym (finish_unread m _ s w f x)
  call_minutes turned m x (sheet s w l) = sym (sheet_unread (turned x s w l) m s w l x)
