-- A call over the words replies what its posts and steps answer, and leaves what they leave, for ALL tables and
-- arguments ("equal to post and steps"; a sheet's "answers and the tables afterwards equal those of the single adds
-- with no other worker's step between").
use Rattle.std.specs.Prelude.{◌≡◌, Bool, true, false, eqb}
use Rattle.std.proofs.Math.Path.{refl}
use Rattle.std.proofs.Common.{ap, arith}
use mathlib.Core.List.{List, [], ◌∷◌}
use Prim.Native.Nat.{ℕ, zero, suc, ◌+◌, ◌*◌, ◌<◌}
use Rattle.def_basics.specs.Laws.{never}
use Rattle.def_terms.specs.Terms.{Arguments, Finish}
use Rattle.def_terms.specs.Runs.{Item, post_add, post_finish, Result, result_of, after, events}
use Rattle.def_terms.specs.declared.Sizes.{Sizes}
use Rattle.def_terms.specs.declared.Answer.{Answer}
use Rattle.def_terms.specs.declared.Answer.TheVariants.{Laid, Loaded, Posted, Going, Ended, NoneReady, Handed, Refused}
use Rattle.def_words.specs.Layout.{none, Tables}
use Rattle.def_words.specs.Words.{answer_of, going_unless, plan_step, step_words, perform}
use Rattle.def_words.specs.declared.Plan.{Plan}
use Rattle.def_words.specs.declared.Plan.TheVariants.{Refuse, Quit, Pass, Enter, Tally, LinkFirst, LinkAfter, Settle}
use Rattle.def_words.specs.declared.Plan.TheVariants.{SettleQueue, Mark, Notify, NotifyQueue}
use Rattle.def_whole_calls.specs.Whole.{and_then, steps_of}
use Rattle.def_whole_calls.specs.Whole as whole
use Rattle.def_whole_calls.specs.Sheet.{sheet_result, add_each, served, sheet_words}
use Rattle.def_host_calls.specs.HostCalls.{HostCall, single, whole_add, whole_finish, sheet, replied, where_going}
use Rattle.def_host_calls.specs.HostCalls.{last_answer}
use Rattle.def_host_calls.specs.HostCalls.{steps_made, call_made, add_made, finish_made, adds_made, adds_answer, sheet_worth}
use Rattle.def_host_calls.specs.HostCalls.{sheet_reply, worth, reply_worth}
use Rattle.def_host_calls.specs.Joined.{after_joined}
use Rattle.thm_calls_history.specs.WordsCalls.{turned_words, replied_one, replied_each, answer_words}

-- ---- a step never answers as a post does
not_posted : (b : Bool) → going_unless b ≡ Posted → ⊥
not_posted true e = never (cc)
not_posted false e = never (cc)

step_not_posted : (p : Plan) → answer_of p ≡ Posted → ⊥
step_not_posted (Refuse n) e = never (cc)
step_not_posted (Quit n i) e = never (cc)
step_not_posted Pass e = never (cc)
step_not_posted (Enter j k h x) e = never (cc)
step_not_posted (Tally o) e = never (cc)
step_not_posted (LinkFirst p x j) e = never (cc)
step_not_posted (LinkAfter p l x j) e = never (cc)
step_not_posted (Settle j c) e = never (cc)
step_not_posted (SettleQueue j c q) e = never (cc)
step_not_posted (Mark p x) e = not_posted (eqb x none) e
step_not_posted (Notify j c x) e = not_posted (eqb x none) e
step_not_posted (NotifyQueue j c x q) e = not_posted (eqb x none) e

-- ---- how a list of items ended, after an answer x, and the tables left
abbrev ran : Answer → Tables → List Item → Result Tables
ran x t is = result_of (last_answer x (events perform t is)) (after perform t is)

module _ (s : Sizes) (w : ℕ) where
  -- what follows a post or a step
  goes_on : (k : ℕ) (x : Answer) (t : Tables) → (x ≡ Posted → 0 < k)
      → steps_of k s w t ≡ ran Going t (steps_made perform k s w t)
      → and_then x t (steps_of k s w) ≡ ran x t (where_going x (steps_made perform k s w t))
  unfolding last_answer events after steps_made
  goes_on k Going t more e = e
  goes_on zero Posted t more e = absurd (omega (arith, more refl))
  goes_on (suc k) Posted t more e = e
  goes_on k Laid t more e = refl
  goes_on k Loaded t more e = refl
  goes_on k Ended t more e = refl
  goes_on k NoneReady t more e = refl
  goes_on k (Handed h) t more e = refl
  goes_on k (Refused n i) t more e = refl

  steps_made_lem : (k : ℕ) (t : Tables) → steps_of k s w t ≡ ran Going t (steps_made perform k s w t)
  unfolding steps_of last_answer events after steps_made perform step_words
  steps_made_lem zero t = refl
  steps_made_lem (suc k) t =
      goes_on k (step_words s t w).answer (step_words s t w).state
      (λ e. absurd (step_not_posted (plan_step s t w) e))
      (steps_made_lem k (step_words s t w).state)

  -- a post, and its steps
  call_made_lem : (k : ℕ) (i : Item) (t : Tables) → 0 < k
      → and_then (perform t i).answer (perform t i).state (steps_of k s w) ≡ ran Laid t (call_made perform i k s w t)
  unfolding last_answer events after call_made
  call_made_lem k i t h = goes_on k (perform t i).answer (perform t i).state (λ e. h) (steps_made_lem k (perform t i).state)

  pub add_made_lem : (a : Arguments) (t : Tables) → whole.whole_add s t w a ≡ ran Laid t (add_made perform s w a t)
  unfolding whole.whole_add perform
  add_made_lem a t = call_made_lem (2 * a.count + 2) (post_add s w a) t (omega arith)

  pub finish_made_lem : (f : Finish) (t : Tables)
      → whole.whole_finish s t w f ≡ ran Laid t (finish_made perform s w f t)
  unfolding whole.whole_finish perform
  finish_made_lem f t = call_made_lem (s.arcs + 1) (post_finish s w f) t (omega arith)

  -- the adds of a sheet, one after another
  adds_made_lem : (l : List Arguments) (t : Tables)
      → add_each s w l t ≡ sheet_result 0 (adds_answer perform s w l t) (after perform t (adds_made perform s w l t))
  unfolding add_each adds_answer adds_made after
  adds_made_lem [] t = refl
  adds_made_lem (a ∷ l) t = rw (
    add_made_lem a t,
    adds_made_lem l (after perform t (add_made perform s w a t)),
    after_joined perform t (add_made perform s w a t),
  )

  sheet_made : (n : ℕ) (l : List Arguments) (t : Tables)
      → replied_each (served n s t w l)
      ≡ replied (sheet_reply perform n s w l t) (after perform t (sheet_worth perform n s w l t))
  unfolding served after
  sheet_made zero l t = rw (adds_made_lem l t)
  sheet_made (suc n) l t = refl

-- ---- every call
pub whole_is_worth : (t : Tables) (c : HostCall)
    → answer_words t c
    ≡ replied (reply_worth perform turned_words t c) (after perform t (worth perform turned_words t c))
unfolding answer_words worth reply_worth sheet_words after
whole_is_worth t (single i) = refl
whole_is_worth t (whole_add s w a) = ap replied_one (add_made_lem s w a t)
whole_is_worth t (whole_finish s w f) = ap replied_one (finish_made_lem s w f t)
whole_is_worth t (sheet s w l) = sheet_made s w (turned_words t s w l) l t
