-- The plan of a notice, by what it asks for; and the notices of a finish, one at a time.
use mathlib.Core.Path.{◌≡◌, refl}
use mathlib.Core.Bool.{◌&&◌}
use mathlib.Core.Logic.{inl, inr}
use mathlib.Core.List.{[], ◌∷◌}
use Prim.Native.Nat.{ℕ, ◌+◌, ◌<◌}
use native.Mathlib.Numerals.{add-one}
use lib.Dec.{ltb, leb, eqb}
use types.Run.{OneOf}
use Rattle.def_numbers.specs.Numbers.{most_names}
use Rattle.def_basics.specs.Laws.{pick_by}
use Rattle.def_terms.specs.Runs.{Result, result_of}
use Rattle.def_terms.specs.declared.Answer.TheVariants.{Going}
use Rattle.def_terms.specs.declared.Sizes.{Sizes}
use Rattle.def_words.specs.Layout.{Tables, View, view, COUNT, DEPENDENT, AFTER}
use Rattle.def_words.specs.Words.{is_place, place_ok, plan_notify}
use Rattle.def_words.specs.declared.Seat.{Seat}
use Rattle.def_words.specs.declared.Plan.{Plan}
use Rattle.def_words.specs.declared.Plan.TheVariants.{Refuse, Quit, Pass, Enter, Tally, LinkFirst, LinkAfter, Settle}
use Rattle.def_words.specs.declared.Plan.TheVariants.{SettleQueue, Mark, Notify, NotifyQueue}
use Rattle.thm_counters_fit.specs.Kinds.{tag, apart}
use Rattle.thm_counters_fit.specs.Seats.{with_seat_lem}
use Rattle.def_fused.specs.FusedWorker.{with_worker, notify_worker, halted}
use Rattle.def_fused.specs.FusedFinish.{notify_by, notify_in}

-- ---- a notice that queues takes a cell below the number of jobs
abbrev Below : ℕ → Plan → Type 0
Below n (NotifyQueue j c y e) = e.cell < n
Below n (Notify j c y) = Unit {0}
Below n (Refuse k) = Unit {0}
Below n (Quit k i) = Unit {0}
Below n Pass = Unit {0}
Below n (Enter j b h y) = Unit {0}
Below n (Tally o) = Unit {0}
Below n (LinkFirst p y j) = Unit {0}
Below n (LinkAfter p l y j) = Unit {0}
Below n (Settle j c) = Unit {0}
Below n (SettleQueue j c e) = Unit {0}
Below n (Mark p y) = Unit {0}

below : (s : Sizes) (v : View) (x : ℕ) → Below s.jobs (plan_notify s v x)
unfolding plan_notify
below s v x =
    let j = v.arc DEPENDENT x in
    pick_by (Below s.jobs)
    (is_place x && ltb j v.made && place_ok (v.arc AFTER x) v.reserved s.arcs
    && leb 1 (v.job COUNT j)
    && leb (v.job COUNT j) most_names)
    (λ _. pick_by (Below s.jobs) (eqb (v.job COUNT j) 1) (λ _. with_seat_lem (Below s.jobs) s v j _ (λ e h. h) tt)
    (λ _. tt))
    (λ _. tt)

pub seat_below : (s : Sizes) (v : View) (x : ℕ) (p : Plan) {j c y : ℕ} {e : Seat} → p ≡ plan_notify s v x
    → p ≡ NotifyQueue j c y e → e.cell < s.jobs
seat_below s v x p g f = rw (← g, f) at (below s v x)

-- ---- any other plan leaves the finish half done
pub halts : (p : Plan) → OneOf (0 ∷ 1 ∷ 2 ∷ 3 ∷ 4 ∷ 5 ∷ 6 ∷ 7 ∷ 8 ∷ 9 ∷ []) (tag p) → (o x w : ℕ) (t : Tables)
    (next : ℕ → Tables → Result Tables) → halted t w (notify_worker o x) ≡ notify_by p o x w t next
halts (Notify j c y) k o x w t next =
    absurd (apart (10 ∷ 11 ∷ []) (0 ∷ 1 ∷ 2 ∷ 3 ∷ 4 ∷ 5 ∷ 6 ∷ 7 ∷ 8 ∷ 9 ∷ []) 10 tt (inl refl) k)
halts (NotifyQueue j c y e) k o x w t next =
    absurd (apart (10 ∷ 11 ∷ []) (0 ∷ 1 ∷ 2 ∷ 3 ∷ 4 ∷ 5 ∷ 6 ∷ 7 ∷ 8 ∷ 9 ∷ []) 11 tt (inr refl) k)
halts (Refuse n) k o x w t next = refl
halts (Quit n q) k o x w t next = refl
halts Pass k o x w t next = refl
halts (Enter j b h y) k o x w t next = refl
halts (Tally q) k o x w t next = refl
halts (LinkFirst p y j) k o x w t next = refl
halts (LinkAfter p l y j) k o x w t next = refl
halts (Settle j c) k o x w t next = refl
halts (SettleQueue j c e) k o x w t next = refl
halts (Mark p y) k o x w t next = refl

-- ---- one notice of those that are left
module _ (s : Sizes) (w o x : ℕ) (t : Tables) where
  pub notify_one : (m n : ℕ) → n ≡ m + 1
      → notify_by (plan_notify s (view t) x) o x w t (notify_in m s w o) ≡ notify_in n s w o x t
  unfolding notify_in
  notify_one m n h = rw (h, add-one)

  pub notify_none : (n : ℕ) → n ≡ 0 → result_of Going (with_worker t w (notify_worker o x)) ≡ notify_in n s w o x t
  unfolding notify_in
  notify_none n h = rw h
