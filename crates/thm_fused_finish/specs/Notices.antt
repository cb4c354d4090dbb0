-- The notices of a finish, each a step, are those of a finish in one go: as long as the counters and the next arc are
-- sound, a step reads of the worker's words just that arc. Follows docs/RULES.md, "Steps".
use Rattle.std.specs.Prelude.{◌≡◌, Bool, true, false, ◌&&◌, eqb}
use Rattle.std.proofs.Math.Path.{refl, ap}
use Rattle.std.proofs.Common.{◌∙◌, le-leb}
use mathlib.Core.List.{List}
use Prim.Native.Nat.{ℕ, zero, suc, ◌-◌, ◌≤◌, ◌<◌}
use Rattle.std.proofs.Math.Dec.{ltb, leb}
use Rattle.def_numbers.specs.Numbers.{most_names, damaged}
use Rattle.def_basics.specs.Base.{pick}
use Rattle.def_basics.specs.Laws.{and_left, and_right, pick_by}
use Rattle.def_terms.specs.Runs.{result_of}
use Rattle.def_terms.specs.declared.Sizes.{Sizes}
use Rattle.def_terms.specs.declared.Answer.TheVariants.{Ended}
use Rattle.def_words.specs.Layout.{Tables, View, view, none, COUNT, DEPENDENT, AFTER, IDLE, bare_worker, sizes_fit}
use Rattle.def_words.specs.Words.{place_ok, is_place, counters_ok, in_seat, with_seat, plan_notify, going_unless, answer_of}
use Rattle.def_words.specs.Words.{step_words}
use Rattle.def_words.specs.Index.{seat_for}
use Rattle.def_words.specs.declared.Seat.{Seat}
use Rattle.def_words.specs.declared.Seating.{Seating}
use Rattle.def_words.specs.declared.Seating.TheVariants.{Seated, Unseated}
use Rattle.def_words.specs.declared.Plan.{Plan}
use Rattle.def_words.specs.declared.Plan.TheVariants.{Refuse, Notify, NotifyQueue}
use Rattle.def_whole_calls.specs.Whole.{and_then, steps_of}
use Rattle.def_fused.specs.FusedWorker.{with_worker, idled_with, notify_worker}
use Rattle.def_fused.specs.FusedFinish.{told_tables, told_queued, notify_by, notify_in}
use Rattle.thm_fused_steps.specs.Deeds.{record_by, stored_by}
use Rattle.thm_fused_steps.specs.Steps.{step_by_record}
use Rattle.thm_fused_steps.specs.Kept.{stored_fits, stored_counters}
use Rattle.thm_fused_steps.specs.Calls.{notify_plan}

-- ---- the plans of a notice: 9, or with the next arc in use or none
third : (a b c d e : Bool) → (a && b && c && d && e) ≡ true → c ≡ true
third a b c d e h = and_right (a && b) c (and_left (a && b && c) d (and_left (a && b && c && d) e h))

module _ (s : Sizes) (v : View) (Q : Plan → Type 0) (refuses : Q (Refuse damaged))
    (notifies : (j c y : ℕ) → place_ok y v.reserved s.arcs ≡ true → Q (Notify j c y))
    (queues : (j c y : ℕ) (d : Seat) → place_ok y v.reserved s.arcs ≡ true → Q (NotifyQueue j c y d)) where
  seated_plans : (j c y : ℕ) → place_ok y v.reserved s.arcs ≡ true → (r : Seating)
      → Q (in_seat r (NotifyQueue j c y))
  seated_plans j c y ok (Seated d) = queues j c y d ok
  seated_plans j c y ok Unseated = refuses

  notice_plans : (x : ℕ) → Q (plan_notify s v x)
  unfolding plan_notify with_seat
  notice_plans x =
      let j = v.arc DEPENDENT x in
      let y = v.arc AFTER x in
      pick_by Q
      (is_place x && ltb j v.made && place_ok y v.reserved s.arcs && leb 1 (v.job COUNT j)
      && leb (v.job COUNT j) most_names)
      (λ e. let ok = third (is_place x) (ltb j v.made) (place_ok y v.reserved s.arcs) (leb 1 (v.job COUNT j))
      (leb (v.job COUNT j) most_names) e in
      pick_by Q (eqb (v.job COUNT j) 1)
      (λ _. seated_plans j (v.job COUNT j - 1) y ok (seat_for s v j))
      (λ _. notifies j (v.job COUNT j - 1) y ok))
      (λ _. refuses)

-- of a finish of outcome o
module _ (s : Sizes) (w : ℕ) (known : w < s.workers) (o : ℕ) (bit : o ≤ 1) where
  -- the last notice ends the finish, and any other goes on
  pub on_or_end : (n : ℕ) (y : ℕ) (u : Tables) (b : Bool)
      → steps_of n s w (with_worker u w (notify_worker o y)) ≡ notify_in n s w o y u
      → and_then (going_unless b) (with_worker u w (pick b (bare_worker IDLE none 0) (notify_worker o y))) (steps_of n s w)
      ≡ pick b (result_of Ended (idled_with u w none)) (notify_in n s w o y u)
  on_or_end n y u true e = refl
  on_or_end n y u false e = e

  -- one step along arc x
  one_notice : (t : Tables) (x : ℕ) → sizes_fit s t ≡ true → counters_ok s (view t) ≡ true
      → place_ok x (view t).reserved s.arcs ≡ true
      → step_words s (with_worker t w (notify_worker o x)) w
      ≡ result_of (answer_of (plan_notify s (view t) x))
      (with_worker (stored_by (plan_notify s (view t) x) t (notify_worker o x)) w
      (record_by (plan_notify s (view t) x) (notify_worker o x)))
  one_notice t x fit counters ok =
      step_by_record s t w (notify_worker o x) fit known refl (rw (ok, le-leb o 1 bit)) counters refl
      ∙ ap (λ p. result_of (answer_of p) (with_worker (stored_by p t (notify_worker o x)) w (record_by p (notify_worker o x))))
      (notify_plan s (view t) o x)

  pub notices : (n x : ℕ) (t : Tables) → sizes_fit s t ≡ true → counters_ok s (view t) ≡ true
      → place_ok x (view t).reserved s.arcs ≡ true
      → steps_of n s w (with_worker t w (notify_worker o x)) ≡ notify_in n s w o x t
  unfolding steps_of notify_in stored_by
  notices zero x t fit counters ok = refl
  notices (suc n) x t fit counters ok =
      ap (λ q. and_then q.answer q.state (steps_of n s w)) (one_notice t x fit counters ok)
      ∙ notice_plans s (view t)
      (λ p. and_then (answer_of p) (with_worker (stored_by p t r) w (record_by p r)) (steps_of n s w)
      ≡ notify_by p o x w t (notify_in n s w o))
      refl
      (λ j c y e. on_or_end n y (told_tables t j c o) (eqb y none) (notices n y (told_tables t j c o)
      (stored_fits s (Notify j c y) t r ∙ fit) (stored_counters s (Notify j c y) t r refl ∙ counters) e))
      (λ j c y d e. on_or_end n y (told_queued t j c o d) (eqb y none) (notices n y (told_queued t j c o d)
      (stored_fits s (NotifyQueue j c y d) t r ∙ fit) (stored_counters s (NotifyQueue j c y d) t r refl ∙ counters) e))
      x
    where
      r : List ℕ
      r = notify_worker o x
