-- For ALL tables: what an arc's step does, and exactly when. Its dependent's count falls by 1, and a job whose count
-- falls to 0 is queued in its seat; a word off its range, a count of 0 or a job without a seat is 9, and nothing else
-- is. Follows docs/RULES.md, "Steps", "The index" and "Turned-away calls".
use Rattle.std.specs.Prelude.{◌≡◌, ◌≢◌, Bool, false, ◌&&◌, List, ℕ, ◌+◌, ◌-◌, ◌≤◌, ◌<◌, ltb, leb, eqb}
use Rattle.std.proofs.Math.Path.{refl}
use Rattle.std.proofs.Common.{◌∙◌, arith}
use Rattle.std.proofs.Math.Bool.{true}
use borrow.Author.Tests.{eqb-true, eqb-false, leb-true, leb-false, ltb-true, ltb-false, lt-ltb, ne_eqb}
use Rattle.def_numbers.specs.Numbers.{most_names, damaged}
use Rattle.def_basics.specs.Laws.{never, pick_by}
use Rattle.def_terms.specs.Runs.{Result, result_of}
use Rattle.def_terms.specs.declared.Sizes.{Sizes}
use Rattle.def_terms.specs.declared.Answer.{Answer}
use Rattle.def_terms.specs.declared.Answer.TheVariants.{Going, Ended, Refused}
use Rattle.def_words.specs.Columns.{Rows, put}
use Rattle.def_words.specs.Layout.{none, queue_shape, worker_shape, COUNT, DEPENDENT, AFTER, OWN_ARC, NOTIFYING, Tables}
use Rattle.def_words.specs.Layout.{View}
use Rattle.def_words.specs.Layout.{view}
use Rattle.def_words.specs.Index.{seat_for, put_seat}
use Rattle.def_words.specs.Words.{place_ok, is_place, in_seat, with_seat, plan_notify, plan_call, plan_phase}
use Rattle.def_words.specs.Words.{going_unless, arcs_from, applied, step_words}
use Rattle.def_words.specs.declared.Seat.{Seat}
use Rattle.def_words.specs.declared.Seating.{Seating}
use Rattle.def_words.specs.declared.Seating.TheVariants.{Seated, Unseated}
use Rattle.def_words.specs.declared.Plan.{Plan}
use Rattle.def_words.specs.declared.Plan.TheVariants.{Refuse, NotifyQueue}
use Rattle.thm_words_tests.specs.Tests.{test, parts}
use Rattle.thm_words_tests.specs.Judged.{NoneOrUsed, place_means, counters_mean, admits, did, place_some}
use Rattle.thm_words_queue.specs.Moved.{Entered, entered}
use Rattle.thm_words_queue.specs.Queued.{Comes, queue_rows, counted, put_back}

-- ---- the step for the arc x
-- it "lowers that dependent's count by 1", to c
pub record Lowers (s : Sizes) (v : View) (x c : ℕ) : Type 0 where
  pub arc : x ≢ none
  pub dependent : v.arc DEPENDENT x < v.made
  pub after : NoneOrUsed (v.arc AFTER x) v.reserved s.arcs
  pub limit : v.job COUNT (v.arc DEPENDENT x) ≤ most_names
  pub falls : c + 1 ≡ v.job COUNT (v.arc DEPENDENT x)

-- where number 9 is met
pub data Unlowered (s : Sizes) (v : View) (x : ℕ) : Type 0 where
  no_arc : x ≡ none → Unlowered s v x
  off_dependent : v.made ≤ v.arc DEPENDENT x → Unlowered s v x
  off_after : (NoneOrUsed (v.arc AFTER x) v.reserved s.arcs → ⊥) → Unlowered s v x
  off_limit : most_names < v.job COUNT (v.arc DEPENDENT x) → Unlowered s v x
  below_0 : v.job COUNT (v.arc DEPENDENT x) ≡ 0 → Unlowered s v x
  no_seat : v.job COUNT (v.arc DEPENDENT x) ≡ 1 → seat_for s v (v.arc DEPENDENT x) ≡ Unseated → Unlowered s v x

-- the answer and the workers' words after the step, by the arc that comes next: "going on", and that is the worker's
-- arc; or none is left, and the call ends
pub data Onward (t : Tables) (w : ℕ) : ℕ → Answer → List ℕ → Type 0 where
  goes_on : {next : ℕ} → next ≢ none → Onward t w next Going (put worker_shape t.workers w OWN_ARC next)
  ends : Onward t w none Ended (put_back t w)

-- what the step answers and leaves: 9; the dependent's count, and the worker with the next arc or, with none, its call
-- put back; or that and the dependent in the queue, "a count that reaches 0"
pub data NotifiesRightly (s : Sizes) (t : Tables) (w x : ℕ) (o : Result Tables) : Type 0 where
  refused : Unlowered s (view t) x → o ≡ result_of (Refused damaged 0) t → NotifiesRightly s t w x o
  waits_on : (c : ℕ) → Lowers s (view t) x c → c ≢ 0
      → (a : Answer) (r : List ℕ) → Onward t w ((view t).arc AFTER x) a r
      → o ≡ result_of a (counted t w ((view t).arc DEPENDENT x) c t.queue r)
      → NotifiesRightly s t w x o
  queued : Lowers s (view t) x 0 → (q : List ℕ) → Entered s t ((view t).arc DEPENDENT x) q
      → (a : Answer) (r : List ℕ) → Onward t w ((view t).arc AFTER x) a r
      → o ≡ result_of a (counted t w ((view t).arc DEPENDENT x) 0 q r)
      → NotifiesRightly s t w x o

-- the code's own are so, and there are no others
onward : (t : Tables) (w next : ℕ)
    → Onward t w next (going_unless (eqb next none)) (arcs_from next (view t) w t.workers)
onward t w next = test (eqb next none) (λ e. let z = eqb-true next none e in rw z ends)
    (λ e. rw e (goes_on (eqb-false next none e)))

onward_only : {t : Tables} {w next : ℕ} {a : Answer} {r : List ℕ} → Onward t w next a r
    → (going_unless (eqb next none) ≡ a) × (arcs_from next (view t) w t.workers ≡ r)
onward_only {next = next} (goes_on n) = rw (ne_eqb next none n) (refl, refl)
onward_only ends = (refl, refl)

module _ (s : Sizes) (t : Tables) (w x : ℕ) where
  abbrev v : View
  v = view t

  abbrev j : ℕ
  j = v.arc DEPENDENT x

  abbrev n : ℕ
  n = v.job COUNT j

  abbrev after : ℕ
  after = v.arc AFTER x

  abbrev sound : Bool
  sound = is_place x && ltb j v.made && place_ok after v.reserved s.arcs && leb 1 n && leb n most_names

  unlowered : sound ≡ false → Unlowered s v x
  unlowered e = test (eqb x none) (λ a. no_arc (eqb-true x none a))
      (λ a. test (ltb j v.made)
      (λ b. test (place_ok after v.reserved s.arcs)
      (λ c. test (leb 1 n) (λ f. off_limit (leb-false n most_names (rw (a, b, c, f) at e)))
      (λ f. below_0 (omega (arith, leb-false 1 n f))))
      (λ c. off_after (λ u. let d = (place_means after v.reserved s.arcs).1 u in never cc)))
      (λ b. off_dependent (ltb-false j v.made b)))

  abbrev Q : Plan → Type 0
  Q p = NotifiesRightly s t w x (did p t w)

  notify_exact : Rows queue_shape s.jobs t.queue → s.jobs ≤ 4096 → Q (plan_notify s v x)
  unfolding plan_notify with_seat applied
  notify_exact r most =
      pick_by Q sound
      (λ e. let l = lowers e in
      pick_by Q (eqb n 1) (λ f. rw (eqb-true n 1 f) (by l (seat_for s v j) refl (eqb-true n 1 f)))
      (λ f. let other = eqb-false n 1 f in
      let c = l.falls in waits_on (n - 1) l (λ z. other (omega arith)) _ _ (onward t w after) refl))
      (λ e. refused (unlowered e) refl)
    where
      lowers : sound ≡ true → Lowers s v x (n - 1)
      lowers e = record {
        arc = place_some x (search parts);
        dependent = ltb-true j v.made (search parts);
        after = (place_means after v.reserved s.arcs).0 (search parts);
        limit = leb-true n most_names (search parts);
        falls = omega (arith, leb-true 1 n (search parts));
      }

      by : Lowers s v x (n - 1) → (y : Seating) → seat_for s v j ≡ y → n ≡ 1 → Q (in_seat y (NotifyQueue j 0 after))
      by l (Seated e) z one = queued (rw one at l) _ (entered s t j e r most z) _ _ (onward t w after) refl
      by l Unseated z one = refused (no_seat one z) refl

  -- each of these is 9
  unsound : (sound ≡ true → ⊥) → plan_notify s v x ≡ Refuse damaged
  unfolding plan_notify
  unsound h = test sound (λ e. absurd (h e)) (λ e. rw e)

  notify_refused : Unlowered s v x → plan_notify s v x ≡ Refuse damaged
  unfolding plan_notify with_seat
  notify_refused (no_arc e) = unsound (λ a. place_some x (search parts) e)
  notify_refused (off_dependent h) = unsound (λ a. omega (arith, ltb-true j v.made (search parts)))
  notify_refused (off_after e) =
      unsound (λ a. e ((place_means after v.reserved s.arcs).0 (search parts)))
  notify_refused (off_limit h) = unsound (λ a. omega (arith, leb-true n most_names (search parts)))
  notify_refused (below_0 e) = unsound (λ a. omega (arith, leb-true 1 n (search parts)))
  notify_refused (no_seat e z) = test sound (λ a. rw (a, e, z)) (λ a. rw a)

-- ---- the theorems
notify_here : (s : Sizes) (t : Tables) (w : ℕ) → Comes s t w NOTIFYING
    → step_words s t w ≡ did (plan_notify s (view t) ((view t).worker OWN_ARC w)) t w
unfolding step_words applied plan_phase plan_call
notify_here s t w c =
    rw (admits s t w Refuse _ c.admitted, c.here, (counters_mean s (view t)).1 c.counters)

module _ (s : Sizes) (t : Tables) (w : ℕ) (comes : Comes s t w NOTIFYING) where
  abbrev arc : ℕ
  arc = (view t).worker OWN_ARC w

  pub notifies_rightly : NotifiesRightly s t w arc (step_words s t w)
  notifies_rightly =
      rw (notify_here s t w comes)
      (notify_exact s t w arc (queue_rows s t comes.admitted.sizes) comes.admitted.sizes.room.limits.jobs.1)

  pub notifying_is_9 : Unlowered s (view t) arc → step_words s t w ≡ result_of (Refused damaged 0) t
  unfolding applied
  notifying_is_9 u = notify_here s t w comes ∙ rw (notify_refused s t w arc u)

  -- and with a seat the dependent is queued there
  pub notifies_seated : (e : Seat) → Lowers s (view t) arc 0 → seat_for s (view t) ((view t).arc DEPENDENT arc) ≡ Seated e
      → (a : Answer) (r : List ℕ) → Onward t w ((view t).arc AFTER arc) a r
      → step_words s t w
      ≡ result_of a (counted t w ((view t).arc DEPENDENT arc) 0 (put_seat t.queue e ((view t).arc DEPENDENT arc)) r)
  unfolding plan_notify with_seat applied
  notifies_seated e g z a r o =
      let j = (view t).arc DEPENDENT arc in
      let one : (view t).job COUNT j ≡ 1 = omega (arith, g.falls) in
      notify_here s t w comes
      ∙ rw (
        ne_eqb arc none g.arc,
        lt-ltb j (view t).made g.dependent,
        (place_means ((view t).arc AFTER arc) (view t).reserved s.arcs).1 g.after,
        one,
        z,
        ← (onward_only o).0,
        ← (onward_only o).1,
      )
