-- For ALL tables: what a settling step and an arc's step do, and exactly when. A job whose count settles, or falls to
-- 0, is queued in its seat; a word off its range, a count that would fall below 0 or a job without a seat is 9, and
-- nothing else is. Follows docs/RULES.md, "Steps", "The index" and "Turned-away calls".
use Rattle.std.specs.Prelude.{◌≡◌, ◌≢◌, false, ◌&&◌, List, ℕ, ◌+◌, ◌-◌, ◌≤◌, ◌<◌, eqb}
use Rattle.std.proofs.Math.Path.{refl}
use Rattle.std.proofs.Common.{◌∙◌}
use Rattle.std.proofs.Math.Bool.{true}
use native.Mathlib.Omega.{arith}
use Rattle.std.proofs.Math.Dec.{leb}
use borrow.Author.Tests.{eqb-true, leb-true, leb-false, le-ltb, le-leb, ne_eqb}
use Rattle.def_numbers.specs.Numbers.{most_names, damaged}
use Rattle.def_basics.specs.Base.{pick}
use Rattle.def_basics.specs.Laws.{pick_by}
use Rattle.def_terms.specs.Terms.{settles}
use Rattle.def_terms.specs.Runs.{Result, result_of}
use Rattle.def_terms.specs.declared.Sizes.{Sizes}
use Rattle.def_terms.specs.declared.Answer.TheVariants.{Ended, Refused}
use Rattle.def_words.specs.Columns.{Rows, put}
use Rattle.def_words.specs.Layout.{none, job_shape, queue_shape, COUNT, SPOILED, PHASE, HELD, PLACE, LIST_COUNT, TALLY}
use Rattle.def_words.specs.Layout.{OWN_JOB}
use Rattle.def_words.specs.Layout.{NOTE, IDLE, LINKING, Tables, tables, View, view, long_enough, bare_worker}
use Rattle.def_words.specs.Index.{seat_for, put_seat}
use Rattle.def_words.specs.Words.{is_place, in_seat, with_seat, plan_settle, plan_links, plan_call, plan_phase, put_worker}
use Rattle.def_words.specs.Words.{applied}
use Rattle.def_words.specs.Words.{step_words}
use Rattle.def_words.specs.declared.Seat.{Seat}
use Rattle.def_words.specs.declared.Seating.{Seating}
use Rattle.def_words.specs.declared.Seating.TheVariants.{Seated, Unseated}
use Rattle.def_words.specs.declared.Plan.{Plan}
use Rattle.def_words.specs.declared.Plan.TheVariants.{Refuse, SettleQueue}
use Rattle.thm_words_tests.specs.Tests.{test, parts, long}
use Rattle.thm_words_tests.specs.Judged.{Sized, sized_means, Counters, counters_mean, Admitted, admits, did, place_some}
use Rattle.thm_words_queue.specs.Moved.{Entered, entered}

-- ---- where a step comes to
-- its worker is in a phase, and nothing before the words of that phase turns the step away
pub record Comes (s : Sizes) (t : Tables) (w phase : ℕ) : Type 0 where
  pub admitted : Admitted s t w
  pub counters : Counters s (view t)
  pub here : (view t).worker PHASE w ≡ phase

-- "settles once place = count"
abbrev pub ComesToSettle : Sizes → Tables → ℕ → Type 0
ComesToSettle s t w = Comes s t w LINKING × ((view t).worker PLACE w ≡ (view t).worker LIST_COUNT w)

-- the tables are then long enough
pub queue_rows : (s : Sizes) (t : Tables) → Sized s t → Rows queue_shape s.jobs t.queue
queue_rows s t z =
    let e = (sized_means s t).1 z in
    let h : long_enough s t ≡ true = search parts in
    (long h).queue

settle_here : (s : Sizes) (t : Tables) (w : ℕ) → ComesToSettle s t w
    → step_words s t w
    ≡ did (plan_settle s (view t) ((view t).worker OWN_JOB w) ((view t).worker TALLY w) ((view t).worker LIST_COUNT w)) t w
unfolding step_words applied plan_phase plan_call plan_links
settle_here s t w (c, e) =
    let n = (view t).worker LIST_COUNT w in
    rw (admits s t w Refuse _ c.admitted, c.here, (counters_mean s (view t)).1 c.counters, e)
    (rw (le-ltb n n (omega arith)) refl)

-- ---- the jobs after a count by worker w: that of the job j is c, and its spoiled word is 1 where the worker's note
-- is, else as it was
abbrev pub counted_jobs : Tables → ℕ → ℕ → ℕ → List ℕ
counted_jobs t w j c =
    pick (eqb ((view t).worker NOTE w) 1) (put job_shape (put job_shape t.jobs j COUNT c) j SPOILED 1)
    (put job_shape t.jobs j COUNT c)

-- the tables then; the queue's words are q and the workers' r
abbrev pub counted : Tables → ℕ → ℕ → ℕ → List ℕ → List ℕ → Tables
counted t w j c q r = tables (counted_jobs t w j c) t.arcs t.buckets q r

-- the workers' words after a call of w that "puts the words of its call back": all but the hold are as laid out
abbrev pub put_back : Tables → ℕ → List ℕ
put_back t w = put_worker t.workers w (bare_worker IDLE ((view t).worker HELD w) 0)

-- ---- settling: the job j, with a tally, of an add with d listed names
-- "The remaining count falls by the tally" to c
pub record Settles (v : View) (j tally c : ℕ) : Type 0 where
  pub job : j ≢ none
  pub limit : v.job COUNT j ≤ most_names
  pub falls : c + tally ≡ v.job COUNT j

-- where number 9 is met
pub data Unsettled (s : Sizes) (v : View) (j tally d : ℕ) : Type 0 where
  no_job_lem : j ≡ none → Unsettled s v j tally d
  off_limit : most_names < v.job COUNT j → Unsettled s v j tally d
  below_0 : v.job COUNT j < tally → Unsettled s v j tally d
  no_seat : (c : ℕ) → c + tally ≡ v.job COUNT j → settles c tally d ≡ true → seat_for s v j ≡ Unseated
      → Unsettled s v j tally d

-- what the step answers and leaves: 9; the job's count, and the call put back; or that and the job in the queue
pub data SettlesRightly (s : Sizes) (t : Tables) (w j tally d : ℕ) (o : Result Tables) : Type 0 where
  refused : Unsettled s (view t) j tally d → o ≡ result_of (Refused damaged 0) t → SettlesRightly s t w j tally d o
  waits_on : (c : ℕ) → Settles (view t) j tally c → settles c tally d ≡ false
      → o ≡ result_of Ended (counted t w j c t.queue (put_back t w))
      → SettlesRightly s t w j tally d o
  queued : (c : ℕ) → Settles (view t) j tally c → settles c tally d ≡ true
      → (q : List ℕ) → Entered s t j q
      → o ≡ result_of Ended (counted t w j c q (put_back t w))
      → SettlesRightly s t w j tally d o

module _ (s : Sizes) (t : Tables) (w j tally d : ℕ) where
  abbrev v : View
  v = view t

  abbrev n : ℕ
  n = v.job COUNT j

  unsettled : (is_place j && leb n most_names && leb tally n) ≡ false → Unsettled s v j tally d
  unsettled e = test (eqb j none) (λ a. no_job_lem (eqb-true j none a))
      (λ a. test (leb n most_names) (λ b. below_0 (leb-false tally n (rw (a, b) at e)))
      (λ b. off_limit (leb-false n most_names b)))

  abbrev Q : Plan → Type 0
  Q p = SettlesRightly s t w j tally d (did p t w)

  settle_exact : Rows queue_shape s.jobs t.queue → s.jobs ≤ 4096 → Q (plan_settle s v j tally d)
  unfolding plan_settle with_seat applied
  settle_exact r most =
      pick_by Q (is_place j && leb n most_names && leb tally n)
      (λ e. pick_by Q (settles (n - tally) tally d) (λ f. by (falls e) (seat_for s v j) refl f)
      (λ f. waits_on (n - tally) (falls e) f refl))
      (λ e. refused (unsettled e) refl)
    where
      falls : (is_place j && leb n most_names && leb tally n) ≡ true → Settles v j tally (n - tally)
      falls e = record {
        job = place_some j (search parts);
        limit = leb-true n most_names (search parts);
        falls = omega (arith, leb-true tally n (search parts));
      }

      by : Settles v j tally (n - tally) → (x : Seating) → seat_for s v j ≡ x → settles (n - tally) tally d ≡ true
          → Q (in_seat x (SettleQueue j (n - tally)))
      by g (Seated e) z f = queued (n - tally) g f _ (entered s t j e r most z) refl
      by g Unseated z f = refused (no_seat (n - tally) g.falls f z) refl

  -- each of these is 9
  unsound : ((is_place j && leb n most_names && leb tally n) ≡ true → ⊥) → plan_settle s v j tally d ≡ Refuse damaged
  unfolding plan_settle
  unsound h = test (is_place j && leb n most_names && leb tally n) (λ e. absurd (h e)) (λ e. rw e)

  settle_refused : Unsettled s v j tally d → plan_settle s v j tally d ≡ Refuse damaged
  unfolding plan_settle with_seat
  settle_refused (no_job_lem e) = unsound (λ a. place_some j (search parts) e)
  settle_refused (off_limit h) = unsound (λ a. omega (arith, leb-true n most_names (search parts)))
  settle_refused (below_0 h) = unsound (λ a. omega (arith, leb-true tally n (search parts)))
  settle_refused (no_seat c e f z) =
      let k : n - tally ≡ c = omega arith in
      test (is_place j && leb n most_names && leb tally n) (λ a. rw (a, k, f, z)) (λ a. rw a)

-- ---- the theorems
module _ (s : Sizes) (t : Tables) (w : ℕ) (comes : ComesToSettle s t w) where
  abbrev job : ℕ
  job = (view t).worker OWN_JOB w

  abbrev tallied : ℕ
  tallied = (view t).worker TALLY w

  abbrev listed : ℕ
  listed = (view t).worker LIST_COUNT w

  pub settles_rightly : SettlesRightly s t w job tallied listed (step_words s t w)
  settles_rightly =
      rw (settle_here s t w comes) (settle_exact s t w job tallied listed (queue_rows s t comes.0.admitted.sizes)
      comes.0.admitted.sizes.room.limits.jobs.1)

  pub settling_is_9 : Unsettled s (view t) job tallied listed → step_words s t w ≡ result_of (Refused damaged 0) t
  unfolding applied
  settling_is_9 u = settle_here s t w comes ∙ rw (settle_refused s t w job tallied listed u)

  -- and with a seat it is queued there
  pub settles_seated : (c : ℕ) (e : Seat) → Settles (view t) job tallied c → settles c tallied listed ≡ true
      → seat_for s (view t) job ≡ Seated e
      → step_words s t w
      ≡ result_of Ended (counted t w job c (put_seat t.queue e job) (put_back t w))
  unfolding plan_settle with_seat applied
  settles_seated c e g f z =
      let n = (view t).job COUNT job in
      let k : n - tallied ≡ c = omega (arith, g.falls) in
      settle_here s t w comes
      ∙ rw (
        ne_eqb job none g.job,
        le-leb n most_names g.limit,
        le-leb tallied n (omega (arith, g.falls)),
        k,
        f,
        z,
      )
