-- For ALL tables: how far a call comes, by the words of the tables. Each call with a worker is turned away by 1, 2 or 9
-- first; a get then by 3, 10 or 9, or it finds the queue empty, or it comes to the index. Follows docs/RULES.md,
-- "Turned-away calls", and docs/TABLES.md, "What each step reads and writes".
use Rattle.std.specs.Prelude.{◌≡◌, refl, ◌≢◌, Bool, true, false, ◌&&◌, not, List, ℕ, ◌≤◌, ◌<◌, leb, eqb}
use Rattle.std.proofs.Math.Bool.{and-false}
use borrow.Author.Tests.{leb-true, le-leb, lt-leb, eqb-true, eq-eqb, ne_eqb}
use Rattle.def_basics.specs.Laws.{never, fails}
use Rattle.def_terms.specs.Terms.{Arguments, Finish, bit, arguments_wrong}
use Rattle.def_terms.specs.Runs.{Item, post_add, post_finish, step, get, load, sizes_of, worker_of, is_load, result_of}
use Rattle.def_terms.specs.declared.Sizes.{Sizes}
use Rattle.def_terms.specs.declared.Answer.TheVariants.{Posted, Refused}
use Rattle.def_words.specs.Layout.{none, NAME, SPOILED, PHASE, HELD, IDLE, MARKING, Tables, tables, View, view}
use Rattle.def_words.specs.Layout.{bare_worker}
use Rattle.def_words.specs.Words.{counters_ok, applied, applied_get, posted, add_words, finish_words, step_words, get_words}
use Rattle.def_words.specs.Words.{plan_phase, refusal, holds_name, adding_worker, put_worker, perform}
use Rattle.def_words.specs.declared.Plan.TheVariants.{Refuse}
use Rattle.thm_words_tests.specs.Tests.{test, parts}
use Rattle.thm_words_tests.specs.Judged.{Counters, counters_mean, Admitted, TurnedAway, by_1, by_2, by_9, admits}
use Rattle.thm_words_tests.specs.Judged.{turns_away}
use Rattle.thm_words_tests.specs.Reach.{early, empty, index, reach}

-- ---- "Order: 1, 2, 9 for the worker's own words": whatever the call with a worker, and nothing is changed
pub first_of_all : (t : Tables) (i : Item) (n : ℕ) → is_load i ≡ false → TurnedAway (sizes_of i) t (worker_of i) n
    → perform t i ≡ result_of (Refused n 0) t
unfolding perform add_words finish_words step_words get_words posted applied applied_get
first_of_all t (post_add s w a) n l (by_1 f) = rw (turns_away s t w _ _ 1 (by_1 f))
first_of_all t (post_add s w a) n l (by_2 h o) = rw (turns_away s t w _ _ 2 (by_2 h o))
first_of_all t (post_add s w a) n l (by_9 h o f) = rw (turns_away s t w _ _ 9 (by_9 h o f))
first_of_all t (post_finish s w a) n l (by_1 f) = rw (turns_away s t w _ _ 1 (by_1 f))
first_of_all t (post_finish s w a) n l (by_2 h o) = rw (turns_away s t w _ _ 2 (by_2 h o))
first_of_all t (post_finish s w a) n l (by_9 h o f) = rw (turns_away s t w _ _ 9 (by_9 h o f))
first_of_all t (step s w) n l r = rw (turns_away s t w _ _ n r)
first_of_all t (get s w) n l r = rw (turns_away s t w _ _ n r)
first_of_all t (load s m) n l r = never cc

-- ---- a step or a post that is admitted
-- its first test that is met, in the order of "Turned-away calls"
pub data StepRefused (s : Sizes) (t : Tables) (w : ℕ) : ℕ → Type 0 where
  by_4 : (view t).worker PHASE w ≡ IDLE → StepRefused s t w 4
  counters : (view t).worker PHASE w ≢ IDLE → (Counters s (view t) → ⊥) → StepRefused s t w 9

pub data AddRefused (s : Sizes) (t : Tables) (w : ℕ) (a : Arguments) : ℕ → Type 0 where
  by_3 : (view t).worker PHASE w ≢ IDLE → AddRefused s t w a 3
  by_5 : (view t).worker PHASE w ≡ IDLE → arguments_wrong a ≡ true → AddRefused s t w a 5
  counters : (view t).worker PHASE w ≡ IDLE → arguments_wrong a ≡ false → (Counters s (view t) → ⊥)
      → AddRefused s t w a 9

-- the tables with other words of a worker
abbrev pub with_worker : Tables → ℕ → List ℕ → Tables
with_worker t w r = tables t.jobs t.arcs t.buckets t.queue (put_worker t.workers w r)

-- it holds a job of that name
pub record Holds (v : View) (w name : ℕ) : Type 0 where
  pub held : v.worker HELD w ≢ none
  pub named : v.job NAME (v.worker HELD w) ≡ name

-- the spoiled word of the job that it holds
abbrev pub held_spoiled : View → ℕ → ℕ
held_spoiled v w = v.job SPOILED (v.worker HELD w)

-- 9 for a counter or the spoiled word, then "19, good for a spoiled job, after 11"
pub data FinishRefused (s : Sizes) (t : Tables) (w : ℕ) (f : Finish) : ℕ → Type 0 where
  by_3 : (view t).worker PHASE w ≢ IDLE → FinishRefused s t w f 3
  by_11 : (view t).worker PHASE w ≡ IDLE → (Holds (view t) w f.name → ⊥) → FinishRefused s t w f 11
  counters : (view t).worker PHASE w ≡ IDLE → Holds (view t) w f.name → (Counters s (view t) → ⊥)
      → FinishRefused s t w f 9
  off_spoiled : (view t).worker PHASE w ≡ IDLE → Holds (view t) w f.name → 1 < held_spoiled (view t) w
      → FinishRefused s t w f 9
  by_19 : (view t).worker PHASE w ≡ IDLE → Holds (view t) w f.name → Counters s (view t)
      → held_spoiled (view t) w ≡ 1 → f.failed ≡ false
      → FinishRefused s t w f 19

-- else: the spoiled word is 0 or 1, and a spoiled job ends as failed
pub record FinishFits (v : View) (w : ℕ) (f : Finish) : Type 0 where
  pub holds : Holds v w f.name
  pub within : held_spoiled v w ≤ 1
  pub ends : held_spoiled v w ≡ 1 → f.failed ≡ true

module _ (s : Sizes) (t : Tables) (w : ℕ) (a : Admitted s t w) where
  off : (Counters s (view t) → ⊥) → counters_ok s (view t) ≡ false
  off = fails (counters_ok s (view t)) (counters_mean s (view t)).0

  holds : (name : ℕ) → Holds (view t) w name → holds_name (view t) w name ≡ true
  holds name h = rw (ne_eqb ((view t).worker HELD w) none h.held, eq-eqb _ name h.named)

  holds_not : (name : ℕ) → (Holds (view t) w name → ⊥) → holds_name (view t) w name ≡ false
  holds_not name = fails (holds_name (view t) w name) (λ e. record {
    held = λ z. let no = rw z at e in never cc;
    named = eqb-true ((view t).job NAME ((view t).worker HELD w)) name (search parts);
  })

  pub step_refused : (n : ℕ) → StepRefused s t w n → perform t (step s w) ≡ result_of (Refused n 0) t
  unfolding perform step_words plan_phase applied
  step_refused n (by_4 e) = rw (admits s t w Refuse _ a, e)
  step_refused n (counters e f) = rw (admits s t w Refuse _ a, ne_eqb ((view t).worker PHASE w) IDLE e, off f)

  pub add_is_refused : (x : Arguments) (n : ℕ) → AddRefused s t w x n
      → perform t (post_add s w x) ≡ result_of (Refused n 0) t
  unfolding perform add_words posted
  add_is_refused x n (by_3 e) = rw (admits s t w refusal _ a, ne_eqb ((view t).worker PHASE w) IDLE e)
  add_is_refused x n (by_5 e h) = rw (admits s t w refusal _ a, e, h)
  add_is_refused x n (counters e h f) = rw (admits s t w refusal _ a, e, h, off f)

  pub finish_is_refused : (f : Finish) (n : ℕ) → FinishRefused s t w f n
      → perform t (post_finish s w f) ≡ result_of (Refused n 0) t
  unfolding perform finish_words posted
  finish_is_refused x n (by_3 e) = rw (admits s t w refusal _ a, ne_eqb ((view t).worker PHASE w) IDLE e)
  finish_is_refused x n (by_11 e h) = rw (admits s t w refusal _ a, e, holds_not x.name h)
  finish_is_refused x n (counters e h f) = rw (admits s t w refusal _ a, e, holds x.name h, off f)
  finish_is_refused x n (off_spoiled e h o) =
      rw (
        admits s t w refusal _ a,
        e,
        holds x.name h,
        lt-leb (held_spoiled (view t) w) 1 o,
        and-false (counters_ok s (view t)),
      )
  finish_is_refused x n (by_19 e h c m g) =
      rw (admits s t w refusal _ a, e, holds x.name h, (counters_mean s (view t)).1 c, m, g)

  -- and what no number refuses is posted: the worker's words are written, and nothing else
  module _ (here : (view t).worker PHASE w ≡ IDLE) (sound : Counters s (view t)) where
    pub add_is_posted : (x : Arguments) → arguments_wrong x ≡ false
        → perform t (post_add s w x) ≡ result_of Posted (with_worker t w (adding_worker ((view t).worker HELD w) x))
    unfolding perform add_words posted
    add_is_posted x h = rw (admits s t w refusal _ a, here, h, (counters_mean s (view t)).1 sound)

    -- with a spoiled word of 1 the outcome is failed
    not_good : (f : Finish) → (held_spoiled (view t) w ≡ 1 → f.failed ≡ true)
        → (eqb (held_spoiled (view t) w) 1 && not f.failed) ≡ false
    not_good f h = test (eqb (held_spoiled (view t) w) 1) (λ e. rw (e, h (eqb-true (held_spoiled (view t) w) 1 e)))
        (λ e. rw e)

    pub finish_is_posted : (f : Finish) → FinishFits (view t) w f
        → perform t (post_finish s w f)
        ≡ result_of Posted (with_worker t w (bare_worker MARKING ((view t).worker HELD w) (bit f.failed)))
    unfolding perform finish_words posted
    finish_is_posted f h =
        rw (
          admits s t w refusal _ a,
          here,
          holds f.name h.holds,
          (counters_mean s (view t)).1 sound,
          le-leb (held_spoiled (view t) w) 1 h.within,
          not_good f h.ends,
        )

-- ---- a get
-- the counters that it reads then: "`taken` is at most `put`, and `put` at most R"
pub record Counts (s : Sizes) (v : View) : Type 0 where
  pub counters : Counters s v
  pub order : v.taken ≤ v.put
  pub room : v.put ≤ s.jobs

-- it comes to look whether a job waits
pub record MayGet (s : Sizes) (t : Tables) (w : ℕ) : Type 0 where
  pub admitted : Admitted s t w
  pub idle : (view t).worker PHASE w ≡ IDLE
  pub jobless : (view t).worker HELD w ≡ none
  pub counts : Counts s (view t)

-- or is refused by a number before
pub data GetRefused (s : Sizes) (t : Tables) (w : ℕ) : ℕ → Type 0 where
  first : {n : ℕ} → TurnedAway s t w n → GetRefused s t w n
  by_3 : Admitted s t w → (view t).worker PHASE w ≢ IDLE → GetRefused s t w 3
  by_10 : Admitted s t w → (view t).worker PHASE w ≡ IDLE → (view t).worker HELD w ≢ none → GetRefused s t w 10
  counters : Admitted s t w → (view t).worker PHASE w ≡ IDLE → (view t).worker HELD w ≡ none
      → (Counts s (view t) → ⊥) → GetRefused s t w 9

module _ (s : Sizes) (t : Tables) (w : ℕ) where
  abbrev v : View
  v = view t

  abbrev counted : Bool
  counted = counters_ok s v && leb v.taken v.put && leb v.put s.jobs

  counts : Counts s v → counted ≡ true
  counts c =
      rw (
        (counters_mean s v).1 c.counters,
        le-leb v.taken v.put c.order,
        le-leb v.put s.jobs c.room,
      )

  miscounts : (Counts s v → ⊥) → counted ≡ false
  miscounts = fails counted (λ e. record {
    counters = (counters_mean s v).0 (search parts);
    order = leb-true v.taken v.put (search parts);
    room = leb-true v.put s.jobs (search parts);
  })

  module _ (may : MayGet s t w) where
    pub at_empty : v.taken ≡ v.put → reach s t w ≡ empty
    unfolding reach
    at_empty e =
        rw (admits s t w early _ may.admitted, may.idle, may.jobless, counts may.counts, e)
        (rw (eq-eqb v.put v.put refl) refl)

    pub at_index_lem : v.taken ≢ v.put → reach s t w ≡ index
    unfolding reach
    at_index_lem n =
        rw (
          admits s t w early _ may.admitted,
          may.idle,
          may.jobless,
          counts may.counts,
          ne_eqb v.taken v.put n,
        )

  pub comes_early : (n : ℕ) → GetRefused s t w n → reach s t w ≡ early n
  unfolding reach
  comes_early n (first r) = turns_away s t w early _ n r
  comes_early n (by_3 a p) = rw (admits s t w early _ a, ne_eqb (v.worker PHASE w) IDLE p)
  comes_early n (by_10 a p h) = rw (admits s t w early _ a, p, ne_eqb (v.worker HELD w) none h)
  comes_early n (counters a p h f) = rw (admits s t w early _ a, p, h, miscounts f)
