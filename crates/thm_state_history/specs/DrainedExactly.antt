-- For ALL tables: what is told to one that asks whether the graph is drained, of any function that answers it, by the
-- words of docs/TABLES.md: which number refuses it, and else when it is drained. The words' function tells just that,
-- and two functions that do tell the same. (Wrong/Drained.antt: functions that tell otherwise.)
use Rattle.std.specs.Prelude.{◌≡◌, refl, ◌↔◌, Bool, true, false, ◌&&◌, ℕ, zero, suc, ◌≤◌, ◌<◌, leb, eqb, get_or}
use Rattle.std.proofs.Common.{sym, ap, ◌∙◌, arith}
use borrow.Author.Tests.{leb-true, le-leb, eqb-true, eq-eqb}
use Rattle.def_basics.specs.Laws.{fails, never}
use Rattle.def_terms.specs.declared.Sizes.{Sizes}
use Rattle.def_words.specs.Columns.{header}
use Rattle.def_words.specs.Layout.{none, PHASE, HELD, IDLE, Tables, View, view, sizes_fit}
use Rattle.def_words.specs.Words.{counters_ok, own_ok}
use Rattle.thm_words_tests.specs.Tests.{test}
use Rattle.thm_words_tests.specs.Judged.{Sized, sized_means, Own, own_means}
use Rattle.thm_words_tests.specs.OneWord.{own_word, own_by_word, Counted}
use Rattle.thm_representation_kept.specs.Stand.{both}
use Rattle.thm_words_refine_rules.specs.Own.{and-true}
use Rattle.def_worker_state.specs.Drained.{every, queue_ok, words_ok, free, is_drained, judged, drained_words}
use Rattle.def_worker_state.specs.declared.Drained.{Drained}
use Rattle.thm_state_history.specs.Theorem.{every_true, every_at}
use Rattle.thm_state_history.specs.HeldExactly.{fail, counted_means}

-- ---- the statement
-- a function that tells whether the graph is drained
abbrev pub AskDrained : Type 0
AskDrained = Sizes → Tables → Drained

-- a refusal tells its number and 0 elsewhere
abbrev pub refused_by : ℕ → Drained
refused_by n = record { number = n; drained = 0 }

-- words 0 and 1 of the queue's table, how many jobs were taken and how many were put
pub record Queued (s : Sizes) (t : Tables) : Type 0 where
  pub taken : get_or t.queue 0 0 ≤ get_or t.queue 1 0
  pub put : get_or t.queue 1 0 ≤ s.jobs

-- no word that is judged is damaged: every worker's own words, the counters and the queue's
pub record Undamaged (s : Sizes) (t : Tables) : Type 0 where
  pub own : (w : ℕ) → w < s.workers → Own s (view t) w
  pub counted : Counted s t
  pub queued : Queued s t

-- as many were taken as were put, and every worker is idle, by its word 0, and holds nothing, by its word 1
pub record AtRest (s : Sizes) (t : Tables) : Type 0 where
  pub empty : get_or t.queue 0 0 ≡ get_or t.queue 1 0
  pub workers : (w : ℕ) → w < s.workers → (own_word t w 0 ≡ 0) × (own_word t w 1 ≡ none)

-- 1, then 9 for whichever of the words is damaged; and what neither turns away is told: 1 at rest, else 0
pub record DrainedExactly (ask : AskDrained) (s : Sizes) (t : Tables) : Type 0 where
  pub by_1 : (Sized s t → ⊥) → ask s t ≡ refused_by 1
  pub workers_by_9 : Sized s t → (w : ℕ) → w < s.workers → (Own s (view t) w → ⊥) → ask s t ≡ refused_by 9
  pub counter_by_9 : Sized s t → (Counted s t → ⊥) → ask s t ≡ refused_by 9
  pub queue_by_9 : Sized s t → (Queued s t → ⊥) → ask s t ≡ refused_by 9
  pub served : Sized s t → Undamaged s t → (ask s t).number ≡ 0
  pub at_rest_lem : Sized s t → Undamaged s t → AtRest s t → (ask s t).drained ≡ 1
  pub not_at_rest : Sized s t → Undamaged s t → (AtRest s t → ⊥) → (ask s t).drained ≡ 0

-- ---- a test of every number below n that fails, fails of one
right_fails : (a b : Bool) → (a && b) ≡ false → a ≡ true → b ≡ false
right_fails true b e f = e
right_fails false b e f = never (cc)

one_fails_lem : {A : Type 0} (f : ℕ → Bool) (n : ℕ) → every f n ≡ false → ((i : ℕ) → i < n → f i ≡ false → A) → A
unfolding every
one_fails_lem f zero e k = absurd (fail e refl)
one_fails_lem f (suc n) e k = test (every f n)
    (λ a. k n (omega arith) (right_fails (every f n) (f n) e a))
    (λ a. one_fails_lem f n a (λ i h b. k i (omega arith) b))

-- ---- what the tests mean, both ways
module _ (s : Sizes) (t : Tables) where
  abbrev v : View
  v = view t

  queued_means : (queue_ok s v ≡ true) ↔ Queued s t
  unfolding header
  queued_means = (
    λ e.
        let a = both (leb v.taken v.put) (leb v.put s.jobs) e in
        record { taken = leb-true v.taken v.put a.0; put = leb-true v.put s.jobs a.1 },
    λ q. and-true (leb v.taken v.put) (leb v.put s.jobs) (le-leb v.taken v.put q.taken)
        (le-leb v.put s.jobs q.put),
  )

  pub words_mean : (words_ok s v ≡ true) ↔ Undamaged s t
  words_mean = (
    λ e.
        let a = both (every (own_ok s v) s.workers) (counters_ok s v && queue_ok s v) e in
        let b = both (counters_ok s v) (queue_ok s v) a.1 in
        record {
          own = λ w h. (own_means s v w).0 (every_at (own_ok s v) s.workers a.0 w h);
          counted = (counted_means s t).0 b.0;
          queued = queued_means.0 b.1;
        },
    λ u. and-true (every (own_ok s v) s.workers) (counters_ok s v && queue_ok s v)
        (every_true (own_ok s v) s.workers (λ w h. (own_means s v w).1 (u.own w h)))
        (and-true (counters_ok s v) (queue_ok s v) ((counted_means s t).1 u.counted) (queued_means.1 u.queued)),
  )

  phase_word : (w : ℕ) → v.worker PHASE w ≡ own_word t w 0
  phase_word w = own_by_word t w 0 (omega arith)

  held_word_lem : (w : ℕ) → v.worker HELD w ≡ own_word t w 1
  held_word_lem w = own_by_word t w 1 (omega arith)

  free_means : (w : ℕ) → (free v.worker w ≡ true) ↔ ((own_word t w 0 ≡ 0) × (own_word t w 1 ≡ none))
  free_means w = (
    λ e.
        let a = both (eqb (v.worker PHASE w) IDLE) (eqb (v.worker HELD w) none) e in (
          sym (phase_word w) ∙ eqb-true (v.worker PHASE w) IDLE a.0,
          sym (held_word_lem w) ∙ eqb-true (v.worker HELD w) none a.1,
        ),
    λ r. and-true (eqb (v.worker PHASE w) IDLE) (eqb (v.worker HELD w) none)
        (eq-eqb (v.worker PHASE w) IDLE (phase_word w ∙ r.0))
        (eq-eqb (v.worker HELD w) none (held_word_lem w ∙ r.1)),
  )

  rest_means : (is_drained s v ≡ true) ↔ AtRest s t
  unfolding header
  rest_means = (
    λ e.
        let a = both (eqb v.taken v.put) (every (free v.worker) s.workers) e in
        record {
          empty = eqb-true v.taken v.put a.0;
          workers = λ w h. (free_means w).0 (every_at (free v.worker) s.workers a.1 w h);
        },
    λ r. and-true (eqb v.taken v.put) (every (free v.worker) s.workers)
        (eq-eqb v.taken v.put r.empty)
        (every_true (free v.worker) s.workers (λ w h. (free_means w).1 (r.workers w h))),
  )

-- ---- two functions that do so tell the same
alike : {d e : Drained} → d.number ≡ e.number → d.drained ≡ e.drained → d ≡ e
alike a b i = record { number = a i; drained = b i }

module _ (s : Sizes) (t : Tables) {f g : AskDrained} (x : DrainedExactly f s t) (y : DrainedExactly g s t) where
  other_sizes_lem : (Sized s t → ⊥) → f s t ≡ g s t
  other_sizes_lem n = x.by_1 n ∙ sym (y.by_1 n)

  own_off : Sized s t → (w : ℕ) → w < s.workers → (Own s (view t) w → ⊥) → f s t ≡ g s t
  own_off z w h n = x.workers_by_9 z w h n ∙ sym (y.workers_by_9 z w h n)

  counter_off : Sized s t → (Counted s t → ⊥) → f s t ≡ g s t
  counter_off z n = x.counter_by_9 z n ∙ sym (y.counter_by_9 z n)

  queue_off : Sized s t → (Queued s t → ⊥) → f s t ≡ g s t
  queue_off z n = x.queue_by_9 z n ∙ sym (y.queue_by_9 z n)

  judged_alike : Sized s t → Undamaged s t → (f s t).drained ≡ (g s t).drained
  judged_alike z u = test (is_drained s (view t))
      (λ e. resting ((rest_means s t).0 e))
      (λ e. restless (λ r. fail e ((rest_means s t).1 r)))
    where
      resting : AtRest s t → (f s t).drained ≡ (g s t).drained
      resting r = x.at_rest_lem z u r ∙ sym (y.at_rest_lem z u r)

      restless : (AtRest s t → ⊥) → (f s t).drained ≡ (g s t).drained
      restless n = x.not_at_rest z u n ∙ sym (y.not_at_rest z u n)

  undamaged : Sized s t → Undamaged s t → f s t ≡ g s t
  undamaged z u = alike (x.served z u ∙ sym (y.served z u)) (judged_alike z u)

  pub drained_alike : f s t ≡ g s t
  drained_alike = test (sizes_fit s t)
      (λ a. let z = (sized_means s t).0 a in
      test (every (own_ok s (view t)) s.workers)
      (λ b. test (counters_ok s (view t))
      (λ c. test (queue_ok s (view t))
      (λ d. undamaged z ((words_mean s t).0 (and-true (every (own_ok s (view t)) s.workers)
      (counters_ok s (view t) && queue_ok s (view t)) b (and-true (counters_ok s (view t)) (queue_ok s (view t)) c d))))
      (λ d. queue_off z (λ q. fail d ((queued_means s t).1 q))))
      (λ c. counter_off z (λ n. fail c ((counted_means s t).1 n))))
      (λ b. one_fails_lem (own_ok s (view t)) s.workers b
      (λ w h o. own_off z w h (λ p. fail o ((own_means s (view t) w).1 p)))))
      (λ a. other_sizes_lem (λ z. fail a ((sized_means s t).1 z)))

-- ---- the words' function
module _ (s : Sizes) (t : Tables) where
  is_refused : (Sized s t → ⊥) → drained_words s t ≡ refused_by 1
  unfolding drained_words
  is_refused n = rw (fails (sizes_fit s t) (sized_means s t).0 n)

  is_damaged : Sized s t → (Undamaged s t → ⊥) → drained_words s t ≡ refused_by 9
  unfolding drained_words
  is_damaged z n = rw ((sized_means s t).1 z, fails (words_ok s (view t)) (words_mean s t).0 n)

  is_judged : Sized s t → Undamaged s t → drained_words s t ≡ judged (is_drained s (view t))
  unfolding drained_words
  is_judged z u = rw ((sized_means s t).1 z, (words_mean s t).1 u)

  is_told : Sized s t → Undamaged s t → {b : Bool} → is_drained s (view t) ≡ b
      → (drained_words s t).drained ≡ (judged b).drained
  is_told z u e = ap (λ (d : Drained). d.drained) (is_judged z u) ∙ ap (λ c. (judged c).drained) e

  pub drained_exactly_told : DrainedExactly drained_words s t
  drained_exactly_told = record {
    by_1 = is_refused;
    workers_by_9 = λ z w h n. is_damaged z (λ u. n (u.own w h));
    counter_by_9 = λ z n. is_damaged z (λ u. n u.counted);
    queue_by_9 = λ z n. is_damaged z (λ u. n u.queued);
    served = λ z u. ap (λ (d : Drained). d.number) (is_judged z u);
    at_rest_lem = λ z u r. is_told z u ((rest_means s t).1 r);
    not_at_rest = λ z u n. is_told z u (fails (is_drained s (view t)) (rest_means s t).0 n);
  }

-- a function that does so is the words' function
pub only_drained_words : (ask : AskDrained) → ((s : Sizes) (t : Tables) → DrainedExactly ask s t)
    → (s : Sizes) (t : Tables) → ask s t ≡ drained_words s t
only_drained_words ask d s t = drained_alike s t (d s t) (drained_exactly_told s t)
