-- For ALL tables: what a worker is told that asks what it holds, of any function that answers it, by the words of
-- docs/TABLES.md: which number refuses it, and else each of the seven fields. The words' function tells just that, and
-- two functions that do tell the same. (Wrong/Held.antt: functions that tell otherwise.)
use Rattle.std.specs.Prelude.{◌≡◌, ◌↔◌, ◌≢◌, Bool, true, false, ℕ, ◌≤◌, ◌<◌, ltb, eqb}
use Rattle.std.proofs.Math.Path.{refl}
use Rattle.std.proofs.Common.{sym, ap, ◌∙◌, arith}
use Rattle.std.proofs.Math.Decide.{dec_lt}
use borrow.Author.Tests.{ltb-true, ltb-false, eqb-true, eqb-false, eq-eqb, ne_eqb, le-leb, lt-leb}
use Rattle.def_basics.specs.Laws.{fails, never}
use Rattle.def_terms.specs.declared.Sizes.{Sizes}
use Rattle.def_words.specs.Columns.{header}
use Rattle.def_words.specs.Layout.{none, SPOILED, HELD, OWN_NAME, Tables, view, sizes_fit, PHASE, NAME}
use Rattle.def_words.specs.Words.{counters_ok, spoiled_ok, own_ok}
use Rattle.thm_words_tests.specs.Tests.{test}
use Rattle.thm_words_tests.specs.Judged.{sized_means, own_means, counters_mean, Admitted, TurnedAway, by_1, by_2, by_9}
use Rattle.thm_words_tests.specs.Judged.{admits, turns_away}
use Rattle.thm_words_tests.specs.OneWord.{own_word, job_word, own_by_word, job_by_word, Counted, spoiled_word}
use Rattle.def_worker_state.specs.Held.{call_of, adds_of, refused, holding_of, counted, held_words}
use Rattle.def_worker_state.specs.declared.Holding.{Holding}
use Rattle.thm_state_history.specs.Told.{turned_away}

-- ---- the statement
-- a function that tells what a worker holds
abbrev pub Ask : Type 0
Ask = Sizes → Tables → ℕ → Holding

-- the worker's word 1 is a job: it is told with its name, the job's word 0, and its spoiled word, the job's word 9
pub record TellsJob (t : Tables) (w : ℕ) (h : Holding) : Type 0 where
  pub number : h.number ≡ 0
  pub holds : h.holds ≡ 1
  pub job : h.job ≡ own_word t w 1
  pub name : h.name ≡ job_word t (own_word t w 1) 0
  pub spoiled : h.spoiled ≡ spoiled_word t w

-- it is none: nothing is told of a job
pub record TellsNone (h : Holding) : Type 0 where
  pub number : h.number ≡ 0
  pub holds : h.holds ≡ 0
  pub job : h.job ≡ 0
  pub name : h.name ≡ 0
  pub spoiled : h.spoiled ≡ 0

-- by the worker's word 0, the phase: no call is half done, or an add, which is told with its name, the worker's word 2,
-- or a finish
pub record TellsCall (t : Tables) (w : ℕ) (h : Holding) : Type 0 where
  pub idle : own_word t w 0 ≡ 0 → (h.call ≡ 0) × (h.adds ≡ 0)
  pub adding : 1 ≤ own_word t w 0 → own_word t w 0 ≤ 2 → (h.call ≡ 1) × (h.adds ≡ own_word t w 2)
  pub finishing : 3 ≤ own_word t w 0 → (h.call ≡ 2) × (h.adds ≡ 0)

-- "Order: 1, 2, 9 for the worker's own words", then 9 for a counter or for the spoiled word of the held job, in
-- whatever phase; a refusal tells its number and 0 elsewhere; and what none of them turns away is told
pub record HeldExactly (held : Ask) (s : Sizes) (t : Tables) (w : ℕ) : Type 0 where
  pub first : (n : ℕ) → TurnedAway s t w n → held s t w ≡ turned_away n
  pub counter_by_9 : Admitted s t w → (Counted s t → ⊥) → held s t w ≡ turned_away 9
  pub spoiled_by_9 : Admitted s t w → own_word t w 1 ≢ none → 1 < spoiled_word t w → held s t w ≡ turned_away 9
  pub job : Admitted s t w → Counted s t → own_word t w 1 ≢ none → spoiled_word t w ≤ 1 → TellsJob t w (held s t w)
  pub jobless : Admitted s t w → Counted s t → own_word t w 1 ≡ none → TellsNone (held s t w)
  pub call : Admitted s t w → Counted s t → (own_word t w 1 ≢ none → spoiled_word t w ≤ 1) → TellsCall t w (held s t w)

-- ---- two functions that do so tell the same
alike : {h k : Holding} → h.number ≡ k.number → h.holds ≡ k.holds → h.job ≡ k.job → h.name ≡ k.name
    → h.call ≡ k.call → h.adds ≡ k.adds → h.spoiled ≡ k.spoiled → h ≡ k
alike a b c d e f g i = record {
  number = a i;
  holds = b i;
  job = c i;
  name = d i;
  call = e i;
  adds = f i;
  spoiled = g i;
}

pub fail : {b : Bool} → b ≡ false → b ≡ true → ⊥
fail e f = never (cc)

-- the counters that are judged are those words
pub counted_means : (s : Sizes) (t : Tables) → (counters_ok s (view t) ≡ true) ↔ Counted s t
unfolding header
counted_means s t = (
  λ e. let c = (counters_mean s (view t)).0 e in record { made = c.made; reserved = c.reserved },
  λ c. (counters_mean s (view t)).1 (record { made = c.made; reserved = c.reserved }),
)

module _ (s : Sizes) (t : Tables) (w : ℕ) where
  same_call : {h k : Holding} → TellsCall t w h → TellsCall t w k → (h.call ≡ k.call) × (h.adds ≡ k.adds)
  same_call {h} {k} x y = elim (dec_lt 2 (own_word t w 0)) [
    | yes l ↦ pair (x.finishing (omega arith)) (y.finishing (omega arith))
    | no l ↦ elim (dec_lt 0 (own_word t w 0)) [
      | yes m ↦ pair (x.adding (omega arith) (omega arith)) (y.adding (omega arith) (omega arith))
      | no m ↦ pair (x.idle (omega arith)) (y.idle (omega arith))
    ]
  ]
    where
      pair : {c a : ℕ} → (h.call ≡ c) × (h.adds ≡ a) → (k.call ≡ c) × (k.adds ≡ a)
          → (h.call ≡ k.call) × (h.adds ≡ k.adds)
      pair p q = (p.0 ∙ sym q.0, p.1 ∙ sym q.1)

  module _ {f g : Ask} (x : HeldExactly f s t w) (y : HeldExactly g s t w) where
    served : Admitted s t w → Counted s t → f s t w ≡ g s t w
    served a c = test (eqb (own_word t w 1) none)
        (λ e.
        let none_held = eqb-true (own_word t w 1) none e in
        let p = x.jobless a c none_held in
        let q = y.jobless a c none_held in
        let k = same_call (x.call a c (λ n. absurd (n none_held))) (y.call a c (λ n. absurd (n none_held))) in
        alike (p.number ∙ sym q.number) (p.holds ∙ sym q.holds) (p.job ∙ sym q.job)
        (p.name ∙ sym q.name) k.0 k.1 (p.spoiled ∙ sym q.spoiled))
        (λ e.
        let a_job = eqb-false (own_word t w 1) none e in
        elim (dec_lt 1 (spoiled_word t w)) [
          | yes l ↦ x.spoiled_by_9 a a_job l ∙ sym (y.spoiled_by_9 a a_job l)
          | no l ↦
              let m : spoiled_word t w ≤ 1 = omega arith in
              let p = x.job a c a_job m in
              let q = y.job a c a_job m in
              let k = same_call (x.call a c (λ _. m)) (y.call a c (λ _. m)) in
              alike (p.number ∙ sym q.number) (p.holds ∙ sym q.holds) (p.job ∙ sym q.job)
              (p.name ∙ sym q.name) k.0 k.1 (p.spoiled ∙ sym q.spoiled)
        ])

    turned : (n : ℕ) → TurnedAway s t w n → f s t w ≡ g s t w
    turned n a = x.first n a ∙ sym (y.first n a)

    -- by what is judged first
    admitted : Admitted s t w → f s t w ≡ g s t w
    admitted a = test (counters_ok s (view t))
        (λ c. served a ((counted_means s t).0 c))
        (λ c. uncounted (λ n. fail c ((counted_means s t).1 n)))
      where
        uncounted : (Counted s t → ⊥) → f s t w ≡ g s t w
        uncounted n = x.counter_by_9 a n ∙ sym (y.counter_by_9 a n)

    pub told_alike : f s t w ≡ g s t w
    told_alike = test (sizes_fit s t)
        (λ a. let z = (sized_means s t).0 a in
        test (ltb w s.workers)
        (λ b. let h = ltb-true w s.workers b in
        test (own_ok s (view t) w)
        (λ c. admitted (record { sizes = z; known = h; own = (own_means s (view t) w).0 c }))
        (λ c. turned 9 (by_9 z h (λ o. fail c ((own_means s (view t) w).1 o)))))
        (λ b. turned 2 (by_2 z (ltb-false w s.workers b))))
        (λ a. turned 1 (by_1 (λ z. fail a ((sized_means s t).1 z))))

-- ---- the words' function
module _ (s : Sizes) (t : Tables) (w : ℕ) where
  -- the fields that it reads are those words
  held_word_lem : (view t).worker HELD w ≡ own_word t w 1
  held_word_lem = own_by_word t w 1 (omega arith)

  name_word : (view t).job NAME ((view t).worker HELD w) ≡ job_word t (own_word t w 1) 0
  name_word = ap ((view t).job 0) held_word_lem ∙ job_by_word t (own_word t w 1) 0 (omega arith)

  spoiled_word_lem : (view t).job SPOILED ((view t).worker HELD w) ≡ spoiled_word t w
  spoiled_word_lem = ap ((view t).job SPOILED) held_word_lem ∙ job_by_word t (own_word t w 1) 9 (omega arith)

  is_served : Admitted s t w → Counted s t → held_words s t w ≡ holding_of (view t) w
  unfolding held_words counted
  is_served a c = admits s t w refused (counted s (view t) w) a ∙ rw ((counted_means s t).1 c)

  is_damaged : Admitted s t w → (Counted s t → ⊥) → held_words s t w ≡ turned_away 9
  unfolding held_words counted
  is_damaged a c =
      admits s t w refused (counted s (view t) w) a
      ∙ rw (fails (counters_ok s (view t)) (counted_means s t).0 c)

  a_job : own_word t w 1 ≢ none → eqb ((view t).worker HELD w) none ≡ false
  a_job n = ne_eqb ((view t).worker HELD w) none (λ e. n (sym held_word_lem ∙ e))

  no_job_lem : own_word t w 1 ≡ none → eqb ((view t).worker HELD w) none ≡ true
  no_job_lem e = eq-eqb ((view t).worker HELD w) none (held_word_lem ∙ e)

  spoiled_ok_lem : spoiled_word t w ≤ 1 → spoiled_ok (view t) ((view t).worker HELD w) ≡ true
  spoiled_ok_lem m = le-leb ((view t).job SPOILED ((view t).worker HELD w)) 1 (rw spoiled_word_lem m)

  spoiled_refused : Admitted s t w → own_word t w 1 ≢ none → 1 < spoiled_word t w → held_words s t w ≡ turned_away 9
  unfolding held_words counted holding_of
  spoiled_refused a n m =
      admits s t w refused (counted s (view t) w) a
      ∙ test (counters_ok s (view t))
      (λ c. rw (c, a_job n, lt-leb ((view t).job SPOILED ((view t).worker HELD w)) 1 (rw spoiled_word_lem m)))
      (λ c. rw c)

  tells_job : own_word t w 1 ≢ none → spoiled_word t w ≤ 1 → TellsJob t w (holding_of (view t) w)
  unfolding holding_of
  tells_job n m = rw (a_job n, spoiled_ok_lem m) (record {
    number = refl;
    holds = refl;
    job = held_word_lem;
    name = name_word;
    spoiled = spoiled_word_lem;
  })

  tells_none : own_word t w 1 ≡ none → TellsNone (holding_of (view t) w)
  unfolding holding_of
  tells_none e =
      rw (no_job_lem e) (record { number = refl; holds = refl; job = refl; name = refl; spoiled = refl })

  -- the call and its name, of whatever holds
  by_phase : (h : Holding) → h.call ≡ call_of ((view t).worker PHASE w)
      → h.adds ≡ adds_of (call_of ((view t).worker PHASE w)) ((view t).worker OWN_NAME w) → TellsCall t w h
  by_phase h c a = of ((view t).worker PHASE w) ((view t).worker OWN_NAME w) (own_by_word t w 0 (omega arith))
      (own_by_word t w 2 (omega arith)) c a
    where
      of : (p n : ℕ) → p ≡ own_word t w 0 → n ≡ own_word t w 2 → h.call ≡ call_of p → h.adds ≡ adds_of (call_of p) n
          → TellsCall t w h
      of p n e f c a = record {
        idle = λ z. let same : p ≡ 0 = e ∙ z in (rw same at c, rw same at a);
        adding = λ l m. elim (dec_lt 1 p) [
          | yes o ↦ let same : p ≡ 2 = omega arith in (rw same at c, (rw same at a) ∙ f)
          | no o ↦ let same : p ≡ 1 = omega arith in (rw same at c, (rw same at a) ∙ f)
        ];
        finishing = λ l.
            let off0 = ne_eqb p 0 (λ z. absurd (omega arith)) in
            let off1 = ne_eqb p 1 (λ z. absurd (omega arith)) in
            let off2 = ne_eqb p 2 (λ z. absurd (omega arith)) in
            (rw (off0, off1, off2) at c, rw (off0, off1, off2) at a);
      }

  tells_call : (own_word t w 1 ≢ none → spoiled_word t w ≤ 1) → TellsCall t w (holding_of (view t) w)
  unfolding holding_of
  tells_call m = test (eqb (own_word t w 1) none)
      (λ e. by_phase (holding_of (view t) w) (rw (no_job_lem (eqb-true (own_word t w 1) none e)))
      (rw (no_job_lem (eqb-true (own_word t w 1) none e))))
      (λ e. let n = eqb-false (own_word t w 1) none e in
      by_phase (holding_of (view t) w) (rw (a_job n, spoiled_ok_lem (m n))) (rw (a_job n, spoiled_ok_lem (m n))))

  pub held_exactly : HeldExactly held_words s t w
  unfolding held_words
  held_exactly = record {
    first = turns_away s t w refused (counted s (view t) w);
    counter_by_9 = is_damaged;
    spoiled_by_9 = spoiled_refused;
    job = λ a c n m. rw (is_served a c) (tells_job n m);
    jobless = λ a c e. rw (is_served a c) (tells_none e);
    call = λ a c m. rw (is_served a c) (tells_call m);
  }

-- a function that does so is the words' function
pub only_held_words : (held : Ask) → ((s : Sizes) (t : Tables) (w : ℕ) → HeldExactly held s t w)
    → (s : Sizes) (t : Tables) (w : ℕ) → held s t w ≡ held_words s t w
only_held_words held h s t w = told_alike s t w (h s t w) (held_exactly s t w)
