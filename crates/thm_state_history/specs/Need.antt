-- Neither question looks at a word past the need of the sizes that it brings: for all tables, damaged ones too. Follows
-- docs/RULES.md, "Tables and their measures".
use Rattle.std.specs.Prelude.{◌≡◌, refl, Bool, true, false, ◌&&◌, ℕ, zero, suc, ◌<◌, ltb, eqb}
use Rattle.std.proofs.Common.{sym, ap, ap₂, ◌∙◌, arith, lt-ltb}
use Rattle.def_terms.specs.declared.Sizes.{Sizes}
use Rattle.def_words.specs.Layout.{HELD, Tables, View, view, long_enough}
use Rattle.def_words.specs.Words.{counters_ok, own_ok, admitted}
use Rattle.thm_words_tests.specs.Tests.{test, long}
use Rattle.thm_words_need.specs.Parts.{needed, rest, joined, clip, clip_joined, whole, long_needed, long_joined}
use Rattle.thm_words_need.specs.Parts.{kept_joined}
use Rattle.thm_words_need.specs.Plans.{place_cases, own_places, own_alike}
use Rattle.thm_words_need.specs.Within.{admitted_joined, too_short_lem}
use Rattle.def_worker_state.specs.Held.{holding_of, counted, held_words}
use Rattle.def_worker_state.specs.Drained.{every, queue_ok, words_ok, free, is_drained, drained_words}

-- ---- what a worker holds
counted_alike : (s : Sizes) (v : View) (w : ℕ) → ltb w s.workers ≡ true → own_ok s v w ≡ true
    → counted s v w ≡ counted s (clip s v) w
unfolding counted holding_of
counted_alike s v w known own =
    rw known (place_cases (v.worker HELD w) v.made s.jobs (own_places s v w own).0 (λ e. rw e)
    (λ e h. rw (e, h)))

held_joined : (s : Sizes) (t r : Tables) → long_enough s t ≡ true → (w : ℕ)
    → held_words s (joined t r) w ≡ held_words s t w
unfolding held_words
held_joined s t r e w = admitted_joined s t r e w _ (λ v. counted s v w) (λ v. counted_alike s v w)

-- ---- drained
every_same : (f g : ℕ → Bool) (n : ℕ) → ((i : ℕ) → i < n → f i ≡ g i) → every f n ≡ every g n
unfolding every
every_same f g zero h = refl
every_same f g (suc n) h = ap₂ ◌&&◌ (every_same f g n (λ i l. h i (omega arith))) (h n (omega arith))

words_alike : (s : Sizes) (v : View) → words_ok s v ≡ words_ok s (clip s v)
words_alike s v = ap (λ b. b && (counters_ok s v && queue_ok s v))
    (every_same (own_ok s v) (own_ok s (clip s v)) s.workers (λ w h. own_alike s v w (lt-ltb w s.workers h)))

drained_alike : (s : Sizes) (v : View) → is_drained s v ≡ is_drained s (clip s v)
drained_alike s v = ap (λ b. eqb v.taken v.put && b)
    (every_same (free v.worker) (free (clip s v).worker) s.workers (λ w h. rw (lt-ltb w s.workers h)))

drained_joined : (s : Sizes) (t r : Tables) → long_enough s t ≡ true → drained_words s (joined t r) ≡ drained_words s t
unfolding drained_words
drained_joined s t r e =
    let same = clip_joined s t r (long e) in
    rw (
      long_joined s t r e,
      e,
      kept_joined s t r (long e),
      words_alike s (view (joined t r)) ∙ ap (words_ok s) same ∙ sym (words_alike s (view t)),
      drained_alike s (view (joined t r)) ∙ ap (is_drained s) same ∙ sym (drained_alike s (view t)),
    )

-- ---- tables that are too short are refused, whatever they are
short : (s : Sizes) (t u : Tables) (w : ℕ) → long_enough s t ≡ false → long_enough s u ≡ false
    → (held_words s t w ≡ held_words s u w) × (drained_words s t ≡ drained_words s u)
unfolding held_words admitted drained_words
short s t u w e f = (rw (too_short_lem s t e, too_short_lem s u f), rw (too_short_lem s t e, too_short_lem s u f))

-- ---- the words needed alone
needed_alone : (s : Sizes) (t : Tables) (w : ℕ)
    → (held_words s t w ≡ held_words s (needed s t) w) × (drained_words s t ≡ drained_words s (needed s t))
needed_alone s t w = test (long_enough s t)
    (λ e. let f = long_needed s t ∙ e in (
      ap (λ u. held_words s u w) (sym (whole s t)) ∙ held_joined s (needed s t) (rest s t) f w,
      ap (drained_words s) (sym (whole s t)) ∙ drained_joined s (needed s t) (rest s t) f,
    ))
    (λ e. short s t (needed s t) w e (long_needed s t ∙ e))

pub not_read : (s : Sizes) (t u : Tables) (w : ℕ) → needed s t ≡ needed s u
    → (held_words s t w ≡ held_words s u w) × (drained_words s t ≡ drained_words s u)
not_read s t u w e =
    let a = needed_alone s t w in let b = needed_alone s u w in (
      a.0 ∙ ap (λ n. held_words s n w) e ∙ sym b.0,
      a.1 ∙ ap (drained_words s) e ∙ sym b.1,
    )
