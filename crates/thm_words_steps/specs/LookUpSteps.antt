-- For ALL tables: what a look-up does, and exactly when, of any machine over the tables, by the words of
-- docs/TABLES.md. A name that the walk finds is passed, one that it does not find is 6, and a damaged walk is 9; there
-- is no fourth. Follows docs/RULES.md, "Steps": "First one look-up for each listed name, in list order", and the rows
-- of 6 and 9 in "Turned-away calls". (Buckets.antt: what a walk finds. EnterSteps.antt: the step after the look-ups.
-- Wrong/LookUps.antt: machines that do otherwise.)
use Rattle.std.specs.Prelude.{◌≡◌, ◌∷◌, ℕ, ◌+◌, ◌*◌, ◌<◌, replicate}
use Rattle.std.proofs.Common.{sym, ◌∙◌, arith}
use Rattle.std.proofs.Math.Path.{ap}
use Rattle.std.proofs.lemmas.List.Edits.{sets}
use borrow.Author.Tests.{lt-ltb}
use Rattle.def_terms.specs.Runs.{step, result_of}
use Rattle.def_terms.specs.declared.Sizes.{Sizes}
use Rattle.def_terms.specs.declared.Answer.TheVariants.{Going, Refused}
use Rattle.def_words.specs.Layout.{LIST_COUNT, PLACE, HELD, IDLE, Tables, tables, view, bare_worker}
use Rattle.def_words.specs.Words.{plan_look_up, plan_add, plan_call, plan_phase, put_worker, applied, step_words, perform}
use Rattle.def_words.specs.declared.Found.{Found}
use Rattle.def_words.specs.declared.Found.TheVariants.{At, Missing, Damaged}
use Rattle.def_words.specs.declared.Plan.TheVariants.{Refuse}
use Rattle.thm_words_tests.specs.Judged.{counters_mean, Admitted, admits, did}
use Rattle.thm_words_tests.specs.OneWord.{own_word, own_by_word, Counted}
use Rattle.thm_words_steps.specs.Buckets.{one_end}
use Rattle.thm_words_steps.specs.LinkSteps.{Stepper, own_put, Listed, counters_by_word, own_put_lem, listed_found}

-- ---- where a step comes to a look-up: its worker looks up, none of its own words nor a counter turns it away, and its
-- place is below its list's count
pub record ComesToLookUp (s : Sizes) (t : Tables) (w : ℕ) : Type 0 where
  pub admitted : Admitted s t w
  pub counted : Counted s t
  pub looking : own_word t w 0 ≡ 1
  pub more : own_word t w 7 < own_word t w 3

-- ---- what it leaves
-- the place is one more; every other word is as it was
abbrev pub one_place_on : Tables → ℕ → Tables
one_place_on t w =
    tables t.jobs t.arcs t.buckets t.queue (own_put t.workers w 7 (own_word t w 7 + 1))

-- "worker idle, nothing else changed": of its 43 words the hold is as it was, and the others are those laid out
abbrev pub idle_again : Tables → ℕ → Tables
idle_again t w =
    tables t.jobs t.arcs t.buckets t.queue
    (sets t.workers (43 * w)
    (0 ∷ own_word t w 1 ∷ 0 ∷ 0 ∷ 0 ∷ 0 ∷ 0 ∷ 0 ∷ 4294967295 ∷ 4294967295 ∷ 0 ∷ replicate 32 0))

-- ---- the statement, by where the walk for the listed name ends; the place in the list is told with 6
pub record LooksUpExactly (make : Stepper) (s : Sizes) (t : Tables) (w : ℕ) : Type 0 where
  pub found : (p : ℕ) → ComesToLookUp s t w → Listed s t w (At p) → make s t w ≡ result_of Going (one_place_on t w)
  pub missing_by_6 : ComesToLookUp s t w → Listed s t w Missing
      → make s t w ≡ result_of (Refused 6 (own_word t w 7)) (idle_again t w)
  pub damaged_by_9 : ComesToLookUp s t w → Listed s t w Damaged → make s t w ≡ result_of (Refused 9 0) t

-- it settles the step: two machines of which it holds do the same
pub one_look_up : (make other : Stepper) (s : Sizes) (t : Tables) (w : ℕ)
    → LooksUpExactly make s t w → LooksUpExactly other s t w
    → ComesToLookUp s t w
    → make s t w ≡ other s t w
one_look_up make other s t w d e c =
    let o = one_end s t (own_word t w (11 + own_word t w 7)) in
    go o.end o.along
  where
    go : (r : Found) → Listed s t w r → make s t w ≡ other s t w
    go (At p) l = d.found p c l ∙ sym (e.found p c l)
    go Missing l = d.missing_by_6 c l ∙ sym (e.missing_by_6 c l)
    go Damaged l = d.damaged_by_9 c l ∙ sym (e.damaged_by_9 c l)

-- ---- the words' step
-- a worker whose call ended
pub idle_by_word : (t : Tables) (w : ℕ)
    → tables t.jobs t.arcs t.buckets t.queue
    (put_worker t.workers w (bare_worker IDLE ((view t).worker HELD w) 0))
    ≡ idle_again t w
idle_by_word t w =
    rw (own_by_word t w 1 (omega arith))
    (ap (λ n. tables t.jobs t.arcs t.buckets t.queue (sets t.workers n (bare_worker 0 (own_word t w 1) 0)))
    {x = 0 + 43 * w + 0} {y = 43 * w} (omega arith))

module _ (s : Sizes) (t : Tables) (w : ℕ) where
  place_word : (view t).worker PLACE w ≡ own_word t w 7
  place_word = own_by_word t w 7 (omega arith)

  count_word : (view t).worker LIST_COUNT w ≡ own_word t w 3
  count_word = own_by_word t w 3 (omega arith)

  look_up_here : (r : Found) → ComesToLookUp s t w → Listed s t w r
      → step_words s t w ≡ did (plan_look_up (own_word t w 7) r) t w
  unfolding step_words applied plan_phase plan_call plan_add
  look_up_here r c l =
      let more : (view t).worker PLACE w < (view t).worker LIST_COUNT w = rw (place_word, count_word) c.more in
      rw (
        admits s t w Refuse _ c.admitted,
        own_by_word t w 0 (omega arith) ∙ c.looking,
        (counters_mean s (view t)).1 (counters_by_word s t c.counted),
        lt-ltb ((view t).worker PLACE w) ((view t).worker LIST_COUNT w) more,
        listed_found s t w r c.admitted c.more l,
      )
      (rw (← place_word))

  pub looks_up_exactly : LooksUpExactly step_words s t w
  unfolding plan_look_up applied
  looks_up_exactly = record {
    found = λ p c l. look_up_here (At p) c l ∙ rw (place_word, own_put_lem);
    missing_by_6 = λ c l. look_up_here Missing c l ∙ ap (result_of (Refused 6 (own_word t w 7))) (idle_by_word t w);
    damaged_by_9 = λ c l. look_up_here Damaged c l;
  }

-- the same of the item of a list
pub item_looks_up_exactly : (s : Sizes) (t : Tables) (w : ℕ) → LooksUpExactly (λ q u v. perform u (step q v)) s t w
unfolding perform
item_looks_up_exactly s t w = looks_up_exactly s t w
