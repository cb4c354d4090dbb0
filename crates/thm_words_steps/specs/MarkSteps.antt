-- For ALL tables: what the mark of a finish does, and exactly when, of any machine over the tables, by the words of
-- docs/TABLES.md. A hold of none, a label that is not 1 and a first arc off its range are 9, with nothing changed, and
-- nothing else is: the spoiled word of the job, its word 9, is neither read nor written. Follows docs/RULES.md,
-- "Steps": a finish's "first step labels the job finished, keeps the outcome and frees the worker's hold; it is called
-- the mark". (Wrong/Steps.antt: machines that do otherwise.)
use Rattle.std.specs.Prelude.{◌≡◌, ◌≢◌, Bool, true, ◌&&◌, List, ℕ, ◌+◌, ◌*◌, eqb, get_or}
use Rattle.std.proofs.Common.{sym, ap, ◌∙◌, arith}
use Rattle.std.proofs.lemmas.List.Edits.{sets}
use borrow.Author.Tests.{eqb-true, ne_eqb}
use Rattle.def_basics.specs.Laws.{fails}
use Rattle.def_terms.specs.Runs.{step, result_of}
use Rattle.def_terms.specs.declared.Sizes.{Sizes}
use Rattle.def_terms.specs.declared.Answer.TheVariants.{Going, Ended, Refused}
use Rattle.def_words.specs.Columns.{header, put}
use Rattle.def_words.specs.Layout.{none, LABEL, FIRST, HELD, NOTE, Tables, tables, view, bare_worker}
use Rattle.def_words.specs.Words.{place_ok, is_place, plan_mark, plan_call, plan_phase, applied, step_words, perform}
use Rattle.def_words.specs.declared.Plan.TheVariants.{Refuse}
use Rattle.thm_words_tests.specs.Tests.{parts}
use Rattle.thm_words_tests.specs.Judged.{NoneOrUsed, place_means, counters_mean, Admitted, admits, did, place_some}
use Rattle.thm_words_tests.specs.OneWord.{own_word, job_word, own_by_word, job_by_word, Counted}
use Rattle.thm_words_steps.specs.LinkSteps.{Stepper, own_put, job_put, counters_by_word, own_puts}

-- ---- where a step comes to a mark: its worker's finish is posted, and none of its own words nor a counter turns it
-- away
pub record ComesToMark (s : Sizes) (t : Tables) (w : ℕ) : Type 0 where
  pub admitted : Admitted s t w
  pub counted : Counted s t
  pub marking : own_word t w 0 ≡ 3

-- the job that the worker holds, and word k of it
abbrev pub held : Tables → ℕ → ℕ
held t w = own_word t w 1

abbrev pub held_word : Tables → ℕ → ℕ → ℕ
held_word t w k = job_word t (held t w) k

-- its first arc is none or in use
abbrev pub SoundFirst : Sizes → Tables → ℕ → Type 0
SoundFirst s t w = NoneOrUsed (held_word t w 5) (get_or t.arcs 0 0) s.arcs

-- nothing turns the mark away
pub record Marks (s : Sizes) (t : Tables) (w : ℕ) : Type 0 where
  pub comes : ComesToMark s t w
  pub holds : held t w ≢ none
  pub executing : held_word t w 1 ≡ 1
  pub first : SoundFirst s t w

-- ---- what it leaves: of the held job the label 2 and the worker's note as outcome, and these words of the workers
abbrev pub marked_by : Tables → ℕ → List ℕ → Tables
marked_by t w r =
    tables (job_put (job_put t.jobs (held t w) 1 2) (held t w) 8 (own_word t w 10)) t.arcs t.buckets t.queue r

-- with no arc the call ends: all 43 words are those of an idle worker that holds nothing
abbrev pub mark_ends : Tables → ℕ → List ℕ
mark_ends t w = sets t.workers (43 * w) (bare_worker 0 none 0)

-- else the worker notifies, holds nothing and has the first arc next; its other words, the note too, are as they were
abbrev pub mark_goes : Tables → ℕ → List ℕ
mark_goes t w = own_put (own_put (own_put t.workers w 0 4) w 1 none) w 9 (held_word t w 5)

-- ---- the statement: each of the three is 9, and the mark is made in every other case
pub record MarksExactly (make : Stepper) (s : Sizes) (t : Tables) (w : ℕ) : Type 0 where
  pub hold_by_9 : ComesToMark s t w → held t w ≡ none → make s t w ≡ result_of (Refused 9 0) t
  pub label_by_9 : ComesToMark s t w → held_word t w 1 ≢ 1 → make s t w ≡ result_of (Refused 9 0) t
  pub first_by_9 : ComesToMark s t w → (SoundFirst s t w → ⊥) → make s t w ≡ result_of (Refused 9 0) t
  pub ends : Marks s t w → held_word t w 5 ≡ none → make s t w ≡ result_of Ended (marked_by t w (mark_ends t w))
  pub goes_on : Marks s t w → held_word t w 5 ≢ none → make s t w ≡ result_of Going (marked_by t w (mark_goes t w))

-- ---- the words' step
module _ (s : Sizes) (t : Tables) (w : ℕ) where
  held_word_lem : (view t).worker HELD w ≡ held t w
  held_word_lem = own_by_word t w 1 (omega arith)

  note_word : (view t).worker NOTE w ≡ own_word t w 10
  note_word = own_by_word t w 10 (omega arith)

  label_word : (view t).job LABEL (held t w) ≡ held_word t w 1
  label_word = job_by_word t (held t w) 1 (omega arith)

  first_word : (view t).job FIRST (held t w) ≡ held_word t w 5
  first_word = job_by_word t (held t w) 5 (omega arith)

  mark_here : ComesToMark s t w → step_words s t w ≡ did (plan_mark s (view t) (held t w)) t w
  unfolding step_words applied plan_phase plan_call
  mark_here c =
      rw (
        admits s t w Refuse _ c.admitted,
        own_by_word t w 0 (omega arith) ∙ c.marking,
        (counters_mean s (view t)).1 (counters_by_word s t c.counted),
        held_word_lem,
      )

  abbrev fits : Bool
  fits =
      is_place (held t w) && eqb ((view t).job LABEL (held t w)) 1
      && place_ok ((view t).job FIRST (held t w)) (view t).reserved s.arcs

  refused : ComesToMark s t w → (fits ≡ true → ⊥) → step_words s t w ≡ result_of (Refused 9 0) t
  unfolding plan_mark applied
  refused c n = mark_here c ∙ rw (fails fits (λ e. e) n)

  first_sound : fits ≡ true → SoundFirst s t w
  unfolding header
  first_sound e =
      rw (← first_word) ((place_means ((view t).job FIRST (held t w)) (view t).reserved s.arcs).0 (search parts))

  sound_first : SoundFirst s t w → place_ok (held_word t w 5) (view t).reserved s.arcs ≡ true
  unfolding header
  sound_first h = (place_means (held_word t w 5) (view t).reserved s.arcs).1 h

  module _ (m : Marks s t w) where
    ended : held_word t w 5 ≡ none → step_words s t w ≡ result_of Ended (marked_by t w (mark_ends t w))
    unfolding plan_mark applied put
    ended e =
        mark_here m.comes
        ∙ rw (
          ne_eqb (held t w) none m.holds,
          label_word ∙ m.executing,
          first_word ∙ e,
          note_word,
        )
        (ap (λ n. result_of Ended (marked_by t w (sets t.workers n (bare_worker 0 none 0)))) {x = 0 + 43 * w + 0}
        {y = 43 * w} (omega arith))

    gone_on : held_word t w 5 ≢ none → step_words s t w ≡ result_of Going (marked_by t w (mark_goes t w))
    unfolding plan_mark applied put
    gone_on n =
        mark_here m.comes
        ∙ rw (
          ne_eqb (held t w) none m.holds,
          label_word ∙ m.executing,
          first_word,
          sound_first m.first,
          ne_eqb (held_word t w 5) none n,
          note_word,
          own_puts,
        )

  pub marks_exactly : MarksExactly step_words s t w
  marks_exactly = record {
    hold_by_9 = λ c e. refused c (λ f. place_some (held t w) (search parts) e);
    label_by_9 = λ c n. refused c (λ f. n (sym label_word ∙ eqb-true ((view t).job LABEL (held t w)) 1 (search parts)));
    first_by_9 = λ c n. refused c (λ f. n (first_sound f));
    ends = ended;
    goes_on = gone_on;
  }

-- the same of the item of a list
pub item_marks_exactly : (s : Sizes) (t : Tables) (w : ℕ) → MarksExactly (λ q u v. perform u (step q v)) s t w
unfolding perform
item_marks_exactly s t w = marks_exactly s t w
