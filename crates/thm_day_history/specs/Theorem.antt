-- The history of a day ("The board and the day list"): its calls end within the steps and its rounds within the rounds
-- that the list gives them, nothing is left at its end, and what it prints is short. Of all sizes within the limits,
-- and so of R 256, A 1,024, b 4 with 1 to 16 workers.
use Rattle.std.specs.Prelude.{◌≡◌, true, false, List, [], ◌∷◌, ◌++◌, ℕ, ◌+◌, ◌*◌, ◌≤◌, ◌<◌, leb, length}
use Rattle.std.proofs.Math.Path.{refl}
use Rattle.std.proofs.Common.{sym, ◌∙◌, arith, zero-add, leb-true, le-leb}
use Rattle.std.proofs.lemmas.List.Edits.{sets}
use Rattle.def_numbers.specs.Numbers.{most_workers, cut, most_day_sheet, most_day_list}
use Rattle.def_basics.specs.Laws.{pick_by}
use Rattle.def_terms.specs.Terms.{within_limits, finish_of}
use Rattle.def_terms.specs.Runs.{Result}
use Rattle.def_terms.specs.declared.Sizes.{Sizes}
use Rattle.def_terms.specs.declared.Answer.TheVariants.{Ended}
use Rattle.def_words.specs.Layout.{Tables, LABEL, OUTCOME, SPOILED, view}
use Rattle.def_rules.specs.Rules.{idle}
use Rattle.thm_representation_kept.specs.Stand.{limits_of}
use Rattle.def_sheets.specs.Job.{Job, Valid}
use Rattle.def_sheets.proofs.NumberLaws.{Bytes}
use Rattle.def_sheets.proofs.SheetTrip.{Each, none, more, sheet_back}
use Rattle.def_sheets.proofs.CodeLaws.{sheet_bounds}
use Rattle.def_sheets.specs.Decode.{Sheet, jobs, broken, decode_sheet}
use Rattle.def_whole_calls.specs.Whole.{whole_add, whole_finish}
use Rattle.def_whole_calls.specs.CallEnds.{AddAnswer}
use Rattle.def_whole_calls.specs.CallEnds as answers
use Rattle.def_room.specs.Room.{arguments_of}
use Rattle.def_day.specs.Rounds.{day_sizes, fresh_day, added_day, get_round, finish_all, finished}
use Rattle.def_day.specs.declared.Holder.{Holder}
use Rattle.def_day.specs.Rounds.{rounds, run_day, hand_outs, unfinished}
use Rattle.def_day_lines.specs.Text.{digits, decimal, left_word, ◌␣◌, line}
use Rattle.def_day_lines.specs.Day.{refusal_lines, jobs_line, hand_out_lines, lines_before, day_lines, day_of, day_sheet}
use Rattle.def_day_lines.specs.Day.{day_text, printing, day_list}
use Rattle.thm_representation_kept.specs.Queue.{waiting_queue}
use Rattle.def_words.specs.Observed.{waiting}
use Rattle.def_day_lines.specs.declared.DayAnswer.TheVariants.{Printed}
use Rattle.thm_day_history.specs.Digits.{digits_below, more_digits}
use Rattle.thm_day_history.specs.Lines.{refused_bytes, LineWithin, word_within, jobs_bytes, broken_bytes}
use Rattle.thm_day_history.specs.Lines.{length_lines, refusals_bytes, hand_outs_bytes}
use Rattle.thm_day_history.specs.Calls.{During, AddEnds, accepted, refused, whole_add_lem, few_jobs}
use Rattle.thm_day_history.specs.Adds.{nobody, Entered, Adds, adds}
use Rattle.thm_day_history.specs.Rounds.{Over, round_finished, round_ends, rounds_over, rounds_same}
use Rattle.thm_day_history.specs.Ends.{fresh_day_lem, all_finished_lem, all_good}

answer_of_lem : (P Q : Tables → Type 0) (o : Result Tables) → AddEnds P Q o → AddAnswer o.answer
answer_of_lem P Q o (accepted D) = answers.accepted
answer_of_lem P Q o (refused n {p = p} l u D) = answers.refused n p l u

module _ (s : Sizes) (limits : within_limits s ≡ true) where
  -- the tables after the adds, and after all rounds
  abbrev pub after_adds : List Job → Tables
  after_adds js = (added_day s js).state

  abbrev pub after_rounds : List Job → Tables
  after_rounds js = (run_day s (after_adds js)).state

  -- the tables with which a round begins
  pub data Begins (js : List Job) : Tables → Type 0 where
    first : Begins js (after_adds js)
    next : {t : Tables} → Begins js t → Begins js (finished s (get_round s t))

  some_worker : 0 < s.workers
  some_worker = (limits_of s limits).some_workers

  few : s.jobs < 10000
  few = omega (arith, limits_of s limits)

  module _ (P : ℕ → Type 0) (nameless : P 0) (js : List Job) (named : Each (λ j. P j.name) js) where
    abbrev fresh : Entered s P 0 (fresh_day s)
    fresh = record {
      made = 0;
      names = λ j. 0;
      now = fresh_day_lem s limits;
      all = λ j. nameless;
      few = omega arith;
    }

    added : Adds s P 0 fresh.made (length js) (added_day s js)
    added = rw zero-add at (adds s P some_worker js 0 (fresh_day s) fresh named)

    abbrev entered : Entered s P (length js) (after_adds js)
    entered = added.entered

    -- ---- the rounds
    over : Over s entered.made entered.names P entered.all 0 (run_day s (after_adds js))
    over = rounds_over s entered.made entered.names P entered.all some_worker (s.jobs + 1) 0 (after_adds js)
        entered.now (omega arith)

    enough : (k : ℕ) → rounds (k + (s.jobs + 1)) s (after_adds js) ≡ run_day s (after_adds js)
    enough k = rounds_same s entered.made entered.names P entered.all some_worker (k + (s.jobs + 1))
        (s.jobs + 1) 0 (after_adds js) entered.now (omega arith) (omega arith)

    -- ---- the rounds, one by one
    record Begun (t : Tables) : Type 0 where
      handed : ℕ
      now : During s entered.made handed nobody entered.names 0 idle t

    begun : {t : Tables} → Begins js t → Begun t
    begun first = record { handed = 0; now = entered.now }
    begun (next {t} b) =
        let k = begun b in
        record {
          handed = _;
          now = round_finished s entered.made entered.names P entered.all some_worker k.handed t k.now;
        }

    finish_ended_lem : {t : Tables} → Begins js t
        → (hs : List Holder) (x : Holder) (rest : List Holder)
        → (get_round s t).holders ≡ hs ++ (x ∷ rest)
        → (whole_finish s (finish_all s hs (get_round s t).state) x.worker (finish_of x.name false)).answer ≡ Ended
    finish_ended_lem {t} b =
        let k = begun b in
        round_ends s entered.made entered.names P entered.all some_worker k.handed t k.now

  -- ---- in general
  abbrev Any : ℕ → Type 0
  Any name = Unit {0}

  any_names : (js : List Job) → Each (λ j. Any j.name) js
  any_names [] = none
  any_names (j ∷ js) = more tt (any_names js)

  module _ (js : List Job) where
    abbrev E : Entered s Any (length js) (after_adds js)
    E = entered Any tt js (any_names js)

    O : Over s E.made E.names Any E.all 0 (run_day s (after_adds js))
    O = over Any tt js (any_names js)

    -- "Worker 0 adds every entry, each run whole": after any entries the next one's add ends, accepted or refused by
    -- one of 5 to 8
    pub no_add_is_cut_short : (j : Job) → AddAnswer (whole_add s (after_adds js) 0 (arguments_of j)).answer
    no_add_is_cut_short j =
        answer_of_lem _ _ _ (whole_add_lem s 0 some_worker 0 nobody E.made E.names (arguments_of j) Any _ E.now)

    -- "then each holder in that order finishes, run whole": in every round the finish of each holder ends
    pub no_finish_is_cut_short : {t : Tables} → Begins js t
        → (hs : List Holder) (x : Holder) (rest : List Holder)
        → (get_round s t).holders ≡ hs ++ (x ∷ rest)
        → (whole_finish s (finish_all s hs (get_round s t).state) x.worker (finish_of x.name false)).answer ≡ Ended
    no_finish_is_cut_short b = finish_ended_lem Any tt js (any_names js) b

    -- "A round that hands out nothing ends it": more rounds than R + 1 change nothing
    pub the_rounds_suffice : (k : ℕ) → rounds (k + (s.jobs + 1)) s (after_adds js) ≡ run_day s (after_adds js)
    the_rounds_suffice k = enough Any tt js (any_names js) k

    -- because then nothing waits,
    pub nothing_waits : waiting (after_rounds js) ≡ []
    nothing_waits = waiting_queue O.now.at.stands ∙ O.empty

    -- the jobs are as many as after the adds,
    pub no_job_is_lost : (view (after_rounds js)).made ≡ (view (after_adds js)).made
    no_job_is_lost =
        O.now.at.stands.rep.made ∙ O.now.jobs.made ∙ sym (E.now.at.stands.rep.made ∙ E.now.jobs.made)

    -- and every one is finished
    pub none_is_unfinished : unfinished ((view (after_rounds js)).job LABEL) (view (after_rounds js)).made ≡ 0
    none_is_unfinished = all_finished_lem O.now O.empty

    -- as good: no job failed, and none is spoiled
    pub none_failed_or_is_spoiled : (j : ℕ) → j < (view (after_rounds js)).made
        → ((view (after_rounds js)).job OUTCOME j ≡ 0) × ((view (after_rounds js)).job SPOILED j ≡ 0)
    none_failed_or_is_spoiled = all_good O.now

    -- at most R jobs are handed out
    pub hand_outs_within : length (hand_outs (run_day s (after_adds js)).rounds) ≤ s.jobs
    hand_outs_within = let F = few_jobs O.now in omega (arith, O.count, F.given, F.made)

    -- "The last gives jobs not finished": it is left 0
    pub nothing_is_left : day_lines s js ≡ lines_before s js ++ (line (left_word ␣ decimal 0) ∷ [])
    unfolding day_lines
    nothing_is_left = rw none_is_unfinished

  left_bytes : length (line (left_word ␣ decimal 0)) ≡ 7
  unfolding digits
  left_bytes = refl

  -- ---- the bytes of a day whose names are words, with at most 9 workers and 999 jobs
  module _ (workers : s.workers < 10) (few_enough : s.jobs < 1000) (js : List Job) (short : length js ≤ 10000)
      (named : Each (λ j. LineWithin 14 s.workers j.name) js) where
    pub day_bytes : length (day_of s js) ≤ refused_bytes (length js) + 3 * s.jobs + 26
    day_bytes =
        let zeroed : LineWithin 14 s.workers 0 = word_within s.workers 0 (omega arith) (omega arith) in
        let A = added (LineWithin 14 s.workers) zeroed js named in
        let E = A.entered in
        let O = over (LineWithin 14 s.workers) zeroed js named in
        let F = few_jobs O.now in
        let made : (view (after_adds js)).made ≡ E.made = E.now.at.stands.rep.made ∙ E.now.jobs.made in
        let hs = hand_outs (run_day s (after_adds js)).rounds in
        let refusals = refusals_bytes A.answers (omega arith) short in
        let handed = rw (← O.count) at
        (hand_outs_bytes 14 s.workers 0 hs O.right (omega (arith, O.count, F, few))) in
        let last = nothing_is_left js in
        rw last
        (omega (
          arith,
          length_lines (refusal_lines (added_day s js).refusals) (hand_out_lines 0 hs)
              (jobs_line (after_adds js) s.workers) (line (left_word ␣ decimal 0)),
          left_bytes,
          refusals,
          handed,
          jobs_bytes (view (after_adds js)).made s.workers (omega (arith, F)) workers,
          more_digits O.handed E.made F.given,
          O.count,
          F,
        ))

-- ---- "(R 256, A 1,024, b 4, P 2)", with any number of workers
pub day_limits : (workers : ℕ) → 1 ≤ workers → workers ≤ most_workers → within_limits (day_sizes workers) ≡ true
unfolding within_limits
day_limits workers l h = rw (le-leb 1 workers l, le-leb workers most_workers h)

words_within : (js : List Job) → Each Valid js → Each (λ j. LineWithin 14 2 j.name) js
words_within js none = none
words_within js (more v e) = more (word_within 2 _ (omega arith) v.name) (words_within _ e)

sheet_fits : (sheet : List ℕ) → Bytes sheet → length sheet ≤ most_day_sheet → (x : Sheet) → decode_sheet sheet ≡ x
    → length (day_sheet (day_sizes 2) x) ≤ most_day_list
unfolding decode_sheet digits_below
sheet_fits sheet bytes h (jobs js) e =
    let entries = (sheet_bounds (length sheet) sheet 0 js (omega arith) e).0 in
    let few : length js ≤ 6553 = omega arith in
    omega (
      arith,
      more_digits (length js) 6553 few,
      day_bytes (day_sizes 2) (day_limits 2 (omega arith) (omega arith)) (omega arith) (omega arith) js (omega arith)
          (words_within js (sheet_back sheet js bytes e).1),
    )
sheet_fits sheet bytes h (broken number offset) e = omega (arith, broken_bytes offset number)

-- "a sheet of at most 32,768 bytes ..; a longer sheet prints broken 32768 12": with two workers no sheet prints more
pub the_day_list_fits : (sheet : List ℕ) → Bytes sheet → length (day_text 2 sheet) ≤ most_day_list
unfolding day_text
the_day_list_fits sheet bytes =
    pick_by (λ (l : List ℕ). length l ≤ most_day_list) (leb (length sheet) most_day_sheet)
    (λ e. sheet_fits sheet bytes (leb-true (length sheet) most_day_sheet e) (decode_sheet sheet) refl)
    (λ e. omega (arith, broken_bytes most_day_sheet cut))

-- so an output of so many bytes is never refused (number 15): the list stands at its front, and its rest stays
pub nothing_is_refused : (sheet out : List ℕ) → Bytes sheet → most_day_list ≤ length out
    → day_list 2 sheet out ≡ printing (Printed (length (day_text 2 sheet))) (sets out 0 (day_text 2 sheet))
unfolding day_list
nothing_is_refused sheet out bytes h =
    rw (le-leb (length (day_text 2 sheet)) (length out) (omega (arith, the_day_list_fits sheet bytes)))
