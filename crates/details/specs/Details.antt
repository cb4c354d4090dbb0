-- WHAT ELSE IS SHOWN, for those who want it: nobody need read this file to believe the promises (crates/promises). For
-- every list of calls from a fresh graph: the words of workers, buckets and the index, the board, held and drained. For
-- ALL tables: each call's answer exactly, with each refusal's condition and every word that changes; the costs of the
-- index; whole calls and sheets of adds as C has them. The day list. Each has a one-line proof that names where it was
-- shown.
use Rattle.std.specs.Prelude.{◌≡◌, ◌↔◌, ◌≢◌, true, false, ◌&&◌, Bool, List, [], ◌∷◌, ◌++◌, ℕ, suc, ◌+◌, ◌*◌, ◌^◌, ◌%◌, ◌≤◌, ◌<◌, length, get_or}
use Rattle.std.proofs.Math.Option.{none, some}
use Rattle.std.proofs.lemmas.List.Edits.{sets}
use Rattle.def_numbers.specs.Numbers.{most_names, classes, wrong_size, damaged, half_done, worker_idle, most_workers}
use Rattle.def_numbers.specs.Numbers.{most_day_list}
use Rattle.def_basics.specs.Base.{pick, repeats, contains, occurrences}
use Rattle.def_bucket.specs.Bucket.{bucket_of}
use Rattle.def_minutes.specs.Minutes.{fixed_minutes}
use Rattle.def_minutes.specs.Judged.{all_minutes, no_minutes}
use Rattle.def_minutes.specs.Rising.{is_rising, SixteenRising, rising_means}
use Rattle.def_terms.specs.Terms.{Arguments, within_limits, same_sizes, bit, arguments_wrong, settles}
use Rattle.def_terms.specs.Terms.{Finish, finish_of, listed}
use Rattle.def_terms.specs.Runs.{Item, post_add, post_finish, step, get, load, sizes_of, worker_of, is_load, result_of, after}
use Rattle.def_terms.specs.Runs.{events, Result}
use Rattle.def_terms.specs.Seen.{idle}
use Rattle.def_terms.specs.declared.Sizes.{Sizes}
use Rattle.def_terms.specs.declared.HandOut.{HandOut}
use Rattle.def_terms.specs.declared.Answer.{Answer}
use Rattle.def_terms.specs.declared.Answer.TheVariants.{Laid, Posted, Ended, NoneReady, Handed, Refused}
use Rattle.def_heap.specs.Compared.{Alike}
use Rattle.def_words.specs.Layout.{Tables, View, view, worker_shape, NAME, LABEL, CLASS, DEPENDENT, AFTER, HELD}
use Rattle.def_words.specs.Layout.{LIST_COUNT}
use Rattle.def_words.specs.Layout.{TALLY, OWN_JOB, OWN_ARC, NAMES, IDLE, NOTIFYING, bare_worker, job_shape, stored_minutes}
use Rattle.def_words.specs.Layout.{OUTCOME, SPOILED, NOTE, NEWEST}
use Rattle.def_words.specs.Layout as words
use Rattle.def_words.specs.Columns.{columns, header}
use Rattle.def_words.specs.Stored.{minutes_by_words, job_by_words}
use Rattle.def_words.specs.Index.{rank_of, cell_in, waits, filled, first_seat, seat_for, put_seat, compared_cells}
use Rattle.def_words.specs.Words as by_words
use Rattle.def_words.specs.Words.{next_job, put_worker, finish_words, step_words, get_words, loaded, perform, lay_out}
use Rattle.def_words.specs.Observed.{waiting, bucket_from, newest_first, seen}
use Rattle.def_call_order.specs.Calls.{Reading, reading, Quiet, accepted_adds, minutes_loaded, unread}
use Rattle.def_call_order.specs.Calls as reading
use Rattle.def_demand.specs.Demand.{add_of, PrerequisiteFailed, JobFinished}
use Rattle.def_demand.specs.Stays.{Stays}
use Rattle.thm_words_history.specs.Lifted as lifted
use Rattle.thm_words_history.specs.Staying as staying
use Rattle.thm_words_history.specs.IndexExact.{IndexExact, index_exact}
use Rattle.thm_words_need.specs.Parts.{needed, rest, joined, laid_out}
use Rattle.thm_words_refusals.specs.Numbers as list
use Rattle.thm_words_refusals.specs.Refusals.{ends, words_of, hold_after}
use Rattle.thm_words_refusals.specs.Refusals as refusals
use Rattle.thm_words_need.specs.Within as within
use Rattle.thm_words_tests.specs.Judged.{Sized, sized_means, Own, own_means, Counters, counters_mean, Admitted}
use Rattle.thm_words_tests.specs.Judged.{TurnedAway}
use Rattle.thm_words_tests.specs.Reach.{index, reach}
use Rattle.thm_words_refusals.specs.Comes.{first_of_all, StepRefused, step_refused, MayGet, GetRefused, at_empty}
use Rattle.thm_words_refusals.specs.Comes.{at_index_lem, comes_early}
use Rattle.thm_words_order.specs.Compared.{cells_by_get, compared_by_get, few_compared, counted_at_index}
use Rattle.thm_words_order.specs.Compared.{none_before_index}
use Rattle.thm_words_outcomes.specs.Outcomes.{FinishesExactly, item_finishes_exactly, TellsSpoiled, item_tells_spoiled}
use Rattle.thm_words_outcomes.specs.OutcomeWords.{WritesOutcomes}
use Rattle.def_bucket.specs.Laws.{Large, large_buckets}
use Rattle.def_words.specs.declared.Found.{Found}
use Rattle.thm_words_steps.specs.Buckets.{LooksFor, look_up_means, OneEnd, one_end}
use Rattle.thm_words_steps.specs.LookUpSteps.{LooksUpExactly, item_looks_up_exactly}
use Rattle.thm_words_steps.specs.EnterSteps.{EntersExactly, item_enters_exactly}
use Rattle.def_book.specs.Book.{add_end}
use Rattle.thm_arguments.specs.Lists.{Inside, contains_means, Twice, repeats_means, Times, occurrences_mean}
use Rattle.thm_arguments.specs.Judged.{Lists, listed_means, Judges, judged_alone}
use Rattle.thm_pinned.specs.AddPosts.{Post, AddsExactly, item_adds_exactly, adds_alone, ByFive, five_means}
use Rattle.thm_pinned.specs.Five as five
use Rattle.thm_pinned.specs.FreshWords.{LaysFresh, lays_alone}
use Rattle.thm_pinned.specs.PutBack.{Idled, same_idled}
use Rattle.thm_pinned.specs.Numerals.{Pinned, pinned}
use Rattle.thm_day_cases.specs.Decimal.{Decimal, decimal_means}
use Rattle.thm_day_cases.specs.DayRows.{DayRows}
use Rattle.thm_day_cases.specs.DayTold.{PrintsExactly, prints_exactly, prints_alone}
use Rattle.thm_day_cases.specs.DayCases.{day_rows}
use Rattle.thm_day_cases.specs.DayAnswers.{DayAnswers, day_answers, answers_alone}
use Rattle.thm_day_cases.specs.DayAnswers as day
use Rattle.thm_starred_cases.specs.StarredCases.{Starred, every_row}
use Rattle.taskgraph_heard.specs.Lent.{LendsAlike, lends_alike}
use Rattle.taskgraph_heard.specs.BoardWithin.{WithinNeed, totals_within_need, minutes_within_need}
use Rattle.taskgraph_heard.proofs.ToldApart.{ToldOneWay, told_one_way, ExactIsHeard, exact_is_heard}
use Rattle.taskgraph_heard.specs.Interface.{Contracts, contracts}
use Rattle.thm_words_loads.specs.Loads.{Stored, loaded_stores, LoadsExactly, item_loads_exactly}
use Rattle.thm_words_loads.specs.MinutesElsewhere.{minutes_apart, minutes_stay}
use Rattle.thm_words_queue.specs.Elsewhere.{with_queue, Elsewhere, elsewhere}
use Rattle.thm_words_order.specs.IndexFirst.{FirstTaken, first_taken, none_ready_empty}
use Rattle.thm_words_order.specs.Looked.{each_waits, is_seated, looked_by_get, takes_first, looked_by_entering, may_enter}
use Rattle.thm_words_order.specs.Classes.{ButClasses, Classed, with_jobs, SameGet, get_by_classes}
use Rattle.thm_words_steps.specs.LinkSteps.{LinksExactly, item_links_exactly}
use Rattle.thm_words_steps.specs.MarkSteps.{MarksExactly, item_marks_exactly}
use Rattle.thm_words_outcomes.specs.OutcomeItems.{writes_outcomes}
use Rattle.thm_words_order.specs.Looked as looked
use Rattle.thm_words_queue.specs.Waits.{Waits, waits_means, one_slot}
use Rattle.thm_words_queue.specs.Moved.{Next, seat_next}
use Rattle.thm_words_queue.specs.Queued.{Comes, ComesToSettle, counted, put_back, Settles, Unsettled, SettlesRightly}
use Rattle.thm_words_queue.specs.Queued.{settles_rightly, settling_is_9, settles_seated}
use Rattle.thm_words_queue.specs.Notified.{Lowers, Unlowered, Onward, NotifiesRightly, notifies_rightly, notifying_is_9}
use Rattle.thm_words_queue.specs.Notified.{notifies_seated}
use Rattle.thm_words_order.specs.Order.{class_at, GoesFirst, rank_means}
use Rattle.thm_words_order.specs.Taken.{GetsFirst, early_refuses, empty_none_ready, first_got}
use Rattle.thm_words_order.specs.EnteringReads.{SameCounters, SameSlots, seat_same}
use Rattle.thm_words_order.specs.GetReads.{first_seat_same, takes_same}
use Rattle.def_words.specs.declared.Seat.{Seat}
use Rattle.def_words.specs.declared.Seating.TheVariants.{Seated}
use Rattle.def_sheets.specs.Job.{Job}
use Rattle.def_sheets.proofs.NumberLaws.{Bytes}
use Rattle.def_whole_calls.specs.Whole.{whole_add, whole_finish}
use Rattle.def_room.specs.Room.{arguments_of}
use Rattle.def_day.specs.Rounds.{day_sizes, get_round, finish_all, rounds, run_day, hand_outs}
use Rattle.def_day.specs.declared.Holder.{Holder}
use Rattle.def_day.specs.Rounds.{unfinished}
use Rattle.def_day_lines.specs.Text.{decimal, left_word, line, ◌␣◌}
use Rattle.def_day_lines.specs.Day.{lines_before, day_lines, day_text, day_list, printing}
use Rattle.def_day_lines.specs.declared.DayAnswer.TheVariants.{Printed}
use Rattle.thm_day_history.specs.Theorem.{Begins, after_adds, after_rounds}
use Rattle.thm_day_history.specs.Theorem as ends_of_day
use Rattle.def_totals.specs.Board.{refused, totals_of, totals_by, totals_of_words}
use Rattle.def_totals.proofs.Exactly.{RowsExactly, rows_exactly, fixed_rows, record_words, words_exactly, odd_words}
use Rattle.def_totals.specs.declared.JobRecord.{JobRecord}
use Rattle.def_graph_board.specs.Board.{graph_minutes, graph_totals}
use Rattle.def_graph_board.specs.Accounted.{Accounted}
use Rattle.def_graph_board.specs.Exactly.{BoardsExactly, boards_exactly, MinutesExactly, minutes_exactly}
use Rattle.thm_board_history.specs.Minutes.{accounted, minutes_told_lem, board_number}
use Rattle.def_worker_state.specs.Held.{held_words}
use Rattle.def_worker_state.specs.Drained.{drained_words}
use Rattle.def_call_order.specs.Holds.{handed_read, held_read}
use Rattle.thm_state_history.specs.Told.{told}
use Rattle.thm_state_history.specs.HeldExactly.{Ask, HeldExactly, held_exactly, only_held_words}
use Rattle.thm_state_history.specs.DrainedExactly.{AskDrained, DrainedExactly, drained_exactly_told, only_drained_words}
use Rattle.thm_state_history.specs.Need as state_need
use Rattle.thm_state_history.specs.Agrees as state_agrees
use Rattle.thm_state_history.specs.MinutesApart.{held_apart, drained_apart}
use Rattle.thm_state_history.specs.Theorem as state
use Rattle.def_whole_calls.specs.CallEnds.{AddAnswer}
use Rattle.def_host_calls.specs.HostCalls.{HostCall, after_calls}
use Rattle.def_host_calls.specs.CallsDemand.{items, read_minutes, read_calls}
use Rattle.thm_calls_history.specs.WordsCalls.{turned_words, answer_words}
use Rattle.thm_calls_history.proofs.Theorem.{calls_demand, at_calls}
use Rattle.thm_calls_history.specs.Now.{Now}

-- ---- of every list of calls from tables that were laid out, whatever they held before
module _ (s : Sizes) (t : Tables) (laid : (lay_out s t).answer ≡ Laid) (calls : List HostCall) where
  -- the tables after the calls, what is read off calls and replies, the accepted adds, the minutes that were loaded,
  -- and the items that the calls are worth
  abbrev pub fresh : Tables
  fresh = (lay_out s t).state

  abbrev pub now : Tables
  now = after_calls answer_words fresh calls

  abbrev pub read : Reading
  read = read_calls answer_words unread fresh calls

  abbrev pub adds : List Arguments
  adds = accepted_adds read.calls

  abbrev pub minutes : List ℕ
  minutes = read_minutes answer_words fixed_minutes fresh calls

  abbrev pub worth_of : List Item
  worth_of = items perform turned_words answer_words seen s fresh calls

  -- the same by the items
  abbrev N : Now s t laid now read
  N = at_calls s t laid calls

  loads : minutes ≡ minutes_loaded (events perform fresh worth_of)
  loads = (calls_demand s t laid calls).reads_minutes

  -- ---- gets. "None ready" exactly if the sizes and the worker are right, the worker is idle and jobless and nothing
  -- waits.
  pub none_ready_exactly : (q : Sizes) (w : ℕ) → ((perform now (get q w)).answer ≡ NoneReady)
      ↔ ((same_sizes q s ≡ true) × (w < s.workers)
      × ((seen now).call w ≡ idle)
      × ((seen now).held w ≡ none)
      × ((seen now).waiting ≡ []))
  none_ready_exactly = rw N.here (lifted.none_ready_lem s t laid N.items)

  -- "From a fresh graph the index holds exactly the waiting jobs after every step", each filled slot waits, "the filled
  -- slots are a binary heap", and what is not in use is none: the other slots, cells and positions.
  pub the_index_holds_the_waiting_jobs : IndexExact perform s fresh worth_of
  the_index_holds_the_waiting_jobs = index_exact s t laid worth_of

  -- ---- the words of workers. "A call that ends puts the words of its call back": of a worker in no call all words but
  -- the hold are as laid out,
  pub an_idle_worker_is_fresh : (w : ℕ) → w < s.workers → read.pending w ≡ reading.idle → (k : ℕ)
      → k < worker_shape.width → k ≢ HELD
      → (view now).worker k w ≡ get_or (bare_worker IDLE words.none 0) k 0
  an_idle_worker_is_fresh = rw (N.here, N.read) (lifted.fresh_call s t laid N.items)

  -- and "names past the count are kept as 0".
  pub names_past_the_count_are_0 : (w : ℕ) → w < s.workers → (q : ℕ) → (view now).worker LIST_COUNT w ≤ q
      → q < most_names
      → (view now).worker (NAMES + q) w ≡ 0
  names_past_the_count_are_0 = rw N.here (lifted.names_past s t laid N.items)

  -- ---- names and buckets. No two jobs have one name,
  pub a_name_has_one_job : (i j : ℕ) → i < (seen now).made → j < (seen now).made
      → ((seen now).job i).name ≡ ((seen now).job j).name → i ≡ j
  a_name_has_one_job = rw N.here (lifted.one_of_a_name s t laid N.items)

  -- and a bucket's list holds exactly the jobs of its names, newest first.
  pub a_bucket_holds_its_jobs : (k : ℕ) → k < 2 ^ s.bits
      → bucket_from (view now) ((view now).bucket NEWEST k)
      ≡ newest_first (λ j. bucket_of ((view now).job NAME j) s.bits) k (view now).made
  a_bucket_holds_its_jobs = rw N.here (lifted.newest_first_lem s t laid N.items)

  -- ---- outcomes. No later item makes a spoiled job unspoiled, changes the spoiled word of a job that has entered the
  -- queue, or the outcome of a finished job. (Later whole calls count as the items that they are worth.)
  pub spoiled_words_and_outcomes_stay : (more : List Item) → Stays perform seen fresh worth_of more
  spoiled_words_and_outcomes_stay = staying.stays s t laid worth_of

  -- "the words of outcome, mark and note are 0 or 1".
  pub outcomes_spoiled_words_and_notes_are_0_or_1 :
      ((j : ℕ) → j < s.jobs → ((view now).job OUTCOME j ≤ 1) × ((view now).job SPOILED j ≤ 1))
      × ((w : ℕ) → w < s.workers → (view now).worker NOTE w ≤ 1)
  outcomes_spoiled_words_and_notes_are_0_or_1 =
      rw N.here (lifted.job_bits s t laid N.items, lifted.note_bit s t laid N.items)

  -- ---- a district's minutes always rise, each from 1 to 1,440. (That they are those of the last load that was
  -- accepted: `def_minutes` in the demand.)
  pub the_minutes_always_rise : SixteenRising (stored_minutes now.jobs)
  the_minutes_always_rise = rw N.here (lifted.minutes_rise s t laid N.items)

  -- ---- the board: it is served over the graph's own row, has the jobs and minutes of each label as they stand there,
  -- and its three sums are together the minutes of all jobs that ever entered, by the minutes that were loaded. For the
  -- river ledger: no minute is invented, and none is lost.
  pub the_board_accounts_for_every_job : Accounted graph_totals minutes s now.jobs adds
  the_board_accounts_for_every_job =
      rw ((calls_demand s t laid calls).leaves, loads, (calls_demand s t laid calls).reads.calls)
      (accounted s t laid worth_of)

  -- Asked with other sizes the board is refused by 1, and else never; and whoever asks is told the minutes that were
  -- loaded.
  pub the_board_is_refused_for_other_sizes : (q : Sizes)
      → (graph_totals q now.jobs).number ≡ pick (same_sizes q s) 0 wrong_size
  the_board_is_refused_for_other_sizes = rw N.here (board_number s t laid N.items)

  pub the_minutes_are_told_as_loaded : (q : Sizes)
      → graph_minutes q now.jobs ≡ pick (same_sizes q s) (all_minutes minutes) (no_minutes wrong_size)
  the_minutes_are_told_as_loaded =
      rw ((calls_demand s t laid calls).leaves, loads) (minutes_told_lem s t laid worth_of)

  -- ---- a worker that restarts is told what calls and replies alone say: the job that was handed out to it last, with
  -- the name that the get told, and spoiled or not as it told, unless a finish of it was accepted since, and then none;
  -- and its call half done, of an add the name too. Whatever sizes and worker it asks with: 1 unless the sizes are
  -- those laid out, then 2 unless w is below P.
  pub a_worker_is_told_what_it_holds : (q : Sizes) (w : ℕ) → held_words q now w ≡ told q s read w
  a_worker_is_told_what_it_holds = rw (N.here, N.read) (state.held s t laid N.items)

  -- The name is that of the job's add, and the spoiled word is the one that is seen now.
  pub a_hand_out_still_holds : (w : ℕ) (o : HandOut) → w < s.workers → handed_read read w ≡ some o
      → (o.job < length adds)
      × (o.name ≡ (add_of adds o.job).name)
      × (((seen now).job o.job).spoiled ≡ bit o.spoiled)
  a_hand_out_still_holds = rw (N.here, N.read) (state.handed_shown s t laid N.items)

  -- The spoiled word that it is told is complete: it says whether a prerequisite of the held job failed.
  pub a_held_jobs_spoiled_word_is_complete : (w p : ℕ) → w < s.workers → (seen now).held w ≡ some p
      → (((seen now).job p).spoiled ≡ 1) ↔ PrerequisiteFailed (seen now) adds p
  a_held_jobs_spoiled_word_is_complete = rw (N.here, N.read) (state.held_spoiled_lem s t laid N.items)

  -- What is seen of its hold is the same.
  pub a_hold_is_read_off_the_calls : (w : ℕ) → w < s.workers → (seen now).held w ≡ held_read read w
  a_hold_is_read_off_the_calls = rw (N.here, N.read) (state.hold s t laid N.items)

  -- ---- a host that wants to stop is refused by 1 where it asks with other sizes, and else never;
  pub drained_is_refused_for_other_sizes : (q : Sizes)
      → (drained_words q now).number ≡ pick (same_sizes q s) 0 wrong_size
  drained_is_refused_for_other_sizes = rw N.here (state.drained_number s t laid N.items)

  -- it is told that the graph is drained exactly if no call is half done, no worker holds a job and nothing waits,
  pub drained_exactly : (q : Sizes) → ((drained_words q now).drained ≡ 1)
      ↔ ((same_sizes q s ≡ true) × Quiet read
      × ((w : ℕ) → w < s.workers → (seen now).held w ≡ none)
      × ((seen now).waiting ≡ []))
  drained_exactly = rw (N.here, N.read) (state.drained_exactly s t laid N.items)

  -- and then every job that entered is finished.
  pub what_is_told_drained_is_finished : (q : Sizes) → (drained_words q now).drained ≡ 1
      → (j : ℕ) → j < length adds
      → JobFinished (seen now) read.calls j
  what_is_told_drained_is_finished = rw (N.here, N.read) (state.drained_finished s t laid N.items)

-- ---- of ALL tables, damaged ones too, and every item
module _ (t : Tables) (i : Item) where
  -- Only a get answers that it hands a job out.
  pub only_a_get_hands_out : (h : HandOut) → (perform t i).answer ≡ Handed h → (q : Sizes) × (w : ℕ) × (i ≡ get q w)
  only_a_get_hands_out = list.handed_by_get_lem t i

  pub none_ready_changes_nothing : (perform t i).answer ≡ NoneReady → (perform t i).state ≡ t
  none_ready_changes_nothing = refusals.none_ready_lem t i

  -- "A call that ends puts the words of its call back to these values": an answer that ends an add or a finish leaves
  -- all 43 words of its worker fresh but the hold, and no other worker's words changed. (By offsets and numerals:
  -- `every_answer_is_on_the_list` of the core.) With its hold:
  pub a_call_that_ends_is_put_back : ends (perform t i).answer ≡ true
      → ((perform t i).state.workers
      ≡ put_worker t.workers (worker_of i) (bare_worker IDLE (hold_after (view t) (worker_of i)) 0))
      × (words_of (worker_of i) (perform t i).state ≡ bare_worker IDLE (hold_after (view t) (worker_of i)) 0)
  a_call_that_ends_is_put_back = refusals.ended t i

-- One result alone is left by 6, 7 and 8, "worker idle, nothing else changed".
pub an_idled_worker_leaves_one_result : (w : ℕ) (t u v : Tables) → Idled w t u → Idled w t v → u ≡ v
an_idled_worker_leaves_one_result w t u v = same_idled

-- A list of items keeps to the need too, whatever sizes they bring, with the sizes that the tables keep.
pub a_list_keeps_to_the_need : (t : Tables) (items : List Item)
    → (events perform t items ≡ events perform (needed (laid_out t) t) items)
    × (after perform t items ≡ joined (after perform (needed (laid_out t) t) items) (rest (laid_out t) t))
    × (rest (laid_out t) (after perform t items) ≡ rest (laid_out t) t)
a_list_keeps_to_the_need = within.list_within

-- ---- what is judged first, on ALL tables: "1, 2, 9 for the worker's own words", whatever the post, step or get, and
-- nothing is changed;
pub every_call_is_turned_away_by_1_2_9_first : (t : Tables) (i : Item) (n : ℕ) → is_load i ≡ false
    → TurnedAway (sizes_of i) t (worker_of i) n → perform t i ≡ result_of (Refused n 0) t
every_call_is_turned_away_by_1_2_9_first = first_of_all

-- then a step by 4 or by 9 for the counters (a post of an add and a get: below).
pub a_step_is_refused_by_4_then_9 : (s : Sizes) (t : Tables) (w : ℕ) → Admitted s t w → (n : ℕ) → StepRefused s t w n
    → perform t (step s w) ≡ result_of (Refused n 0) t
a_step_is_refused_by_4_then_9 = step_refused

-- ---- number 5, by places and numerals: "a class over 15, a grower over 65,535, or a list over 32, holding its own
-- job's name or a name twice". One test alone judges so; the listed names are those below the count; and what it means
-- to be in a list, twice in it, so often in it.
pub number_5_is_judged_so_by_one_test_alone : (judge : Arguments → Bool) → Judges judge → (a : Arguments)
    → judge a ≡ arguments_wrong a
number_5_is_judged_so_by_one_test_alone = judged_alone

pub the_listed_names_are_those_below_the_count : (a : Arguments) → Lists (listed a) a
the_listed_names_are_those_below_the_count = listed_means

pub in_a_list_means_at_a_place : (x : ℕ) (l : List ℕ) → (contains x l ≡ true) ↔ Inside x l
in_a_list_means_at_a_place = contains_means

pub twice_means_at_two_places : (l : List ℕ) → (repeats l ≡ true) ↔ Twice l
twice_means_at_two_places = repeats_means

pub how_often_means_at_how_many_places : (x : ℕ) (l : List ℕ) (n : ℕ) → (occurrences x l ≡ n) ↔ Times x l n
how_often_means_at_how_many_places = occurrences_mean

-- The post of an add, by the words of the tables: 1, 2 and 9 first, 3, 5 exactly if its arguments are wrong, 9 for a
-- counter, with nothing changed; else posted, with each of the worker's 43 words, and nothing else changed. One post
-- alone does so.
pub an_add_is_posted_exactly : (s : Sizes) (t : Tables) (w : ℕ) (a : Arguments)
    → AddsExactly (λ q u v x. perform u (post_add q v x)) s t w a
an_add_is_posted_exactly = item_adds_exactly

pub an_add_is_posted_so_by_one_post_alone : (post : Post)
    → ((s : Sizes) (t : Tables) (w : ℕ) (a : Arguments) → AddsExactly post s t w a)
    → (s : Sizes) (t : Tables) (w : ℕ) (a : Arguments) → post s t w a ≡ by_words.add_words s t w a
an_add_is_posted_so_by_one_post_alone = adds_alone

-- So a post, an add run whole and the book are refused by 5 exactly then.
pub an_add_is_refused_by_5_exactly_if_wrong : (s : Sizes) (t : Tables) (w : ℕ) (a : Arguments)
    → ((perform t (post_add s w a)).answer ≡ Refused 5 0) ↔ ByFive s t w a
an_add_is_refused_by_5_exactly_if_wrong s t w a =
    five_means (λ q u v x. perform u (post_add q v x)) s t w a (item_adds_exactly s t w a)

pub a_whole_add_is_refused_by_5_exactly_if_wrong : (s : Sizes) (t : Tables) (w : ℕ) (a : Arguments)
    → ((whole_add s t w a).answer ≡ Refused 5 0) ↔ ByFive s t w a
a_whole_add_is_refused_by_5_exactly_if_wrong = five.whole_five_means

pub the_book_refuses_by_5_exactly_if_wrong : five.Judged add_end
the_book_refuses_by_5_exactly_if_wrong = five.book_five_means

-- The post of a finish, by the words of the tables: 3, 11, 9 for a counter or the spoiled word of the held job, and
-- then "19, good for a spoiled job", each "with nothing changed"; else it is posted, and its outcome is the worker's
-- note.
pub a_finish_is_answered_exactly : (s : Sizes) (t : Tables) (w : ℕ) (f : Finish)
    → FinishesExactly (λ q u v x. perform u (post_finish q v x)) s t w f
a_finish_is_answered_exactly = item_finishes_exactly

-- "marked spoiled, which the get's answer tells": the spoiled word of a job that is handed out is 0 or 1, and is told;
-- any other is 9, with nothing changed.
pub a_get_tells_a_spoiled_job : (s : Sizes) (t : Tables) (w : ℕ) → TellsSpoiled (λ q u v. perform u (get q v)) s t w
a_get_tells_a_spoiled_job = item_tells_spoiled

-- The walk for a name along its bucket, by the words of the tables, damaged ones too: it ends in one way and no other,
-- and the words' look-up tells which. The buckets of four large names, which a multiplier near 2654435769 lacks.
pub a_walk_ends_in_one_way : (s : Sizes) (t : Tables) (name : ℕ) → OneEnd s t name
a_walk_ends_in_one_way = one_end

pub the_look_up_is_that_walk : (s : Sizes) (t : Tables) (name : ℕ) (r : Found)
    → LooksFor s t name r ↔ (by_words.find_of s (view t) name ≡ r)
the_look_up_is_that_walk = look_up_means

pub large_names_fall_in_these_buckets : Large bucket_of
large_names_fall_in_these_buckets = large_buckets

-- A look-up, by where that walk ends: found, the place is one more; missing, 6 with the place, the worker idle;
-- damaged, 9. Nothing else changes.
pub a_look_up_is_made_exactly : (s : Sizes) (t : Tables) (w : ℕ)
    → LooksUpExactly (λ q u v. perform u (step q v)) s t w
a_look_up_is_made_exactly = item_looks_up_exactly

-- Entering, by where the walk for its own name ends: 9, 7 before 8, and else every word that changes.
pub a_job_enters_exactly : (s : Sizes) (t : Tables) (w : ℕ)
    → EntersExactly (λ q u v. perform u (step q v)) s t w
a_job_enters_exactly = item_enters_exactly

-- A link, by the words of the tables: each refusal by 9 with its condition and nothing changed; a finished prerequisite
-- is tallied, and one that failed noted beside the tally; any other "gets the arc appended to its list".
pub a_link_is_made_exactly : (s : Sizes) (t : Tables) (w : ℕ)
    → LinksExactly (λ q u v. perform u (step q v)) s t w
a_link_is_made_exactly = item_links_exactly

-- The mark of a finish: it reads the hold, the held job's label and its first arc, and not the job's spoiled word; it
-- keeps the outcome.
pub a_mark_is_made_exactly : (s : Sizes) (t : Tables) (w : ℕ)
    → MarksExactly (λ q u v. perform u (step q v)) s t w
a_mark_is_made_exactly = item_marks_exactly

-- Which items write the outcome, the spoiled word and the note, and what: no others do, and these do. "A link to a
-- failed job is noted beside the tally, and settling spoils; a failed finish's step for an arc spoils that arc's
-- dependent".
pub outcomes_spoiled_words_and_notes_are_written_so : WritesOutcomes perform
outcomes_spoiled_words_and_notes_are_written_so = writes_outcomes

-- "`taken` and `put` are read only where the table below names them": a post, and a step that neither settles nor goes
-- along an arc, do with any queue of the same length what they do with this one, and leave it as it is.
pub the_queue_is_left_alone_elsewhere : (t : Tables) (q : List ℕ) → length q ≡ length t.queue → (i : Item)
    → Elsewhere t i
    → perform (with_queue t q) i ≡ result_of (perform t i).answer (with_queue (perform t i).state q)
the_queue_is_left_alone_elsewhere = elsewhere

-- ---- a load, on ALL tables: "the order is 1, 17, 9, 18, with nothing changed"; it reads the sizes, the values and how
-- many jobs were made; what it writes are the sixteen minutes, and nothing else.
pub a_load_is_answered_exactly : (s : Sizes) (t : Tables) (m : List ℕ)
    → LoadsExactly (λ q u n. perform u (load q n)) s t m
a_load_is_answered_exactly = item_loads_exactly

-- What the test of the values means, both ways: "they must rise strictly from class to class, each from 1 to 1,440".
pub minutes_rise_exactly : (m : List ℕ) → (is_rising m ≡ true) ↔ SixteenRising m
minutes_rise_exactly = rising_means

-- Which words they are: those of the jobs table from word 5 on, as many as there are classes; and tables with sixteen
-- others in their place.
pub the_minutes_are_read_by_their_words : (jobs : List ℕ)
    → (length (stored_minutes jobs) ≡ 16) × ((c : ℕ) → c < 16 → get_or (stored_minutes jobs) c 0 ≡ get_or jobs (5 + c) 0)
the_minutes_are_read_by_their_words = minutes_by_words

pub what_is_loaded_is_stored : (t : Tables) (m : List ℕ) → length m ≡ 16 → 21 ≤ length t.jobs
    → Stored t m (loaded t m)
what_is_loaded_is_stored = loaded_stores

-- No post, step or get reads the minutes that are stored or changes them: with any sixteen in their place it answers
-- the same, and leaves the same but for them. Nor do held and drained read them.
pub minutes_are_left_alone_elsewhere : (t u : Tables) (m : List ℕ) → Stored t m u → 21 ≤ length t.jobs
    → length m ≡ 16 → (i : Item) → is_load i ≡ false
    → ((perform u i).answer ≡ (perform t i).answer) × Stored (perform t i).state m (perform u i).state
minutes_are_left_alone_elsewhere = minutes_apart

pub minutes_change_by_loads_alone : (t : Tables) (i : Item) → is_load i ≡ false
    → stored_minutes (perform t i).state.jobs ≡ stored_minutes t.jobs
minutes_change_by_loads_alone = minutes_stay

pub held_and_drained_read_no_minutes : (s : Sizes) (t : Tables) (m : List ℕ) → length m ≡ classes
    → ((w : ℕ) → held_words s (loaded t m) w ≡ held_words s t w) × (drained_words s (loaded t m) ≡ drained_words s t)
held_and_drained_read_no_minutes s t m e = (held_apart s t m e, drained_apart s t m e)

-- The board over the graph, on ALL tables: 1, then 9 for a counter over R, for stored minutes that do not rise or leave
-- their limits, and for a wrong label or class wherever it stands; else it is served, by the stored minutes. Who asks
-- for the minutes alone is refused by 1, then by 9, and else told the words.
pub the_board_is_answered_exactly : (s : Sizes) (jobs : List ℕ) → BoardsExactly graph_totals s jobs
the_board_is_answered_exactly = boards_exactly

pub the_minutes_are_told_exactly : (s : Sizes) (jobs : List ℕ) → MinutesExactly graph_minutes s jobs
the_minutes_are_told_exactly = minutes_exactly

-- The board on a lent row by lent minutes: 1 for more than 4,096 records, then 17 for the minutes, then 9 for a wrong
-- label or class wherever it stands; else the counts and the sums by these minutes. By the fixed minutes it is the
-- board that takes none.
pub a_row_is_answered_exactly : (table : List ℕ) (rows : List JobRecord) → RowsExactly totals_by table rows
a_row_is_answered_exactly = rows_exactly

pub a_row_by_the_fixed_minutes : (rows : List JobRecord) → totals_of fixed_minutes rows ≡ totals_by fixed_minutes rows
a_row_by_the_fixed_minutes = fixed_rows

-- A row as words is the label and the class of each record, one after another; an odd number of words is 1.
pub words_are_a_row : (table : List ℕ) (rows : List JobRecord)
    → totals_of_words table (record_words rows) ≡ totals_of table rows
words_are_a_row = words_exactly

pub odd_words_are_1 : (table words : List ℕ) → length words % 2 ≡ 1 → totals_of_words table words ≡ refused 1
odd_words_are_1 = odd_words

-- Of a job and of the header the board reads these words.
pub a_job_is_read_by_its_words : (jobs : List ℕ) (j k : ℕ) → k < 10
    → (columns job_shape jobs k j ≡ get_or jobs (21 + 10 * j + k) 0) × (header jobs k ≡ get_or jobs k 0)
a_job_is_read_by_its_words = job_by_words

-- What these three tests mean, both ways: "the sizes: their limits, the tables' lengths, the four sizes in the jobs
-- header"; "the worker's words 0, 1 and 3 to 10, its places against `made`, `reserved`, R and A"; "`made`, at most R,
-- and `reserved`, at most A".
pub the_sizes_are_judged_exactly : (s : Sizes) (t : Tables) → (words.sizes_fit s t ≡ true) ↔ Sized s t
the_sizes_are_judged_exactly = sized_means

pub own_words_are_judged_exactly : (s : Sizes) (v : View) (w : ℕ) → (by_words.own_ok s v w ≡ true) ↔ Own s v w
own_words_are_judged_exactly = own_means

pub the_counters_are_judged_exactly : (s : Sizes) (v : View) → (by_words.counters_ok s v ≡ true) ↔ Counters s v
the_counters_are_judged_exactly = counters_mean

-- ---- the index beside the queue, on ALL tables
module _ (s : Sizes) (t : Tables) (w : ℕ) where
  -- "a get compares at most 64 pairs of jobs": a definition lists them, and they are 24 at most;
  pub a_get_compares_at_most_24_pairs : length (compared_by_get s t w) ≤ 24
  a_get_compares_at_most_24_pairs = few_compared s t w

  -- the code counts them: `first_seat_counted` of graph_first, which finds the seat, answers how many pairs of ranks it
  -- compared, and its contract equates that with these; a get that does not come to the index compares none;
  pub the_pairs_are_those_that_the_code_counts :
      (reach s t w ≡ index → length (compared_by_get s t w) ≡ length (compared_cells (view t)))
      × (reach s t w ≢ index → compared_by_get s t w ≡ [])
  the_pairs_are_those_that_the_code_counts = (counted_at_index s t w, none_before_index s t w)

  -- and no other pair decides. What varies is the jobs table, in its class words alone: with other classes that order
  -- these pairs alike, within their limit in the slots that it looks at, the get answers the same, and leaves the same
  -- but for the classes.
  pub no_other_pair_decides : (m : List ℕ) → ButClasses t.jobs m
      → Classed (view t) (looked_by_get (view t)) → Classed (view (with_jobs t m)) (looked_by_get (view t))
      → Alike (rank_of (view t)) (rank_of (view (with_jobs t m))) (cells_by_get s t w)
      → SameGet s t m w
  no_other_pair_decides m = get_by_classes s t m w

  -- How far a get comes decides what it does. "Order: 1, 2, 9 for the worker's own words", 3, 10, and 9 for the
  -- counters: the first of them that is met refuses it; over an empty queue it says "none ready"; nothing is changed.
  pub a_get_plans_by_how_far_it_comes :
      ((n : ℕ) → GetRefused s t w n → get_words s t w ≡ result_of (Refused n 0) t)
      × (MayGet s t w → (view t).taken ≡ (view t).put → get_words s t w ≡ result_of NoneReady t)
  a_get_plans_by_how_far_it_comes =
      (λ n r. early_refuses s t w n (comes_early s t w n r), λ may e. empty_none_ready s t w (at_empty s t w may e))

  -- Of a get that comes to the index: "where a call finds that" it does not hold exactly the waiting jobs, "that is
  -- number 9": one of the slots that it looks at does not wait, or the first job is not unexecuted;
  module _ (may : MayGet s t w) (some : (view t).taken ≢ (view t).put) where
    abbrev comes : reach s t w ≡ index
    comes = at_index_lem s t w may some

    pub a_wrong_index_that_is_seen_is_9 : takes_first (view t) ≡ false → get_words s t w ≡ result_of (Refused damaged 0) t
    a_wrong_index_that_is_seen_is_9 = looked.refused_at_index s t w comes

    -- "and where no word read shows it, get takes the index's first", whatever the order of its slots: it "labels it
    -- executing and records it as held", sets its cell and its position to none, and one more was taken; every other
    -- cell is as before. It writes "the slots on the way with the positions of their cells, the last slot", and no
    -- others: "the cell in the last filled slot" goes down "while the lower rank of the cells below is below its own;
    -- that cell moves up", and no further. The slots on the way are at most as many as the logarithm of the waiting
    -- jobs, rounded up, and one.
    pub a_get_takes_the_indexs_first : takes_first (view t) ≡ true → GetsFirst t w (get_words s t w)
    a_get_takes_the_indexs_first = first_got s t w comes

  -- No get hands out another job, and none says "none ready" over a filled queue.
  pub only_the_indexs_first_is_handed_out : (h : HandOut) → (get_words s t w).answer ≡ Handed h → FirstTaken (view t) h
  only_the_indexs_first_is_handed_out = first_taken s t w

  pub none_ready_is_an_empty_queue : (get_words s t w).answer ≡ NoneReady → (view t).taken ≡ (view t).put
  none_ready_is_an_empty_queue = none_ready_empty s t w

  -- No step leaves a job out of the queue. A settling step that nothing turns away before its own words: "the remaining
  -- count falls by the tally, and the job enters the queue if the count is then 0 and either the tally is above 0 or d
  -- is 0". It enters in the next cell, and that cell is in the slot of its seat, which is its
  -- position; one more was put, and every other cell is as before. It writes "the slots on the way with the positions
  -- of their cells", and no others: it "goes up while its rank is below that of the cell in the slot above, which
  -- moves down", and no further, and the slots written are few.
  abbrev pub job : ℕ
  job = (view t).worker OWN_JOB w

  abbrev pub tally : ℕ
  tally = (view t).worker TALLY w

  abbrev pub d : ℕ
  d = (view t).worker LIST_COUNT w

  pub a_settled_job_is_queued : ComesToSettle s t w → SettlesRightly s t w job tally d (step_words s t w)
  a_settled_job_is_queued = settles_rightly s t w

  -- "Number 9 is met if" there is no job, its count is off its range or would fall below 0, or a job that is to be
  -- queued has no seat;
  pub a_settling_step_that_meets_damage_is_9 : ComesToSettle s t w → Unsettled s (view t) job tally d
      → step_words s t w ≡ result_of (Refused damaged 0) t
  a_settling_step_that_meets_damage_is_9 = settling_is_9 s t w

  -- and none is refused that has a seat.
  pub a_settling_job_with_a_seat_is_queued : ComesToSettle s t w → (c : ℕ) (e : Seat) → Settles (view t) job tally c
      → settles c tally d ≡ true → seat_for s (view t) job ≡ Seated e
      → step_words s t w ≡ result_of Ended (counted t w job c (put_seat t.queue e job) (put_back t w))
  a_settling_job_with_a_seat_is_queued = settles_seated s t w

  -- The same of an arc's step: it "lowers that dependent's count by 1; a count that reaches 0 puts that job in the
  -- queue"; it writes "the worker's arc", which is the arc's next one, "or its call where no arc is left".
  abbrev pub arc : ℕ
  arc = (view t).worker OWN_ARC w

  abbrev pub dependent : ℕ
  dependent = (view t).arc DEPENDENT arc

  pub a_notified_job_is_queued : Comes s t w NOTIFYING → NotifiesRightly s t w arc (step_words s t w)
  a_notified_job_is_queued = notifies_rightly s t w

  pub an_arcs_step_that_meets_damage_is_9 : Comes s t w NOTIFYING → Unlowered s (view t) arc
      → step_words s t w ≡ result_of (Refused damaged 0) t
  an_arcs_step_that_meets_damage_is_9 = notifying_is_9 s t w

  pub a_notified_job_with_a_seat_is_queued : Comes s t w NOTIFYING → (e : Seat) → Lowers s (view t) arc 0
      → seat_for s (view t) dependent ≡ Seated e
      → (a : Answer) (r : List ℕ) → Onward t w ((view t).arc AFTER arc) a r
      → step_words s t w ≡ result_of a (counted t w dependent 0 (put_seat t.queue e dependent) r)
  a_notified_job_with_a_seat_is_queued = notifies_seated s t w

module _ (v : View) where
  -- A lower rank means a higher class, or an equal class and an earlier cell, for classes and cells within their
  -- limits. (Minutes rise with the class: def_minutes, specs/Rising.antt.)
  pub a_lower_rank_goes_first : (p q : ℕ) → class_at v p ≤ 15 → class_at v q ≤ 15 → p < 4096 → q < 4096
      → (rank_of v p < rank_of v q) ↔ GoesFirst v p q
  a_lower_rank_goes_first = rank_means v

  -- "A slot waits if its cell was put, that cell's position is the slot, and it has a job that was made, of a
  -- class within its limit. So no cell is in two slots that wait."
  pub a_slot_waits_exactly : (i : ℕ) → (waits v i ≡ true) ↔ Waits v i
  a_slot_waits_exactly = waits_means v

  pub no_cell_is_in_two_slots_that_wait : (i k : ℕ) → waits v i ≡ true → waits v k ≡ true → cell_in v i ≡ cell_in v k
      → i ≡ k
  no_cell_is_in_two_slots_that_wait = one_slot v

  -- A job that enters has a seat exactly if `taken` is at most `put`, there is room, its class is within the limit, and
  -- each slot that it looks at waits;
  pub a_job_is_seated_exactly : (s : Sizes) (j : ℕ)
      → is_seated (seat_for s v j) ≡ (may_enter s v j && each_waits v (looked_by_entering v j))
  a_job_is_seated_exactly s = looked.entering_exact s v

  -- then its seat is the next cell of the queue, and the slot past the filled ones is where it starts.
  pub a_seat_is_the_next_cell : (s : Sizes) (j : ℕ) (e : Seat) → seat_for s v j ≡ Seated e → Next s v e
  a_seat_is_the_next_cell s = seat_next s v

  -- No other word tells the seat than `made`, `taken`, `put`, the job's class, and the four words by which "a slot" is
  -- judged, of each slot that it looks at.
  pub no_other_word_tells_the_seat : (u : View) → SameCounters u v → (s : Sizes) (j : ℕ)
      → u.job CLASS j ≡ v.job CLASS j → SameSlots u v (looked_by_entering v j)
      → seat_for s u j ≡ seat_for s v j
  no_other_word_tells_the_seat u = seat_same u v

  -- Nor does another word tell of a get whether it takes the first, and how the cells move then, than these counters,
  -- the four words of each slot that it looks at, and the label and the spoiled word of the first job.
  pub no_other_word_tells_what_is_taken : (u : View) → SameCounters u v → SameSlots u v (looked_by_get v)
      → u.job LABEL (next_job v) ≡ v.job LABEL (next_job v) → u.job SPOILED (next_job v) ≡ v.job SPOILED (next_job v)
      → (first_seat u ≡ first_seat v) × (takes_first u ≡ takes_first v)
  no_other_word_tells_what_is_taken u C A e m = (first_seat_same u v C A, takes_same u v C A e m)

  -- None is without a seat in an index whose filled slots all wait, whatever their order.
  pub slots_that_wait_are_trusted_by_entering : (s : Sizes) (j : ℕ) → may_enter s v j ≡ true
      → ((k : ℕ) → k < filled v → waits v k ≡ true) → is_seated (seat_for s v j) ≡ true
  slots_that_wait_are_trusted_by_entering s = looked.trusted_entering s v

  -- The slots looked at, so the cost, grow with the logarithm of the waiting jobs, of a job that enters and of a get.
  pub entering_looks_at_few_slots : (j k : ℕ) → filled v + 1 < 2 ^ suc k → length (looked_by_entering v j) ≤ k
  entering_looks_at_few_slots = looked.log_by_entering v

  pub a_get_looks_at_few_slots : (k : ℕ) → filled v ≤ 2 ^ suc k → length (looked_by_get v) ≤ 2 + 2 * k
  a_get_looks_at_few_slots = looked.log_by_get v

module _ (s : Sizes) (t : Tables) where
  -- What a worker is told, exactly, by the words of the tables: which number refuses it, and else each field.
  pub a_worker_is_told_exactly : (w : ℕ) → HeldExactly held_words s t w
  a_worker_is_told_exactly = held_exactly s t

  -- So is a host that wants to stop: 1, then 9 for any worker's own words, the counters or those of the queue; else 1
  -- exactly if the queue is empty and every worker is idle and holds nothing.
  pub drained_is_told_exactly : DrainedExactly drained_words s t
  drained_is_told_exactly = drained_exactly_told s t

  -- What is told agrees with what the calls answer: where the number is 0, a call of 0 is one whose step is refused by
  -- 4, and another one where a get is refused by 3;
  pub no_call_is_told_where_a_step_is_refused_by_4 : (w : ℕ) → (held_words s t w).number ≡ 0
      → ((held_words s t w).call ≡ 0) ↔ ((step_words s t w).answer ≡ Refused worker_idle 0)
  no_call_is_told_where_a_step_is_refused_by_4 = state_agrees.step_by_4 s t

  pub a_call_is_told_where_a_get_is_refused_by_3 : (w : ℕ) → (held_words s t w).number ≡ 0
      → ((held_words s t w).call ≢ 0) ↔ ((get_words s t w).answer ≡ Refused half_done 0)
  a_call_is_told_where_a_get_is_refused_by_3 = state_agrees.get_by_3 s t

  -- a worker told idle with a job of a name is one whose finish of that name is taken, as failed if it is told spoiled;
  pub the_name_told_is_the_one_that_finishes : (w : ℕ) (f : Finish)
      → (((held_words s t w).number ≡ 0) × ((held_words s t w).call ≡ 0)
      × ((held_words s t w).holds ≡ 1)
      × ((held_words s t w).name ≡ f.name)
      × ((held_words s t w).spoiled ≡ 1 → f.failed ≡ true))
      ↔ ((finish_words s t w f).answer ≡ Posted)
  the_name_told_is_the_one_that_finishes = state_agrees.finish_taken_lem s t

  -- and the graph is told drained exactly if a get of every worker says "none ready".
  pub drained_is_none_ready_for_all : 1 ≤ s.workers
      → ((drained_words s t).drained ≡ 1) ↔ ((w : ℕ) → w < s.workers → (get_words s t w).answer ≡ NoneReady)
  drained_is_none_ready_for_all = state_agrees.drained_by_gets s t

  -- Neither looks at a word past the need.
  pub held_and_drained_read_within_the_need : (u : Tables) (w : ℕ) → needed s t ≡ needed s u
      → (held_words s t w ≡ held_words s u w) × (drained_words s t ≡ drained_words s u)
  held_and_drained_read_within_the_need u = state_need.not_read s t u

-- No other function tells a worker exactly so, and none a host.
pub told_exactly_by_one_function_alone : (held : Ask)
    → ((s : Sizes) (t : Tables) (w : ℕ) → HeldExactly held s t w) → (s : Sizes) (t : Tables) (w : ℕ)
    → held s t w ≡ held_words s t w
told_exactly_by_one_function_alone = only_held_words

pub drained_exactly_by_one_function_alone : (ask : AskDrained)
    → ((s : Sizes) (t : Tables) → DrainedExactly ask s t) → (s : Sizes) (t : Tables) → ask s t ≡ drained_words s t
drained_exactly_by_one_function_alone = only_drained_words

-- One laying-out alone leaves a fresh graph (`a_fresh_graph_is_these_words` of Promises.antt).
pub laid_so_by_one_laying_out_alone : (lay : Sizes → Tables → Result Tables)
    → ((s : Sizes) (t : Tables) → LaysFresh lay s t) → (s : Sizes) (t : Tables) → lay s t ≡ lay_out s t
laid_so_by_one_laying_out_alone = lays_alone

-- Every number, limit and offset of a word, by numeral.
pub the_numbers_are_these : Pinned
the_numbers_are_these = pinned

-- ---- the starred cases of docs/RULES.md, "Checked by hand": after each item the answer, the waiting jobs and the
-- worker's tally, by the rules and by the words; wrong ones in thm_pinned, specs/Wrong/Cases.antt.
pub the_starred_cases_hold : Starred
the_starred_cases_hold = every_row

-- ---- what C is told is told one way; whatever reads and writes sheets exactly answers only what a host hears; the
-- contracts of the graph's calls say the answer and all five tables, each behind its reference; a host that lends its
-- own row has the graph's totals by the graph's minutes; the board reads nothing past the need of the jobs table.
pub what_c_is_told_is_told_one_way : ToldOneWay
what_c_is_told_is_told_one_way = told_one_way

pub what_is_exact_can_be_heard : ExactIsHeard
what_is_exact_can_be_heard = exact_is_heard

pub the_contracts_say_all : Contracts
the_contracts_say_all = contracts

pub a_lent_row_has_the_graphs_totals : (s : Sizes) (jobs : List ℕ) → LendsAlike totals_by s jobs
a_lent_row_has_the_graphs_totals = lends_alike

pub the_board_reads_within_the_need : WithinNeed graph_totals × WithinNeed graph_minutes
the_board_reads_within_the_need = (totals_within_need, minutes_within_need)

-- ---- the day list, of any entries, with 1 to 16 workers: no call that it runs whole is cut short by its budget of
-- steps, and more rounds than it has would change nothing;
module _ (workers : ℕ) (some : 1 ≤ workers) (few : workers ≤ most_workers) (js : List Job) where
  abbrev pub s : Sizes
  s = day_sizes workers

  pub limits : within_limits (day_sizes workers) ≡ true
  limits = ends_of_day.day_limits workers some few

  pub no_add_is_cut_short : (j : Job) → AddAnswer (whole_add s (after_adds s limits js) 0 (arguments_of j)).answer
  no_add_is_cut_short = ends_of_day.no_add_is_cut_short s limits js

  pub no_finish_is_cut_short : {t : Tables} → Begins s limits js t
      → (hs : List Holder) (x : Holder) (rest : List Holder) → (get_round s t).holders ≡ hs ++ (x ∷ rest)
      → (whole_finish s (finish_all s hs (get_round s t).state) x.worker (finish_of x.name false)).answer ≡ Ended
  no_finish_is_cut_short = ends_of_day.no_finish_is_cut_short s limits js

  -- each finish brings good, and no job is spoiled;
  pub no_job_of_the_day_fails : (j : ℕ) → j < (view (after_rounds s limits js)).made
      → ((view (after_rounds s limits js)).job OUTCOME j ≡ 0) × ((view (after_rounds s limits js)).job SPOILED j ≡ 0)
  no_job_of_the_day_fails = ends_of_day.none_failed_or_is_spoiled s limits js

  pub the_rounds_suffice : (k : ℕ)
      → rounds (k + (s.jobs + 1)) s (after_adds s limits js) ≡ run_day s (after_adds s limits js)
  the_rounds_suffice = ends_of_day.the_rounds_suffice s limits js

  -- no more is handed out than there is room for jobs;
  pub the_hand_outs_are_within : length (hand_outs (run_day s (after_adds s limits js)).rounds) ≤ s.jobs
  the_hand_outs_are_within = ends_of_day.hand_outs_within s limits js

  -- at the end nothing waits, the jobs are as many as after the adds, and every one is finished;
  pub nothing_waits_at_the_end : waiting (after_rounds s limits js) ≡ []
  nothing_waits_at_the_end = ends_of_day.nothing_waits s limits js

  pub no_job_is_lost : (view (after_rounds s limits js)).made ≡ (view (after_adds s limits js)).made
  no_job_is_lost = ends_of_day.no_job_is_lost s limits js

  pub none_is_unfinished_at_the_end :
      unfinished ((view (after_rounds s limits js)).job LABEL) (view (after_rounds s limits js)).made ≡ 0
  none_is_unfinished_at_the_end = ends_of_day.none_is_unfinished s limits js

  -- so the last line is left 0
  pub the_day_list_leaves_nothing : day_lines s js ≡ lines_before s js ++ (line (left_word ␣ decimal 0) ∷ [])
  the_day_list_leaves_nothing = ends_of_day.nothing_is_left s limits js

-- With two workers no sheet prints more than 97,979 bytes, so an output of so many is never refused.
pub the_day_list_fits : (sheet : List ℕ) → Bytes sheet → length (day_text 2 sheet) ≤ most_day_list
the_day_list_fits = ends_of_day.the_day_list_fits

pub no_day_list_is_refused : (sheet out : List ℕ) → Bytes sheet → most_day_list ≤ length out
    → day_list 2 sheet out ≡ printing (Printed (length (day_text 2 sheet))) (sets out 0 (day_text 2 sheet))
no_day_list_is_refused = ends_of_day.nothing_is_refused

-- What it prints, to the byte: the sheet of docs/RULES.md, refused and broken ones, the order of gets and finishes;
-- more than 32,768 bytes; of every sheet, of any day list; numbers in decimal. The answer, exactly: 1, 15 with the
-- output unchanged, else the text in front.
pub the_day_list_prints_these_rows : DayRows day_text
the_day_list_prints_these_rows = day_rows

pub the_day_list_is_printed_exactly : (workers : ℕ) → 1 ≤ workers → workers ≤ 16 → (sheet : List ℕ) → Bytes sheet
    → PrintsExactly day_text workers sheet
the_day_list_is_printed_exactly = prints_exactly

pub the_day_list_is_printed_so_by_one_function_alone : (workers : ℕ) → 1 ≤ workers → workers ≤ 16 → (sheet : List ℕ)
    → Bytes sheet → (day : ℕ → List ℕ → List ℕ) → PrintsExactly day workers sheet
    → day workers sheet ≡ day_text workers sheet
the_day_list_is_printed_so_by_one_function_alone = prints_alone

pub a_number_is_printed_in_decimal : (n : ℕ) → n < 10 ^ 20 → Decimal n (decimal n)
a_number_is_printed_in_decimal = decimal_means

pub the_day_list_answers_exactly : (workers : ℕ) (sheet out : List ℕ) → DayAnswers day_text day_list workers sheet out
the_day_list_answers_exactly = day_answers

pub the_day_list_is_answered_so_by_one_function_alone : (list : day.Lists)
    → ((w : ℕ) (sheet out : List ℕ) → DayAnswers day_text list w sheet out)
    → (w : ℕ) (sheet out : List ℕ) → list w sheet out ≡ day_list w sheet out
the_day_list_is_answered_so_by_one_function_alone = answers_alone
