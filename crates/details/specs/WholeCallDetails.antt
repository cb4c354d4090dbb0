-- WHAT ELSE IS SHOWN of adds and finishes run whole and of sheets of adds, for those who want it, on ALL tables; nobody
-- need read this file to believe the promises (Promises.antt, beside it). Each has a one-line proof that names where it
-- was shown. Follows docs/RULES.md, "Whole calls".
use Rattle.std.specs.Prelude.{◌≡◌, ◌↔◌, ◌≢◌, ◌⊎◌, true, false, List, [], map, ℕ, ◌+◌, ◌*◌, ◌≤◌, ◌<◌, length, get_or, take}
use Rattle.def_numbers.specs.Numbers.{most_entries, damaged, too_many_entries, entry_words}
use Rattle.def_basics.specs.Base.{contains}
use Rattle.def_terms.specs.Terms.{Arguments, Finish, no_arguments}
use Rattle.def_terms.specs.declared.Sizes.{Sizes}
use Rattle.def_terms.specs.declared.Answer.TheVariants.{Laid, Going, Ended, Refused}
use Rattle.def_words.specs.Layout.{Tables, none}
use Rattle.def_words.specs.Words.{add_words, perform}
use Rattle.def_sheets.specs.Job.{Job}
use Rattle.def_sheets.proofs.NumberLaws.{Bytes}
use Rattle.def_sheets.specs.Decode.{decode_sheet, jobs, read_sheet}
use Rattle.def_room.specs.Room.{arguments_of}
use Rattle.def_whole_calls.specs.Whole.{whole_add, whole_finish}
use Rattle.def_whole_calls.specs.Sheet.{sheet_result, sheet_words}
use Rattle.def_sheet_rows.specs.SheetRows.{adds_of, rows_words}
use Rattle.def_stops.specs.StoppedSheet.{rows_added}
use Rattle.taskgraph_answer.specs.WholeAnswers.{whole_of, told_whole}
use Rattle.thm_calls_audit.specs.FewSteps.{FewSteps, few_steps}
use Rattle.thm_calls_history.specs.WordsCalls.{answer_words}
use Rattle.thm_whole_answers.specs.Stopped.{Learns}
use Rattle.thm_whole_answers.proofs.Stopped as stops
use Rattle.thm_answers_heard.specs.StoppedSheet.{before, add_at, StopsAt}
use Rattle.thm_answers_heard.specs.StoppedSheet as sheet_stops
use Rattle.def_fused.specs.FusedWorker.{Admitted, is_idle, hold_of, idled_with}
use Rattle.thm_whole_answers.specs.Worker.{Back}
use Rattle.thm_whole_answers.specs.Numbers.{AddAnswer, FinishAnswer}
use Rattle.thm_whole_answers.proofs.Numbers as numbers
use Rattle.thm_whole_answers.specs.Left.{add_keeps, add_idles, finish_keeps}
use Rattle.thm_whole_answers.proofs.Left as left
use Rattle.thm_whole_answers.specs.SheetAdds.{after_adds}
use Rattle.thm_whole_answers.specs.Sheets.{Stuck}
use Rattle.thm_whole_answers.proofs.Sheets as sheets
use Rattle.thm_answers_heard.specs.SheetTurned as turned
use Rattle.thm_answers_heard.specs.InC.{EntryTold}
use Rattle.thm_answers_heard.specs.InC as rows
use Rattle.thm_answers_heard.specs.ReadRows as read
use Rattle.thm_answers_heard.specs.MinutesApart.{CallApart, SheetApart, add_apart, finish_apart, sheet_apart}
use Rattle.thm_answers_heard.specs.Within.{CallWithin}
use Rattle.thm_answers_heard.specs.Within as within
use Rattle.thm_answers_heard.specs.SheetWithin.{SheetWithin}
use Rattle.thm_answers_heard.specs.SheetWithin as sheet_within

-- No whole call reads or changes the minutes that are stored: with any sixteen in their place it answers the same, and
-- leaves the same but for them.
pub whole_calls_leave_the_minutes_alone : (s : Sizes) (w : ℕ)
    → ((a : Arguments) → CallApart (λ t. whole_add s t w a)) × ((f : Finish) → CallApart (λ t. whole_finish s t w f))
    × ((l : List Arguments) → SheetApart (λ t. sheet_words s t w l))
whole_calls_leave_the_minutes_alone s w = (add_apart s w, finish_apart s w, sheet_apart s w)

-- "An add makes at most 2d + 2 steps and a finish at most A + 1".
pub a_whole_call_makes_few_steps : (t : Tables) → FewSteps perform answer_words t
a_whole_call_makes_few_steps = few_steps

-- A refusal by 9 of an add or a finish run whole changed nothing, and "stopped" left the worker, idle before, half
-- done. (That it is told exactly so: `a_stopped_call_is_told_so` of the core.)
pub a_host_learns_whether_an_add_changed : (s : Sizes) (t : Tables) (w : ℕ) (a : Arguments)
    → Learns (told_whole (whole_of t w (whole_add s t w a))) t w (whole_add s t w a).state
a_host_learns_whether_an_add_changed = stops.add_learns

pub a_host_learns_whether_a_finish_changed : (s : Sizes) (t : Tables) (w : ℕ) (f : Finish)
    → Learns (told_whole (whole_of t w (whole_finish s t w f))) t w (whole_finish s t w f).state
a_host_learns_whether_a_finish_changed = stops.finish_learns

-- an add run whole ends, or is refused by a number of the list, of which 6 alone has a place, one of its list;
module _ (s : Sizes) (t : Tables) (w : ℕ) (a : Arguments) where
  pub a_whole_add_is_answered : AddAnswer a (whole_add s t w a).answer
  a_whole_add_is_answered = numbers.add_answer s t w a

  -- 1, 2, 3 and 5 change nothing; 6, 7 and 8 leave the worker idle and change nothing else;
  pub a_whole_add_turned_away_changes_nothing : (n i : ℕ) → contains n add_keeps ≡ true
      → (whole_add s t w a).answer ≡ Refused n i → (whole_add s t w a).state ≡ t
  a_whole_add_turned_away_changes_nothing = left.add_turned_away s t w a

  pub a_whole_add_that_quits_idles : (n i : ℕ) → contains n add_idles ≡ true → (whole_add s t w a).answer ≡ Refused n i
      → ((whole_add s t w a).state ≡ idled_with t w (hold_of t w)) × Back t w (hold_of t w) (whole_add s t w a).state
  a_whole_add_that_quits_idles = left.add_quit s t w a

  -- 9 changes nothing, or comes in the middle and leaves the call half done;
  pub a_whole_add_damaged_is_half_done : (i : ℕ) → (whole_add s t w a).answer ≡ Refused damaged i
      → ((whole_add s t w a).state ≡ t) ⊎ (is_idle (whole_add s t w a).state w ≡ false)
  a_whole_add_damaged_is_half_done = left.add_damaged s t w a

  -- an add that ended puts its worker's words back.
  pub a_whole_add_that_ends_is_put_back : (whole_add s t w a).answer ≡ Ended
      → Back t w (hold_of t w) (whole_add s t w a).state
  a_whole_add_that_ends_is_put_back = left.add_ended_lem s t w a

-- The same of a finish run whole, which may go on where its budget is used up, half done.
module _ (s : Sizes) (t : Tables) (w : ℕ) (f : Finish) where
  pub a_whole_finish_is_answered : FinishAnswer (whole_finish s t w f).answer
  a_whole_finish_is_answered = numbers.finish_answer_lem s t w f

  pub a_whole_finish_turned_away_changes_nothing : (n i : ℕ) → contains n finish_keeps ≡ true
      → (whole_finish s t w f).answer ≡ Refused n i → (whole_finish s t w f).state ≡ t
  a_whole_finish_turned_away_changes_nothing = left.finish_turned_away s t w f

  pub a_whole_finish_damaged_is_half_done : (i : ℕ) → (whole_finish s t w f).answer ≡ Refused damaged i
      → ((whole_finish s t w f).state ≡ t) ⊎ (is_idle (whole_finish s t w f).state w ≡ false)
  a_whole_finish_damaged_is_half_done = left.finish_damaged s t w f

  pub a_whole_finish_that_goes_on_is_half_done : (whole_finish s t w f).answer ≡ Going
      → is_idle (whole_finish s t w f).state w ≡ false
  a_whole_finish_that_goes_on_is_half_done = left.finish_going s t w f

  pub a_whole_finish_that_ends_is_put_back : (whole_finish s t w f).answer ≡ Ended
      → Back t w none (whole_finish s t w f).state
  a_whole_finish_that_ends_is_put_back = left.finish_ended_lem s t w f

-- A sheet is served exactly if its worker passes the tests that come first and is idle, and it has at most 64 entries;
module _ (s : Sizes) (t : Tables) (w : ℕ) (l : List Arguments) where
  pub a_sheet_is_served_exactly : ((sheet_words s t w l).number ≡ 0)
      ↔ (Admitted s t w × (is_idle t w ≡ true) × (length l ≤ most_entries))
  a_sheet_is_served_exactly = sheets.sheet_accepted s t w l

  -- turned away, it answers no entry and changes nothing;
  pub a_sheet_turned_away_changes_nothing : (sheet_words s t w l).number ≢ 0
      → sheet_words s t w l ≡ sheet_result (sheet_words s t w l).number [] t
  a_sheet_turned_away_changes_nothing = sheets.sheet_turned_away s t w l

  -- by any number but 16 it is turned away as any post of an add by this worker is: "1, 2, 9 for the worker's own
  -- words, 3", and by 16 only where these are passed;
  pub a_sheet_is_turned_away_as_a_post_is : (sheet_words s t w l).number ≢ 0
      → (sheet_words s t w l).number ≢ too_many_entries → (a : Arguments)
      → (add_words s t w a).answer ≡ Refused (sheet_words s t w l).number 0
  a_sheet_is_turned_away_as_a_post_is = turned.sheet_as_post s t w l

  pub sixteen_comes_last : (sheet_words s t w l).number ≡ too_many_entries
      → Admitted s t w × (is_idle t w ≡ true) × (most_entries < length l)
  sixteen_comes_last = turned.sheet_by_16 s t w l

  -- served, it has an answer for each entry, that of its add on the tables as the adds before left them,
  pub a_sheet_answers_each_entry : (sheet_words s t w l).number ≡ 0 → (i : ℕ) → i < length l
      → get_or (sheet_words s t w l).answers i Laid
      ≡ (whole_add s (after_adds s w (take i l) t) w (get_or l i no_arguments)).answer
  a_sheet_answers_each_entry = sheets.sheet_answer s t w l

  pub a_sheet_has_as_many_answers : (sheet_words s t w l).number ≡ 0
      → length (sheet_words s t w l).answers ≡ length l
  a_sheet_has_as_many_answers = sheets.sheet_count s t w l

  pub a_sheet_leaves_what_its_adds_leave : (sheet_words s t w l).number ≡ 0
      → (sheet_words s t w l).state ≡ after_adds s w l t
  a_sheet_leaves_what_its_adds_leave = sheets.sheet_state s t w l

  -- and where damage stopped an add half done, each later entry gets 3, and changes nothing.
  pub after_damage_each_entry_gets_3 : (i : ℕ) → (sheet_words s t w l).number ≡ 0 → i ≤ length l
      → is_idle (after_adds s w (take i l) t) w ≡ false
      → Stuck i l (after_adds s w (take i l) t) (sheet_words s t w l)
  after_damage_each_entry_gets_3 = sheets.sheet_stuck s t w l

-- As a host has it. (That rows are the call of their sheet, and words that make no whole rows 1: `rows_added_lem` of
-- `what_c_is_told_can_be_heard`, of the core.)
module _ (s : Sizes) (t : Tables) (w : ℕ) (words : List ℕ) where
  -- C is told of each entry the number and the place that its add would answer in C, which is 0 just if it ended; and 0
  -- past the last entry, for all of them where the sheet was turned away.
  pub an_entry_is_told_as_its_add : (rows_words s t w words).number ≡ 0 → (i : ℕ) → i < length (adds_of words)
      → EntryTold (rows_added s t w words) i
      (whole_add s (after_adds s w (take i (adds_of words)) t) w (get_or (adds_of words) i no_arguments)).answer
  an_entry_is_told_as_its_add = rows.rows_as_adds s t w words

  pub an_entry_is_told_0_if_it_ended : (rows_words s t w words).number ≡ 0 → (i : ℕ) → i < length (adds_of words)
      → (get_or (rows_added s t w words).numbers i 0 ≡ 0)
      ↔ ((whole_add s (after_adds s w (take i (adds_of words)) t) w (get_or (adds_of words) i no_arguments)).answer ≡ Ended)
  an_entry_is_told_0_if_it_ended = rows.rows_accepted s t w words

  pub past_the_entries_is_0 : (i : ℕ) → length (rows_words s t w words).answers ≤ i
      → (get_or (rows_added s t w words).numbers i 0 ≡ 0)
      × (get_or (rows_added s t w words).places i 0 ≡ 0)
  past_the_entries_is_0 = rows.rows_past s t w words

  -- An entry with 9 that is not the stopped one changed nothing.
  pub an_entry_refused_by_9_changes_nothing : (rows_words s t w words).number ≡ 0 → (i : ℕ) → i < length (adds_of words)
      → get_or (rows_added s t w words).numbers i 0 ≡ 9 → (rows_added s t w words).stopped ≢ i + 1
      → (add_at s w (adds_of words) t i).state ≡ before s w (adds_of words) t i
  an_entry_refused_by_9_changes_nothing = sheet_stops.entry_kept s t w words

-- A sheet tells which entry damage stopped half done: the one whose add answers 9 and has changed a table.
pub a_sheet_tells_which_entry_was_stopped : StopsAt (λ s t w rows. (rows_added s t w rows).stopped)
a_sheet_tells_which_entry_was_stopped = sheet_stops.entry_stopped

-- The rows of a sheet of bytes that was read are the sheet of its jobs' adds.
pub a_sheet_that_was_read_is_added : (bytes : List ℕ) (js : List Job) (words : List ℕ) → Bytes bytes
    → decode_sheet bytes ≡ jobs js → entry_words * length js ≤ length words
    → (s : Sizes) (t : Tables) (w : ℕ)
    → rows_words s t w (take (entry_words * length js) (read_sheet (decode_sheet bytes) words).rows)
    ≡ sheet_words s t w (map arguments_of js)
a_sheet_that_was_read_is_added = read.read_sheet_lem

-- Nothing past the need is looked at or changed.
pub a_whole_add_keeps_to_the_need : (s : Sizes) (w : ℕ) (a : Arguments) → CallWithin s (λ t. whole_add s t w a)
a_whole_add_keeps_to_the_need = within.add_within

pub a_whole_finish_keeps_to_the_need : (s : Sizes) (w : ℕ) (f : Finish) → CallWithin s (λ t. whole_finish s t w f)
a_whole_finish_keeps_to_the_need = within.finish_within

pub a_sheet_keeps_to_the_need : (s : Sizes) (w : ℕ) (l : List Arguments) → SheetWithin s (λ t. sheet_words s t w l)
a_sheet_keeps_to_the_need = sheet_within.sheet_within
