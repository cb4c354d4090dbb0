-- The day list's definition prints what DayRows.antt says, each row by computation over its own tables of R 256 and
-- A 1,024. (They are taken as laid out by the theorem on laying out, which spares the stores, one after another.)
-- Follows docs/RULES.md, "The board and the day list".
use Rattle.std.specs.Prelude.{◌≡◌, refl, true, List, [], ◌∷◌, ◌++◌, ℕ, ◌≤◌, ◌<◌, leb, length}
use Rattle.std.proofs.Common.{ap, ◌∙◌, append_assoc, le-leb}
use Rattle.std.proofs.lemmas.Bool.{lt-leb}
use Rattle.def_basics.specs.Base.{contains, repeats, occurrences, prefix}
use Rattle.def_bucket.specs.Bucket.{product_of, bucket_of}
use Rattle.def_heap.specs.Sift.{sift_up, sift_down}
use Rattle.def_minutes.specs.Minutes.{fixed_minutes}
use Rattle.def_terms.specs.Terms.{arguments_wrong, within_limits}
use Rattle.def_terms.specs.Runs.{Result}
use Rattle.def_words.specs.Columns.{columns, header, put, put_header}
use Rattle.def_words.specs.Layout.{Tables, long_enough, sizes_kept, repeated, fresh_tables, room_for}
use Rattle.def_words.specs.Words.{perform, own_ok, walk, find_of, plan_look_up, plan_enter, plan_append, plan_tally, plan_link}
use Rattle.def_words.specs.Words.{with_seat, plan_settle, plan_mark, plan_notify, plan_add, plan_links, plan_call, plan_phase}
use Rattle.def_words.specs.Words.{admitted, applied, step_words, plan_take, plan_queue, plan_get, applied_get, get_words}
use Rattle.def_words.specs.Words.{posted}
use Rattle.def_words.specs.Words.{add_words, finish_words, lay_out}
use Rattle.def_words.specs.Index.{waits, seat_for, first_seat_by, shifted_down, shifted_up, put_seat, take_seat}
use Rattle.thm_words_tests.specs.Judged.{room_means}
use Rattle.thm_words_need.specs.Parts.{rest, joined}
use Rattle.thm_words_loads.specs.Laying.{fresh, lays_out}
use Rattle.def_sheets.specs.Number.{number_at}
use Rattle.def_sheets.specs.Job.{Job}
use Rattle.def_sheets.specs.Decode.{map_at, name_at, limited_at, list_at, names_at, decode, decode_from, decode_sheet, Sheet}
use Rattle.def_sheets.specs.Decode.{jobs, broken}
use Rattle.def_whole_calls.specs.Whole.{steps_of, whole_add, whole_finish}
use Rattle.def_day.specs.Rounds.{add_all, get_all, finish_all, rounds, hand_outs, unfinished, day_sizes, blank_tables}
use Rattle.def_day.specs.Rounds.{fresh_day, run_day}
use Rattle.def_day_lines.specs.Text.{digits, decimal}
use Rattle.def_day_lines.specs.Day.{refusal_lines, hand_out_lines, text, day_lines, day_text, jobs_line, left_line, day_sheet}
use Rattle.def_day_lines.specs.Day.{broken_line}
use Rattle.thm_day_cases.specs.Quoted.{bytes_of}
use Rattle.thm_day_cases.specs.DayRows.{DayRows, four_jobs, three_refused, three_jobs, crossed, longer, ends, entry}
use Rattle.thm_day_cases.specs.DayRows.{needing}

-- what a row computes with
unfoldable pub computing : ℕ
unfolding contains repeats occurrences prefix arguments_wrong within_limits fixed_minutes product_of bucket_of columns header
    put put_header long_enough sizes_kept repeated fresh_tables perform own_ok walk find_of plan_look_up plan_enter plan_append
    plan_tally plan_link with_seat plan_settle plan_mark plan_notify plan_add plan_links plan_call plan_phase admitted applied
    step_words plan_take plan_queue plan_get applied_get get_words posted add_words finish_words lay_out sift_up sift_down waits
    seat_for first_seat_by shifted_down shifted_up put_seat take_seat number_at map_at name_at limited_at list_at names_at decode
    decode_from decode_sheet steps_of whole_add whole_finish add_all get_all finish_all rounds hand_outs unfinished digits
    refusal_lines hand_out_lines text bytes_of
computing = 0

-- ---- the tables of a day, laid out
abbrev pub laid : ℕ → Tables
laid workers = joined (fresh (day_sizes workers)) (rest (day_sizes workers) (blank_tables (day_sizes workers)))

abbrev pub Room : ℕ → Type 0
Room workers = room_for (day_sizes workers) (blank_tables (day_sizes workers)) ≡ true

pub laid_fresh : (workers : ℕ) → Room workers → fresh_day (day_sizes workers) ≡ laid workers
laid_fresh workers room =
    let s = day_sizes workers in
    ap (λ (o : Result Tables). o.state)
    ((lays_out s (blank_tables s)).lays ((room_means s (blank_tables s)).0 room))

-- ---- the text of a day that begins with given tables
unfoldable pub text_from : ℕ → List Job → Tables → List ℕ
text_from workers js t =
    let s = day_sizes workers in
    let a = add_all s 0 js t in
    let r = run_day s a.state in
    text (refusal_lines a.refusals ++ (jobs_line a.state workers ∷ hand_out_lines 0 (hand_outs r.rounds))
    ++ (left_line r.state ∷ []))

unfoldable pub sheet_from : ℕ → Sheet → Tables → List ℕ
sheet_from workers (jobs js) t = text_from workers js t
sheet_from workers (broken number offset) t = broken_line offset number

sheet_from_lem : (workers : ℕ) → Room workers → (x : Sheet)
    → day_sheet (day_sizes workers) x ≡ sheet_from workers x (laid workers)
unfolding text_from day_lines sheet_from
sheet_from_lem workers room (jobs js) = ap (text_from workers js) (laid_fresh workers room)
sheet_from_lem workers room (broken number offset) = refl

-- a sheet whose bytes are few
pub few : (workers : ℕ) (sheet : List ℕ) → Room workers → leb (length sheet) 32768 ≡ true
    → day_text workers sheet ≡ sheet_from workers (decode_sheet sheet) (laid workers)
unfolding day_text
few workers sheet room h = rw h (sheet_from_lem workers room (decode_sheet sheet))

-- ---- laws
short : (workers : ℕ) (sheet : List ℕ) → length sheet ≤ 32768
    → day_text workers sheet ≡ day_sheet (day_sizes workers) (decode_sheet sheet)
unfolding day_text
short workers sheet h = rw (le-leb (length sheet) 32768 h)

long : (workers : ℕ) (sheet : List ℕ) → 32768 < length sheet → day_text workers sheet ≡ bytes_of "broken 32768 12\n"
unfolding day_text digits bytes_of
long workers sheet h = rw (lt-leb (length sheet) 32768 h)

fault : (number offset : ℕ)
    → broken_line offset number ≡ bytes_of "broken " ++ (decimal offset ++ (32 ∷ (decimal number ++ (10 ∷ []))))
unfolding bytes_of
fault number offset =
    ap (λ l. 98 ∷ 114 ∷ 111 ∷ 107 ∷ 101 ∷ 110 ∷ 32 ∷ l) (append_assoc (decimal offset) (32 ∷ decimal number) (10 ∷ []))

-- ---- the rows
pub two : Room 2
unfolding within_limits long_enough
two = refl

pub day_rows : DayRows day_text
unfolding computing text_from sheet_from
day_rows = record {
  document = few 2 four_jobs two refl;
  empty = few 2 [] two refl;
  refused = few 2 three_refused two refl;
  middle = few 2 three_jobs two refl;
  one_worker = few 1 three_jobs refl refl;
  three_workers = few 3 three_jobs refl refl;
  holders = few 2 crossed two refl;
  long_first_lem = few 2 longer two refl;
  names = few 2 ends two refl;
  wrong_map_lem = few 2 (entry 1 (2 ∷ [])) two refl;
  unprinted = few 2 (needing 5 9 (2 ∷ [])) two refl;
  off_limits = few 2 (entry 1 (5 ∷ 2 ∷ 0 ∷ 0 ∷ 0 ∷ 0 ∷ [])) two refl;
  cut_short = few 2 (entry 1 (1 ∷ 2 ∷ [])) two refl;
  too_long = long;
  read = λ workers sheet js h e. short workers sheet h ∙ ap (day_sheet (day_sizes workers)) e;
  unreadable = λ workers sheet number offset h e.
      short workers sheet h ∙ ap (day_sheet (day_sizes workers)) e ∙ fault number offset;
}
