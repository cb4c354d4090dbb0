-- WHAT C IS TOLD CAN BE HEARD: of every struct that the C interface hands out, the answer is read off its fields by the
-- numerals of include/taskgraph.h, fields that say nothing are 0, and no other answers are given than those that are
-- read so. What of a sheet is read or written is said exactly, and rows are added as the call of their sheet is, since
-- a wrong answer can be heard as well as a right one. Each `heard` stands in Heard.antt of the crate named beside
-- it, or in the file that is named, with tellings that lose something in its Wrong/. Follows docs/RULES.md,
-- "Steps", "Turned-away calls", "Whole calls", "Tables and their measures", "The board and the day list", and
-- docs/SHEETS.md.
use Rattle.std.specs.Prelude.{◌≡◌, ◌≢◌, true, false, List, [], ◌∷◌, map, length, get_or}
use Rattle.std.proofs.Math.Path.{refl, ap}
use Rattle.std.proofs.Common.{◌∙◌, arith, eq-eqb, ne_eqb}
use Prim.Native.Nat.{ℕ, zero, suc, ◌+◌, ◌*◌, ◌/◌, ◌%◌, ◌≤◌, ◌<◌}
use Rattle.def_basics.specs.Laws.{pick_by}
use Rattle.def_terms.specs.Terms.{Arguments, no_arguments, Finish}
use Rattle.def_terms.specs.Runs.{Item, post_add, post_finish, step, get, load, Result}
use Rattle.def_terms.specs.declared.Answer.{Answer}
use Rattle.def_terms.specs.declared.Answer.TheVariants.{Laid, Refused}
use Rattle.def_terms.specs.declared.Sizes.{Sizes}
use Rattle.def_words.specs.Layout.{Tables, room_for}
use Rattle.def_words.specs.Words.{perform, lay_out}
use Rattle.thm_words_refusals.specs.Numbers.{Fits, fits}
use Rattle.thm_words_refusals.specs.Numbers as list
use Rattle.def_whole_calls.specs.Whole.{whole_add, whole_finish}
use Rattle.def_whole_calls.specs.Sheet.{SheetResult, sheet_result}
use Rattle.def_host_calls.specs.HostCalls.{sheet}
use Rattle.thm_calls_history.specs.WordsCalls.{replied_each, answer_words}
use Rattle.def_sheet_rows.specs.SheetRows.{adds_of, rows_words}
use Rattle.def_sheet_rows.specs.Arguments.{arguments_of}
use Rattle.def_sheet_rows.specs.declared.SheetAdded.{SheetAdded}
use Rattle.thm_answers_heard.specs.Heard as whole
use Rattle.taskgraph_answer.specs.Answers.{graph_answer, finish_taken}
use Rattle.taskgraph_answer.proofs.Heard as answer
use Rattle.taskgraph_answer.specs.WholeAnswers.{told_whole}
use Rattle.taskgraph_answer.proofs.HeardWhole as wholly
use Rattle.def_stops.specs.StoppedSheet.{rows_stopped, rows_added}
use Rattle.thm_answers_heard.specs.InC.{rows_cut, rows_whole}
use Rattle.thm_answers_heard.specs.StoppedSheet.{StopsWithin, stops_within}
use Rattle.thm_answers_heard.specs.SheetHeard.{heard_sheet, sheet_of, sheet_heard_as_told}
use Rattle.taskgraph_answer.specs.declared.GraphAnswer.{GraphAnswer}
use Rattle.def_sheets.specs.Job.{Job}
use Rattle.def_sheets.specs.Decode.{Decoded, decode, Sheet, decode_sheet, entry_of, scan_sheet, SheetRows, read_sheet}
use Rattle.def_sheets.specs.Write.{job_of, entry_at, entries_from, Written, write_entry}
use Rattle.def_sheets.specs.Write as writing
use Rattle.def_sheets.proofs.NumberLaws.{Bytes}
use Rattle.def_sheets.specs.Reading.{ReadsExactly, ScansExactly, RowsReadExactly}
use Rattle.thm_sheets.specs.Writing.{WritesExactly, WritesSheetExactly}
use Rattle.thm_sheets.specs.SheetPromises as sheets
use Rattle.def_sheets.specs.declared.Entry.{Entry}
use Rattle.def_sheets.specs.Decode.{SheetRead}
use Rattle.def_sheets.specs.declared.Wrote.{Wrote}
use Rattle.def_sheets.specs.declared.SheetWrote.{SheetWrote}
use Rattle.def_told.specs.Reader.{entry_read, sheet_read}
use Rattle.def_told.proofs.ReaderHeard as reader
use Rattle.def_told.proofs.ReaderRows as rows
use Rattle.def_told.specs.declared.EntryRead.{EntryRead}
use Rattle.def_told.specs.declared.SheetScanned.{SheetScanned}
use Rattle.def_told.specs.Writer.{entry_written, sheet_written}
use Rattle.def_told.specs.WriterHeard as writer
use Rattle.def_told.specs.declared.EntryWritten.{EntryWritten}
use Rattle.def_told.specs.declared.SheetWritten.{SheetWritten}
use Rattle.def_room.specs.Room.{room_of}
use Rattle.def_room.specs.declared.Room.{Room}
use Rattle.def_told.specs.Room.{sheet_room}
use Rattle.def_told.proofs.RoomHeard as room
use Rattle.def_told.specs.declared.SheetRoom.{SheetRoom}
use Rattle.def_worker_state.specs.Held.{held_words}
use Rattle.def_worker_state.specs.Drained.{drained_words}
use Rattle.taskgraph_heard.specs.StateHeard as state
use Rattle.taskgraph_heard.proofs.StateHeard as state_laws
use Rattle.def_worker_state.specs.declared.Holding.{Holding}
use Rattle.def_worker_state.specs.declared.Drained.{Drained}
use Rattle.def_totals.specs.Board.{totals_of, totals_by, totals_of_words}
use Rattle.def_totals.specs.Heard as board
use Rattle.def_totals.specs.declared.JobRecord.{JobRecord}
use Rattle.def_totals.specs.declared.Totals.{Totals}
use Rattle.def_graph_board.specs.Board.{graph_totals, graph_minutes}
use Rattle.taskgraph_heard.specs.BoardHeard as graph
use Rattle.def_minutes.specs.declared.GraphMinutes.{GraphMinutes}
use Rattle.def_told.specs.Needed.{words_needed}
use Rattle.def_told.specs.NeedHeard as layout
use Rattle.def_told.specs.declared.Need.{Need}
use Rattle.def_day_lines.specs.Day.{day_list}
use Rattle.def_day_lines.specs.declared.DayAnswer.{DayAnswer}
use Rattle.def_told.specs.Day.{day_printed}
use Rattle.def_told.proofs.DayHeard as day
use Rattle.def_told.specs.declared.DayPrinted.{DayPrinted}

-- "refused with" these, of each function of the graph but for a step's 6, which alone has a place
abbrev pub refused_with : Item → List ℕ
refused_with (post_add s w a) = 1 ∷ 2 ∷ 9 ∷ 3 ∷ 5 ∷ []
refused_with (post_finish s w f) = 1 ∷ 2 ∷ 9 ∷ 3 ∷ 11 ∷ 19 ∷ []
refused_with (step s w) = 1 ∷ 2 ∷ 9 ∷ 4 ∷ 7 ∷ 8 ∷ []
refused_with (get s w) = 1 ∷ 2 ∷ 9 ∷ 3 ∷ 10 ∷ []
refused_with (load s m) = 1 ∷ 9 ∷ 17 ∷ 18 ∷ []

-- "laid out, or refused with 1"
pub data LaidOrNot : Answer → Type 0 where
  laid : LaidOrNot Laid
  by_1 : LaidOrNot (Refused 1 0)

-- "Posts an add" of a tg_entry: field by field
pub record AddTaken (a : Arguments) (e : Entry) : Type 0 where
  pub name : a.name ≡ e.name
  pub count : a.count ≡ e.count
  pub names : a.names ≡ e.names
  pub class : a.class ≡ e.class
  pub grower : a.grower ≡ e.grower

-- a finish of a name with an outcome: good just if the number is 0
pub record FinishTaken (f : Finish) (name outcome : ℕ) : Type 0 where
  pub named : f.name ≡ name
  pub good : outcome ≡ 0 → f.failed ≡ false
  pub failed : outcome ≢ 0 → f.failed ≡ true

-- "Adds the entries of all rows": an add for each 36 words, in order
pub record SheetTaken (l : List Arguments) (r : List ℕ) : Type 0 where
  pub many : length l ≡ length r / 36
  pub each : (i : ℕ) → i < length r / 36 → AddTaken (get_or l i no_arguments) (rows.heard_row r i)

-- rows are the call of their sheet, which the promises of calls speak of: what it replies and the tables it leaves;
-- "Words that make no whole rows are 1", and change nothing
pub record RowsAdded (add : Sizes → Tables → ℕ → List ℕ → SheetResult) : Type 0 where
  pub whole : (s : Sizes) (t : Tables) (w : ℕ) (r : List ℕ) → length r % 36 ≡ 0
      → replied_each (add s t w r) ≡ answer_words t (sheet s w (adds_of r))
  pub cut : (s : Sizes) (t : Tables) (w : ℕ) (r : List ℕ) → length r % 36 ≢ 0 → add s t w r ≡ sheet_result 1 [] t

-- a field for what each function hands out, and one for which answers there are, or exactly which is given, by the
-- definition that its contract cites
pub record ToldApart : Type 0 where
  -- tg_answer, of tg_lay_out, tg_load_minutes, tg_post_add, tg_post_finish, tg_step, tg_get, tg_add and tg_finish
  -- (taskgraph_answer); which answers there are: thm_words_refusals, thm_whole_answers
  pub answers : answer.AnswersHeard graph_answer
  pub which_answers : (t : Tables) (i : Item) → Fits i (perform t i).answer
  pub which_numbers : (i : Item) → list.numbers i ≡ refused_with i
  pub how_laid_out : (s : Sizes) (t : Tables) → LaidOrNot (lay_out s t).answer
  -- the same of tg_add and tg_finish, which tell too whether damage stopped the call half done
  pub whole_answers : wholly.WholesHeard told_whole
  pub how_an_add_ends : (s : Sizes) (t : Tables) (w : ℕ) (a : Arguments) → whole.AddEnded (whole_add s t w a).answer
  pub how_a_finish_ends : (s : Sizes) (t : Tables) (w : ℕ) (f : Finish)
      → whole.FinishEnded (whole_finish s t w f).answer
  -- tg_sheet_added, of tg_add_sheet; of each entry what its add would tell (thm_whole_answers)
  pub sheets_added : whole.SheetsHeard whole.sheet_told
  pub a_sheet_added_is_told : (s : Sizes) (t : Tables) (w : ℕ) (r : List ℕ)
      → rows_added s t w r
      ≡ whole.sheet_told (rows_stopped s t w r) (rows_words s t w r).number (rows_words s t w r).answers
  pub how_a_sheet_is_added : (s : Sizes) (t : Tables) (w : ℕ) (r : List ℕ)
      → whole.Adds (rows_words s t w r).number (rows_words s t w r).answers
  pub entry_by_entry : (s : Sizes) (t : Tables) (w : ℕ) (r : List ℕ)
      → heard_sheet (length (adds_of r)) (rows_added s t w r) ≡ sheet_of s t w r
  -- "or 0 where there is none": `stopped` is 0 or tells of one of the entries, and is 0 where the sheet was turned away
  pub which_is_stopped : StopsWithin (λ s t w r. (rows_added s t w r).stopped)
  -- tg_entry, the job in a tg_reading (taskgraph_reader)
  pub jobs : reader.JobsHeard entry_of
  -- tg_reading, of tg_read_entry; what stands at an offset is said by the sheet's bytes (def_sheets, Reading.antt)
  pub entries_read : reader.EntriesHeard entry_read
  pub what_stands : (sheet : List ℕ) → Bytes sheet → (at : ℕ) → ReadsExactly decode sheet at
  -- tg_sheet, of tg_scan_sheet and tg_read_sheet, with the rows that this leaves
  pub sheets_read : reader.SheetsHeard sheet_read
  pub how_scanned : (sheet : List ℕ) → ScansExactly (λ x. scan_sheet (decode_sheet x)) sheet
  pub how_read : (sheet r : List ℕ) → RowsReadExactly (λ x l. read_sheet (decode_sheet x) l) sheet r
  -- the jobs are heard in those rows
  pub rows_read : (sheet r : List ℕ) (js : List Job) → decode_sheet sheet ≡ Sheet.jobs js → 36 * length js ≤ length r
      → rows.RowsHeard (λ x l. (read_sheet x l).rows) sheet r js
  -- tg_entry and rows that a host hands over to be written are taken for what is heard in them
  pub entries_taken : (e : Entry) → job_of e ≡ reader.heard_job e
  pub rows_taken : (r : List ℕ) (i : ℕ) → entry_at r i ≡ rows.heard_row r i
  -- so are those that it hands over to be added, which tg_post_add, tg_add and tg_add_sheet take
  pub adds_taken : (e : Entry) → AddTaken (arguments_of e) e
  pub sheets_taken : (r : List ℕ) → SheetTaken (adds_of r) r
  -- and tg_add_sheet does what the call of that sheet does
  pub rows_added_lem : RowsAdded rows_words
  -- what tg_post_finish and tg_finish take for an outcome
  pub finishes_taken : (name outcome : ℕ) → FinishTaken (finish_taken name outcome) name outcome
  -- tg_written, of tg_write_entry (taskgraph_writer); what is written is said by the entry (thm_sheets, Writing.antt)
  pub entries_written : writer.EntriesHeard entry_written
  pub how_written : (e : Entry) (out : List ℕ) (start : ℕ) → WritesExactly write_entry e out start
  -- tg_sheet_written, of tg_write_sheet (what is written: `a_sheet_is_written_exactly`, a promise of its own)
  pub sheets_written : writer.SheetsHeard sheet_written
  -- tg_room, of tg_room_of_sheet (what a sheet comes to: `a_sheets_room_is_told_exactly`, a promise of its own)
  pub rooms : room.RoomsHeard sheet_room
  pub how_a_room_is_told : (sheet : List ℕ) → room.Tells (room_of sheet)
  -- tg_holding, of tg_held (StateHeard.antt)
  pub holdings : state.HoldingsHeard state.holding_told
  pub a_holding_is_told : (s : Sizes) (t : Tables) (w : ℕ)
      → (x : state.Told) × state.Tells x × (held_words s t w ≡ state.holding_told x)
  -- tg_drained_answer, of tg_drained
  pub drained : state.DrainedHeard state.drained_told
  pub drained_is_told : (s : Sizes) (t : Tables)
      → (x : state.DrainedTold) × state.TellsDrained x × (drained_words s t ≡ state.drained_told x)
  -- tg_totals, of tg_totals_of_words, tg_totals_of_records, tg_totals_by_minutes and tg_totals_of_graph (def_totals)
  pub totals : board.TotalsHeard board.totals_told
  pub words_are_told : (table words : List ℕ)
      → (x : board.Told) × board.TellsOwn x × (totals_of_words table words ≡ board.totals_told x)
  pub a_row_is_told : (table : List ℕ) (rows : List JobRecord)
      → (x : board.Told) × board.TellsOwn x × (totals_of table rows ≡ board.totals_told x)
  pub a_row_by_minutes_is_told : (table : List ℕ) (rows : List JobRecord)
      → (x : board.Told) × board.Tells x × (totals_by table rows ≡ board.totals_told x)
  pub the_graphs_row_is_told : (s : Sizes) (jobs : List ℕ)
      → (x : board.Told) × board.TellsOwn x × (graph_totals s jobs ≡ board.totals_told x)
  -- tg_graph_minutes, of tg_minutes_of_graph (BoardHeard.antt)
  pub minutes : graph.MinutesHeard graph.minutes_told
  pub minutes_are_told : (s : Sizes) (jobs : List ℕ)
      → (x : graph.Told) × graph.Tells x × (graph_minutes s jobs ≡ graph.minutes_told x)
  -- tg_need, of tg_words_needed, and which words are needed (graph_layout)
  pub needs : layout.NeedsHeard layout.need_told
  pub a_need_is_told : (s : Sizes) → (x : layout.Told) × layout.Tells x × (words_needed s ≡ layout.need_told x)
  pub the_need_is : (s : Sizes) → layout.NeedsExactly words_needed s
  -- tg_day, of tg_day_list (taskgraph_day)
  pub days : day.DaysHeard day_printed
  pub how_a_day_is_answered : (workers : ℕ) (sheet out : List ℕ) → day.Answers (day_list workers sheet out).answer

same_numbers : (i : Item) → list.numbers i ≡ refused_with i
same_numbers (post_add s w a) = refl
same_numbers (post_finish s w f) = refl
same_numbers (step s w) = refl
same_numbers (get s w) = refl
same_numbers (load s m) = refl

laid_or_not : (s : Sizes) (t : Tables) → LaidOrNot (lay_out s t).answer
unfolding lay_out
laid_or_not s t =
    pick_by (λ (o : Result Tables). LaidOrNot o.answer) (room_for s t) (λ e. laid) (λ e. LaidOrNot.by_1)

finish_taken_lem : (name outcome : ℕ) → FinishTaken (finish_taken name outcome) name outcome
finish_taken_lem name outcome = record {
  named = refl;
  good = λ e. rw (eq-eqb outcome 0 e) refl;
  failed = λ e. rw (ne_eqb outcome 0 e) refl;
}

-- the entries of rows, one after another
module _ (r : List ℕ) where
  many_adds : (n i : ℕ) → length (map arguments_of (entries_from r i n)) ≡ n
  unfolding entries_from
  many_adds zero i = refl
  many_adds (suc n) i = ap suc (many_adds n (i + 1))

  add_at_lem : (n i k : ℕ) → k < n
      → get_or (map arguments_of (entries_from r i n)) k no_arguments ≡ arguments_of (entry_at r (i + k))
  unfolding entries_from
  add_at_lem zero i k h = absurd (omega arith)
  add_at_lem (suc n) i zero h = ap (λ m. arguments_of (entry_at r m)) {x = i} {y = i + 0} (omega arith)
  add_at_lem (suc n) i (suc k) h =
      add_at_lem n (i + 1) k (omega arith)
      ∙ ap (λ m. arguments_of (entry_at r m)) {x = i + 1 + k} {y = i + suc k} (omega arith)

  taken : SheetTaken (adds_of r) r
  taken = record {
    many = many_adds (length r / 36) 0;
    each = λ i h.
        let e : get_or (adds_of r) i no_arguments ≡ arguments_of (rows.heard_row r i) =
        add_at_lem (length r / 36) 0 i h ∙ ap (λ m. arguments_of (entry_at r m)) {x = 0 + i} {y = i} (omega arith) in
        rw e (record { name = refl; count = refl; names = refl; class = refl; grower = refl });
  }

added : RowsAdded rows_words
unfolding answer_words
added = record { whole = λ s t w r h. ap replied_each (rows_whole s t w r h); cut = rows_cut }

pub told_apart : ToldApart
told_apart = record {
  answers = answer.answers_heard;
  which_answers = fits;
  which_numbers = same_numbers;
  how_laid_out = laid_or_not;
  whole_answers = wholly.wholes_heard;
  how_an_add_ends = whole.how_an_add_ends;
  how_a_finish_ends = whole.how_a_finish_ends;
  sheets_added = whole.sheets_heard;
  a_sheet_added_is_told = λ s t w r. whole.a_sheet_is_told (rows_stopped s t w r) (rows_words s t w r);
  how_a_sheet_is_added = whole.how_added;
  entry_by_entry = sheet_heard_as_told;
  which_is_stopped = stops_within;
  jobs = reader.jobs_heard;
  entries_read = reader.entries_heard;
  what_stands = sheets.an_entry_is_read_exactly;
  sheets_read = reader.sheets_heard;
  how_scanned = sheets.a_sheet_is_scanned_exactly;
  how_read = sheets.rows_are_read_exactly;
  rows_read = rows.rows_heard;
  entries_taken = λ e. refl;
  rows_taken = λ r i. refl;
  adds_taken = λ e. record { name = refl; count = refl; names = refl; class = refl; grower = refl };
  sheets_taken = taken;
  rows_added_lem = added;
  finishes_taken = finish_taken_lem;
  entries_written = writer.entries_heard;
  how_written = sheets.an_entry_is_written_exactly;
  sheets_written = writer.sheets_heard;
  rooms = room.rooms_heard;
  how_a_room_is_told = room.how_told;
  holdings = state_laws.holdings_heard;
  a_holding_is_told = state_laws.holding_is_told;
  drained = state_laws.drained_heard;
  drained_is_told = state_laws.drained_is_told;
  totals = board.totals_heard;
  words_are_told = board.words_are_told;
  a_row_is_told = board.row_is_told;
  a_row_by_minutes_is_told = board.row_by_minutes_is_told;
  the_graphs_row_is_told = graph.board_is_told;
  minutes = graph.minutes_heard;
  minutes_are_told = graph.minutes_are_told;
  needs = layout.needs_heard;
  a_need_is_told = layout.need_is_told;
  the_need_is = layout.needs_exactly;
  days = day.days_heard;
  how_a_day_is_answered = day.how_answered;
}

-- ---- and whatever reads and writes exactly gives no other answers than those that are heard
pub record ExactIsHeard : Type 0 where
  pub entries_read : (read : List ℕ → ℕ → Decoded) → ((x : List ℕ) (at : ℕ) → Bytes x → ReadsExactly read x at)
      → (x : List ℕ) (at : ℕ) → Bytes x → reader.Stands (read x at)
  pub sheets_scanned : (scan : List ℕ → SheetRead) → ((x : List ℕ) → Bytes x → ScansExactly scan x)
      → (x : List ℕ) → Bytes x → reader.Scanned (scan x)
  pub sheets_read : (read : List ℕ → List ℕ → SheetRows) → ((x r : List ℕ) → Bytes x → RowsReadExactly read x r)
      → (x r : List ℕ) → Bytes x → reader.ReadIn (read x r).answer
  pub entries_written : (write : Entry → List ℕ → ℕ → Written)
      → ((e : Entry) (out : List ℕ) (start : ℕ) → WritesExactly write e out start)
      → (e : Entry) (out : List ℕ) (start : ℕ) → writer.Writes (write e out start).answer
  pub sheets_written : (write : List ℕ → List ℕ → writing.SheetWritten)
      → ((r out : List ℕ) → WritesSheetExactly write r out)
      → (r out : List ℕ) → writer.WritesAll (write r out).answer

-- for each is the definition that the contracts cite
pub exact_is_heard : ExactIsHeard
exact_is_heard = record {
  entries_read = λ read h x at b. rw (sheets.one_reader_reads_exactly read h x at b) (reader.what_stands x at);
  sheets_scanned = λ scan h x b. rw (sheets.one_scanner_scans_exactly scan h x b) (reader.how_scanned x);
  sheets_read = λ read h x r b. rw (sheets.one_reader_reads_rows_exactly read h x r b) (reader.how_read x r);
  entries_written = λ write h e out start.
      rw (sheets.one_writer_writes_exactly write h e out start) (writer.how_written e out start);
  sheets_written = λ write h r out.
      rw (sheets.one_writer_writes_sheets_exactly write h r out) (writer.how_all_written r out);
}

-- ---- and by one telling alone: whatever is heard so is what C is told
pub record ToldOneWay : Type 0 where
  pub answers : (told : Answer → GraphAnswer) → answer.AnswersHeard told → (x : Answer) → told x ≡ graph_answer x
  pub sheets_added : (told : ℕ → ℕ → List Answer → SheetAdded) → whole.SheetsHeard told
      → (stop n : ℕ) (xs : List Answer)
      → whole.Adds n xs
      → told stop n xs ≡ whole.sheet_told stop n xs
  pub jobs : (told : Job → Entry) → reader.JobsHeard told → (j : Job) → length j.list ≤ 32 → told j ≡ entry_of j
  pub entries_read : (told : ℕ → Decoded → EntryRead) → reader.EntriesHeard told → (asked : ℕ) (x : Decoded)
      → reader.Stands x
      → told asked x ≡ entry_read asked x
  pub sheets_read : (told : SheetRead → SheetScanned) → reader.SheetsHeard told → (x : SheetRead) → reader.ReadIn x
      → told x ≡ sheet_read x
  pub entries_written : (told : Wrote → EntryWritten) → writer.EntriesHeard told → (x : Wrote) → writer.Writes x
      → told x ≡ entry_written x
  pub sheets_written : (told : SheetWrote → SheetWritten) → writer.SheetsHeard told → (x : SheetWrote)
      → writer.WritesAll x
      → told x ≡ sheet_written x
  pub rooms : (told : Room → SheetRoom) → room.RoomsHeard told → (x : Room) → room.Tells x → told x ≡ sheet_room x
  pub holdings : (told : state.Told → Holding) → state.HoldingsHeard told → (x : state.Told) → state.Tells x
      → told x ≡ state.holding_told x
  pub drained : (told : state.DrainedTold → Drained) → state.DrainedHeard told → (x : state.DrainedTold)
      → state.TellsDrained x
      → told x ≡ state.drained_told x
  pub totals : (told : board.Told → Totals) → board.TotalsHeard told → (x : board.Told) → board.Tells x
      → told x ≡ board.totals_told x
  pub minutes : (told : graph.Told → GraphMinutes) → graph.MinutesHeard told → (x : graph.Told) → graph.Tells x
      → told x ≡ graph.minutes_told x
  pub needs : (told : layout.Told → Need) → layout.NeedsHeard told → (x : layout.Told) → layout.Tells x
      → told x ≡ layout.need_told x
  pub the_need : (ask : Sizes → Need) → ((s : Sizes) → layout.NeedsExactly ask s) → (s : Sizes) → ask s ≡ words_needed s
  pub days : (told : DayAnswer → DayPrinted) → day.DaysHeard told → (x : DayAnswer) → day.Answers x
      → told x ≡ day_printed x

pub told_one_way : ToldOneWay
told_one_way = record {
  answers = answer.answers_told_one_way;
  sheets_added = whole.sheets_told_one_way;
  jobs = reader.jobs_told_one_way;
  entries_read = reader.entries_told_one_way;
  sheets_read = reader.sheets_told_one_way;
  entries_written = writer.entries_told_one_way;
  sheets_written = writer.sheets_told_one_way;
  rooms = room.rooms_told_one_way;
  holdings = state_laws.holdings_told_one_way;
  drained = state_laws.drained_told_one_way;
  totals = board.totals_told_one_way;
  minutes = graph.minutes_told_one_way;
  needs = layout.needs_told_one_way;
  the_need = layout.needs_by_one_function_alone;
  days = day.days_told_one_way;
}
