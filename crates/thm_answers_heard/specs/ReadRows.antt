-- A sheet of bytes that was read into rows and added in one call is the adds of the sheet's jobs, as the day list makes
-- them. For ALL tables. Follows docs/RULES.md, "Whole calls" and "Job sheets".
use Rattle.std.specs.Prelude.{◌≡◌, refl, List, [], ◌∷◌, map, ℕ, ◌*◌, ◌/◌, ◌%◌, ◌≤◌, length, take}
use Rattle.std.proofs.Common.{ap, ◌∙◌, arith, le-leb}
use Rattle.def_numbers.specs.Numbers.{entry_words}
use Rattle.def_terms.specs.Seen.{request}
use Rattle.def_terms.specs.declared.Sizes.{Sizes}
use Rattle.def_words.specs.Layout.{Tables}
use Rattle.def_sheets.specs.Job.{Job, Valid}
use Rattle.def_sheets.specs.Decode.{jobs, decode_sheet, read_sheet, entry_of, rows_of}
use Rattle.def_sheets.proofs.NumberLaws.{Bytes}
use Rattle.def_sheets.proofs.SheetTrip.{Each, sheet_back}
use Rattle.def_sheets.proofs.WriteTrip.{sets_front}
use Rattle.def_sheets.proofs.RewriteTrip.{Short, length_rows_of, rows_there}
use Rattle.def_whole_calls.specs.Sheet.{sheet_words}
use Rattle.def_sheet_rows.specs.SheetRows.{adds_of, rows_words}
use Rattle.def_sheet_rows.specs.Arguments as row
use Rattle.def_room.specs.Room.{arguments_of}
use Rattle.def_room.specs.Laws.{prefix_front, prefix_all}
use Rattle.thm_answers_heard.specs.Requests.{sheet_by_requests}
use Rattle.thm_answers_heard.specs.InC.{rows_whole}

-- ---- one job: its row has its list, and names past the count
request_same : (j : Job) → request (row.arguments_of (entry_of j)) ≡ request (arguments_of j)
request_same j = rw (prefix_front j.list, prefix_all j.list)

requests_same : (js : List Job) → map request (map row.arguments_of (map entry_of js)) ≡ map request (map arguments_of js)
requests_same [] = refl
requests_same (j ∷ js) = rw (request_same j, requests_same js)

-- ---- the rows of jobs
short : (js : List Job) → Each Valid js → Each Short js
short [] v = Each.none
short (j ∷ js) (Each.more v vs) = Each.more v.count (short js vs)

-- the rows that a sheet of bytes was read into
module _ (bytes : List ℕ) (js : List Job) (rows : List ℕ) (all : Bytes bytes) (read : decode_sheet bytes ≡ jobs js)
    (room : entry_words * length js ≤ length rows) where
  abbrev filled : List ℕ
  filled = take (entry_words * length js) (read_sheet (decode_sheet bytes) rows).rows

  shorts : Each Short js
  shorts = short js (sheet_back bytes js all read).1

  filled_rows : take (entry_words * length js) (read_sheet (decode_sheet bytes) rows).rows ≡ rows_of js
  filled_rows =
      let k = length_rows_of js shorts in
      let enough : length (rows_of js) ≤ length rows = omega arith in
      rw (read, le-leb _ _ room, ← k) (sets_front (rows_of js) rows enough)

  -- the adds of the rows are those of the jobs' entries: name, count, class, grower, and the names, 0 past the count
  pub read_adds : adds_of (take (entry_words * length js) (read_sheet (decode_sheet bytes) rows).rows)
      ≡ map row.arguments_of (map entry_of js)
  read_adds =
      let k = length_rows_of js shorts in
      let number : length (rows_of js) / entry_words ≡ length js = omega arith in
      rw (filled_rows, number, rows_there js (rows_of js) 0 shorts refl)

  -- they request what the day list's adds of those jobs request
  pub read_requests : map request (adds_of (take (entry_words * length js) (read_sheet (decode_sheet bytes) rows).rows))
      ≡ map request (map arguments_of js)
  read_requests = ap (map request) read_adds ∙ requests_same js

  -- and so the sheet in one call is the sheet of those adds
  pub read_sheet_lem : (s : Sizes) (t : Tables) (w : ℕ)
      → rows_words s t w (take (entry_words * length js) (read_sheet (decode_sheet bytes) rows).rows)
      ≡ sheet_words s t w (map arguments_of js)
  read_sheet_lem s t w =
      let k = length_rows_of js shorts in
      let whole : length filled % entry_words ≡ 0 = rw filled_rows (omega arith) in
      rows_whole s t w filled whole ∙ sheet_by_requests s t w (adds_of filled) (map arguments_of js) read_requests
