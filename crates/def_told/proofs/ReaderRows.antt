-- What a host hears in the rows into which a sheet was read, by their words: row i has the job of entry i, "laid out as
-- a tg_entry" of 36 words, with 0 for the names past its count, and the words past the last entry are as they were.
-- Follows docs/SHEETS.md; include/taskgraph.h has the fields. (Wrong/ReaderRows.antt has readers that lose
-- something.)
use Rattle.std.specs.Prelude.{◌≡◌, List, [], ◌∷◌, ◌++◌, ℕ, zero, suc, ◌+◌, ◌*◌, ◌-◌, ◌≤◌, ◌<◌, length, get_or, take, drop}
use Rattle.std.proofs.Common.{ap, ◌∙◌, append_assoc, arith, get_or-append-add, take_at, get_or-drop, le-leb}
use Rattle.std.proofs.lemmas.List.Edits.{sets, sets-eq}
use Rattle.std.proofs.Math.Seq.{length-sets, drop-append-add}
use Rattle.def_sheets.specs.Job.{Job}
use Rattle.def_sheets.specs.Decode.{Sheet, jobs, decode_sheet, row_of, rows_of, padded, entry_of, read_sheet}
use Rattle.def_sheets.proofs.SheetTrip.{Each}
use Rattle.def_sheets.proofs.RewriteTrip.{Short, length_row_of, length_rows_of}
use Rattle.def_sheets.proofs.CodeLaws.{sheet_bounds}
use Rattle.def_sheets.specs.declared.Entry.{Entry}
use Rattle.def_told.proofs.ReaderHeard.{heard_job, Tidy, jobs_heard}

-- the entry in row i: its name, count, class and grower, then 32 names
abbrev pub heard_row : List ℕ → ℕ → Entry
heard_row rows i =
    record {
      name = get_or rows (36 * i) 0;
      count = get_or rows (36 * i + 1) 0;
      class = get_or rows (36 * i + 2) 0;
      grower = get_or rows (36 * i + 3) 0;
      names = take 32 (drop (36 * i + 4) rows);
    }

-- past the last entry
abbrev pub no_job : Job
no_job = record { name = 0; list = []; class = 0; grower = 0 }

-- any reader that leaves rows, of a sheet of these jobs and rows that are long enough for them
pub record RowsHeard (leave : Sheet → List ℕ → List ℕ) (sheet rows : List ℕ) (js : List Job) : Type 0 where
  pub heard_as_told : (i : ℕ) → i < length js
      → heard_job (heard_row (leave (decode_sheet sheet) rows) i) ≡ get_or js i no_job
  pub tidy : (i : ℕ) → i < length js → Tidy (heard_row (leave (decode_sheet sheet) rows) i)
  pub past : (k : ℕ) → 36 * length js ≤ k → get_or (leave (decode_sheet sheet) rows) k 0 ≡ get_or rows k 0
  pub long : length (leave (decode_sheet sheet) rows) ≡ length rows

-- ---- the rows of the reader do it
-- a row further on
row_on : (row rest : List ℕ) (i : ℕ) → length row ≡ 36 → heard_row (row ++ rest) (suc i) ≡ heard_row rest i
row_on row rest i e =
    let word : (k : ℕ) → get_or (row ++ rest) (36 * suc i + k) 0 ≡ get_or rest (36 * i + k) 0 =
    λ k.
    let z : 36 * suc i + k ≡ length row + (36 * i + k) = omega arith in
    rw z (get_or-append-add row rest (36 * i + k) 0) in
    let first : get_or (row ++ rest) (36 * suc i) 0 ≡ get_or rest (36 * i) 0 =
    let z : 36 * suc i ≡ length row + 36 * i = omega arith in
    rw z (get_or-append-add row rest (36 * i) 0) in
    let names : drop (36 * suc i + 4) (row ++ rest) ≡ drop (36 * i + 4) rest =
    let z : 36 * suc i + 4 ≡ length row + (36 * i + 4) = omega arith in
    rw z (drop-append-add row rest (36 * i + 4)) in
    λ d. record {
      name = first d;
      count = word 1 d;
      class = word 2 d;
      grower = word 3 d;
      names = take 32 (names d);
    }

row_first : (j : Job) (rest : List ℕ) → Short j → heard_row (row_of j ++ rest) 0 ≡ entry_of j
row_first j rest short =
    let e = take_at (padded j.list) rest 32 (let k = length_row_of j short in omega arith) in
    λ d. record { name = j.name; count = length j.list; class = j.class; grower = j.grower; names = e d }

row_of_lem : (js : List Job) (rest : List ℕ) (i : ℕ) → Each Short js → i < length js
    → heard_row (rows_of js ++ rest) i ≡ entry_of (get_or js i no_job)
unfolding rows_of
row_of_lem [] rest i all h = absurd (omega arith)
row_of_lem (j ∷ js) rest zero (Each.more s all) h =
    rw (append_assoc (row_of j) (rows_of js) rest) (row_first j (rows_of js ++ rest) s)
row_of_lem (j ∷ js) rest (suc i) (Each.more s all) h =
    rw (append_assoc (row_of j) (rows_of js) rest)
    (row_on (row_of j) (rows_of js ++ rest) i (length_row_of j s) ∙ row_of_lem js rest i all (omega arith))

short_at : (js : List Job) (i : ℕ) → Each Short js → i < length js → length (get_or js i no_job).list ≤ 32
short_at [] i all h = absurd (omega arith)
short_at (j ∷ js) zero (Each.more s all) h = s
short_at (j ∷ js) (suc i) (Each.more s all) h = short_at js i all (omega arith)

module _ (sheet rows : List ℕ) (js : List Job) (e : decode_sheet sheet ≡ jobs js) (room : 36 * length js ≤ length rows)
  where
    all_short : Each Short js
    unfolding decode_sheet
    all_short = (sheet_bounds (length sheet) sheet 0 js (omega arith) e).1

    long_rows : length (rows_of js) ≡ 36 * length js
    long_rows = length_rows_of js all_short

    left : (read_sheet (decode_sheet sheet) rows).rows ≡ sets rows 0 (rows_of js)
    left = rw (e, le-leb (36 * length js) (length rows) room)

    split : sets rows 0 (rows_of js) ≡ rows_of js ++ drop (36 * length js) rows
    split =
        let l = long_rows in
        let z : 0 + length (rows_of js) ≡ 36 * length js = omega arith in
        rw z at (sets-eq (rows_of js) rows 0 (omega arith))

    row_is : (i : ℕ) → i < length js → heard_row (read_sheet (decode_sheet sheet) rows).rows i ≡ entry_of (get_or js i no_job)
    row_is i h = rw (left, split) (row_of_lem js (drop (36 * length js) rows) i all_short h)

    past_word : (k : ℕ) → 36 * length js ≤ k → get_or (rows_of js ++ drop (36 * length js) rows) k 0 ≡ get_or rows k 0
    past_word k h =
        let m = k - 36 * length js in
        let z : k ≡ length (rows_of js) + m = omega (arith, long_rows) in
        let y : 36 * length js + m ≡ k = omega arith in
        ap (λ (n : ℕ). get_or (rows_of js ++ drop (36 * length js) rows) n 0) z
        ∙ get_or-append-add (rows_of js) (drop (36 * length js) rows) m 0
        ∙ get_or-drop (36 * length js) rows m 0
        ∙ ap (λ (n : ℕ). get_or rows n 0) y

    pub rows_heard : RowsHeard (λ x r. (read_sheet x r).rows) sheet rows js
    rows_heard = record {
      heard_as_told = λ i h.
          ap heard_job (row_is i h) ∙ jobs_heard.heard_as_told (get_or js i no_job) (short_at js i all_short h);
      tidy = λ i h. rw (row_is i h) (jobs_heard.tidy (get_or js i no_job) (short_at js i all_short h));
      past = λ k h. rw (left, split) (past_word k h);
      long = rw left (length-sets rows 0 (rows_of js));
    }
