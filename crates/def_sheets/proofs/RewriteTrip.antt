-- What was read, written again, is the same bytes: "one accepted sheet has one spelling" (demand 2), of one entry and
-- of whole sheets through the rows that hold them.
use Rattle.std.specs.Prelude.{ℕ, ◌+◌, ◌*◌, ◌-◌, ◌/◌, ◌%◌, ◌≤◌, ◌≡◌, refl, List, [], ◌∷◌, ◌++◌, map, true, length, get_or, take, drop, replicate, eqb}
use Rattle.std.proofs.Common.{sym, ap, ◌∙◌, arith, add-zero, length-append, take_at, drop_at, take_all, drop-drop, get_or-drop, le-leb, eq-eqb}
use Rattle.std.proofs.lemmas.List.{length-replicate}
use Rattle.std.proofs.lemmas.List.Edits.{sets}
use Rattle.std.proofs.Math.Seq.{length-sets}
use Rattle.def_numbers.specs.Numbers.{most_names, entry_words}
use Rattle.def_sheets.specs.Job.{Job, Valid, encode, encode_sheet}
use Rattle.def_sheets.specs.Decode.{job, decode, jobs, decode_sheet, padded, entry_of, row_of, rows_of, read_sheet}
use Rattle.def_sheets.specs.Write.{job_of, Fault, fault_of, written, write_entry, entry_at, entries_from, entries_of}
use Rattle.def_sheets.specs.Write.{SheetFault, sheet_fault, sheet_written, write_sheet}
use Rattle.def_sheets.proofs.NumberLaws.{Bytes}
use Rattle.def_sheets.proofs.EntryTrip.{entry_stands}
use Rattle.def_sheets.proofs.SheetTrip.{Each, sheet_back}
use Rattle.def_sheets.proofs.WriteTrip.{faultless, sets_front}
use Rattle.def_sheets.specs.declared.Wrote.{Wrote}
use Rattle.def_sheets.specs.declared.SheetWrote.{SheetWrote}

-- AN ENTRY

length_padded : (xs : List ℕ) → length xs ≤ most_names → length (padded xs) ≡ most_names
length_padded xs most = simp (length-append, length-replicate) (omega arith)

-- the entry of a job stands for that job, and has no fault
pub job_entry : (j : Job) → job_of (entry_of j) ≡ j
job_entry j = rw (take_at j.list (replicate (most_names - length j.list) 0) (length j.list) refl)

pub entry_faultless : (j : Job) → Valid j → fault_of (entry_of j) ≡ Fault.none
entry_faultless j v = faultless (entry_of j) (record { count = v.count; class = v.class; grower = v.grower })

pub entry_rewritten : (s : List ℕ) (at : ℕ) (j : Job) (n : ℕ) (out : List ℕ) (start : ℕ) → Bytes s
    → decode s at ≡ job j n
    → start + (n - at) ≤ length out
    → write_entry (entry_of j) out start
    ≡ written (Wrote.Done (start + (n - at))) (sets out start (take (n - at) (drop at s)))
unfolding write_entry
entry_rewritten s at j n out start all h room =
    let d = entry_stands s at j n h in
    let k : n - at ≡ length (encode j) = omega (arith, d.stands.ends) in
    let enough : start + length (encode j) ≤ length out = omega arith in
    rw (
      entry_faultless j (d.valid all),
      job_entry j,
      k,
      d.stands.bytes all,
      take_at (encode j) (drop n s) (length (encode j)) refl,
      le-leb _ _ enough,
    )

-- A SHEET

-- a job whose list fits a row
abbrev pub Short : Job → Type 0
Short j = length j.list ≤ most_names

valid_short : (js : List Job) → Each Valid js → Each Short js
valid_short [] valid = Each.none
valid_short (j ∷ js) (Each.more v vs) = Each.more v.count (valid_short js vs)

pub length_row_of : (j : Job) → Short j → length (row_of j) ≡ entry_words
length_row_of j short = let k = length_padded j.list short in omega arith

pub length_rows_of : (js : List Job) → Each Short js → length (rows_of js) ≡ entry_words * length js
unfolding rows_of
length_rows_of [] short = refl
length_rows_of (j ∷ js) (Each.more h hs) =
    let ih = length_rows_of js hs in
    let k = length_row_of j h in
    omega (arith, length-append (row_of j) (rows_of js))

-- the rows of jobs hold the entries of those jobs
row_there : (j : Job) (rows rest : List ℕ) (i : ℕ) → Short j → drop (entry_words * i) rows ≡ row_of j ++ rest
    → entry_at rows i ≡ entry_of j
row_there j rows rest i short h =
    let word : (k : ℕ) → get_or rows (entry_words * i + k) 0 ≡ get_or (row_of j ++ rest) k 0 =
    λ k. sym (get_or-drop (entry_words * i) rows k 0) ∙ ap (λ (l : List ℕ). get_or l k 0) h in
    let first : get_or rows (entry_words * i) 0 ≡ j.name = rw add-zero at (word 0) in
    let names : drop (entry_words * i + 4) rows ≡ padded j.list ++ rest =
    sym (drop-drop 4 (entry_words * i) rows) ∙ ap (λ (l : List ℕ). drop 4 l) h in
    rw (first, word 1, word 2, word 3, names, take_at (padded j.list) rest most_names (length_padded j.list short))

pub rows_there : (js : List Job) (rows : List ℕ) (i : ℕ) → Each Short js → drop (entry_words * i) rows ≡ rows_of js
    → entries_from rows i (length js) ≡ map entry_of js
unfolding entries_from rows_of
rows_there [] rows i short h = refl
rows_there (j ∷ js) rows i (Each.more short shorts) h =
    let q : entry_words * (i + 1) ≡ entry_words * i + entry_words = omega arith in
    let rest : drop (entry_words * (i + 1)) rows ≡ rows_of js =
    rw q (sym (drop-drop entry_words (entry_words * i) rows) ∙ ap (λ (l : List ℕ). drop entry_words l) h
    ∙ drop_at (row_of j) (rows_of js) entry_words (length_row_of j short)) in
    rw (row_there j rows (rows_of js) i short h, rows_there js rows (i + 1) shorts rest)

jobs_entries : (js : List Job) → map job_of (map entry_of js) ≡ js
jobs_entries [] = refl
jobs_entries (j ∷ js) = rw (job_entry j, jobs_entries js)

no_faults : (js : List Job) (i : ℕ) → Each Valid js → sheet_fault i (map entry_of js) ≡ SheetFault.none
unfolding sheet_fault
no_faults [] i valid = refl
no_faults (j ∷ js) i (Each.more v vs) = rw (entry_faultless j v, no_faults js (i + 1) vs)

rows_rewritten : (js : List Job) (out : List ℕ) → Each Valid js → length (encode_sheet js) ≤ length out
    → write_sheet (rows_of js) out ≡ sheet_written (SheetWrote.Done (length js) (length (encode_sheet js)))
    (sets out 0 (encode_sheet js))
unfolding write_sheet
rows_rewritten js out valid room =
    let short = valid_short js valid in
    let k = length_rows_of js short in
    let whole : eqb (length (rows_of js) % entry_words) 0 ≡ true =
    eq-eqb (length (rows_of js) % entry_words) 0 (omega arith) in
    let number : length (rows_of js) / entry_words ≡ length js = omega arith in
    let entries : entries_of (rows_of js) ≡ map entry_of js = rw number (rows_there js (rows_of js) 0 short refl) in
    rw (whole, entries, no_faults js 0 valid, jobs_entries js, le-leb _ _ room)

-- the rows that a sheet's jobs filled, written again, are the sheet
pub sheet_rewritten : (s : List ℕ) (js : List Job) (rows out : List ℕ) → Bytes s → decode_sheet s ≡ jobs js
    → entry_words * length js ≤ length rows → length s ≤ length out
    → write_sheet (take (entry_words * length js) (read_sheet (decode_sheet s) rows).rows) out
    ≡ sheet_written (SheetWrote.Done (length js) (length s)) (sets out 0 s)
sheet_rewritten s js rows out all h fits room =
    let d = sheet_back s js all h in
    let k = length_rows_of js (valid_short js d.1) in
    let e = d.0 in
    let enough : length (rows_of js) ≤ length rows = omega arith in
    let front : take (entry_words * length js) (sets rows 0 (rows_of js)) ≡ rows_of js =
    rw (← k) (sets_front (rows_of js) rows enough) in
    let again = rows_rewritten js out d.1 (rw e room) in
    rw (h, le-leb _ _ fits, front) (rw e at again)

-- the same where the rows fit exactly
pub sheet_rewritten_exactly : (s : List ℕ) (js : List Job) (rows out : List ℕ) → Bytes s → decode_sheet s ≡ jobs js
    → entry_words * length js ≡ length rows → length s ≤ length out
    → write_sheet (read_sheet (decode_sheet s) rows).rows out
    ≡ sheet_written (SheetWrote.Done (length js) (length s)) (sets out 0 s)
sheet_rewritten_exactly s js rows out all h fits room =
    let w = sheet_rewritten s js rows out all h (omega arith) room in
    let l = length-sets rows 0 (rows_of js) in
    let enough : entry_words * length js ≤ length rows = omega arith in
    let r : (read_sheet (decode_sheet s) rows).rows ≡ sets rows 0 (rows_of js) = rw (h, le-leb _ _ enough) in
    rw (take_all (entry_words * length js) (read_sheet (decode_sheet s) rows).rows (rw r (omega arith))) at w
