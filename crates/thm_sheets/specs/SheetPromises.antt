-- What is promised of job sheets: "A job sheet written and read back gives the same jobs, and one accepted sheet has
-- one spelling" (demand 2; docs/SHEETS.md), the running offset of writing, and docs/RULES.md's cases of sheets. Each
-- proof names where it was shown. `Bytes s` says that s is a list of bytes; `Words e` and `Below (2 ^ 32) rows` say
-- that the numbers are 32-bit words, and that an entry has 32 names, as every value of the declared types has. Nothing
-- else is assumed.
use Rattle.std.specs.Prelude.{ℕ, ◌+◌, ◌*◌, ◌-◌, ◌/◌, ◌%◌, ◌≤◌, ◌<◌, ◌^◌, ◌≡◌, refl, ◌↔◌, ◌≢◌, List, ◌++◌, map, length, take, drop}
use Rattle.std.proofs.lemmas.List.Edits.{sets}
use Rattle.def_numbers.specs.Numbers.{most_names, most_class, most_grower, name_bytes, count_bytes, class_bytes, grower_bytes}
use Rattle.def_numbers.specs.Numbers.{entry_words, cut, wrong_map, wrong_value, no_room, wrong_size}
use Rattle.def_sheets.specs.Number.{spelt}
use Rattle.def_sheets.specs.Job.{Job, Below, Valid, encode, encode_sheet}
use Rattle.def_sheets.specs.Decode.{Decoded, job, refused, decode, Sheet, jobs, decode_sheet, entry_of, reading_of}
use Rattle.def_sheets.specs.Decode.{scan_sheet, SheetRows, read_sheet}
use Rattle.def_sheets.specs.Write.{job_of, entry_at, entries_of, Written, written, write_entry, SheetWritten}
use Rattle.def_sheets.specs.Write.{sheet_written, write_sheet}
use Rattle.thm_sheets.specs.SheetCases.{Hold, FaultsHold, case_8, whole_sheets, rules, second_entries, faults}
use Rattle.thm_sheets.specs.SheetCases.{cases_hold}
use Rattle.def_sheets.proofs.NumberLaws.{Bytes, NumberRead, NumberSpelt, number_there, number_back}
use Rattle.def_sheets.proofs.EntryTrip.{entry_there, entry_back}
use Rattle.def_sheets.proofs.SheetTrip.{Each, sheet_there, sheet_back, one_spelling}
use Rattle.def_sheets.proofs.WriteTrip.{Words, Limits, cleared, entry_written_lem, entry_reading, sheet_written_lem}
use Rattle.def_sheets.proofs.RewriteTrip.{entry_rewritten, sheet_rewritten, sheet_rewritten_exactly}
use Rattle.def_sheets.specs.Offset.{Part, bytes_of, so_far, behind, offset_of, Offsets, running, put, up_to}
use Rattle.def_sheets.specs.Offset.{KeepsOffset, FirstOff}
use Rattle.def_sheets.proofs.OffsetLaws.{keeps_offset, offsets, parts_put, entry_parts, part_there}
use Rattle.def_sheets.proofs.OffsetLaws.{refused_offset}
use Rattle.def_sheets.proofs.OffsetLaws.{offset_refused, within_written, within_no_room}
use Rattle.thm_sheets.specs.SheetOffset.{sheet_so_far, sheet_bytes, FirstWrong, entry_stands_there, refused_first_lem}
use Rattle.thm_sheets.specs.SheetOffset.{first_refused, cut_refused, sheet_fits, sheet_no_room}
use Rattle.thm_sheets.specs.Refusals.{entry_refused, sheet_refused, rows_refused}
use Rattle.def_sheets.specs.Reading.{spelling, Fits, ReadsExactly, HandsOutExactly, SheetReadsExactly}
use Rattle.def_sheets.specs.Reading.{ScansExactly, RowsReadExactly}
use Rattle.def_sheets.proofs.ReadingLaws.{spelt_by_numerals, fits_valid, valid_fits, reads_exactly, one_reader}
use Rattle.def_sheets.proofs.ReadingLaws.{fault_bounds, hands_out_exactly, one_hand, reads_no_further}
use Rattle.def_sheets.proofs.SheetReading.{sheet_reads_exactly, one_sheet_reader, scans_exactly, one_scanner}
use Rattle.def_sheets.proofs.SheetReading.{rows_exactly, one_row_reader}
use Rattle.thm_sheets.specs.Writing.{WritesExactly, WritesSheetExactly}
use Rattle.thm_sheets.specs.WritingLaws.{writes_exactly, one_writer, writes_sheet_exactly, one_sheet_writer}
use Rattle.def_sheets.specs.declared.Entry.{Entry}
use Rattle.def_sheets.specs.declared.Read.{Read}
use Rattle.def_sheets.specs.declared.Reading.{Reading}
use Rattle.def_sheets.specs.declared.Wrote.{Wrote}
use Rattle.std.specs.Prelude.{Ok, Err}
use Rattle.def_sheets.specs.Decode.{SheetRead, refusal}
use Rattle.def_sheets.specs.declared.SheetWrote.{SheetWrote}

-- WHAT THE BYTES MEAN: said of any reader and writer by bytes, bits, offsets and numbers (Reading.antt, Writing.antt).
-- Each is met by the definition that the code's contracts cite, and by no other.

-- An entry is its job, the end of the sheet, or its first fault by 12, 13 or 14 with the field's offset from the
-- sheet's start; each exactly where it is so.
pub an_entry_is_read_exactly : (s : List ℕ) → Bytes s → (at : ℕ) → ReadsExactly decode s at
an_entry_is_read_exactly = reads_exactly

pub one_reader_reads_exactly : (read : List ℕ → ℕ → Decoded)
    → ((s : List ℕ) (at : ℕ) → Bytes s → ReadsExactly read s at)
    → (s : List ℕ) (at : ℕ) → Bytes s → read s at ≡ decode s at
one_reader_reads_exactly read exact s at all =
    one_reader read decode s at (exact s at all) (reads_exactly s all at)

-- The number of a refusal is 12, 13 or 14, and its offset lies in the sheet, at the entry's start or behind it.
pub a_refusal_is_12_to_14 : (s : List ℕ) → Bytes s → (at number offset : ℕ) → decode s at ≡ refused number offset
    → (12 ≤ number) × (number ≤ 14) × (at ≤ offset) × (offset ≤ length s)
a_refusal_is_12_to_14 s all at number offset h =
    fault_bounds s at number offset (((reads_exactly s all at).faulty number offset).0 h)

-- What is handed out with it: the job's words with zeros past the count, and 36 zeros beside a refusal or the end.
pub an_entry_is_handed_out_exactly : (s : List ℕ) (at : ℕ) → HandsOutExactly (λ t i. reading_of (decode t i)) s at
an_entry_is_handed_out_exactly = hands_out_exactly

pub one_reader_hands_out_exactly : (read : List ℕ → ℕ → Reading)
    → ((s : List ℕ) (at : ℕ) → Bytes s → HandsOutExactly read s at)
    → (s : List ℕ) (at : ℕ) → Bytes s → read s at ≡ reading_of (decode s at)
one_reader_hands_out_exactly read exact s at all =
    one_hand read _ s all at (exact s at all) (hands_out_exactly s at)

-- A job that was read is read so whatever follows its last byte.
pub no_byte_past_an_entry_is_read : (s rest : List ℕ) (at : ℕ) (j : Job) (n : ℕ) → Bytes s → decode s at ≡ job j n
    → decode (take n s ++ rest) at ≡ job j n
no_byte_past_an_entry_is_read = reads_no_further

-- A sheet has the jobs that are spelt from its start to its end with nothing between, or is broken by its first fault,
-- whose offset runs from the sheet's start in every entry.
pub a_sheet_is_read_exactly : (s : List ℕ) → Bytes s → SheetReadsExactly decode_sheet s
a_sheet_is_read_exactly = sheet_reads_exactly

pub one_reader_reads_sheets_exactly : (read : List ℕ → Sheet) → ((s : List ℕ) → Bytes s → SheetReadsExactly read s)
    → (s : List ℕ) → Bytes s → read s ≡ decode_sheet s
one_reader_reads_sheets_exactly read exact s all =
    one_sheet_reader read decode_sheet s (exact s all) (sheet_reads_exactly s all)

-- Its entries are counted, or it is refused so.
pub a_sheet_is_scanned_exactly : (s : List ℕ) → ScansExactly (λ t. scan_sheet (decode_sheet t)) s
a_sheet_is_scanned_exactly = scans_exactly

pub one_scanner_scans_exactly : (scan : List ℕ → SheetRead) → ((s : List ℕ) → Bytes s → ScansExactly scan s)
    → (s : List ℕ) → Bytes s → scan s ≡ scan_sheet (decode_sheet s)
one_scanner_scans_exactly scan exact s all = one_scanner scan _ s all (exact s all) (scans_exactly s)

-- Read into lent rows: its own refusal first, then 15 with no offset where the rows have fewer than 36 words an entry,
-- and neither changes a word; else the entries stand in the front, and every word behind them is as it was.
pub rows_are_read_exactly : (s lent : List ℕ) → RowsReadExactly (λ t rows. read_sheet (decode_sheet t) rows) s lent
rows_are_read_exactly = rows_exactly

pub one_reader_reads_rows_exactly : (read : List ℕ → List ℕ → SheetRows)
    → ((s lent : List ℕ) → Bytes s → RowsReadExactly read s lent)
    → (s lent : List ℕ) → Bytes s → read s lent ≡ read_sheet (decode_sheet s) lent
one_reader_reads_rows_exactly read exact s lent all =
    one_row_reader read _ s lent all (exact s lent all) (rows_exactly s lent)

-- Writing an entry: 14 with the offset of its first wrong field from the entry's start, then 15 with no offset, and
-- neither changes a byte; else its bytes stand there, and those before and behind are as they were.
pub an_entry_is_written_exactly : (e : Entry) (out : List ℕ) (at : ℕ) → WritesExactly write_entry e out at
an_entry_is_written_exactly = writes_exactly

pub one_writer_writes_exactly : (write : Entry → List ℕ → ℕ → Written)
    → ((e : Entry) (out : List ℕ) (at : ℕ) → WritesExactly write e out at)
    → (e : Entry) (out : List ℕ) (at : ℕ) → write e out at ≡ write_entry e out at
one_writer_writes_exactly write exact e out at =
    one_writer write write_entry e out at (exact e out at) (writes_exactly e out at)

-- Writing rows: 1 for words that are no whole rows of 36, then 14 with the number of the first wrong entry and the
-- offset in it, then 15 with neither, and none of them changes a byte; else the entries' bytes stand in the front.
pub a_sheet_is_written_exactly : (rows out : List ℕ) → WritesSheetExactly write_sheet rows out
a_sheet_is_written_exactly = writes_sheet_exactly

pub one_writer_writes_sheets_exactly : (write : List ℕ → List ℕ → SheetWritten)
    → ((rows out : List ℕ) → WritesSheetExactly write rows out)
    → (rows out : List ℕ) → write rows out ≡ write_sheet rows out
one_writer_writes_sheets_exactly write exact rows out =
    one_sheet_writer write write_sheet rows out (exact rows out) (writes_sheet_exactly rows out)

-- The jobs and the spelling that the statements below speak of are those of the numerals.
pub a_valid_job_is_one_that_fits : (j : Job) → Valid j ↔ Fits j
a_valid_job_is_one_that_fits j = (valid_fits j, fits_valid j)

pub a_job_is_spelt_by_numerals : (j : Job) → Fits j → encode j ≡ spelling j
a_job_is_spelt_by_numerals = spelt_by_numerals

-- The refusals, the words of a row, the limits and the bytes of the fields that they name.
pub the_numbers_are : (cut ≡ 12) × (wrong_map ≡ 13) × (wrong_value ≡ 14) × (no_room ≡ 15) × (wrong_size ≡ 1)
    × (entry_words ≡ 36)
    × (most_names ≡ 32)
    × (most_class ≡ 15)
    × (most_grower ≡ 65535)
    × (name_bytes ≡ 4)
    × (count_bytes ≡ 1)
    × (class_bytes ≡ 1)
    × (grower_bytes ≡ 2)
the_numbers_are = (refl, refl, refl, refl, refl, refl, refl, refl, refl, refl, refl, refl, refl)

-- A NUMBER, at every width w

-- A number that w bytes can hold, where it is spelt, is read, and the rest stands just past it.
pub a_spelt_number_is_read : (w n at : ℕ) (s rest : List ℕ) → n < 256 ^ w → at ≤ length s
    → drop at s ≡ spelt w n ++ rest
    → NumberRead w s at n rest
a_spelt_number_is_read = number_there

-- What is read from w bytes is spelt by those bytes, and w bytes can hold it.
pub a_read_number_is_spelt : (w at : ℕ) (s : List ℕ) → Bytes s → at + w ≤ length s → NumberSpelt w s at
a_read_number_is_spelt = number_back

-- AN ENTRY

-- Where a valid job is spelt, whatever stands before and after it, that job is read, up to the end of its spelling.
pub a_spelt_job_is_read : (j : Job) (s rest : List ℕ) (at : ℕ) → Valid j
    → drop at s ≡ encode j ++ rest
    → (decode s at ≡ job j (at + length (encode j))) × (drop (at + length (encode j)) s ≡ rest)
a_spelt_job_is_read = entry_there

-- Where a job is read, it is valid, its spelling stands there, and reading goes on just past it, inside the sheet.
pub a_read_job_is_spelt : (s : List ℕ) (at : ℕ) (j : Job) (n : ℕ) → Bytes s → decode s at ≡ job j n
    → Valid j × (drop at s ≡ encode j ++ drop n s) × (n ≡ at + length (encode j)) × (n ≤ length s)
a_read_job_is_spelt = entry_back

-- What the writer left of an entry is read back as that entry's job.
pub a_written_entry_is_read : (e : Entry) (out : List ℕ) (start n : ℕ) → Words e
    → (write_entry e out start).answer ≡ Wrote.Done n
    → decode (write_entry e out start).out start ≡ job (job_of e) n
a_written_entry_is_read = entry_written_lem

-- The reader hands out the entry that was written, with the names past its count put to 0.
pub a_written_entry_is_handed_out : (e : Entry) (out : List ℕ) (start n : ℕ) → Words e
    → (write_entry e out start).answer ≡ Wrote.Done n
    → reading_of (decode (write_entry e out start).out start) ≡ record { answer = Read.Job n; entry = cleared e }
a_written_entry_is_handed_out = entry_reading

-- An entry that was read, written again where there is room, is the bytes that were read.
pub a_read_entry_is_written_the_same : (s : List ℕ) (at : ℕ) (j : Job) (n : ℕ) (out : List ℕ) (start : ℕ) → Bytes s
    → decode s at ≡ job j n → start + (n - at) ≤ length out
    → write_entry (entry_of j) out start
    ≡ written (Wrote.Done (start + (n - at))) (sets out start (take (n - at) (drop at s)))
a_read_entry_is_written_the_same = entry_rewritten

-- THE RUNNING PLACE of writing an entry, part after part: the map byte and the fields, those left out too

-- Before each part, and at the end, the running offset is past the bytes of the entry so far, and these were stored and
-- nothing else.
pub writing_keeps_its_offset : KeepsOffset put
writing_keeps_its_offset = keeps_offset

-- The bytes so far are those of the entry's one spelling: they, the part, and what follows it.
pub an_entry_is_its_parts : (part : Part) (j : Job) → encode j ≡ so_far part j ++ (bytes_of part j ++ behind part j)
an_entry_is_its_parts = entry_parts

-- The offsets in numbers.
pub the_offsets_are : (j : Job) (start : ℕ) → Offsets j start
the_offsets_are = offsets

-- What was written, and the offset that is answered, are what `put` leaves, part after part.
pub a_written_entry_is_its_parts_put : (e : Entry) (out : List ℕ) (start n : ℕ)
    → (write_entry e out start).answer ≡ Wrote.Done n
    → running (write_entry e out start).out n ≡ up_to put Part.end (job_of e) (running out start)
a_written_entry_is_its_parts_put = parts_put

-- Each part of a written entry that has bytes has them in the output at its offset.
pub each_part_stands_at_its_offset : (e : Entry) (out : List ℕ) (start n : ℕ) (part : Part)
    → (write_entry e out start).answer ≡ Wrote.Done n
    → take (length (bytes_of part (job_of e))) (drop (offset_of part (job_of e) start) (write_entry e out start).out)
    ≡ bytes_of part (job_of e)
each_part_stands_at_its_offset = part_there

-- An entry is refused by 14 exactly if a field is off its limits, at the offset of the first such field.
pub a_refusal_is_at_the_first_fields_offset : (e : Entry) (out : List ℕ) (start offset : ℕ) → Words e
    → (write_entry e out start).answer ≡ Wrote.Refused wrong_value offset → FirstOff e offset
a_refusal_is_at_the_first_fields_offset = refused_offset

pub the_first_field_off_its_limits_refuses : (e : Entry) (out : List ℕ) (start offset : ℕ) → Words e → FirstOff e offset
    → write_entry e out start ≡ written (Wrote.Refused wrong_value offset) out
the_first_field_off_its_limits_refuses = offset_refused

-- Within its limits it is written where there is room, and else refused by 15.
pub an_entry_within_its_limits_is_written : (e : Entry) (out : List ℕ) (start : ℕ) → Limits e
    → start + length (encode (job_of e)) ≤ length out
    → write_entry e out start
    ≡ written (Wrote.Done (start + length (encode (job_of e)))) (sets out start (encode (job_of e)))
an_entry_within_its_limits_is_written = within_written

pub an_entry_without_room_is_15 : (e : Entry) (out : List ℕ) (start : ℕ) → Limits e
    → length out < start + length (encode (job_of e))
    → write_entry e out start ≡ written (Wrote.Refused no_room 0) out
an_entry_without_room_is_15 = within_no_room

-- A SHEET

-- Valid jobs that are spelt one after the other are read back, all of them and in order.
pub a_spelt_sheet_is_read : (js : List Job) → Each Valid js → decode_sheet (encode_sheet js) ≡ jobs js
a_spelt_sheet_is_read = sheet_there

-- A sheet that is read is the spelling of its jobs, and they are valid.
pub a_read_sheet_is_spelt : (s : List ℕ) (js : List Job) → Bytes s → decode_sheet s ≡ jobs js
    → (encode_sheet js ≡ s) × Each Valid js
a_read_sheet_is_spelt = sheet_back

-- One accepted sheet has one spelling: two with the same jobs are the same bytes.
pub one_sheet_one_spelling : (s t : List ℕ) (js : List Job) → Bytes s → Bytes t → decode_sheet s ≡ jobs js
    → decode_sheet t ≡ jobs js → s ≡ t
one_sheet_one_spelling = one_spelling

-- What the writer left of a row of entries is read back as their jobs, all of them and in order.
pub a_written_sheet_is_read : (rows out : List ℕ) (k n : ℕ) → Below (2 ^ 32) rows
    → (write_sheet rows out).answer ≡ SheetWrote.Done k n
    → decode_sheet (take n (write_sheet rows out).out) ≡ jobs (map job_of (entries_of rows))
a_written_sheet_is_read = sheet_written_lem

-- A sheet that was read into rows, the filled rows written again where there is room, is the same bytes.
pub a_read_sheet_is_written_the_same : (s : List ℕ) (js : List Job) (rows out : List ℕ) → Bytes s
    → decode_sheet s ≡ jobs js
    → entry_words * length js ≤ length rows → length s ≤ length out
    → write_sheet (take (entry_words * length js) (read_sheet (decode_sheet s) rows).rows) out
    ≡ sheet_written (SheetWrote.Done (length js) (length s)) (sets out 0 s)
a_read_sheet_is_written_the_same = sheet_rewritten

-- The same for rows that the jobs fill exactly.
pub a_read_sheet_is_written_the_same_exactly : (s : List ℕ) (js : List Job) (rows out : List ℕ) → Bytes s
    → decode_sheet s ≡ jobs js → entry_words * length js ≡ length rows → length s ≤ length out
    → write_sheet (read_sheet (decode_sheet s) rows).rows out
    ≡ sheet_written (SheetWrote.Done (length js) (length s)) (sets out 0 s)
a_read_sheet_is_written_the_same_exactly = sheet_rewritten_exactly

-- Each entry of a written sheet stands in the output behind the bytes of those before it.
pub each_entry_stands_at_its_offset : (rows out : List ℕ) (i n bytes : ℕ) → i < length rows / entry_words
    → (write_sheet rows out).answer ≡ SheetWrote.Done n bytes
    → take (length (encode (job_of (entry_at rows i)))) (drop (length (sheet_so_far rows i)) (write_sheet rows out).out)
    ≡ encode (job_of (entry_at rows i))
each_entry_stands_at_its_offset = entry_stands_there

-- Words that are no whole number of rows are refused by 1, before anything else is judged.
pub cut_rows_are_1 : (rows out : List ℕ) → length rows % entry_words ≢ 0
    → write_sheet rows out ≡ sheet_written (SheetWrote.Refused wrong_size 0 0) out
cut_rows_are_1 = cut_refused

-- Whole rows are refused by 14 exactly if an entry has a field off its limits, at the first such entry.
pub a_sheet_is_refused_at_its_first_wrong_entry : (rows : List ℕ) → Below (2 ^ 32) rows → (out : List ℕ) (i offset : ℕ)
    → (write_sheet rows out).answer ≡ SheetWrote.Refused wrong_value i offset → FirstWrong rows i offset
a_sheet_is_refused_at_its_first_wrong_entry = refused_first_lem

pub the_first_wrong_entry_refuses_a_sheet : (rows : List ℕ) → Below (2 ^ 32) rows → (out : List ℕ) (i offset : ℕ)
    → length rows % entry_words ≡ 0 → FirstWrong rows i offset
    → write_sheet rows out ≡ sheet_written (SheetWrote.Refused wrong_value i offset) out
the_first_wrong_entry_refuses_a_sheet = first_refused

-- Whole rows with every entry within its limits are written where there is room, and else refused by 15.
pub a_sheet_within_its_limits_is_written : (rows : List ℕ)
    → ((i : ℕ) → i < length rows / entry_words → Limits (entry_at rows i))
    → (out : List ℕ) → length rows % entry_words ≡ 0 → length (sheet_bytes rows) ≤ length out
    → write_sheet rows out
    ≡ sheet_written (SheetWrote.Done (length rows / entry_words) (length (sheet_bytes rows)))
    (sets out 0 (sheet_bytes rows))
a_sheet_within_its_limits_is_written = sheet_fits

pub a_sheet_without_room_is_15 : (rows : List ℕ)
    → ((i : ℕ) → i < length rows / entry_words → Limits (entry_at rows i))
    → (out : List ℕ) → length rows % entry_words ≡ 0 → length out < length (sheet_bytes rows)
    → write_sheet rows out ≡ sheet_written (SheetWrote.Refused no_room 0 0) out
a_sheet_without_room_is_15 = sheet_no_room

-- REFUSALS

-- A refused writing of an entry leaves the output as it was.
pub a_refused_entry_changes_nothing : (e : Entry) (out : List ℕ) (start c a : ℕ)
    → (write_entry e out start).answer ≡ Wrote.Refused c a → (write_entry e out start).out ≡ out
a_refused_entry_changes_nothing = entry_refused

-- A refused writing of a sheet leaves the output as it was, also where the refusal is midway.
pub a_refused_sheet_changes_nothing : (rows out : List ℕ) (c i a : ℕ)
    → (write_sheet rows out).answer ≡ SheetWrote.Refused c i a
    → (write_sheet rows out).out ≡ out
a_refused_sheet_changes_nothing = sheet_refused

-- A refused reading of a sheet leaves the rows as they were.
pub a_refused_reading_changes_nothing : (sheet : Sheet) (rows : List ℕ) (c a : ℕ)
    → (read_sheet sheet rows).answer ≡ Err (refusal c a) → (read_sheet sheet rows).rows ≡ rows
a_refused_reading_changes_nothing = rows_refused

-- CASES

-- docs/RULES.md's case 8, its sheet of 29 bytes, and rows for its rules of reading, with the fault in the first entry
-- and in the second, and of writing, are as it says.
pub the_cases_hold : Hold case_8 × Hold whole_sheets × Hold rules × Hold second_entries × FaultsHold faults
the_cases_hold = cases_hold
