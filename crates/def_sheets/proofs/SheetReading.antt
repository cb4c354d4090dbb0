-- Whole sheets, and the rows that they are read into, are read exactly as Reading.antt says (docs/SHEETS.md,
-- "Reading").
use Rattle.std.specs.Prelude.{ℕ, zero, suc, ◌+◌, ◌*◌, ◌≤◌, ◌<◌, ◌≡◌, refl, List, [], ◌∷◌, ◌++◌, length, drop}
use Rattle.std.proofs.Common.{sym, ◌∙◌, arith, le-leb}
use Rattle.std.proofs.Math.Decide.{dec_lt, dec_le}
use Rattle.std.proofs.lemmas.List.Edits.{sets, sets-eq}
use Rattle.std.proofs.lemmas.Bool.{lt-leb}
use Rattle.def_basics.specs.Laws.{never}
use Rattle.def_sheets.specs.Job.{Job}
use Rattle.def_sheets.specs.Decode.{SheetRead}
use Rattle.def_sheets.specs.Decode.{SheetRows, Decoded, job, end, refused, decode, Sheet, jobs, broken, before}
use Rattle.def_sheets.specs.Decode.{onward, decode_from, decode_sheet, rows_of, scan_sheet, read_sheet}
use Rattle.def_sheets.proofs.NumberLaws.{Bytes}
use Rattle.def_sheets.proofs.EntryTrip.{end_there, end_back}
use Rattle.def_sheets.proofs.SheetTrip.{Each}
use Rattle.def_sheets.proofs.RewriteTrip.{Short, length_rows_of}
use Rattle.def_sheets.proofs.CodeLaws.{entry_bounds}
use Rattle.def_sheets.specs.Reading.{SpeltAt, Faulty, ReadsFrom, BrokenFrom, SheetReadsExactly, ScansExactly}
use Rattle.def_sheets.specs.Reading.{rows_for, RowsReadExactly}
use Rattle.def_sheets.proofs.ReadingLaws.{spelt_read, read_spelt, faulty_refused, refused_faulty}

-- a job's spelling has bytes, and they are the sheet's
spelt_inside : (s : List ℕ) (at : ℕ) (j : Job) (n : ℕ) → SpeltAt s at j n → (n ≤ length s) × (at < n)
spelt_inside s at j n f =
    let b = entry_bounds s at j n (spelt_read s at j n f) in
    (b.inside, omega (arith, b.least))

-- THERE: what is so is told

faulty_inside : (s : List ℕ) (at number offset : ℕ) → Faulty s at number offset → at < length s
faulty_inside s at number offset f =
    elim (dec_lt at (length s)) [
      | yes inside ↦ inside
      | no past ↦
          let e = end_there s at (omega arith) in
          let r = faulty_refused s at number offset f in
          never (cc)
    ]

from_told : (k : ℕ) (s : List ℕ) (at : ℕ) (ks : List Job) → length s ≤ at + k → ReadsFrom s at ks
    → decode_from k s at ≡ jobs ks
unfolding decode_from
from_told zero s at ks enough (ReadsFrom.none ends) = refl
from_told (suc k) s at ks enough (ReadsFrom.none ends) = rw (end_there s at (omega arith))
from_told zero s at ks enough (ReadsFrom.more {n} {j} {js} f rest) =
    let i = spelt_inside s at j n f in absurd (omega arith)
from_told (suc k) s at ks enough (ReadsFrom.more {n} {j} {js} f rest) =
    let i = spelt_inside s at j n f in
    rw (spelt_read s at j n f, from_told k s n js (omega arith) rest)

from_broken : (k : ℕ) (s : List ℕ) (at number offset : ℕ) → length s ≤ at + k → BrokenFrom s number offset at
    → decode_from k s at ≡ broken number offset
unfolding decode_from
from_broken zero s at number offset enough (BrokenFrom.here f) =
    let i = faulty_inside s at number offset f in absurd (omega arith)
from_broken (suc k) s at number offset enough (BrokenFrom.here f) = rw (faulty_refused s at number offset f)
from_broken zero s at number offset enough (BrokenFrom.later {n} {j} f rest) =
    let i = spelt_inside s at j n f in absurd (omega arith)
from_broken (suc k) s at number offset enough (BrokenFrom.later {n} {j} f rest) =
    let i = spelt_inside s at j n f in
    rw (spelt_read s at j n f, from_broken k s n number offset (omega arith) rest)

-- BACK: what is told is so

abbrev Told : List ℕ → ℕ → Sheet → Type 0
Told s at (jobs js) = ReadsFrom s at js
Told s at (broken number offset) = BrokenFrom s number offset at

told_on : (s : List ℕ) (at n : ℕ) (j : Job) (rest : Sheet) → SpeltAt s at j n → Told s n rest
    → Told s at (before j rest)
told_on s at n j (jobs js) f t = ReadsFrom.more f t
told_on s at n j (broken number offset) f t = BrokenFrom.later f t

from_is : (k : ℕ) (s : List ℕ) → Bytes s → (at : ℕ) → at ≤ length s → length s ≤ at + k → Told s at (decode_from k s at)
unfolding decode_from
from_is zero s all at inside enough = let e : at ≡ length s = omega arith in ReadsFrom.none e
from_is (suc k) s all at inside enough = by_entry (decode s at) refl (from_is k s all)
  where
    by_entry : (d : Decoded) → decode s at ≡ d
        → ((n : ℕ) → n ≤ length s → length s ≤ n + k → Told s n (decode_from k s n))
        → Told s at (onward d (decode_from k s))
    by_entry (job j n) e on =
        let f = read_spelt s all at j n e in
        let i = spelt_inside s at j n f in
        told_on s at n j (decode_from k s n) f (on n i.0 (omega arith))
    by_entry end e on =
        let past = end_back s at e in
        let q : at ≡ length s = omega arith in
        ReadsFrom.none q
    by_entry (refused number offset) e on = BrokenFrom.here (refused_faulty s all at number offset e)

pub sheet_told_lem : (s : List ℕ) (js : List Job) → ReadsFrom s 0 js → decode_sheet s ≡ jobs js
unfolding decode_sheet
sheet_told_lem s js f = from_told (length s) s 0 js (omega arith) f

pub sheet_broken : (s : List ℕ) (number offset : ℕ) → BrokenFrom s number offset 0
    → decode_sheet s ≡ broken number offset
unfolding decode_sheet
sheet_broken s number offset f = from_broken (length s) s 0 number offset (omega arith) f

sheet_is : (s : List ℕ) → Bytes s → Told s 0 (decode_sheet s)
unfolding decode_sheet
sheet_is s all = from_is (length s) s all 0 (omega arith) (omega arith)

pub sheet_reads_exactly : (s : List ℕ) → Bytes s → SheetReadsExactly decode_sheet s
sheet_reads_exactly s all =
    let t = sheet_is s all in
    record {
      whole = λ js. ((λ e. rw e at t), sheet_told_lem s js);
      faulty = λ number offset. ((λ e. rw e at t), sheet_broken s number offset);
    }

pub one_sheet_reader : (read other : List ℕ → Sheet) (s : List ℕ) → SheetReadsExactly read s
    → SheetReadsExactly other s → read s ≡ other s
one_sheet_reader read other s r o = by_answer (read s) refl
  where
    by_answer : (d : Sheet) → read s ≡ d → d ≡ other s
    by_answer (jobs js) e = sym ((o.whole js).1 ((r.whole js).0 e))
    by_answer (broken c a) e = sym ((o.faulty c a).1 ((r.faulty c a).0 e))

pub scans_exactly : (s : List ℕ) → ScansExactly (λ t. scan_sheet (decode_sheet t)) s
scans_exactly s =
    record {
      whole = λ js f. rw (sheet_told_lem s js f);
      faulty = λ number offset f. rw (sheet_broken s number offset f);
    }

-- ROWS

rows_same : (js : List Job) → rows_of js ≡ rows_for js
unfolding rows_of rows_for
rows_same [] = refl
rows_same (j ∷ js) = rw (rows_same js)

short_jobs : (s : List ℕ) (at : ℕ) (ks : List Job) → ReadsFrom s at ks → Each Short ks
short_jobs s at ks (ReadsFrom.none ends) = Each.none
short_jobs s at ks (ReadsFrom.more {n} {j} {js} f rest) = Each.more f.fits.count (short_jobs s n js rest)

rows_front : (js : List Job) (lent : List ℕ) → Each Short js → 36 * length js ≤ length lent
    → sets lent 0 (rows_of js) ≡ rows_for js ++ drop (36 * length js) lent
rows_front js lent short room =
    let k = length_rows_of js short in
    let q : 0 + length (rows_of js) ≡ 36 * length js = omega arith in
    sets-eq (rows_of js) lent 0 (omega arith) ∙ rw (q, rows_same js)

pub rows_exactly : (s lent : List ℕ) → RowsReadExactly (λ t rows. read_sheet (decode_sheet t) rows) s lent
rows_exactly s lent =
    record {
      faulty = λ number offset f. rw (sheet_broken s number offset f);
      no_room_lem = λ js f short. rw (sheet_told_lem s js f, lt-leb (36 * length js) (length lent) short);
      whole = λ js f room.
          let front = rows_front js lent (short_jobs s 0 js f) room in
          rw (sheet_told_lem s js f, le-leb (36 * length js) (length lent) room, front);
    }

-- no two do: a sheet of bytes is broken or has its jobs
pub one_scanner : (scan other : List ℕ → SheetRead) (s : List ℕ) → Bytes s → ScansExactly scan s → ScansExactly other s
    → scan s ≡ other s
one_scanner scan other s all r o = by_told (decode_sheet s) (sheet_is s all)
  where
    by_told : (d : Sheet) → Told s 0 d → scan s ≡ other s
    by_told (jobs js) t = r.whole js t ∙ sym (o.whole js t)
    by_told (broken number offset) t = r.faulty number offset t ∙ sym (o.faulty number offset t)

pub one_row_reader : (read other : List ℕ → List ℕ → SheetRows) (s lent : List ℕ) → Bytes s
    → RowsReadExactly read s lent
    → RowsReadExactly other s lent → read s lent ≡ other s lent
one_row_reader read other s lent all r o = by_told (decode_sheet s) (sheet_is s all)
  where
    by_told : (d : Sheet) → Told s 0 d → read s lent ≡ other s lent
    by_told (jobs js) t =
        elim (dec_le (36 * length js) (length lent)) [
          | yes room ↦ r.whole js t room ∙ sym (o.whole js t room)
          | no short ↦ r.no_room_lem js t (omega arith) ∙ sym (o.no_room_lem js t (omega arith))
        ]
    by_told (broken number offset) t = r.faulty number offset t ∙ sym (o.faulty number offset t)
