-- Laws of the loop that stores a sheet's rows: what is left to store makes the whole.
use Prim.Native.Nat.{ℕ, ◌+◌, ◌*◌, ◌-◌, ◌≤◌, ◌<◌}
use mathlib.Core.Path.{◌≡◌, refl, sym, ap, ◌∙◌}
use mathlib.Core.List.{List, [], ◌∷◌}
use native.Mathlib.Omega.{arith}
use lib.ListN.{length, length-append, length-replicate, replicate}
use lib.Seq.{sets, sets-eq, length-sets}
use borrow.Rule.Slice.PartMut.{mid_of, put_mid}
use Rattle.std.proofs.lemmas.List.{drop-drop}
use Rattle.std.proofs.Common.{append_assoc, drop, length-drop, length-take-le}
use borrow.Author.Tests.{le-leb, lt-leb}
use Rattle.def_numbers.specs.Numbers.{most_names, entry_words, no_room}
use Rattle.def_basics.specs.Laws.{never}
use Rattle.def_basics.specs.Stores.{sets_append}
use Rattle.def_sheets.specs.Job.{Job}
use Rattle.def_sheets.specs.Decode.{job, end, refused, decode, Sheet, jobs, broken, before, decode_sheet, scan_sheet}
use Rattle.def_sheets.specs.Decode.{row_of, rows_of, sheet_rows, read_sheet}
use Rattle.std.specs.Prelude.{Ok, Err}
use Rattle.def_sheets.specs.Decode.{SheetRead, refusal}
use Rattle.entry_scan.proofs.Entries.{stands}
use Rattle.sheet_scan.proofs.Sheets.{rest, rest_start, rest_on}

-- a sheet of jobs that was counted
pub counted_jobs_lem : (t : Sheet) (n : ℕ) {P : Type 0} → scan_sheet t ≡ Ok n
    → ((js : List Job) → t ≡ jobs js → length js ≡ n → P) → P
counted_jobs_lem (jobs js) n h onward = onward js refl (cc)
counted_jobs_lem (broken c a) n h onward = never (cc)

-- the answers that leave the rows as they were
pub read_refused : (t : Sheet) (rows : List ℕ) (c a : ℕ) → scan_sheet t ≡ Err (refusal c a)
    → sheet_rows (Err (refusal c a)) rows ≡ read_sheet t rows
read_refused (jobs js) rows c a h = never (cc)
read_refused (broken c' a') rows c a h = ap (λ (r : SheetRead). sheet_rows r rows) (sym h)

pub read_no_room : (t : Sheet) (rows : List ℕ) (n : ℕ) → scan_sheet t ≡ Ok n → length rows < entry_words * n
    → sheet_rows (Err (refusal no_room 0)) rows ≡ read_sheet t rows
read_no_room t rows n h few =
    counted_jobs_lem t n h λ js e k. rw (e, lt-leb (entry_words * length js) (length rows) (omega arith))

-- the jobs of the sheet, and those whose rows are still to be stored
pub record Left (s rows₀ rows : List ℕ) (at from : ℕ) : Type 0 where
  pub all : List Job
  pub sheet : decode_sheet s ≡ jobs all
  pub left : List Job
  pub behind : rest s at ≡ jobs left
  pub inside : at ≤ length s
  pub room : from + entry_words * length left ≤ length rows
  pub same : length rows ≡ length rows₀
  pub stored : sets rows from (rows_of left) ≡ sets rows₀ 0 (rows_of all)

pub left_start : (s rows : List ℕ) (n : ℕ) → scan_sheet (decode_sheet s) ≡ Ok n
    → entry_words * n ≤ length rows → Left s rows rows 0 0
left_start s rows n h room =
    counted_jobs_lem (decode_sheet s) n h λ js e k.
    record {
      all = js;
      sheet = e;
      left = js;
      behind = rest_start s ∙ e;
      inside = omega arith;
      room = omega arith;
      same = refl;
      stored = refl;
    }

-- one job more
first : (j : Job) (t : Sheet) (js : List Job) {P : Type 0} → before j t ≡ jobs js
    → ((ks : List Job) → js ≡ j ∷ ks → t ≡ jobs ks → P) → P
first j (jobs ks) js h onward = onward ks (cc) refl
first j (broken c a) js h onward = never (cc)

row_length : (j : Job) → length j.list ≤ most_names → length (row_of j) ≡ entry_words
row_length j h =
    let a = length-append j.list (replicate (most_names - length j.list) 0) in
    let b = length-replicate {A = ℕ} (most_names - length j.list) 0 in
    omega arith

-- the words of a row
pub row_words : (from : ℕ) (rows : List ℕ) → from + entry_words ≤ length rows
    → length (mid_of from (from + entry_words - from) rows) ≡ entry_words
row_words from rows h =
    let q : from + entry_words - from ≡ entry_words = omega arith in
    rw q (length-take-le entry_words (drop from rows) (omega (arith, length-drop from rows)))

-- a row that is put in its place is stored there
row_put : (from : ℕ) (rows row : List ℕ) → length row ≡ entry_words → from + entry_words ≤ length rows
    → put_mid from (from + entry_words - from) rows row ≡ sets rows from row
row_put from rows row e h =
    let q : from + entry_words - from ≡ length row = omega arith in
    rw q (rw (drop-drop, ← append_assoc) (sym (sets-eq row rows from (omega arith))))

module _ {s rows₀ rows : List ℕ} {at from : ℕ} (l : Left s rows₀ rows at from) where
  module _ {j : Job} {n : ℕ} (e : decode s at ≡ job j n) where
    on : before j (rest s n) ≡ jobs l.left
    on = rw e at (sym (rest_on s at) ∙ l.behind)

    pub left_room : from + entry_words ≤ length rows
    left_room = first j (rest s n) l.left on λ ks k b. omega (arith, ap length k, l.room)

    pub left_more : {row : List ℕ} → length j.list ≤ most_names → row ≡ row_of j
        → Left s rows₀ (put_mid from (from + entry_words - from) rows row) n (from + entry_words)
    unfolding rows_of
    left_more {row} c e' =
        first j (rest s n) l.left on λ ks k b.
        let q = ap length k in
        let r = l.room in
        let m = l.same in
        let x = row_length j c in
        let f = row_put from rows (row_of j) x left_room in
        let i = length-sets rows from (row_of j) in
        rw (e', f) record {
          all = l.all;
          sheet = l.sheet;
          left = ks;
          behind = b;
          inside = (stands s at j n e).1.within;
          room = omega arith;
          same = omega arith;
          stored = sets_append rows (row_of j) (rows_of ks) from (from + entry_words) (omega arith) ∙ (rw k at l.stored);
        }

  -- the whole is stored where nothing is left
  pub left_none : {n : ℕ} → decode s at ≡ end → scan_sheet (decode_sheet s) ≡ Ok n
      → entry_words * n ≤ length rows₀ → sheet_rows (Ok n) rows ≡ read_sheet (decode_sheet s) rows₀
  unfolding rows_of
  left_none {n} e h room =
      let r : jobs [] ≡ jobs l.left = rw e at (sym (rest_on s at) ∙ l.behind) in
      let k : l.left ≡ [] = cc in
      let g : Ok (length l.all) ≡ Ok n = rw l.sheet at h in
      let q : length l.all ≡ n = cc in
      let x : rows ≡ sets rows₀ 0 (rows_of l.all) = rw k at l.stored in
      rw (l.sheet, le-leb (entry_words * length l.all) (length rows₀) (omega arith), q, ← x)

  -- a sheet of jobs has no refusal
  pub left_refused : {c a : ℕ} → decode s at ≡ refused c a → ⊥
  left_refused {c} {a} e =
      let r : broken c a ≡ jobs l.left = rw e at (sym (rest_on s at) ∙ l.behind) in
      never (cc)

  -- so what is said of an entry that is no refusal holds of each entry
  pub left_sound : {P : Type 0} → (((number offset : ℕ) → decode s at ≡ refused number offset → ⊥) → P) → P
  left_sound said = said λ number offset e. left_refused e
