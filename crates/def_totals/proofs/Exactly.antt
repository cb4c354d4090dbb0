-- For ALL minute values and ALL rows, damaged ones too: what a board by minutes that a host gives must answer, of any
-- board. Follows docs/RULES.md, "The board and the day list" and "Turned-away calls". (Wrong/Boards.antt has boards
-- that do not.)
use Rattle.std.specs.Prelude.{◌≡◌, refl, Bool, true, false, ◌&&◌, List, [], ◌∷◌, ℕ, zero, suc, ◌+◌, ◌%◌, ◌≤◌, ◌<◌, leb, ltb, eqb, length, get_or}
use Rattle.std.proofs.Common.{sym, ap, arith, leb-true, ltb-true, le-leb, le-ltb, lt-ltb}
use Rattle.def_numbers.specs.Numbers.{wrong_size, damaged, wrong_minutes, most_records}
use Rattle.def_basics.specs.Base.{pick}
use Rattle.def_basics.specs.Laws.{fails}
use Rattle.def_minutes.specs.Minutes.{minutes_in, fixed_minutes}
use Rattle.def_minutes.specs.Rising.{is_rising, SixteenRising, rising_means}
use Rattle.def_minutes.specs.Judged.{fixed_passes}
use Rattle.def_totals.specs.declared.JobRecord.{JobRecord}
use Rattle.def_totals.specs.declared.Totals.{Totals}
use Rattle.def_totals.specs.Board.{sum_over, under, one_job, its_minutes, jobs_under, minutes_under, well_formed}
use Rattle.def_totals.specs.Board.{all_well_formed, refused, counted, totals_of, totals_by, rows_of_words}
use Rattle.def_totals.specs.Board.{totals_of_words}

pub unrising : (m : List ℕ) → (SixteenRising m → ⊥) → is_rising m ≡ false
unrising m f = fails (is_rising m) (rising_means m).0 f

-- the label is 0 to 2 and the class 0 to 15
abbrev pub RightRecord : JobRecord → Type 0
RightRecord r = (r.label ≤ 2) × (r.class ≤ 15)

-- past the row
abbrev pub no_record : JobRecord
no_record = record { label = 0; class = 0 }

-- ---- sums over jobs by their number
-- of the first n jobs
unfoldable pub over_jobs : (ℕ → ℕ) → ℕ → ℕ
over_jobs amount zero = 0
over_jobs amount (suc n) = over_jobs amount n + amount n

-- how many records of a row have a label, and their minutes by a table
abbrev pub jobs_at : List JobRecord → ℕ → ℕ
jobs_at rows l = over_jobs (λ k. pick (eqb (get_or rows k no_record).label l) 1 0) (length rows)

abbrev pub minutes_at : List ℕ → List JobRecord → ℕ → ℕ
minutes_at table rows l =
    over_jobs (λ k. pick (eqb (get_or rows k no_record).label l) (get_or table (get_or rows k no_record).class 0) 0)
    (length rows)

-- 1 for more than 4,096 records; values that "are not sixteen, do not rise strictly or leave 1 to 1,440" are "turned
-- away by 17, after 1 and before 9"; 9 for "a wrong label or class", "wherever it stands in the row"; else the jobs and
-- the minutes under each label, by the values
pub record RowsExactly (board : List ℕ → List JobRecord → Totals) (table : List ℕ) (rows : List JobRecord)
    : Type 0 where
  pub by_1 : 4096 < length rows → board table rows ≡ refused wrong_size
  pub by_17 : length rows ≤ 4096 → (SixteenRising table → ⊥) → board table rows ≡ refused wrong_minutes
  pub by_9 : length rows ≤ 4096 → SixteenRising table → (k : ℕ) → k < length rows
      → (RightRecord (get_or rows k no_record) → ⊥)
      → board table rows ≡ refused damaged
  pub serves : length rows ≤ 4096 → SixteenRising table
      → ((k : ℕ) → k < length rows → RightRecord (get_or rows k no_record))
      → board table rows
      ≡ record {
        number = 0;
        jobs = jobs_at rows 0 ∷ jobs_at rows 1 ∷ jobs_at rows 2 ∷ [];
        minutes = minutes_at table rows 0 ∷ minutes_at table rows 1 ∷ minutes_at table rows 2 ∷ [];
      }

-- ---- a row passes its test exactly if each of its records is right
right_passes : (r : JobRecord) → RightRecord r → well_formed r ≡ true
right_passes r h = rw (le-leb r.label 2 h.0, lt-ltb r.class 16 (omega (arith, h.1)))

passes_right : (r : JobRecord) → well_formed r ≡ true → RightRecord r
passes_right r = by (leb r.label 2) (ltb r.class 16) refl refl
  where
    by : (a b : Bool) → leb r.label 2 ≡ a → ltb r.class 16 ≡ b → a && b ≡ true → RightRecord r
    by true true x y e = (leb-true r.label 2 x, let l = ltb-true r.class 16 y in omega (arith, l))
    by true false x y e = let z : ◌≡◌ {A = ℕ} 0 1 = cc in absurd (omega arith)
    by false b x y e = let z : ◌≡◌ {A = ℕ} 0 1 = cc in absurd (omega arith)

row_right : (rows : List JobRecord) → ((k : ℕ) → k < length rows → RightRecord (get_or rows k no_record))
    → all_well_formed rows ≡ true
unfolding all_well_formed
row_right [] h = refl
row_right (r ∷ rows) h =
    rw (right_passes r (h 0 (omega arith)), row_right rows (λ k l. h (suc k) (omega arith)))

row_wrong : (rows : List JobRecord) (k : ℕ) → k < length rows → (RightRecord (get_or rows k no_record) → ⊥)
    → all_well_formed rows ≡ false
unfolding all_well_formed
row_wrong [] k h wrong = absurd (omega arith)
row_wrong (r ∷ rows) zero h wrong = rw (fails (well_formed r) (passes_right r) wrong)
row_wrong (r ∷ rows) (suc k) h wrong = rw (row_wrong rows k (omega arith) wrong) (last (well_formed r))
  where
    last : (a : Bool) → a && false ≡ false
    last true = refl
    last false = refl

-- ---- a sum along a row is one by numbers
first_job_lem : (f : ℕ → ℕ) (n : ℕ) → over_jobs f (suc n) ≡ f 0 + over_jobs (λ k. f (suc k)) n
unfolding over_jobs
first_job_lem f zero = omega arith
first_job_lem f (suc n) = omega (arith, first_job_lem f n)

by_numbers : (amount : JobRecord → ℕ) (rows : List JobRecord)
    → sum_over amount rows ≡ over_jobs (λ k. amount (get_or rows k no_record)) (length rows)
unfolding over_jobs sum_over
by_numbers amount [] = refl
by_numbers amount (r ∷ rows) =
    rw (by_numbers amount rows) (sym (first_job_lem (λ k. amount (get_or (r ∷ rows) k no_record)) (length rows)))

by_jobs : (rows : List JobRecord) (l : ℕ) → jobs_under l rows ≡ jobs_at rows l
by_jobs rows l = by_numbers (under l one_job) rows

by_minutes : (table : List ℕ) (rows : List JobRecord) (l : ℕ) → minutes_under table l rows ≡ minutes_at table rows l
unfolding minutes_in
by_minutes table rows l = by_numbers (under l (its_minutes table)) rows

-- ---- the board by a host's minutes does it
pub rows_exactly : (table : List ℕ) (rows : List JobRecord) → RowsExactly totals_by table rows
unfolding totals_by totals_of counted
rows_exactly table rows = record {
  by_1 = λ h. rw (lt-ltb 4096 (length rows) h);
  by_17 = λ h u. rw (few h, unrising table u);
  by_9 = λ h r k l wrong. rw (few h, (rising_means table).1 r, row_wrong rows k l wrong);
  serves = λ h r right.
      rw (
        few h,
        (rising_means table).1 r,
        row_right rows right,
        by_jobs rows 0,
        by_jobs rows 1,
        by_jobs rows 2,
        by_minutes table rows 0,
        by_minutes table rows 1,
        by_minutes table rows 2,
      );
}
  where
    few : length rows ≤ 4096 → ltb most_records (length rows) ≡ false
    few h = le-ltb 4096 (length rows) h

-- the board by the fixed minutes is the board by these values
pub fixed_rows : (rows : List JobRecord) → totals_of fixed_minutes rows ≡ totals_by fixed_minutes rows
unfolding totals_by totals_of
fixed_rows rows = rw fixed_passes (by (ltb most_records (length rows)))
  where
    given : Bool → Totals
    given many =
        pick many (refused wrong_size) (pick (all_well_formed rows) (counted fixed_minutes rows) (refused damaged))

    by : (many : Bool) → given many ≡ pick many (refused wrong_size) (given many)
    by true = refl
    by false = refl

-- ---- a row as words: the label and the class of each record, one after another
unfoldable pub record_words : List JobRecord → List ℕ
record_words [] = []
record_words (r ∷ rows) = r.label ∷ r.class ∷ record_words rows

words_even : (rows : List JobRecord) → length (record_words rows) % 2 ≡ 0
unfolding record_words
words_even [] = refl
words_even (r ∷ rows) = omega (arith, words_even rows)

words_back : (rows : List JobRecord) → rows_of_words (record_words rows) ≡ rows
unfolding record_words rows_of_words
words_back [] = refl
words_back (r ∷ rows) = ap (λ (l : List JobRecord). r ∷ l) (words_back rows)

-- the board on them is the board on the row,
pub words_exactly : (table : List ℕ) (rows : List JobRecord)
    → totals_of_words table (record_words rows) ≡ totals_of table rows
unfolding totals_of_words
words_exactly table rows = rw (words_even rows, words_back rows)

-- and words that make no whole records are 1
pub odd_words : (table words : List ℕ) → length words % 2 ≡ 1 → totals_of_words table words ≡ refused wrong_size
unfolding totals_of_words
odd_words table words e = rw e
