-- The records that stand in a table of words: how many, which, and what one more does to the running totals; and a row
-- of words as such a table. docs/RULES.md, "The board and the day list".
use Rattle.std.specs.Prelude.{Result, Ok, Err}
use Rattle.std.specs.Result.{IsErrAnd}
use Rattle.std.proofs.Common.{◌≡◌, ℕ, zero, suc, ◌+◌, ◌*◌, ◌%◌, ◌<◌, ◌≤◌, Bool, true, false, ◌&&◌, ltb, leb, List, [], ◌∷◌, length, get_or, sym, refl, ◌∙◌, add-zero, add-suc, suc-add, zero-add, arith, ext_get_or, ltb-true, lt-ltb, eq-eqb, ne_eqb, le-leb, leb-false, leb-true}
use mathlib.Core.Bool.{and-eq-true_iff}
use Rattle.def_numbers.specs.Numbers.{wrong_size, accepted, most_records}
use Rattle.def_basics.specs.Base.{pick}
use Rattle.def_minutes.specs.Rising.{Rising}
use Rattle.def_numbers.specs.declared.refusal.Refusal.{Refusal}
use Rattle.def_totals.specs.Told.{told_totals}
use Rattle.def_totals.specs.declared.Board.{Board}
use Rattle.def_totals.specs.declared.JobRecord.{JobRecord}
use Rattle.def_totals.specs.declared.Totals.{Totals}
use Rattle.def_totals.specs.Board.{refused, totals_of, records_from, record_at}
use Rattle.def_totals.specs.Board.{rows_of_table, stands_in_table, totals_of_table, rows_of_words, totals_of_words}
use Rattle.totals_step.specs.Step.{with_record}
use Rattle.totals_of_words.specs.Standing.{standing}
use Rattle.totals_of_words.specs.declared.Shape.{Shape}
use Rattle.totals_step.proofs.Running.{Running, start, next, last, too_many_lem, leaves_with}

-- ---- a row of records made by their number
pub from_length : (f : ℕ → JobRecord) (i n : ℕ) → length (records_from f i n) ≡ n
unfolding records_from
from_length f i zero = refl
from_length f i (suc n) = rw (from_length f (suc i) n)

from_at : (f : ℕ → JobRecord) (i n k : ℕ) (d : JobRecord) → k < n → get_or (records_from f i n) k d ≡ f (i + k)
unfolding records_from
from_at f i zero k d h = absurd (omega arith)
from_at f i (suc n) zero d h = rw (add-zero i)
from_at f i (suc n) (suc k) d h = rw (add-suc i k, ← suc-add i k) (from_at f (suc i) n k d (omega arith))

zeros : JobRecord
zeros = record { label = 0; class = 0 }

-- ---- the row that stands in a table of words
abbrev pub its_rows : Shape → List ℕ → ℕ → List JobRecord
its_rows s words count = rows_of_table s.head s.width s.label s.class words count

abbrev pub its_totals : List ℕ → Shape → List ℕ → ℕ → Totals
its_totals table s words count = totals_of_table table s.head s.width s.label s.class words count

abbrev its_stand : Shape → ℕ → ℕ → Bool
its_stand s size count = standing s.head s.width s.label s.class size count

-- what is known of the numbers of a table in which a row stands
pub record Stands (s : Shape) (size count : ℕ) : Type 0 where
  pub few : count ≤ most_records
  pub labelled : s.label < s.width
  pub classed : s.class < s.width
  pub long : s.head + s.width * count ≤ size

pub stands_as : (s : Shape) (size count : ℕ) {b : Bool} → b ≡ its_stand s size count → b ≡ true → Stands s size count
stands_as s size count is taken =
    let one = (and-eq-true_iff (leb count most_records) _).0 (sym is ∙ taken) in
    let two = (and-eq-true_iff (ltb s.label s.width) _).0 one.1 in
    let three = (and-eq-true_iff (ltb s.class s.width) (leb (s.head + s.width * count) size)).0 two.1 in
    record {
      few = leb-true count most_records one.0;
      labelled = ltb-true s.label s.width two.0;
      classed = ltb-true s.class s.width three.0;
      long = leb-true (s.head + s.width * count) size three.1;
    }

module _ (table : List ℕ) (s : Shape) (words : List ℕ) (count : ℕ) where
  its_length : length (its_rows s words count) ≡ count
  its_length = from_length (record_at s.head s.width s.label s.class words) 0 count

  refused_if_lem : {t : Totals} (few stand : Bool) → leb count most_records ≡ few → (few && stand) ≡ false
      → t ≡ refused wrong_size
      → t ≡ pick stand (totals_of table (its_rows s words count)) (refused wrong_size)
  refused_if_lem true false h k e = e
  refused_if_lem true true h k e = let z : true ≡ false = k in cc
  refused_if_lem false false h k e = e
  refused_if_lem false true h k e =
      let many : most_records < length (its_rows s words count) = rw its_length (leb-false count most_records h) in
      too_many_lem table (its_rows s words count) many e

  -- no row: number 1
  pub none_stands : {t : Totals} {b : Bool} → b ≡ its_stand s (length words) count → b ≡ false → t ≡ refused wrong_size
      → t ≡ its_totals table s words count
  unfolding totals_of_table
  none_stands is left e =
      refused_if_lem (leb count most_records) (stands_in_table s.head s.width s.label s.class words count) refl
      (sym is ∙ left) e

  -- a row: its totals are the table's
  of_rows : {t : Totals} → Stands s (length words) count → t ≡ totals_of table (its_rows s words count)
      → t ≡ its_totals table s words count
  unfolding totals_of_table
  of_rows row all =
      rw (
        lt-ltb s.label s.width row.labelled,
        lt-ltb s.class s.width row.classed,
        le-leb (s.head + s.width * count) (length words) row.long,
      )
      all

  -- record i of the table is record i of the row
  at_record : (i : ℕ) → i < count
      → get_or (its_rows s words count) i zeros ≡ record_at s.head s.width s.label s.class words i
  at_record i h = rw (from_at (record_at s.head s.width s.label s.class words) 0 count i zeros h, zero-add i)

  -- ---- the loop over the row: record i comes next
  pub record Passed (t : Totals) (i : ℕ) : Type 0 where
    pub row : Stands s (length words) count
    pub so_far : Running table (its_rows s words count) t i

  pub start_table : {t : Totals} → Stands s (length words) count → t ≡ refused accepted → Passed t 0
  start_table row e = record { row = row; so_far = start (rw its_length row.few) e }

  pub next_table : Rising table → {t u : Totals} (i : ℕ) → Passed t i → i < count
      → u ≡ with_record table t (get_or words (s.head + s.width * i + s.label) 0)
      (get_or words (s.head + s.width * i + s.class) 0)
      → Passed u (i + 1)
  next_table rising i at h e =
      record { row = at.row; so_far = next rising zeros at.so_far (rw its_length h) (rw (at_record i h) e) }

  pub last_table : {t : Totals} (i : ℕ) → Passed t i → count ≤ i → t ≡ its_totals table s words count
  last_table i at h = of_rows at.row (last at.so_far (rw its_length h))

  -- a record that is refused
  pub wrong_table : (board : Board) (i : ℕ) (r : Result Board Refusal) (refusal : Refusal)
      → Stands s (length words) count → i < count
      → told_totals (Err refusal)
      ≡ with_record table (told_totals (Ok board)) (get_or words (s.head + s.width * i + s.label) 0)
      (get_or words (s.head + s.width * i + s.class) 0)
      → IsErrAnd r (λ e. e ≡ refusal)
      → told_totals r ≡ its_totals table s words count
  wrong_table board i r refusal row h said is =
      of_rows row
      (leaves_with table (its_rows s words count) board i zeros r refusal (rw its_length row.few) (rw its_length h)
      (rw (at_record i h) said) is)

-- ---- a row of words
rows_length : (words : List ℕ) → length words % 2 ≡ 0 → length words ≡ 2 * length (rows_of_words words)
unfolding rows_of_words
rows_length [] h = refl
rows_length (label ∷ []) h = omega arith
rows_length (label ∷ class ∷ words) h = omega (arith, rows_length words (omega arith))

rows_at : (words : List ℕ) (i : ℕ) (d : JobRecord) → i < length (rows_of_words words)
    → get_or (rows_of_words words) i d ≡ record_at 0 2 0 1 words i
unfolding rows_of_words
rows_at [] i d h = absurd (omega arith)
rows_at (label ∷ []) i d h = absurd (omega arith)
rows_at (label ∷ class ∷ words) zero d h = refl
rows_at (label ∷ class ∷ words) (suc i) d h =
    let even : 0 + 2 * suc i + 0 ≡ suc (suc (0 + 2 * i + 0)) = omega arith in
    let odd : 0 + 2 * suc i + 1 ≡ suc (suc (0 + 2 * i + 1)) = omega arith in
    rw (even, odd) (rows_at words i d (omega arith))

-- a row of words is a table of records of two words, without a header
words_table : (words : List ℕ) (n : ℕ) → n ≡ length (rows_of_words words)
    → rows_of_table 0 2 0 1 words n ≡ rows_of_words words
words_table words n e =
    ext_get_or zeros (rows_of_table 0 2 0 1 words n) (rows_of_words words) (from_length (record_at 0 2 0 1 words) 0 n ∙ e)
    (λ i h.
    let k : i < n = rw (from_length (record_at 0 2 0 1 words) 0 n) at h in
    rw (from_at (record_at 0 2 0 1 words) 0 n i zeros k, zero-add i, rows_at words i zeros (omega arith)))

-- the table that `of_words` makes of an even number of words holds them all
two_each : (words : List ℕ) (n : ℕ) → length words ≡ 2 * n → stands_in_table 0 2 0 1 words n ≡ true
two_each words n k = le-leb (0 + 2 * n) (length words) (omega arith)

pub even_words : (table words : List ℕ) (n : ℕ) {t : Totals} → length words % 2 ≡ 0 → length words ≡ 2 * n
    → t ≡ totals_of_table table 0 2 0 1 words n → t ≡ totals_of_words table words
unfolding totals_of_table totals_of_words
even_words table words n h k e =
    rw (eq-eqb (length words % 2) 0 h, ← (words_table words n (omega (arith, rows_length words h))))
    (rw (two_each words n k) at e)

pub odd_words : (table words : List ℕ) {t : Totals} → (length words % 2 ≡ 0 → ⊥) → t ≡ refused wrong_size
    → t ≡ totals_of_words table words
unfolding totals_of_words
odd_words table words h e = rw (ne_eqb (length words % 2) 0 h) e
