-- The invariant of a loop over a row of records: its running totals are those of the records that it has passed.
-- docs/RULES.md, "The board and the day list".
use Rattle.std.specs.Prelude.{Result, Ok, Err}
use Rattle.std.specs.Result.{IsErrAnd}
use Rattle.std.proofs.lemmas.Result.{err_from_is_err_and}
use Rattle.std.specs.Array.{AllOfLen}
use Rattle.std.proofs.Common.{◌≡◌, refl, ap, ℕ, zero, suc, ◌+◌, ◌<◌, ◌≤◌, Bool, true, false, List, [], ◌∷◌, length, get_or, take, zero-le, add-one, arith, length-take-le, take_all, take-suc, lt-ltb, eq-eqb, le-leb}
use mathlib.Core.Bool.{and-false}
use Rattle.def_numbers.specs.Numbers.{wrong_size, damaged, classes, accepted, most_records}
use Rattle.def_minutes.specs.Minutes.{minutes_in}
use Rattle.def_minutes.specs.Rising.{Rising}
use Rattle.def_basics.specs.Base.{pick}
use Rattle.def_numbers.specs.Refusals.{refusal_number}
use Rattle.def_numbers.proofs.Refused as number
use Rattle.def_numbers.specs.declared.refusal.Refusal.{Refusal}
use Rattle.def_totals.specs.Told.{told_totals}
use Rattle.def_totals.specs.declared.Board.{Board}
use Rattle.def_totals.specs.declared.JobRecord.{JobRecord}
use Rattle.def_totals.specs.declared.Totals.{Totals}
use Rattle.def_totals.specs.Board.{finished, sum_over, well_formed, all_well_formed, refused, counted, totals_of}
use Rattle.totals_step.specs.Step.{raised, with_record}
use Rattle.totals_step.proofs.Sums.{few_totals, with_record_totals}

-- a board that counts nothing yet
three : (sums : List ℕ) → AllOfLen (λ (x : ℕ). x ≡ 0) sums 3 → sums ≡ 0 ∷ 0 ∷ 0 ∷ []
three [] all = absurd (omega (arith, all.long))
three (x ∷ []) all = absurd (omega (arith, all.long))
three (x ∷ y ∷ []) all = absurd (omega (arith, all.long))
three (x ∷ y ∷ z ∷ []) all =
    rw (all.at 0 0 (omega arith), all.at 1 0 (omega arith), all.at 2 0 (omega arith))
three (x ∷ y ∷ z ∷ u ∷ sums) all = absurd (omega (arith, all.long))

pub nothing_yet : (board : Board) → AllOfLen (λ (x : ℕ). x ≡ 0) board.jobs 3
    → AllOfLen (λ (x : ℕ). x ≡ 0) board.minutes 3
    → told_totals (Ok board) ≡ refused accepted
nothing_yet board jobs minutes = rw (three board.jobs jobs, three board.minutes minutes)

pub record Running (table : List ℕ) (rows : List JobRecord) (t : Totals) (i : ℕ) : Type 0 where
  pub upto : i ≤ length rows
  pub few : length rows ≤ most_records
  pub totals : t ≡ totals_of table (take i rows)

module _ {table : List ℕ} {rows : List JobRecord} where
  pub start : {t : Totals} → length rows ≤ most_records → t ≡ refused accepted → Running table rows t 0
  unfolding totals_of counted sum_over all_well_formed
  start few e = record { upto = zero-le; few = few; totals = e }

  pub next : Rising table → (d : JobRecord) {t u : Totals} {i : ℕ} → Running table rows t i → i < length rows
      → u ≡ with_record table t (get_or rows i d).label (get_or rows i d).class → Running table rows u (i + 1)
  next rising d {t} {u} {i} run h e = record {
    upto = omega arith;
    few = run.few;
    totals =
        rw (e, run.totals, add-one i, take-suc rows i d h)
        (with_record_totals rising (take i rows) (get_or rows i d).label (get_or rows i d).class
        (rw (length-take-le i rows run.upto) (omega arith)));
  }

  pub last : {t : Totals} {i : ℕ} → Running table rows t i → length rows ≤ i → t ≡ totals_of table rows
  last {t} {i} run h = rw (take_all i rows h) at run.totals

pub too_many_lem : (table : List ℕ) (rows : List JobRecord) {t : Totals} → most_records < length rows
    → t ≡ refused wrong_size → t ≡ totals_of table rows
unfolding totals_of
too_many_lem table rows h e = rw (lt-ltb most_records (length rows) h) e

-- ---- a loop that raises its sums in place, and leaves at the first wrong record
pub raises : (table : List ℕ) (t : Totals) (label class : ℕ) {u : Totals} → t.number ≡ accepted → label ≤ finished
    → class < classes
    → u ≡ record {
      number = t.number;
      jobs = raised t.jobs label 1;
      minutes = raised t.minutes label (minutes_in table class);
    } → u ≡ with_record table t label class
unfolding with_record
raises table t label class still labelled classed e =
    rw (eq-eqb t.number accepted still, le-leb label finished labelled, lt-ltb class classes classed) e

one_wrong : (rows : List JobRecord) (i : ℕ) (d : JobRecord) → i < length rows → well_formed (get_or rows i d) ≡ false
    → all_well_formed rows ≡ false
unfolding all_well_formed
one_wrong [] i d h wrong = absurd (omega arith)
one_wrong (x ∷ rows) zero d h wrong = rw wrong
one_wrong (x ∷ rows) (suc i) d h wrong = rw (one_wrong rows i d (omega arith) wrong) (and-false (well_formed x))

pub leaves : (table : List ℕ) (rows : List JobRecord) (i : ℕ) (d : JobRecord) {t : Totals} → length rows ≤ most_records
    → i < length rows → well_formed (get_or rows i d) ≡ false → t ≡ refused damaged → t ≡ totals_of table rows
leaves table rows i d few h wrong e = rw (few_totals table rows few, one_wrong rows i d h wrong) e

-- the step refuses a record, and so the row
refuses : (table : List ℕ) (rows : List JobRecord) (board : Board) (i : ℕ) (d : JobRecord) (refusal : Refusal)
    → length rows ≤ most_records → i < length rows
    → told_totals (Err refusal)
    ≡ with_record table (told_totals (Ok board)) (get_or rows i d).label (get_or rows i d).class
    → told_totals (Err refusal) ≡ totals_of table rows
unfolding with_record
refuses table rows board i d refusal few h said = go (well_formed (get_or rows i d)) refl said
  where
    go : (b : Bool) → well_formed (get_or rows i d) ≡ b
        → refused (refusal_number refusal)
        ≡ pick b
        (record {
          number = accepted;
          jobs = raised board.jobs (get_or rows i d).label 1;
          minutes = raised board.minutes (get_or rows i d).label (minutes_in table (get_or rows i d).class);
        })
        (refused damaged)
        → told_totals (Err refusal) ≡ totals_of table rows
    go true is e = absurd (number.refused refusal (ap (λ (t : Totals). t.number) e))
    go false is e = leaves table rows i d few h is e

pub leaves_with : (table : List ℕ) (rows : List JobRecord) (board : Board) (i : ℕ) (d : JobRecord)
    (r : Result Board Refusal) (refusal : Refusal)
    → length rows ≤ most_records → i < length rows
    → told_totals (Err refusal)
    ≡ with_record table (told_totals (Ok board)) (get_or rows i d).label (get_or rows i d).class
    → IsErrAnd r (λ e. e ≡ refusal)
    → told_totals r ≡ totals_of table rows
leaves_with table rows board i d r refusal few h said is =
    let p = err_from_is_err_and r is in
    rw (p.1, p.2) (refuses table rows board i d refusal few h said)
