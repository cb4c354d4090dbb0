-- The totals under the three labels leave nothing out: together they are those of all jobs of the row. docs/RULES.md,
-- "The board and the day list": "the three sums together equal the minutes of all jobs".
use Rattle.std.specs.Prelude.{◌≡◌, refl, Bool, true, false, List, [], ◌∷◌, ℕ, zero, suc, ◌+◌, leb, ltb, length}
use Rattle.std.proofs.Math.Bool.{and-eq-true_iff}
use Rattle.std.proofs.Common.{arith, leb-true}
use Rattle.def_numbers.specs.Numbers.{most_records, accepted}
use Rattle.def_totals.specs.declared.JobRecord.{JobRecord}
use Rattle.def_totals.specs.Board.{unexecuted, executing, finished, sum_over, under, one_job}
use Rattle.def_totals.specs.Board.{its_minutes, minutes_of_all, well_formed, all_well_formed, counted, totals_of}

-- the three sums of the totals, together
abbrev pub together : List ℕ → ℕ
together [] = 0
together (sum ∷ sums) = sum + together sums

pub record AllJobs (table : List ℕ) (rows : List JobRecord) : Type 0 where
  pub jobs : together (totals_of table rows).jobs ≡ length rows
  pub minutes : together (totals_of table rows).minutes ≡ minutes_of_all table rows

-- a record of one of the three labels counts under exactly one of them
one_label : (amount : JobRecord → ℕ) (label class : ℕ) → leb label finished ≡ true
    → let r : JobRecord = record { label = label; class = class } in
    under unexecuted amount r + (under executing amount r + under finished amount r) ≡ amount r
one_label amount zero class h = omega arith
one_label amount (suc zero) class h = omega arith
one_label amount (suc (suc zero)) class h = omega arith
one_label amount (suc (suc (suc label))) class h = absurd (omega (arith, leb-true (suc (suc (suc label))) finished h))

three_labels : (amount : JobRecord → ℕ) (rows : List JobRecord) → all_well_formed rows ≡ true
    → sum_over (under unexecuted amount) rows +
    (sum_over (under executing amount) rows + sum_over (under finished amount) rows) ≡ sum_over amount rows
unfolding sum_over all_well_formed
three_labels amount [] h = refl
three_labels amount (r ∷ rows) h =
    let both : (well_formed r ≡ true) × (all_well_formed rows ≡ true) =
    (and-eq-true_iff (well_formed r) (all_well_formed rows)).0 h in
    let label : leb r.label finished ≡ true = ((and-eq-true_iff (leb r.label finished) _).0 both.0).0 in
    omega (arith, one_label amount r.label r.class label, three_labels amount rows both.1)

one_each : (rows : List JobRecord) → sum_over one_job rows ≡ length rows
unfolding sum_over
one_each [] = refl
one_each (r ∷ rows) = omega (arith, one_each rows)

-- of a board that is served, the three counts are together the number of its records, and the three sums the minutes of
-- them all
pub all_jobs : (table : List ℕ) (rows : List JobRecord) → (totals_of table rows).number ≡ accepted → AllJobs table rows
unfolding totals_of counted
all_jobs table rows is_served = cases (ltb most_records (length rows)) (all_well_formed rows) refl refl
  where
    cases : (many formed : Bool) → ltb most_records (length rows) ≡ many → all_well_formed rows ≡ formed
        → AllJobs table rows
    cases true formed h k = let wrong : ◌≡◌ {A = ℕ} 0 1 = cc in absurd (omega arith)
    cases false false h k = let wrong : ◌≡◌ {A = ℕ} 0 1 = cc in absurd (omega arith)
    cases false true h k = record {
      jobs = rw (h, k) (omega (arith, three_labels one_job rows k, one_each rows));
      minutes = rw (h, k) (omega (arith, three_labels (its_minutes table) rows k));
    }
