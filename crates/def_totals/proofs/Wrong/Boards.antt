-- Boards by a host's minutes that answer wrongly, of which the claim does not hold.
use Rattle.std.specs.Prelude.{◌≡◌, refl, List, [], ◌∷◌, ℕ, ltb, length, get_or}
use Rattle.std.proofs.Common.{ap, arith}
use Rattle.def_numbers.specs.Numbers.{wrong_size, damaged, wrong_minutes, most_records}
use Rattle.def_basics.specs.Base.{pick}
use Rattle.def_minutes.specs.Minutes.{minutes_in, fixed_minutes}
use Rattle.def_minutes.specs.Rising.{rises_above, is_rising, SixteenRising, rising_means}
use Rattle.def_totals.specs.declared.JobRecord.{JobRecord}
use Rattle.def_totals.specs.declared.Totals.{Totals}
use Rattle.def_totals.specs.Board.{sum_over, all_well_formed, refused, counted, totals_of, totals_by}
use Rattle.def_totals.proofs.Exactly.{over_jobs, RowsExactly}

-- a district's minutes: 3 of class 0, 4 of class 1 and so on; and values of which the first two are equal
abbrev pub district : List ℕ
district = 3 ∷ 4 ∷ 5 ∷ 6 ∷ 7 ∷ 8 ∷ 9 ∷ 10 ∷ 11 ∷ 12 ∷ 13 ∷ 14 ∷ 15 ∷ 16 ∷ 17 ∷ 18 ∷ []

abbrev pub equals : List ℕ
equals = 4 ∷ 4 ∷ 5 ∷ 6 ∷ 7 ∷ 8 ∷ 9 ∷ 10 ∷ 11 ∷ 12 ∷ 13 ∷ 14 ∷ 15 ∷ 16 ∷ 17 ∷ 18 ∷ []

district_rises : SixteenRising district
unfolding is_rising rises_above
district_rises = (rising_means district).0 refl

equals_not : SixteenRising equals → ⊥
equals_not r = omega (arith, r.rises 0 (omega arith))

-- a row of one job: unexecuted, of class 1, or of label 3, which there is not
abbrev pub one : List JobRecord
one = record { label = 0; class = 1 } ∷ []

abbrev pub fourth : List JobRecord
fourth = record { label = 3; class = 1 } ∷ []

-- ---- the board keeps the fixed minutes, whatever values it is given
abbrev pub keeps_fixed : List ℕ → List JobRecord → Totals
keeps_fixed table rows =
    pick (ltb most_records (length rows)) (refused wrong_size)
    (pick (is_rising table) (totals_of fixed_minutes rows) (refused wrong_minutes))

-- `serves`: the job counts for 2 minutes, and not for its 4
pub keeps_fixed_lem : RowsExactly keeps_fixed district one → ⊥
unfolding is_rising rises_above minutes_in fixed_minutes totals_of counted all_well_formed sum_over over_jobs
keeps_fixed_lem b =
    let kept : ◌≡◌ {A = ℕ} 2 4 =
    ap (λ (t : Totals). get_or t.minutes 0 0) (b.serves (omega arith) district_rises
    (λ k h. let z : k ≡ 0 = omega arith in rw z (omega arith, omega arith))) in
    omega arith

-- ---- the row is judged before the values: 9 comes before 17
abbrev pub rows_first : List ℕ → List JobRecord → Totals
rows_first table rows =
    pick (ltb most_records (length rows)) (refused wrong_size)
    (pick (all_well_formed rows) (pick (is_rising table) (counted table rows) (refused wrong_minutes)) (refused damaged))

-- `by_17`: a row of a wrong label by values that do not rise is to be 17
pub rows_first_lem : RowsExactly rows_first equals fourth → ⊥
unfolding is_rising rises_above all_well_formed counted
rows_first_lem b =
    let nine : ◌≡◌ {A = ℕ} 9 17 = ap (λ (t : Totals). t.number) (b.by_17 (omega arith) equals_not) in omega arith

-- ---- the values are not judged
-- `by_17`: values that do not rise are to be 17
pub trusts_values : RowsExactly totals_of equals one → ⊥
unfolding totals_of all_well_formed counted
trusts_values b =
    let served : ◌≡◌ {A = ℕ} 0 17 = ap (λ (t : Totals). t.number) (b.by_17 (omega arith) equals_not) in omega arith

-- by values that rise it does not differ from the right board
pub trusts_rising : totals_of district one ≡ totals_by district one
unfolding is_rising rises_above totals_of totals_by
trusts_rising = refl
