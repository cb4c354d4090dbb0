-- Boards with invented sums, and minutes told wrongly, of which the claims do not hold.
use Rattle.std.specs.Prelude.{◌≡◌, refl, List, [], ◌∷◌, ◌++◌, ℕ, leb, length, get_or}
use Rattle.std.proofs.Common.{ap, arith, length-append}
use Rattle.def_numbers.specs.Numbers.{damaged, wrong_size}
use Rattle.def_basics.specs.Base.{pick}
use Rattle.def_minutes.specs.Minutes.{minutes_in, fixed_minutes}
use Rattle.def_minutes.specs.Rising.{is_rising, rises_above, SixteenRising, rising_means}
use Rattle.def_minutes.specs.Judged.{all_minutes, no_minutes}
use Rattle.def_minutes.specs.declared.GraphMinutes.{GraphMinutes}
use Rattle.def_terms.specs.Terms.{Arguments, within_limits}
use Rattle.def_terms.specs.declared.Sizes.{Sizes}
use Rattle.def_words.specs.Columns.{columns, header, cells}
use Rattle.def_words.specs.Layout.{sizes_kept, stored_minutes, MADE}
use Rattle.def_words.specs.Sized.{limited_means}
use Rattle.def_totals.specs.Board.{sum_over, all_well_formed, counted, totals_of, refused}
use Rattle.def_totals.proofs.AllJobs.{together}
use Rattle.def_totals.proofs.Exactly.{over_jobs}
use Rattle.def_totals.specs.declared.Totals.{Totals}
use Rattle.def_graph_board.specs.Board.{rows_from, graph_rows, jobs_fit, graph_totals, minutes_entered}
use Rattle.def_graph_board.specs.Accounted.{Board, Accounted}
use Rattle.def_graph_board.specs.Exactly.{JobsSized, BoardsExactly, MinutesExactly}

-- one job was made: name 7, unexecuted, class 1, by the minutes of a table
abbrev pub one_job : List ℕ → List ℕ
one_job table = 1 ∷ 0 ∷ 1 ∷ 1 ∷ 1 ∷ (table ++ (7 ∷ 0 ∷ 0 ∷ 1 ∷ 0 ∷ 0 ∷ 0 ∷ 0 ∷ 0 ∷ 0 ∷ []))

-- a district's minutes: 3 of class 0, 4 of class 1 and so on
abbrev pub district : List ℕ
district = 3 ∷ 4 ∷ 5 ∷ 6 ∷ 7 ∷ 8 ∷ 9 ∷ 10 ∷ 11 ∷ 12 ∷ 13 ∷ 14 ∷ 15 ∷ 16 ∷ 17 ∷ 18 ∷ []

abbrev pub an_add : Arguments
an_add = record { name = 7; count = 0; names = []; class = 1; grower = 0 }

abbrev pub sizes : Sizes
sizes = record { jobs = 1; arcs = 0; bits = 1; workers = 1 }

-- ---- all minutes stand under "finished": the three sums together are right, and so are the counts
abbrev pub all_finished : Board
all_finished s jobs =
    let t = graph_totals s jobs in
    record { number = t.number; jobs = t.jobs; minutes = 0 ∷ 0 ∷ together t.minutes ∷ [] }

-- `under_labels`: the job's 2 minutes are missing under "unexecuted"
pub all_finished_lem : (adds : List Arguments) → Accounted all_finished fixed_minutes sizes (one_job fixed_minutes) adds → ⊥
unfolding columns header over_jobs minutes_in fixed_minutes
all_finished_lem adds a = let none : ◌≡◌ {A = ℕ} 0 2 = ap (λ l. get_or l 0 0) a.under_labels.minutes in omega arith

-- `all_minutes_lem` does not tell it from the right board
pub same_together : (s : Sizes) (jobs : List ℕ)
    → together (all_finished s jobs).minutes ≡ together (graph_totals s jobs).minutes
same_together s jobs = omega arith

-- ---- the counts are invented: the three sums are right
abbrev pub no_jobs : Board
no_jobs s jobs =
    let t = graph_totals s jobs in record { number = t.number; jobs = 0 ∷ 0 ∷ 0 ∷ []; minutes = t.minutes }

-- `under_labels`: one job is unexecuted
pub no_jobs_lem : (adds : List Arguments) → Accounted no_jobs fixed_minutes sizes (one_job fixed_minutes) adds → ⊥
unfolding columns header over_jobs fixed_minutes
no_jobs_lem adds a = let none : ◌≡◌ {A = ℕ} 0 1 = ap (λ l. get_or l 0 0) a.under_labels.jobs in omega arith

-- ---- the board keeps the fixed minutes, whatever was loaded
abbrev pub keeps_fixed : Board
keeps_fixed s jobs =
    pick (jobs_fit s jobs)
    (pick (leb (header jobs MADE) s.jobs) (totals_of fixed_minutes (graph_rows jobs)) (refused damaged))
    (refused wrong_size)

-- `under_labels`, by the district's minutes: the job counts for 2 minutes, and not for its 4
pub keeps_fixed_lem : (adds : List Arguments) → Accounted keeps_fixed district sizes (one_job district) adds → ⊥
unfolding columns header over_jobs minutes_in fixed_minutes jobs_fit sizes_kept within_limits rows_from totals_of counted
    all_well_formed sum_over
keeps_fixed_lem adds a = let kept : ◌≡◌ {A = ℕ} 2 4 = ap (λ l. get_or l 0 0) a.under_labels.minutes in omega arith

-- where the fixed minutes are loaded it does not differ from the right board
pub keeps_fixed_before : keeps_fixed sizes (one_job fixed_minutes) ≡ graph_totals sizes (one_job fixed_minutes)
unfolding columns header minutes_in fixed_minutes jobs_fit sizes_kept within_limits rows_from totals_of counted
    all_well_formed sum_over graph_totals is_rising rises_above cells
keeps_fixed_before = refl

-- the right board has the district's minutes
pub the_district_counts : Accounted graph_totals district sizes (one_job district) (an_add ∷ [])
unfolding columns header over_jobs minutes_in jobs_fit sizes_kept within_limits rows_from totals_of counted
    all_well_formed sum_over graph_totals is_rising rises_above cells minutes_entered
the_district_counts = record {
  answered = refl;
  under_labels = record { jobs = refl; minutes = refl };
  all_minutes_lem = refl;
}

-- ---- of damaged tables: the stored minutes are not tested
abbrev pub trusts_minutes : Board
trusts_minutes s jobs =
    pick (jobs_fit s jobs)
    (pick (leb (header jobs MADE) s.jobs) (totals_of (stored_minutes jobs) (graph_rows jobs)) (refused damaged))
    (refused wrong_size)

-- classes 0 and 1 have equal minutes, or the last class 1,441, or the first none
abbrev pub equals : List ℕ
equals = 4 ∷ 4 ∷ 5 ∷ 6 ∷ 7 ∷ 8 ∷ 9 ∷ 10 ∷ 11 ∷ 12 ∷ 13 ∷ 14 ∷ 15 ∷ 16 ∷ 17 ∷ 18 ∷ []

abbrev pub above : List ℕ
above = 3 ∷ 4 ∷ 5 ∷ 6 ∷ 7 ∷ 8 ∷ 9 ∷ 10 ∷ 11 ∷ 12 ∷ 13 ∷ 14 ∷ 15 ∷ 16 ∷ 17 ∷ 1441 ∷ []

abbrev pub nought : List ℕ
nought = 0 ∷ 4 ∷ 5 ∷ 6 ∷ 7 ∷ 8 ∷ 9 ∷ 10 ∷ 11 ∷ 12 ∷ 13 ∷ 14 ∷ 15 ∷ 16 ∷ 17 ∷ 18 ∷ []

-- the jobs table is long enough and keeps its sizes, but none of the three rises
one_sized : (table : List ℕ) → length table ≡ 16 → JobsSized sizes (one_job table)
unfolding within_limits
one_sized table e = record {
  limits = (limited_means sizes).0 refl;
  long = simp length-append (omega arith);
  kept = record { jobs = refl; arcs = refl; bits = refl; workers = refl };
}

pub equals_not : SixteenRising (stored_minutes (one_job equals)) → ⊥
unfolding header cells
equals_not r = omega (arith, r.rises 0 (omega arith))

pub above_not : SixteenRising (stored_minutes (one_job above)) → ⊥
unfolding header cells
above_not r = omega (arith, r.most 15 (omega arith))

pub nought_not : SixteenRising (stored_minutes (one_job nought)) → ⊥
unfolding header cells
nought_not r = omega (arith, r.least 0 (omega arith))

-- `off_minutes`: each is to be 9
pub trusts_equals : BoardsExactly trusts_minutes sizes (one_job equals) → ⊥
unfolding columns header minutes_in jobs_fit sizes_kept within_limits rows_from totals_of counted all_well_formed sum_over cells
trusts_equals b =
    let served : ◌≡◌ {A = ℕ} 0 9 =
    ap (λ (t : Totals). t.number) (b.off_minutes (one_sized equals refl) equals_not) in
    omega arith

pub trusts_above : BoardsExactly trusts_minutes sizes (one_job above) → ⊥
unfolding columns header minutes_in jobs_fit sizes_kept within_limits rows_from totals_of counted all_well_formed sum_over cells
trusts_above b =
    let served : ◌≡◌ {A = ℕ} 0 9 = ap (λ (t : Totals). t.number) (b.off_minutes (one_sized above refl) above_not) in
    omega arith

pub trusts_nought : BoardsExactly trusts_minutes sizes (one_job nought) → ⊥
unfolding columns header minutes_in jobs_fit sizes_kept within_limits rows_from totals_of counted all_well_formed sum_over cells
trusts_nought b =
    let served : ◌≡◌ {A = ℕ} 0 9 =
    ap (λ (t : Totals). t.number) (b.off_minutes (one_sized nought refl) nought_not) in
    omega arith

-- ---- of the minutes that are told: the fixed ones, whatever was loaded
abbrev pub tells_fixed : Sizes → List ℕ → GraphMinutes
tells_fixed s jobs = pick (jobs_fit s jobs)
    (pick (is_rising (stored_minutes jobs)) (all_minutes fixed_minutes) (no_minutes damaged))
    (no_minutes wrong_size)

district_rises : SixteenRising (stored_minutes (one_job district))
unfolding header cells is_rising rises_above
district_rises = (rising_means district).0 refl

-- `tells`: class 0 has 1 minute, and not its 3
pub tells_fixed_lem : MinutesExactly tells_fixed sizes (one_job district) → ⊥
unfolding header jobs_fit sizes_kept within_limits cells is_rising rises_above fixed_minutes
tells_fixed_lem b =
    let told : ◌≡◌ {A = ℕ} 1 3 = (b.tells (one_sized district refl) district_rises).2 0 (omega arith) in omega arith

-- ---- the stored minutes, even if they do not rise
abbrev pub tells_any : Sizes → List ℕ → GraphMinutes
tells_any s jobs = pick (jobs_fit s jobs) (all_minutes (stored_minutes jobs)) (no_minutes wrong_size)

-- `by_9`: each is to be 9
pub tells_equals : MinutesExactly tells_any sizes (one_job equals) → ⊥
unfolding header jobs_fit sizes_kept within_limits
tells_equals b =
    let told : ◌≡◌ {A = ℕ} 0 9 = ap (λ (m : GraphMinutes). m.number) (b.by_9 (one_sized equals refl) equals_not) in
    omega arith

pub tells_above : MinutesExactly tells_any sizes (one_job above) → ⊥
unfolding header jobs_fit sizes_kept within_limits
tells_above b =
    let told : ◌≡◌ {A = ℕ} 0 9 = ap (λ (m : GraphMinutes). m.number) (b.by_9 (one_sized above refl) above_not) in
    omega arith

pub tells_nought : MinutesExactly tells_any sizes (one_job nought) → ⊥
unfolding header jobs_fit sizes_kept within_limits
tells_nought b =
    let told : ◌≡◌ {A = ℕ} 0 9 = ap (λ (m : GraphMinutes). m.number) (b.by_9 (one_sized nought refl) nought_not) in
    omega arith
