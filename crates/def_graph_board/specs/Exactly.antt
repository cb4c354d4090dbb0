-- For ALL tables of jobs, damaged ones too, and by the table's own words: what a board over the graph must answer, of
-- any board, and which minutes must be told. Follows docs/RULES.md, "The board and the day list" and "Turned-away
-- calls". (Wrong/Boards.antt has boards that do not.)
use Rattle.std.specs.Prelude.{◌≡◌, refl, Bool, true, false, ◌&&◌, List, ◌↔◌, ℕ, zero, suc, ◌+◌, ◌*◌, ◌≤◌, ◌<◌, leb, ltb, length, get_or}
use Rattle.std.proofs.Common.{ap, arith, leb-true, ltb-true, le-leb, le-ltb, lt-ltb}
use Rattle.std.proofs.lemmas.Bool.{lt-leb}
use Rattle.def_numbers.specs.Numbers.{damaged, wrong_size, accepted, most_records}
use Rattle.def_basics.specs.Base.{pick}
use Rattle.def_basics.specs.Laws.{fails}
use Rattle.def_minutes.specs.Rising.{is_rising, SixteenRising, rising_means}
use Rattle.def_minutes.specs.Judged.{no_minutes, judged_minutes}
use Rattle.def_minutes.specs.declared.GraphMinutes.{GraphMinutes}
use Rattle.def_terms.specs.declared.Sizes.{Sizes}
use Rattle.def_words.specs.Columns.{columns, header}
use Rattle.def_words.specs.Layout.{job_shape, stored_minutes, MADE, LABEL, CLASS}
use Rattle.def_words.specs.Stored.{minutes_by_words}
use Rattle.def_words.specs.Sized.{both, Limited, limited_means, Kept, kept_means}
use Rattle.def_totals.specs.Board.{refused, all_well_formed, totals_of, counted}
use Rattle.def_totals.proofs.Exactly.{unrising}
use Rattle.def_totals.specs.declared.Totals.{Totals}
use Rattle.def_graph_board.specs.Board.{rows_from, graph_rows, jobs_fit, graph_minutes, graph_totals}
use Rattle.def_graph_board.specs.Accounted.{Board, UnderLabels, graph_counts}

-- ---- sizes in their limits, a jobs table as long as its header and records need, and the sizes that laying out kept
pub record JobsSized (s : Sizes) (jobs : List ℕ) : Type 0 where
  pub limits : Limited s
  pub long : 21 + 10 * s.jobs ≤ length jobs
  pub kept : Kept s jobs

-- the board's test says it, both ways
pub jobs_sized_means : (s : Sizes) (jobs : List ℕ) → (jobs_fit s jobs ≡ true) ↔ JobsSized s jobs
unfolding jobs_fit
jobs_sized_means s jobs = (
  λ e. record {
    limits = (limited_means s).0 (search both);
    long = leb-true (21 + 10 * s.jobs) (length jobs) (search both);
    kept = (kept_means s jobs).0 (search both);
  },
  λ h. rw (
    (limited_means s).1 h.limits,
    le-leb (21 + 10 * s.jobs) (length jobs) h.long,
    (kept_means s jobs).1 h.kept,
  ),
)

unsized : (s : Sizes) (jobs : List ℕ) → (JobsSized s jobs → ⊥) → jobs_fit s jobs ≡ false
unsized s jobs f = fails (jobs_fit s jobs) (jobs_sized_means s jobs).0 f

-- the label and the class of a job are within their limits: words 1 and 3 of its record
abbrev pub RightRow : List ℕ → ℕ → Type 0
RightRow jobs j = (get_or jobs (21 + 10 * j + 1) 0 ≤ 2) × (get_or jobs (21 + 10 * j + 3) 0 ≤ 15)

-- "1 comes before" 9; 9 for more jobs made (word 4) than R, for stored minutes that "are not from 1 to 1,440 or do not
-- rise", and for "a wrong label or class", "wherever it stands in the row"; else the jobs and the minutes under each
-- label, by the stored minutes
pub record BoardsExactly (board : Board) (s : Sizes) (jobs : List ℕ) : Type 0 where
  pub by_1 : (JobsSized s jobs → ⊥) → board s jobs ≡ refused wrong_size
  pub over_r : JobsSized s jobs → s.jobs < get_or jobs 4 0 → board s jobs ≡ refused damaged
  pub off_minutes : JobsSized s jobs → (SixteenRising (stored_minutes jobs) → ⊥) → board s jobs ≡ refused damaged
  pub off_row : JobsSized s jobs → (j : ℕ) → j < get_or jobs 4 0 → (RightRow jobs j → ⊥)
      → board s jobs ≡ refused damaged
  pub serves : JobsSized s jobs → get_or jobs 4 0 ≤ s.jobs → SixteenRising (stored_minutes jobs)
      → ((j : ℕ) → j < get_or jobs 4 0 → RightRow jobs j)
      → ((board s jobs).number ≡ accepted) × UnderLabels (stored_minutes jobs) jobs (board s jobs)

-- the same of the minutes that are told: 1, then 9, then words 5 to 20
pub record MinutesExactly (tell : Sizes → List ℕ → GraphMinutes) (s : Sizes) (jobs : List ℕ) : Type 0 where
  pub by_1 : (JobsSized s jobs → ⊥) → tell s jobs ≡ no_minutes wrong_size
  pub by_9 : JobsSized s jobs → (SixteenRising (stored_minutes jobs) → ⊥) → tell s jobs ≡ no_minutes damaged
  pub tells : JobsSized s jobs → SixteenRising (stored_minutes jobs)
      → ((tell s jobs).number ≡ 0) × (length (tell s jobs).minutes ≡ 16)
      × ((c : ℕ) → c < 16 → get_or (tell s jobs).minutes c 0 ≡ get_or jobs (5 + c) 0)

-- the graph's minutes are told so
pub minutes_exactly : (s : Sizes) (jobs : List ℕ) → MinutesExactly graph_minutes s jobs
unfolding graph_minutes judged_minutes
minutes_exactly s jobs = record {
  by_1 = λ f. rw (unsized s jobs f);
  by_9 = λ h f. rw ((jobs_sized_means s jobs).1 h, unrising (stored_minutes jobs) f);
  tells = λ h r.
      let w = minutes_by_words jobs in
      rw ((jobs_sized_means s jobs).1 h, (rising_means (stored_minutes jobs)).1 r) (refl, w.0, w.1);
}

-- ---- a row is well formed exactly if each of its jobs is
pub rows_length : (f : ℕ → ℕ → ℕ) (j n : ℕ) → length (rows_from f j n) ≡ n
unfolding rows_from
rows_length f j zero = refl
rows_length f j (suc n) = ap suc (rows_length f (suc j) n)

pub rows_well : (f : ℕ → ℕ → ℕ) (j n : ℕ) → ((k : ℕ) → k < n → (f LABEL (j + k) ≤ 2) × (f CLASS (j + k) ≤ 15))
    → all_well_formed (rows_from f j n) ≡ true
unfolding rows_from all_well_formed
rows_well f j zero h = refl
rows_well f j (suc n) h =
    let z : j + 0 ≡ j = omega arith in
    let here = rw z at (h 0 (omega arith)) in
    let rest = rows_well f (suc j) n (λ k l. let e : suc j + k ≡ j + suc k = omega arith in
    rw e (h (suc k) (omega arith))) in
    rw (le-leb (f LABEL j) 2 here.0, lt-ltb (f CLASS j) 16 (omega (arith, here.1)), rest)

rows_ill : (f : ℕ → ℕ → ℕ) (j n k : ℕ) → k < n → ((f LABEL (j + k) ≤ 2) × (f CLASS (j + k) ≤ 15) → ⊥)
    → all_well_formed (rows_from f j n) ≡ false
unfolding rows_from all_well_formed
rows_ill f j zero k h wrong = absurd (omega arith)
rows_ill f j (suc n) zero h wrong =
    let z : j + 0 ≡ j = omega arith in
    first (leb (f LABEL j) 2) (ltb (f CLASS j) 16) refl refl (rw z at wrong)
  where
    first : (a b : Bool) → leb (f LABEL j) 2 ≡ a → ltb (f CLASS j) 16 ≡ b
        → ((f LABEL j ≤ 2) × (f CLASS j ≤ 15) → ⊥)
        → a && b && all_well_formed (rows_from f (suc j) n) ≡ false
    first true true x y wrong =
        absurd (wrong (leb-true (f LABEL j) 2 x, let l = ltb-true (f CLASS j) 16 y in omega (arith, l)))
    first true false x y wrong = refl
    first false b x y wrong = refl
rows_ill f j (suc n) (suc k) h wrong =
    let e : j + suc k ≡ suc j + k = omega arith in
    rw (rows_ill f (suc j) n k (omega arith) (rw e at wrong)) (last (leb (f LABEL j) 2 && ltb (f CLASS j) 16))
  where
    last : (a : Bool) → a && false ≡ false
    last true = refl
    last false = refl

-- a row of the graph is never longer than the board takes
fits : (s : Sizes) (jobs : List ℕ) → JobsSized s jobs → header jobs MADE ≤ s.jobs
    → ltb most_records (length (graph_rows jobs)) ≡ false
fits s jobs z h =
    le-ltb most_records (length (graph_rows jobs))
    (omega (arith, z.limits.jobs.1, h, rows_length (columns job_shape jobs) 0 (header jobs MADE)))

-- ---- the graph's board does it
pub boards_exactly : (s : Sizes) (jobs : List ℕ) → BoardsExactly graph_totals s jobs
unfolding graph_totals totals_of counted columns header
boards_exactly s jobs = record {
  by_1 = λ u. rw (unsized s jobs u);
  over_r = λ z h. rw (sized z, lt-leb made s.jobs h);
  off_minutes = λ z u. rw (sized z, unrising (stored_minutes jobs) u, last (leb made s.jobs));
  off_row = λ z j h wrong. rw (sized z) (any_row (leb made s.jobs) (is_rising (stored_minutes jobs)) refl
      (fits s jobs z) (rows_ill f 0 made j h (let e : 0 + j ≡ j = omega arith in rw e wrong)));
  serves = λ z h r right.
      let all = rows_well f 0 made (λ k l. let e : 0 + k ≡ k = omega arith in rw e (right k l)) in
      let number : (graph_totals s jobs).number ≡ accepted =
      rw (sized z, le-leb made s.jobs h, (rising_means (stored_minutes jobs)).1 r, fits s jobs z h, all) in
      (number, graph_counts s jobs number);
}
  where
    f : ℕ → ℕ → ℕ
    f = columns job_shape jobs

    made : ℕ
    made = header jobs MADE

    sized : JobsSized s jobs → jobs_fit s jobs ≡ true
    sized = (jobs_sized_means s jobs).1

    last : (a : Bool) → a && false ≡ false
    last true = refl
    last false = refl

    by_row : Bool → Bool → Totals
    by_row many formed =
        pick many (refused wrong_size) (pick formed (counted (stored_minutes jobs) (graph_rows jobs)) (refused damaged))

    any_row : (few rises : Bool) → leb made s.jobs ≡ few
        → (made ≤ s.jobs → ltb most_records (length (rows_from f 0 made)) ≡ false)
        → all_well_formed (rows_from f 0 made) ≡ false
        → pick (few && rises) (by_row (ltb most_records (length (graph_rows jobs))) (all_well_formed (graph_rows jobs)))
        (refused damaged)
        ≡ refused damaged
    any_row true true e few ill = rw (few (leb-true made s.jobs e), ill)
    any_row true false e few ill = refl
    any_row false rises e few ill = refl
