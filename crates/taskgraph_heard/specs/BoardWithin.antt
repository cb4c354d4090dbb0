-- The graph's board and its minutes read nothing past the need of the jobs table: tables that agree in their first 21 +
-- 10 R words, R the size that the call brings, get one answer. Follows docs/RULES.md, "Tables and their measures":
-- words past the need are never touched. (proofs/Wrong/Lent.antt has a board that looks further.)
use Rattle.std.specs.Prelude.{◌≡◌, refl, Bool, true, false, ◌&&◌, List, ℕ, zero, suc, ◌+◌, ◌*◌, ◌≤◌, ◌<◌, leb, eqb, length, get_or, take}
use Rattle.std.proofs.Common.{sym, ap, ◌∙◌, arith, lit<, get_or-take, length-take-le, take_all, leb-true, leb-false, eq-eqb, ne_eqb}
use Rattle.def_numbers.specs.Numbers.{damaged, wrong_size}
use Rattle.def_basics.specs.Base.{pick}
use Rattle.def_minutes.specs.Rising.{is_rising}
use Rattle.def_terms.specs.declared.Sizes.{Sizes}
use Rattle.def_words.specs.Columns.{columns, header, cells}
use Rattle.def_words.specs.Layout.{job_shape, sizes_kept, stored_minutes, MADE, LABEL, CLASS}
use Rattle.def_words.specs.Stored.{job_by_words}
use Rattle.def_totals.specs.Board.{refused, totals_of}
use Rattle.def_totals.specs.declared.Totals.{Totals}
use Rattle.def_graph_board.specs.Board.{rows_from, jobs_fit, graph_minutes, graph_totals}

-- any question of the jobs table
abbrev pub WithinNeed : {A : Type 0} → (Sizes → List ℕ → A) → Type 0
WithinNeed ask =
    (s : Sizes) (a b : List ℕ) → take (21 + 10 * s.jobs) a ≡ take (21 + 10 * s.jobs) b → ask s a ≡ ask s b

-- whether a table is long enough is seen in its first words
long_by_words : (n : ℕ) (l : List ℕ) → leb n (length l) ≡ eqb (length (take n l)) n
long_by_words n l = go (leb n (length l)) refl
  where
    go : (t : Bool) → leb n (length l) ≡ t → t ≡ eqb (length (take n l)) n
    go true e = sym (eq-eqb (length (take n l)) n (length-take-le n l (leb-true n (length l) e)))
    go false e =
        let less = leb-false n (length l) e in
        let all = take_all n l (omega arith) in
        sym (ne_eqb (length (take n l)) n (λ z. omega (arith, z, ap length all)))

cells_same : (f g : ℕ → ℕ) (i n : ℕ) → ((k : ℕ) → i ≤ k → k < i + n → f k ≡ g k) → cells f i n ≡ cells g i n
unfolding cells
cells_same f g i zero h = refl
cells_same f g i (suc n) h =
    rw (h i (omega arith) (omega arith), cells_same f g (suc i) n (λ k l m. h k (omega arith) (omega arith)))

rows_same : (f g : ℕ → ℕ → ℕ) (j n : ℕ)
    → ((k : ℕ) → k < j + n → (f LABEL k ≡ g LABEL k) × (f CLASS k ≡ g CLASS k))
    → rows_from f j n ≡ rows_from g j n
unfolding rows_from
rows_same f g j zero h = refl
rows_same f g j (suc n) h =
    let here = h j (omega arith) in
    rw (here.0, here.1, rows_same f g (suc j) n (λ k l. h k (omega arith)))

module _ (s : Sizes) (a b : List ℕ) (same : take (21 + 10 * s.jobs) a ≡ take (21 + 10 * s.jobs) b) where
  word : (i : ℕ) → i < 21 + 10 * s.jobs → get_or a i 0 ≡ get_or b i 0
  word i h =
      sym (get_or-take (21 + 10 * s.jobs) a i 0 h) ∙ ap (λ (l : List ℕ). get_or l i 0) same
      ∙ get_or-take (21 + 10 * s.jobs) b i 0 h

  head : (k : ℕ) → k < 21 → header a k ≡ header b k
  unfolding header
  head k h = word k (omega arith)

  fit_same : jobs_fit s a ≡ jobs_fit s b
  unfolding jobs_fit sizes_kept
  fit_same =
      rw (
        long_by_words (21 + 10 * s.jobs) a,
        long_by_words (21 + 10 * s.jobs) b,
        same,
        head 0 (omega arith),
        head 1 (omega arith),
        head 2 (omega arith),
        head 3 (omega arith),
      )

  minutes_same : stored_minutes a ≡ stored_minutes b
  minutes_same = cells_same (header a) (header b) 5 16 (λ k l m. head k (omega arith))

  row_same : header b MADE ≤ s.jobs
      → rows_from (columns job_shape a) 0 (header b MADE) ≡ rows_from (columns job_shape b) 0 (header b MADE)
  row_same h =
      rows_same (columns job_shape a) (columns job_shape b) 0 (header b MADE)
      λ k l. (column k 1 (lit< tt) (omega arith), column k 3 (lit< tt) (omega arith))
    where
      column : (j k : ℕ) → k < 10 → j < s.jobs → columns job_shape a k j ≡ columns job_shape b k j
      column j k l m =
          (job_by_words a j k l).0 ∙ word (21 + 10 * j + k) (omega arith) ∙ sym (job_by_words b j k l).0

pub totals_within_need : WithinNeed graph_totals
unfolding graph_totals
totals_within_need s a b same =
    rw (fit_same s a b same, head s a b same 4 (omega arith), minutes_same s a b same)
    (go (leb (header b MADE) s.jobs) refl)
  where
    rest : Bool → List ℕ → Totals
    rest few jobs =
        pick (few && is_rising (stored_minutes b))
        (totals_of (stored_minutes b) (rows_from (columns job_shape jobs) 0 (header b MADE)))
        (refused damaged)

    go : (few : Bool) → leb (header b MADE) s.jobs ≡ few
        → pick (jobs_fit s b) (rest few a) (refused wrong_size) ≡ pick (jobs_fit s b) (rest few b) (refused wrong_size)
    go true e = rw (row_same s a b same (leb-true (header b MADE) s.jobs e))
    go false e = refl

pub minutes_within_need : WithinNeed graph_minutes
unfolding graph_minutes
minutes_within_need s a b same = rw (fit_same s a b same, minutes_same s a b same)
