-- The stored minutes: a part of the table of jobs, and what they say of its board.
use mathlib.Core.Path.{◌≡◌, refl}
use mathlib.Core.Bool.{Bool, true, false, ◌&&◌, and-eq-true_iff, and-false}
use mathlib.Core.List.{List}
use Prim.Native.Nat.{ℕ, zero, suc, ◌+◌, ◌*◌, ◌≤◌}
use native.Mathlib.Omega.{arith}
use borrow.Author.Tests.{leb-true}
use lib.Dec.{leb}
use lib.ListN.{length, take, drop}
use lib.Seq.{drop-cons}
use Rattle.def_numbers.specs.Numbers.{damaged, wrong_size}
use Rattle.def_basics.specs.Base.{pick}
use Rattle.def_minutes.specs.Rising.{is_rising}
use Rattle.def_minutes.specs.Judged.{no_minutes, judged_as, judged_minutes}
use Rattle.def_minutes.specs.declared.GraphMinutes.{GraphMinutes}
use Rattle.def_terms.specs.Terms.{within_limits}
use Rattle.def_terms.specs.declared.Sizes.{Sizes}
use Rattle.def_totals.specs.Board.{refused, totals_of}
use Rattle.def_totals.specs.declared.Totals.{Totals}
use Rattle.def_words.specs.Columns.{header, cells}
use Rattle.def_words.specs.Layout.{job_shape, need, sizes_kept, stored_minutes, MADE}
use Rattle.def_graph_board.specs.Board.{jobs_fit, graph_rows, graph_minutes, graph_totals}

-- words of a table are a part of it
pub cells_part : (l : List ℕ) (i n : ℕ) → i + n ≤ length l → take n (drop i l) ≡ cells (header l) i n
unfolding cells header
cells_part l i zero h = refl
cells_part l i (suc n) h = rw (drop-cons l i 0 (omega arith), cells_part l (suc i) n (omega arith))

-- a table with room for all jobs has its minutes
pub fit_room : (s : Sizes) (jobs : List ℕ) → jobs_fit s jobs ≡ true
    → job_shape.head + job_shape.width * s.jobs ≤ length jobs
unfolding jobs_fit
fit_room s jobs fit =
    let before_kept = ((and-eq-true_iff _ (sizes_kept s jobs)).0 fit).0 in
    leb-true (need job_shape s.jobs) (length jobs) ((and-eq-true_iff (within_limits s) _).0 before_kept).1

-- minutes that are served
pub record Served (s : Sizes) (jobs : List ℕ) (by : GraphMinutes) : Type 0 where
  pub fit : jobs_fit s jobs ≡ true
  pub passes : is_rising (stored_minutes jobs) ≡ true
  pub stored : by.minutes ≡ stored_minutes jobs

pub served : (s : Sizes) (jobs : List ℕ) (by : GraphMinutes) → by ≡ graph_minutes s jobs → by.number ≡ 0
    → Served s jobs by
unfolding graph_minutes judged_minutes
served s jobs by is zero_number = go (jobs_fit s jobs) (is_rising (stored_minutes jobs)) refl refl is
  where
    go : (a b : Bool) → jobs_fit s jobs ≡ a → is_rising (stored_minutes jobs) ≡ b
        → by ≡ pick a (judged_as b damaged (stored_minutes jobs)) (no_minutes wrong_size) → Served s jobs by
    go true true x y e = record { fit = x; passes = y; stored = rw e }
    go true false x y e = let z : ◌≡◌ {A = ℕ} 0 9 = cc in absurd (omega arith)
    go false b x y e = let z : ◌≡◌ {A = ℕ} 0 1 = cc in absurd (omega arith)

-- minutes that are refused refuse the board
pub not_served : (s : Sizes) (jobs : List ℕ) (by : GraphMinutes) {t : Totals} → by ≡ graph_minutes s jobs
    → (by.number ≡ 0 → ⊥) → t ≡ refused by.number → t ≡ graph_totals s jobs
unfolding graph_minutes judged_minutes graph_totals
not_served s jobs by {t} is wrong same = go (jobs_fit s jobs) (is_rising (stored_minutes jobs)) is
  where
    go : (a b : Bool) → by ≡ pick a (judged_as b damaged (stored_minutes jobs)) (no_minutes wrong_size)
        → t ≡ pick a (pick (leb (header jobs MADE) s.jobs && b) (totals_of (stored_minutes jobs) (graph_rows jobs))
        (refused damaged)) (refused wrong_size)
    go true true e = absurd (wrong (rw e))
    go true false e = rw (same, e, and-false (leb (header jobs MADE) s.jobs))
    go false b e = rw (same, e)
