-- The rows of a sheet that are left, with the numbers and places told so far: what is left makes the whole.
use Rattle.std.specs.Prelude.{◌≡◌, refl, List, [], ◌∷◌, map, ℕ, suc, ◌+◌, ◌-◌, set}
use Rattle.std.proofs.Common.{ap, arith}
use Rattle.def_basics.specs.Base.{pick}
use Rattle.def_terms.specs.Terms.{Arguments}
use Rattle.def_terms.specs.Runs.{Result}
use Rattle.def_terms.specs.declared.Sizes.{Sizes}
use Rattle.def_words.specs.Layout.{Tables}
use Rattle.def_sheets.specs.Write.{entry_at, entries_from}
use Rattle.def_whole_calls.specs.Sheet.{SheetResult}
use Rattle.def_stops.specs.Stopped.{stopped_by}
use Rattle.def_stops.specs.StoppedSheet.{first_stop}
use Rattle.def_fused.specs.FusedAdd.{add_if_idle}
use Rattle.thm_fused_add.specs.Sheets.{add_each_if_idle}
use Rattle.def_sheet_rows.specs.Arguments.{arguments_of}
use Rattle.def_sheet_rows.specs.SheetRows.{number_of, place_of, told_from, no_entries, Added}
use Rattle.def_sheet_rows.specs.declared.SheetAdded.{SheetAdded}
use Rattle.sheet_adds.specs.Stops.{stop_if_idle, or_first, first_of, or_none}

-- n rows, from one on
abbrev pub left : Sizes → ℕ → List ℕ → ℕ → ℕ → Tables → SheetResult
left s w rows row n t = add_each_if_idle s w (map arguments_of (entries_from rows row n)) t

abbrev pub stops : Sizes → ℕ → List ℕ → ℕ → ℕ → Tables → ℕ
stops s w rows row n t = stop_if_idle s w row (map arguments_of (entries_from rows row n)) t

-- what is told of these rows, with the stop k noted so far, and the tables
pub record Told : Type 0 where
  pub added : SheetAdded
  pub state : Tables

abbrev pub told : List ℕ → List ℕ → ℕ → ℕ → SheetResult → ℕ → Told
told numbers places k row o stop =
    record { added = told_from numbers places (or_first k stop) row o.answers; state = o.state }

pub row_told : (s : Sizes) (w : ℕ) (rows : List ℕ) (row n m : ℕ) (t : Tables) (o : Result Tables)
    (numbers places : List ℕ) (k : ℕ)
    → m ≡ suc n → o ≡ add_if_idle s t w (arguments_of (entry_at rows row))
    → told (set numbers row (number_of o.answer)) (set places row (place_of o.answer))
    (or_first k (pick (stopped_by t w o) (row + 1) 0)) (row + 1)
    (left s w rows (row + 1) n o.state) (stops s w rows (row + 1) n o.state)
    ≡ told numbers places k row (left s w rows row m t) (stops s w rows row m t)
unfolding add_each_if_idle entries_from first_stop
row_told s w rows row n m t o numbers places k z e =
    let one : row + 1 ≡ suc row = omega arith in
    rw (z, ← e, one, first_of k row (stops s w rows (suc row) n o.state) (stopped_by t w o)) refl

pub none_left : (s : Sizes) (w : ℕ) (rows : List ℕ) (row n : ℕ) (t : Tables) (numbers places : List ℕ) (k : ℕ) → n ≡ 0
    → told numbers places k row (left s w rows row n t) (stops s w rows row n t)
    ≡ record { added = record { number = 0; numbers = numbers; places = places; stopped = k }; state = t }
unfolding add_each_if_idle entries_from first_stop
none_left s w rows row n t numbers places k z = rw (z, or_none k) refl

pub all_left : (s : Sizes) (w : ℕ) (rows : List ℕ) (n : ℕ) (t : Tables) (numbers places : List ℕ)
    → told numbers places 0 0 (left s w rows 0 (n - 0) t) (stops s w rows 0 (n - 0) t)
    ≡ told numbers places 0 0 (left s w rows 0 n t) (stops s w rows 0 n t)
all_left s w rows n t numbers places =
    let all : n - 0 ≡ n = omega arith in
    ap (λ k. told numbers places 0 0 (left s w rows 0 k t) (stops s w rows 0 k t)) all

-- the adds themselves turn no sheet away
not_turned : (s : Sizes) (w : ℕ) (l : List Arguments) (t : Tables) → (add_each_if_idle s w l t).number ≡ 0
unfolding add_each_if_idle
not_turned s w [] t = refl
not_turned s w (a ∷ l) t = refl

pub added : (s : Sizes) (w : ℕ) (rows : List ℕ) (n : ℕ) (t : Tables) (x : Told)
    → x ≡ told no_entries no_entries 0 0 (left s w rows 0 n t) (stops s w rows 0 n t)
    → Added x.added x.state (stops s w rows 0 n t) (left s w rows 0 n t)
added s w rows n t x e =
    rw (e, not_turned s w (map arguments_of (entries_from rows 0 n)) t) (refl, refl)
