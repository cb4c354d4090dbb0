-- A sheet that is turned away, and one that is served.
use Rattle.std.proofs.Common.{ap}
use Rattle.std.specs.Prelude.{◌≡◌, ◌+◌, refl, Bool, true, false, List, [], ◌∷◌, map, ℕ, zero, suc, ◌<◌, ◌≤◌, ◌%◌, ◌/◌, eqb, ltb, leb, length}
use Rattle.std.proofs.Common.{sym, ◌∙◌, arith, leb-true, ltb-true, ltb-false, ne_eqb}
use Rattle.def_numbers.specs.Numbers.{most_entries, wrong_size, entry_words}
use Rattle.def_basics.specs.Base.{pick}
use Rattle.def_terms.specs.Terms.{Arguments}
use Rattle.def_terms.specs.declared.Sizes.{Sizes}
use Rattle.def_words.specs.Layout.{Tables, view, PHASE, IDLE, sizes_fit}
use Rattle.def_words.specs.Words.{admitted, own_ok}
use Rattle.def_sheets.specs.Write.{entries_from}
use Rattle.def_whole_calls.specs.Sheet.{sheet_result, judged_sheet, sheet_words}
use Rattle.def_stops.specs.StoppedSheet.{rows_stopped}
use Rattle.thm_fused_add.specs.Sheets.{add_each_if_idle, served_if_idle, judged_admitted, whole_sheet}
use Rattle.def_sheet_rows.specs.Arguments.{arguments_of}
use Rattle.def_sheet_rows.specs.SheetRows.{adds_of, rows_words, turned_away, Added}
use Rattle.def_sheet_rows.specs.declared.SheetAdded.{SheetAdded}
use Rattle.sheet_adds.specs.Stops.{stop_if_idle, fused_stop}

-- ---- what is not turned away has few entries
all_tests : (a b c d e : Bool) → ◌≡◌ {A = ℕ} (pick a (pick b (pick c (pick d (pick e 0 16) 3) 9) 2) 1) 0 → e ≡ true
all_tests true true true true true h = refl
all_tests true true true true false h = absurd (omega arith)
all_tests true true true false e h = absurd (omega arith)
all_tests true true false d e h = absurd (omega arith)
all_tests true false c d e h = absurd (omega arith)
all_tests false b c d e h = absurd (omega arith)

zero_of : (n : ℕ) → ltb 0 n ≡ false → n ≡ 0
zero_of n h = let no = ltb-false 0 n h in omega (arith, no)

pub few : (s : Sizes) (t : Tables) (w n k : ℕ) → k ≡ judged_sheet s t w n → ltb 0 k ≡ false → n ≤ most_entries
unfolding admitted
few s t w n k j z =
    let h = sym j ∙ zero_of k z in
    leb-true n most_entries
    (all_tests (sizes_fit s t) (ltb w s.workers) (own_ok s (view t) w) (eqb ((view t).worker PHASE w) IDLE)
    (leb n most_entries) h)

-- ---- by the number that judging gave
pub turned : (s : Sizes) (t : Tables) (w : ℕ) (l : List Arguments) (n : ℕ) → n ≡ judged_sheet s t w (length l) → 0 < n
    → sheet_words s t w l ≡ sheet_result n [] t
unfolding served_if_idle
turned s t w l zero e h = absurd (omega arith)
turned s t w l (suc n) e h = rw (whole_sheet s t w l, ← e) refl

pub not_turned : (s : Sizes) (t : Tables) (w : ℕ) (l : List Arguments) (n : ℕ) → n ≡ judged_sheet s t w (length l)
    → n ≡ 0
    → sheet_words s t w l ≡ add_each_if_idle s w l t
unfolding served_if_idle
not_turned s t w l n e h = rw (whole_sheet s t w l, ← e, h) refl

none_turned : (s : Sizes) (w : ℕ) (l : List Arguments) (t : Tables) → (add_each_if_idle s w l t).number ≡ 0
unfolding add_each_if_idle
none_turned s w [] t = refl
none_turned s w (a ∷ l) t = refl

-- ---- by the rows
length_entries : (rows : List ℕ) (i n : ℕ) → length (map arguments_of (entries_from rows i n)) ≡ n
unfolding entries_from
length_entries rows i zero = refl
length_entries rows i (suc n) = ap suc (length_entries rows (i + 1) n)

pub adds_count : (rows : List ℕ) → length (adds_of rows) ≡ length rows / entry_words
adds_count rows = length_entries rows 0 (length rows / entry_words)

pub no_whole_rows : (s : Sizes) (t : Tables) (w : ℕ) (rows : List ℕ) (r : SheetAdded)
    → eqb (length rows % entry_words) 0 ≡ false → r ≡ turned_away wrong_size
    → Added r t (rows_stopped s t w rows) (rows_words s t w rows)
unfolding rows_words
no_whole_rows s t w rows r e h = rw e (h, refl)

not_zero : (n : ℕ) → ltb 0 n ≡ true → eqb n 0 ≡ false
not_zero n h = let some = ltb-true 0 n h in ne_eqb n 0 (λ e. omega arith)

pub turned_rows : (s : Sizes) (t : Tables) (w : ℕ) (rows : List ℕ) (n : ℕ) (r : SheetAdded)
    → eqb (length rows % entry_words) 0 ≡ true → n ≡ judged_sheet s t w (length rows / entry_words) → ltb 0 n ≡ true
    → r ≡ turned_away n
    → Added r t (rows_stopped s t w rows) (rows_words s t w rows)
unfolding rows_words
turned_rows s t w rows n r e j h k =
    rw (e, turned s t w (adds_of rows) n (rw (adds_count rows) j) (ltb-true 0 n h), not_zero n h) (k, refl)

-- a sheet that is served has an admitted worker, so its adds in one go are its adds
pub served_rows : (s : Sizes) (t t' : Tables) (w : ℕ) (rows : List ℕ) (n : ℕ) (r : SheetAdded)
    → eqb (length rows % entry_words) 0 ≡ true → n ≡ judged_sheet s t w (length rows / entry_words) → ltb 0 n ≡ false
    → Added r t' (stop_if_idle s w 0 (adds_of rows) t) (add_each_if_idle s w (adds_of rows) t)
    → Added r t' (rows_stopped s t w rows) (rows_words s t w rows)
unfolding rows_words
served_rows s t t' w rows n r e j h k =
    let A = judged_admitted s t w _ (sym j ∙ zero_of n h) in
    let none = none_turned s w (adds_of rows) t in
    rw (
      e,
      not_turned s t w (adds_of rows) n (rw (adds_count rows) j) (zero_of n h),
      none,
      fused_stop s w 0 (adds_of rows) t A,
    )
    (rw none at k)
