-- Which entry of a sheet damage stopped half done, and so all that C is told of a sheet. Follows docs/RULES.md, "Whole
-- calls".
use Rattle.std.specs.Prelude.{List, [], ◌∷◌, ℕ, suc, eqb}
use Rattle.def_basics.specs.Base.{pick}
use Rattle.def_terms.specs.Terms.{Arguments}
use Rattle.def_terms.specs.Runs.{Result}
use Rattle.def_terms.specs.declared.Sizes.{Sizes}
use Rattle.def_words.specs.Layout.{Tables}
use Rattle.def_whole_calls.specs.Whole.{whole_add}
use Rattle.def_sheet_rows.specs.SheetRows.{adds_of, rows_words, sheet_added}
use Rattle.def_sheet_rows.specs.declared.SheetAdded.{SheetAdded}
use Rattle.def_stops.specs.Stopped.{stopped_by}

-- 1 more than the number, counted from i, of the first of these adds that was stopped half done; 0 if there is none
unfoldable pub first_stop : (Tables → Arguments → Result Tables) → ℕ → ℕ → List Arguments → Tables → ℕ
first_stop add w i [] t = 0
first_stop add w i (a ∷ l) t = pick (stopped_by t w (add t a)) (suc i) (first_stop add w (suc i) l (add t a).state)

-- of a sheet's rows; none where the sheet was turned away
abbrev pub rows_stopped : Sizes → Tables → ℕ → List ℕ → ℕ
rows_stopped s t w rows =
    pick (eqb (rows_words s t w rows).number 0) (first_stop (λ u a. whole_add s u w a) w 0 (adds_of rows) t) 0

-- what C is told of these rows
abbrev pub rows_added : Sizes → Tables → ℕ → List ℕ → SheetAdded
rows_added s t w rows = sheet_added (rows_stopped s t w rows) (rows_words s t w rows)
