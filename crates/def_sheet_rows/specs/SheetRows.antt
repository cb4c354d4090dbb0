-- A sheet of adds as a host has it: the rows that reading a sheet writes, and each entry's number and place
-- (docs/RULES.md, "Whole calls").
use Rattle.std.specs.Prelude.{◌≡◌, List, [], map, ℕ, ◌%◌, eqb, length, replicate}
use Rattle.std.proofs.lemmas.List.Edits.{sets}
use Rattle.def_numbers.specs.Numbers.{most_entries, wrong_size, entry_words}
use Rattle.def_basics.specs.Base.{pick}
use Rattle.def_terms.specs.Terms.{Arguments}
use Rattle.def_terms.specs.Cases.{if_refused}
use Rattle.def_terms.specs.declared.Sizes.{Sizes}
use Rattle.def_terms.specs.declared.Answer.{Answer}
use Rattle.def_words.specs.Layout.{Tables}
use Rattle.def_sheets.specs.Write.{entries_of}
use Rattle.def_whole_calls.specs.Sheet.{SheetResult, sheet_result, sheet_words}
use Rattle.def_sheet_rows.specs.Arguments.{arguments_of}
use Rattle.def_sheet_rows.specs.declared.SheetAdded.{SheetAdded}

-- the adds of the rows' entries
abbrev pub adds_of : List ℕ → List Arguments
adds_of rows = map arguments_of (entries_of rows)

-- the sheet of all rows; words that make no whole rows are a table shorter than its records need: 1
unfoldable pub rows_words : Sizes → Tables → ℕ → List ℕ → SheetResult
rows_words s t w rows =
    pick (eqb (length rows % entry_words) 0) (sheet_words s t w (adds_of rows)) (sheet_result wrong_size [] t)

-- an add that is run whole ends, or is refused by a number, of which 6 has a place
abbrev pub number_of : Answer → ℕ
number_of x = if_refused x (λ n i. n) 0

abbrev pub place_of : Answer → ℕ
place_of x = if_refused x (λ n i. i) 0

-- the numbers and the places of the entries from i on, stored in their row, and which entry damage stopped half done
abbrev pub told_from : List ℕ → List ℕ → ℕ → ℕ → List Answer → SheetAdded
told_from numbers places stopped i xs =
    record {
      number = 0;
      numbers = sets numbers i (map number_of xs);
      places = sets places i (map place_of xs);
      stopped = stopped;
    }

abbrev pub no_entries : List ℕ
no_entries = replicate most_entries 0

-- "each entry's number and place", and which entry damage stopped half done: 1 more than its number, or 0
abbrev pub sheet_added : ℕ → SheetResult → SheetAdded
sheet_added stopped o =
    record {
      number = o.number;
      numbers = sets no_entries 0 (map number_of o.answers);
      places = sets no_entries 0 (map place_of o.answers);
      stopped = stopped;
    }

-- a sheet that was turned away
abbrev pub turned_away : ℕ → SheetAdded
turned_away n = record { number = n; numbers = no_entries; places = no_entries; stopped = 0 }

-- a sheet answers so and leaves these tables: those of a definition's result, as C has them, with the entry that
-- damage stopped half done
abbrev pub Added : SheetAdded → Tables → ℕ → SheetResult → Type 0
Added r t stopped o = (r ≡ sheet_added stopped o) × (t ≡ o.state)
