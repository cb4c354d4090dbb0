-- A whole sheet in one call: up to 64 entries that were read already, each added whole, in order, by one idle worker
-- (docs/RULES.md, "Whole calls").
use Rattle.std.specs.Prelude.{List, [], ◌∷◌, ℕ, zero, suc, leb, eqb, length}
use Rattle.def_numbers.specs.Numbers.{most_entries, half_done, too_many_entries}
use Rattle.def_basics.specs.Base.{pick}
use Rattle.def_terms.specs.Terms.{Arguments}
use Rattle.def_terms.specs.declared.Sizes.{Sizes}
use Rattle.def_terms.specs.declared.Answer.{Answer}
use Rattle.def_words.specs.Layout.{Tables, view, PHASE, IDLE}
use Rattle.def_words.specs.Words.{admitted, refusal}
use Rattle.def_whole_calls.specs.Whole.{whole_add}

-- the number that turned the sheet away, or 0; what the add of each entry answered; the tables left
pub record SheetResult : Type 0 where
  pub number : ℕ
  pub answers : List Answer
  pub state : Tables

abbrev pub sheet_result : ℕ → List Answer → Tables → SheetResult
sheet_result n xs t = record { number = n; answers = xs; state = t }

-- "runs each add whole, in order"; "A refused entry does not stop the next"
unfoldable pub add_each : Sizes → ℕ → List Arguments → Tables → SheetResult
add_each s w [] t = sheet_result 0 [] t
add_each s w (a ∷ l) t =
    let o = whole_add s t w a in
    let rest = add_each s w l o.state in
    sheet_result 0 (o.answer ∷ rest.answers) rest.state

-- "for one idle worker": 1, 2, 9 for its own words, 3, and then "16, more than 64 entries, looked at after 3 and before
-- any entry"
abbrev pub judged_sheet : Sizes → Tables → ℕ → ℕ → ℕ
judged_sheet s t w n =
    admitted s t w refusal
    (pick (eqb ((view t).worker PHASE w) IDLE) (pick (leb n most_entries) 0 too_many_entries) half_done)

-- "nothing changed"
unfoldable pub served : ℕ → Sizes → Tables → ℕ → List Arguments → SheetResult
served zero s t w l = add_each s w l t
served (suc n) s t w l = sheet_result (suc n) [] t

unfoldable pub sheet_words : Sizes → Tables → ℕ → List Arguments → SheetResult
sheet_words s t w l = served (judged_sheet s t w (length l)) s t w l
