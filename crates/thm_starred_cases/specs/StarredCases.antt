-- The starred cases of docs/RULES.md, "Checked by hand", together: cases 1 to 6 by the rules and by the words of the
-- tables, 7 by the bucket function, 8 by the reader of sheets; one theorem shows them all from the definitions that the
-- code's contracts cite.
use Rattle.std.specs.Prelude.{◌≡◌, refl, [], ◌∷◌, map, ℕ}
use Rattle.def_bucket.specs.Bucket.{bucket_of}
use Rattle.def_bucket.specs.Laws.{five_buckets}
use Rattle.def_terms.specs.Runs.{worker_of}
use Rattle.def_terms.specs.Starred.{Row, items_of, before, orders, case4, starred, one_of_two}
use Rattle.def_rules.specs.RuleCases.{RulesTell}
use Rattle.def_rules.specs.RuleCases as by_rules
use Rattle.def_words.specs.WordCases.{WordsTell}
use Rattle.def_words.specs.WordCases as by_words
use Rattle.def_sheets.specs.Decode.{decode_sheet}
use Rattle.thm_sheets.specs.SheetCases.{Case, case_8, cases_hold}

-- after each item of a row: its answer, the jobs that wait and its worker's tally; and the entries into the queue. The
-- addition is no case of the document: a job that needs two others waits once both are finished, and not before
pub record Starred : Type 0 where
  pub cases_1_to_6_by_rules : RulesTell starred
  pub cases_1_to_6_by_words : WordsTell starred
  -- "in every order": of case 4 the worker of each line, in the six orders of two posts and two steps
  pub case_4_orders :
      map (λ (r : Row). map worker_of (items_of r.lines)) case4
      ≡ (0 ∷ 0 ∷ 1 ∷ 1 ∷ []) ∷ (0 ∷ 1 ∷ 0 ∷ 1 ∷ []) ∷ (0 ∷ 1 ∷ 1 ∷ 0 ∷ []) ∷ (1 ∷ 0 ∷ 0 ∷ 1 ∷ [])
      ∷ (1 ∷ 0 ∷ 1 ∷ 0 ∷ [])
      ∷ (1 ∷ 1 ∷ 0 ∷ 0 ∷ [])
      ∷ []
  pub addition_by_rules : RulesTell one_of_two
  pub addition_by_words : WordsTell one_of_two
  pub case_7 : map (λ (name : ℕ). bucket_of name 2) (1 ∷ 2 ∷ 3 ∷ 4 ∷ 5 ∷ []) ≡ 2 ∷ 0 ∷ 3 ∷ 1 ∷ 0 ∷ []
  pub case_8_rows : map (λ (c : Case). decode_sheet c.bytes) case_8 ≡ map (λ (c : Case). c.reads) case_8

pub every_row : Starred
unfolding orders before
every_row = record {
  cases_1_to_6_by_rules = by_rules.starred_rows;
  cases_1_to_6_by_words = by_words.starred_rows;
  case_4_orders = refl;
  addition_by_rules = by_rules.one_of_two_rows;
  addition_by_words = by_words.one_of_two_rows;
  case_7 = five_buckets;
  case_8_rows = cases_hold.0;
}
