-- The numbers of calls run whole, for ALL tables and arguments: what turns an add, a finish or a sheet away, and that
-- an add's number is 0 just if it ended. Follows docs/RULES.md, "Whole calls" and "Turned-away calls".
use Rattle.std.specs.Prelude.{◌≡◌, true, List, [], ◌∷◌, ℕ, ◌<◌}
use Rattle.def_numbers.specs.Numbers.{wrong_size, no_such_worker, half_done, wrong_arguments, unknown_name}
use Rattle.def_numbers.specs.Numbers.{name_present, tables_full, damaged, not_held, too_many_entries, good_for_spoiled}
use Rattle.def_basics.specs.Base.{contains}
use Rattle.def_terms.specs.Terms.{Arguments}
use Rattle.def_terms.specs.declared.Answer.{Answer}
use Rattle.def_terms.specs.declared.Answer.TheVariants.{Going, Ended, Refused}

-- ---- an add
-- its numbers but 6, which alone has a place
abbrev pub add_placeless : List ℕ
add_placeless = wrong_size ∷ no_such_worker ∷ damaged ∷ half_done ∷ wrong_arguments ∷ name_present ∷ tables_full ∷ []

-- "answers how the add ended"; the place of 6 is one of its list
pub data AddAnswer (a : Arguments) : Answer → Type 0 where
  ended : AddAnswer a Ended
  refused : {n : ℕ} → contains n add_placeless ≡ true → AddAnswer a (Refused n 0)
  unknown : {i : ℕ} → i < a.count → AddAnswer a (Refused unknown_name i)

-- ---- a finish
abbrev pub finish_numbers : List ℕ
finish_numbers = wrong_size ∷ no_such_worker ∷ damaged ∷ half_done ∷ not_held ∷ good_for_spoiled ∷ []

-- "going on" where a list of arcs runs in a circle
pub data FinishAnswer : Answer → Type 0 where
  ended : FinishAnswer Ended
  going : FinishAnswer Going
  refused : {n : ℕ} → contains n finish_numbers ≡ true → FinishAnswer (Refused n 0)

-- ---- a sheet
abbrev pub sheet_numbers : List ℕ
sheet_numbers = 0 ∷ wrong_size ∷ no_such_worker ∷ damaged ∷ half_done ∷ too_many_entries ∷ []

abbrev pub Of : ℕ → Type 0
Of n = contains n sheet_numbers ≡ true
