-- What an add and a finish that were run whole leave, by their answer, for ALL tables and arguments. Follows
-- docs/RULES.md, "Whole calls" and the last column of the table in "Turned-away calls".
use Rattle.std.specs.Prelude.{List, [], ◌∷◌, ℕ}
use Rattle.def_numbers.specs.Numbers.{wrong_size, no_such_worker, half_done, wrong_arguments, unknown_name, name_present}
use Rattle.def_numbers.specs.Numbers.{tables_full, not_held, good_for_spoiled}

-- ---- an add
abbrev pub add_keeps : List ℕ
add_keeps = wrong_size ∷ no_such_worker ∷ half_done ∷ wrong_arguments ∷ []

abbrev pub add_idles : List ℕ
add_idles = unknown_name ∷ name_present ∷ tables_full ∷ []

-- ---- a finish
abbrev pub finish_keeps : List ℕ
finish_keeps = wrong_size ∷ no_such_worker ∷ half_done ∷ not_held ∷ good_for_spoiled ∷ []
