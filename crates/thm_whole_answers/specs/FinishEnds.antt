-- How a finish run whole ends and what it leaves, case by case, for ALL tables: ended, still going (more arcs than
-- there can be), turned away with nothing changed, or half done. Follows docs/RULES.md, "Whole calls" and "Turned-away
-- calls".
use Rattle.std.specs.Prelude.{◌≡◌, true, false, List, [], ◌∷◌}
use Prim.Native.Nat.{ℕ}
use Rattle.def_numbers.specs.Numbers.{wrong_size, no_such_worker, half_done, not_held, damaged, good_for_spoiled}
use Rattle.def_basics.specs.Base.{contains}
use Rattle.def_terms.specs.declared.Answer.{Answer}
use Rattle.def_terms.specs.declared.Answer.TheVariants.{Going, Ended, Refused}
use Rattle.def_words.specs.Layout.{Tables, none}
use Rattle.def_fused.specs.FusedWorker.{is_idle}
use Rattle.thm_whole_answers.specs.Worker.{Back}

-- the numbers that turn a finish away before its mark
abbrev pub finish_away : List ℕ
finish_away = wrong_size ∷ no_such_worker ∷ damaged ∷ half_done ∷ not_held ∷ good_for_spoiled ∷ []

-- a finish by worker w, from the tables t: its answer, and the tables left; "the mark frees the worker's hold"
pub data FinishEnds (t : Tables) (w : ℕ) : Answer → Tables → Type 0 where
  ended : {u : Tables} → Back t w none u → FinishEnds t w Ended u
  going : {u : Tables} → is_idle u w ≡ false → FinishEnds t w Going u
  turned_away_lem : {n : ℕ} → contains n finish_away ≡ true → FinishEnds t w (Refused n 0) t
  half_done_lem : {u : Tables} → is_idle u w ≡ false → FinishEnds t w (Refused damaged 0) u
