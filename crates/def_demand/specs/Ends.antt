-- How calls end, step by step: what the step after k answered steps of a call may answer ("Steps").
use Rattle.std.specs.Prelude.{◌≡◌, ℕ, ◌+◌, ◌*◌, ◌<◌, length}
use Rattle.def_numbers.specs.Numbers.{unknown_name, name_present, tables_full}
use Rattle.def_terms.specs.Terms.{Arguments}
use Rattle.def_terms.specs.Seen.{Seen}
use Rattle.def_terms.specs.declared.Answer.{Answer}
use Rattle.def_terms.specs.declared.Answer.TheVariants.{Going, Ended, Refused}

-- an add: "First one look-up for each listed name", which finds the name or refuses by 6 with its place; "Next one
-- entering step", which enters or refuses by 7 or 8; "Next one link step for each listed name"; "Last one settling
-- step", which ends the add at step 2d + 2. From the entering step on nothing refuses, and no other step ends it.
pub data AddStep (a : Arguments) : ℕ → Answer → Type 0 where
  looked_up_lem : {k : ℕ} → k < a.count → AddStep a k Going
  unknown : {k : ℕ} → k < a.count → AddStep a k (Refused unknown_name k)
  entered : AddStep a a.count Going
  present : AddStep a a.count (Refused name_present 0)
  no_room_lem : AddStep a a.count (Refused tables_full 0)
  linked : {k : ℕ} → a.count < k → k < 2 * a.count + 1 → AddStep a k Going
  settled : AddStep a (2 * a.count + 1) Ended

-- a finish of a job with so many arcs: "It takes 1 step more than it has arcs", and none of them refuses
pub data FinishStep (arcs : ℕ) : ℕ → Answer → Type 0 where
  goes_on : {k : ℕ} → k < arcs → FinishStep arcs k Going
  ends : FinishStep arcs arcs Ended

-- the job that the finish names, with its arcs counted along its own list
pub record FinishOf (x : Seen) (name k : ℕ) (answer : Answer) : Type 0 where
  pub job : ℕ
  pub there : job < x.made
  pub named : (x.job job).name ≡ name
  pub step : FinishStep (length (x.job job).arcs) k answer
