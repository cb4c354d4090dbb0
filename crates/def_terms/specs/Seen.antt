-- What is looked at in the state of a machine that answers items: the jobs, the queue, the holds and the calls half
-- done, with no word of how a machine keeps them. Follows docs/RULES.md, "Tables and their measures" and "Steps".
use Rattle.std.specs.Prelude.{◌≡◌, List, ℕ, ◌<◌, eqb}
use Rattle.std.proofs.Math.Option.{Option}
use Rattle.def_terms.specs.Terms.{Arguments, listed}
use Rattle.def_terms.specs.declared.Sizes.{Sizes}
use Rattle.def_terms.specs.declared.HandOut.{HandOut}

-- what an add asks for: its arguments up to the count of its list
pub record Request : Type 0 where
  pub name : ℕ
  pub list : List ℕ
  pub class : ℕ
  pub grower : ℕ

abbrev pub request : Arguments → Request
request a = record { name = a.name; list = listed a; class = a.class; grower = a.grower }

-- "the call half done": an add before its entering step, at a place of its list; an add of the job that it entered, at
-- a place of its list, with its tally and its note; a finish with its outcome before its mark; a finish with its
-- outcome after it, with the dependents whose counts are yet to be lowered, in order
pub data CallSeen : Type 0 where
  idle : CallSeen
  looking : Request → ℕ → CallSeen
  linking : Request → (job place tally note : ℕ) → CallSeen
  marking : ℕ → CallSeen
  notifying : ℕ → List ℕ → CallSeen

-- a job, with the dependents of its arcs, oldest first; its outcome, which is 0 while it is not finished and 1 for
-- failed, and its spoiled word, which is 1 for spoiled
pub record JobSeen : Type 0 where
  pub name : ℕ
  pub label : ℕ
  pub count : ℕ
  pub class : ℕ
  pub grower : ℕ
  pub arcs : List ℕ
  pub outcome : ℕ
  pub spoiled : ℕ

-- how many jobs were made and arcs reserved, the minutes by class, each job by its number, the queue in order, and of
-- each worker its hold and its call
pub record Seen : Type 0 where
  pub made : ℕ
  pub reserved : ℕ
  pub minutes : List ℕ
  pub job : ℕ → JobSeen
  pub waiting : List ℕ
  pub held : ℕ → Option ℕ
  pub call : ℕ → CallSeen

-- a job as it is handed out
abbrev pub hand_out : Seen → ℕ → HandOut
hand_out x j = record { job = j; name = (x.job j).name; spoiled = eqb (x.job j).spoiled 1 }

-- the same is seen: of all jobs that were made and of all workers
pub record Same (s : Sizes) (x y : Seen) : Type 0 where
  pub made : x.made ≡ y.made
  pub reserved : x.reserved ≡ y.reserved
  pub minutes : x.minutes ≡ y.minutes
  pub jobs : (j : ℕ) → j < y.made → x.job j ≡ y.job j
  pub waiting : x.waiting ≡ y.waiting
  pub held : (w : ℕ) → w < s.workers → x.held w ≡ y.held w
  pub calls : (w : ℕ) → w < s.workers → x.call w ≡ y.call w
