-- Calls "run whole", by the rules: an add or a finish posted, and its steps with no item between, until one does not go
-- on. How many steps that takes, what they answer and what they leave ("Steps", "Turned-away calls"). The statements
-- alone.
use Rattle.std.specs.Prelude.{◌≡◌, ◌≢◌, Bool, true, false, List, [], ◌∷◌, ◌++◌, map, ℕ, zero, suc, ◌+◌, ◌*◌, ◌<◌, length, replicate}
use Rattle.std.proofs.Math.Option.{none, some}
use Rattle.def_numbers.specs.Numbers.{wrong_arguments, unknown_name, name_present, tables_full, not_held, good_for_spoiled}
use Rattle.def_terms.specs.Terms.{Arguments, finished, Finish}
use Rattle.def_terms.specs.Runs.{Item, post_add, post_finish, step, Event, after, events}
use Rattle.def_terms.specs.declared.Sizes.{Sizes}
use Rattle.def_terms.specs.declared.Answer.{Answer}
use Rattle.def_terms.specs.declared.Answer.TheVariants.{Posted, Going, Ended, Refused}
use Rattle.def_rules.specs.Rules.{idle, Graph, job, ends_good, perform}
use Rattle.thm_rules_cases.specs.Deed.{HoldsNot}

-- ---- a list of items by the rules
abbrev pub steps_of : Sizes → ℕ → ℕ → List Item
steps_of s w k = replicate k (step s w)

abbrev pub answers : Sizes → Graph → List Item → List Answer
answers s g is = map (λ (e : Event). e.answer) (events (perform s) g is)

abbrev pub through : Sizes → Graph → List Item → Graph
through s g is = after (perform s) g is

-- "A step answers "going on" or how the call ended": all go on but the last
abbrev pub going_to : ℕ → Answer → List Answer
going_to k x = replicate k Going ++ (x ∷ [])

-- a call of so many steps: without any it is its post that ends it
abbrev pub wholly : ℕ → Answer → List Answer
wholly zero x = x ∷ []
wholly (suc k) x = Posted ∷ going_to k x

-- ---- what is left
-- more at the end of the queue, perhaps
pub record Grown (q l : List ℕ) : Type 0 where
  pub more : List ℕ
  pub so : l ≡ q ++ more

-- the holds, the calls of the other workers, the labels and the outcomes are as they were, and no job has left the
-- queue (a job that is not there is unexecuted, as is one that enters)
pub record Kept (w : ℕ) (g later : Graph) : Type 0 where
  pub held : (later.workers w).held ≡ (g.workers w).held
  pub others : (v : ℕ) → v ≢ w → later.workers v ≡ g.workers v
  pub labels : (j : ℕ) → (job later j).label ≡ (job g j).label
  pub outcomes : (j : ℕ) → (job later j).failed ≡ (job g j).failed
  pub queue : Grown g.queue later.queue

-- "nothing else changed"
pub record Unchanged (g later : Graph) : Type 0 where
  pub jobs : later.jobs ≡ g.jobs
  pub reserved : later.reserved ≡ g.reserved
  pub queue : later.queue ≡ g.queue

-- ---- an add: "An accepted add takes exactly 2d + 2 steps", and makes a job; 5 refuses its post, 6 the look-up of the
-- name at its place, 7 and 8 its entering step
pub data AddEnd (a : Arguments) (g later : Graph) (steps : ℕ) : Answer → Type 0 where
  accepted : steps ≡ 2 * a.count + 2 → length later.jobs ≡ suc (length g.jobs) → AddEnd a g later steps Ended
  wrong : steps ≡ 0 → Unchanged g later → AddEnd a g later steps (Refused wrong_arguments 0)
  unknown : {i : ℕ} → i < a.count → steps ≡ i + 1 → Unchanged g later → AddEnd a g later steps (Refused unknown_name i)
  present : steps ≡ a.count + 1 → Unchanged g later → AddEnd a g later steps (Refused name_present 0)
  no_room_lem : steps ≡ a.count + 1 → Unchanged g later → AddEnd a g later steps (Refused tables_full 0)

pub record AddLeft (w : ℕ) (a : Arguments) (g later : Graph) (steps : ℕ) (answer : Answer) : Type 0 where
  pub idle : (later.workers w).call ≡ idle
  pub kept : Kept w g later
  pub end : AddEnd a g later steps answer

abbrev pub add_items : Sizes → ℕ → Arguments → ℕ → List Item
add_items s w a steps = post_add s w a ∷ steps_of s w steps

pub record WholeAdd (s : Sizes) (g : Graph) (w : ℕ) (a : Arguments) : Type 0 where
  pub steps : ℕ
  pub answer : Answer
  pub answered : answers s g (add_items s w a steps) ≡ wholly steps answer
  pub left : AddLeft w a g (through s g (add_items s w a steps)) steps answer

-- ---- a finish, with its outcome: "It takes 1 step more than it has arcs"; of the held job p it "labels the job
-- finished and frees the worker's hold". 11 and 19 refuse its post
pub record FinishLeft (w p : ℕ) (outcome : Bool) (g later : Graph) : Type 0 where
  pub idle : (later.workers w).call ≡ idle
  pub held : (later.workers w).held ≡ none
  pub others : (v : ℕ) → v ≢ w → later.workers v ≡ g.workers v
  pub finished : (job later p).label ≡ finished
  pub failed : (job later p).failed ≡ outcome
  pub labels : (j : ℕ) → j ≢ p → (job later j).label ≡ (job g j).label
  pub outcomes : (j : ℕ) → j ≢ p → (job later j).failed ≡ (job g j).failed
  pub jobs : length later.jobs ≡ length g.jobs
  pub queue : Grown g.queue later.queue

-- the worker holds the job p of the name
pub record Holds (g : Graph) (w name p : ℕ) : Type 0 where
  pub held : (g.workers w).held ≡ some p
  pub named : (job g p).name ≡ name

pub data FinishEnd (w : ℕ) (f : Finish) (g later : Graph) (steps : ℕ) : Answer → Type 0 where
  accepted : (p : ℕ) → Holds g w f.name p → ends_good g p f ≡ false → steps ≡ suc (length (job g p).dependents)
      → FinishLeft w p f.failed g later → FinishEnd w f g later steps Ended
  not_held_lem : HoldsNot g f.name (g.workers w).held → steps ≡ 0 → later ≡ g
      → FinishEnd w f g later steps (Refused not_held 0)
  good_for_spoiled_lem : (p : ℕ) → Holds g w f.name p → ends_good g p f ≡ true → steps ≡ 0 → later ≡ g
      → FinishEnd w f g later steps (Refused good_for_spoiled 0)

abbrev pub finish_items : Sizes → ℕ → Finish → ℕ → List Item
finish_items s w f steps = post_finish s w f ∷ steps_of s w steps

pub record WholeFinish (s : Sizes) (g : Graph) (w : ℕ) (f : Finish) : Type 0 where
  pub steps : ℕ
  pub answer : Answer
  pub answered : answers s g (finish_items s w f steps) ≡ wholly steps answer
  pub end : FinishEnd w f g (through s g (finish_items s w f steps)) steps answer
