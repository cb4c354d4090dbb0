-- What holds of every graph that the rules reach from the empty one, as far as the tables of words and the reference
-- model rest on it. The statements alone; they are shown elsewhere.
use Rattle.std.specs.Prelude.{◌≡◌, ◌≢◌, ◌↔◌, Bool, true, false, List, [], ◌∷◌, ℕ, ◌+◌, ◌-◌, ◌≤◌, ◌<◌, length, get_or}
use Rattle.std.proofs.Math.Option.{Option, none, some}
use Rattle.def_numbers.specs.Numbers.{most_names, most_class}
use Rattle.def_basics.specs.Base.{occurrences}
use Rattle.def_minutes.specs.Rising.{is_rising}
use Rattle.def_terms.specs.Terms.{settles, Label, unexecuted, executing, finished, Arguments, listed, arguments_wrong}
use Rattle.def_terms.specs.Terms.{Tally}
use Rattle.def_terms.specs.declared.Sizes.{Sizes}
use Rattle.def_rules.specs.Rules.{Job, Call, idle, looking, linking, marking, notifying, Graph, job, find, at}

-- the jobs that were handed out
abbrev pub started_by : Label → ℕ
started_by unexecuted = 0
started_by executing = 1
started_by finished = 1

unfoldable pub started : List Job → ℕ
started [] = 0
started (x ∷ l) = started_by x.label + started l

-- a job of the graph has the name
pub record Named (g : Graph) (name : ℕ) : Type 0 where
  pub job : ℕ
  pub found : find g name ≡ at job

-- a job may enter the queue: it is not handed out, it is not there, and there is room
pub record MayQueue (g : Graph) (j : ℕ) : Type 0 where
  pub unexecuted : (job g j).label ≡ unexecuted
  pub absent : occurrences j g.queue ≡ 0
  pub room : started g.jobs + length g.queue < length g.jobs

pub record Looking (g : Graph) (a : Arguments) (i : ℕ) : Type 0 where
  pub right : arguments_wrong a ≡ false
  pub within : i ≤ a.count
  pub found : (q : ℕ) → q < i → Named g (get_or (listed a) q 0)

pub record Linking (g : Graph) (a : Arguments) (j i : ℕ) (t : Tally) : Type 0 where
  pub right : arguments_wrong a ≡ false
  pub within : i ≤ a.count
  pub tallied : t.count ≤ i
  pub there : j < length g.jobs
  pub list : (job g j).list ≡ listed a
  pub found : (q : ℕ) → q < a.count → Named g (get_or (listed a) q 0)
  pub covered : t.count ≤ (job g j).count
  pub queues : i ≡ a.count → settles ((job g j).count - t.count) t.count a.count ≡ true → MayQueue g j

pub record Notifying (g : Graph) (p k : ℕ) (f : Bool) : Type 0 where
  pub there : p < length g.jobs
  pub finished : (job g p).label ≡ finished
  pub outcome : (job g p).failed ≡ f
  pub within : k < length (job g p).dependents
  pub counted : 1 ≤ (job g (get_or (job g p).dependents k 0)).count
  pub queues : (job g (get_or (job g p).dependents k 0)).count ≡ 1 → MayQueue g (get_or (job g p).dependents k 0)

abbrev pub CallSound : Graph → Option ℕ → Call → Type 0
CallSound g h idle = Unit {0}
CallSound g h (looking a i) = Looking g a i
CallSound g h (linking a j i t) = Linking g a j i t
CallSound g none (marking f) = ⊥
CallSound g (some p) (marking f) = Unit {0}
CallSound g h (notifying p k f) = Notifying g p k f

-- a job that waits: its prerequisites, the jobs of its listed names, are finished
pub record Finished (g : Graph) (name : ℕ) : Type 0 where
  pub job : ℕ
  pub found : find g name ≡ at job
  pub finished : (Rattle.def_rules.specs.Rules.job g job).label ≡ finished

-- one of these names has a job that failed
pub record FailedAmong (g : Graph) (names : List ℕ) : Type 0 where
  pub place : ℕ
  pub within : place < length names
  pub job : ℕ
  pub found : find g (get_or names place 0) ≡ at job
  pub failed : (Rattle.def_rules.specs.Rules.job g job).failed ≡ true

pub record Sound (s : Sizes) (g : Graph) : Type 0 where
  pub jobs : length g.jobs ≤ s.jobs
  pub arcs : g.reserved ≤ s.arcs
  pub minutes : is_rising g.minutes ≡ true
  pub names : (i j : ℕ) → i < length g.jobs → j < length g.jobs → (job g i).name ≡ (job g j).name → i ≡ j
  pub counts : (j : ℕ) → (job g j).count ≤ most_names
  pub classes : (j : ℕ) → (job g j).class ≤ most_class
  pub dependents : (p i : ℕ) → i < length (job g p).dependents → get_or (job g p).dependents i 0 < length g.jobs
  pub queue_there : (j : ℕ) → 0 < occurrences j g.queue → j < length g.jobs
  pub queue_unexecuted : (j : ℕ) → 0 < occurrences j g.queue → (job g j).label ≡ unexecuted
  pub queue_once : (j : ℕ) → occurrences j g.queue ≤ 1
  pub queue_ready : (j : ℕ) → 0 < occurrences j g.queue → (i : ℕ) → i < length (job g j).list
      → Finished g (get_or (job g j).list i 0)
  pub queue_room : started g.jobs + length g.queue ≤ length g.jobs
  -- a job is spoiled for a prerequisite that failed; of one that waits or was handed out that is complete
  pub spoiled_by_lem : (j : ℕ) → (job g j).spoiled ≡ true → FailedAmong g (job g j).list
  pub spoiled_jobs : (j : ℕ) → 0 < occurrences j g.queue + started_by (job g j).label
      → ((job g j).spoiled ≡ true) ↔ FailedAmong g (job g j).list
  -- a spoiled job ends failed, and a job not finished has not failed
  pub ends_failed : (j : ℕ) → (job g j).label ≡ finished → (job g j).spoiled ≡ true → (job g j).failed ≡ true
  pub unended : (j : ℕ) → (job g j).label ≢ finished → (job g j).failed ≡ false
  pub held_there : (w j : ℕ) → (g.workers w).held ≡ some j → j < length g.jobs
  pub held_executing : (w j : ℕ) → (g.workers w).held ≡ some j → (job g j).label ≡ executing
  pub held_once : (v w j : ℕ) → (g.workers v).held ≡ some j → (g.workers w).held ≡ some j → v ≡ w
  pub calls : (w : ℕ) → CallSound g (g.workers w).held (g.workers w).call
  -- one add at a time works on a job
  pub alone : (v w j i k : ℕ) (t u : Tally) (a b : Arguments) → (g.workers v).call ≡ linking a j i t
      → (g.workers w).call ≡ linking b j k u → v ≡ w
