-- The graph as total maps, with what the rules do not keep: the prerequisites by number, how far each call has come,
-- and who works on what. Only one call at a time works on a job, so that its registers stand with the job
-- (docs/RULES.md, "Steps").
use Rattle.std.specs.Prelude.{Bool, true, false, ◌||◌, List, [], ◌∷◌, ◌++◌, ℕ, suc, ◌+◌, ◌-◌, length}
use Rattle.std.proofs.Math.Option.{Option, none, some}
use Rattle.def_basics.specs.Base.{update}
use Rattle.def_terms.specs.Terms.{Label, executing, finished}
use Rattle.def_rules.specs.Rules.{enqueue}
use Rattle.def_basics.specs.Counting.{hit}

-- whether a worker's call works on a job that is there: an add of an entered job, a finish of a marked one
pub data Stage : Type 0 where
  apart : Stage
  adding finishing : ℕ → Stage

abbrev pub tag : Stage → ℕ
tag apart = 0
tag (adding j) = 1
tag (finishing p) = 2

-- size: how many jobs there are. prerequisites: the jobs of the listed names. linked: how many of them the add has
-- linked or tallied. tally: those found finished by the add that is under way. served: how many dependents the finish
-- has notified. entries: into the queue. gate: 1 while something else than its count keeps a job from the queue, that
-- it is not there or that it lists nothing and is not settled. adder, finisher: the worker whose add or finish works on
-- the job. holder: the last worker that was handed the job. failed, spoiled: its outcome and its spoiled word. noted:
-- the add that is under way found a failed prerequisite.
pub record State : Type 0 where
  pub size : ℕ
  pub label : ℕ → Label
  pub count : ℕ → ℕ
  pub dependents : ℕ → List ℕ
  pub queue : List ℕ
  pub held : ℕ → Option ℕ
  pub stage : ℕ → Stage
  pub prerequisites : ℕ → List ℕ
  pub linked : ℕ → ℕ
  pub tally : ℕ → ℕ
  pub served : ℕ → ℕ
  pub queue_entries : ℕ → ℕ
  pub gate : ℕ → ℕ
  pub adder : ℕ → Option ℕ
  pub finisher : ℕ → Option ℕ
  pub holder : ℕ → ℕ
  pub failed : ℕ → Bool
  pub spoiled : ℕ → Bool
  pub noted : ℕ → Bool

-- what a job j that is queued if the test holds adds to the entries of k
abbrev pub hit_if : Bool → ℕ → ℕ → ℕ
hit_if true k j = hit k j
hit_if false k j = 0

-- what was so of j stays so, and becomes so if b
abbrev pub also : (ℕ → Bool) → ℕ → Bool → ℕ → Bool
also m j b = update m j (m j || b)

-- ---- the atomic actions, each with no test of its own
abbrev pub enter : State → ℕ → List ℕ → State
enter s w ps = record {
  size = suc s.size;
  label = s.label;
  count = update s.count s.size (length ps);
  dependents = s.dependents;
  queue = s.queue;
  held = s.held;
  stage = update s.stage w (adding s.size);
  prerequisites = update s.prerequisites s.size ps;
  linked = s.linked;
  tally = s.tally;
  served = s.served;
  queue_entries = s.queue_entries;
  gate = update s.gate s.size (1 - length ps);
  adder = update s.adder s.size (some w);
  finisher = s.finisher;
  holder = s.holder;
  failed = s.failed;
  spoiled = s.spoiled;
  noted = s.noted;
}

-- a link to a finished prerequisite, which is tallied, and noted if it failed
abbrev pub link_finished : State → ℕ → Bool → State
link_finished s j f = record {
  size = s.size;
  label = s.label;
  count = s.count;
  dependents = s.dependents;
  queue = s.queue;
  held = s.held;
  stage = s.stage;
  prerequisites = s.prerequisites;
  linked = λ k. s.linked k + hit k j;
  tally = λ k. s.tally k + hit k j;
  served = s.served;
  queue_entries = s.queue_entries;
  gate = s.gate;
  adder = s.adder;
  finisher = s.finisher;
  holder = s.holder;
  failed = s.failed;
  spoiled = s.spoiled;
  noted = also s.noted j f;
}

-- a link to any other prerequisite p, whose dependents the job becomes one of
abbrev pub link_dependent : State → ℕ → ℕ → State
link_dependent s j p = record {
  size = s.size;
  label = s.label;
  count = s.count;
  dependents = update s.dependents p (s.dependents p ++ (j ∷ []));
  queue = s.queue;
  held = s.held;
  stage = s.stage;
  prerequisites = s.prerequisites;
  linked = λ k. s.linked k + hit k j;
  tally = s.tally;
  served = s.served;
  queue_entries = s.queue_entries;
  gate = s.gate;
  adder = s.adder;
  finisher = s.finisher;
  holder = s.holder;
  failed = s.failed;
  spoiled = s.spoiled;
  noted = s.noted;
}

abbrev pub settle : State → ℕ → ℕ → Bool → State
settle s w j b = record {
  size = s.size;
  label = s.label;
  count = update s.count j (s.count j - s.tally j);
  dependents = s.dependents;
  queue = enqueue b s.queue j;
  held = s.held;
  stage = update s.stage w apart;
  prerequisites = s.prerequisites;
  linked = s.linked;
  tally = update s.tally j 0;
  served = s.served;
  queue_entries = λ k. s.queue_entries k + hit_if b k j;
  gate = update s.gate j 0;
  adder = update s.adder j none;
  finisher = s.finisher;
  holder = s.holder;
  failed = s.failed;
  spoiled = also s.spoiled j (s.noted j);
  noted = update s.noted j false;
}

-- a get hands the job j out, and leaves the queue q
abbrev pub hand : State → ℕ → ℕ → List ℕ → State
hand s w j q = record {
  size = s.size;
  label = update s.label j executing;
  count = s.count;
  dependents = s.dependents;
  queue = q;
  held = update s.held w (some j);
  stage = s.stage;
  prerequisites = s.prerequisites;
  linked = s.linked;
  tally = s.tally;
  served = s.served;
  queue_entries = s.queue_entries;
  gate = s.gate;
  adder = s.adder;
  finisher = s.finisher;
  holder = update s.holder j w;
  failed = s.failed;
  spoiled = s.spoiled;
  noted = s.noted;
}

abbrev pub mark : State → ℕ → ℕ → Bool → State
mark s w p f = record {
  size = s.size;
  label = update s.label p finished;
  count = s.count;
  dependents = s.dependents;
  queue = s.queue;
  held = update s.held w none;
  stage = update s.stage w (finishing p);
  prerequisites = s.prerequisites;
  linked = s.linked;
  tally = s.tally;
  served = s.served;
  queue_entries = s.queue_entries;
  gate = s.gate;
  adder = s.adder;
  finisher = update s.finisher p (some w);
  holder = s.holder;
  failed = update s.failed p f;
  spoiled = s.spoiled;
  noted = s.noted;
}

-- a finish of p, with the outcome f, notifies the dependent j
abbrev pub serve : State → ℕ → ℕ → Bool → Bool → State
serve s p j b f = record {
  size = s.size;
  label = s.label;
  count = λ k. s.count k - hit k j;
  dependents = s.dependents;
  queue = enqueue b s.queue j;
  held = s.held;
  stage = s.stage;
  prerequisites = s.prerequisites;
  linked = s.linked;
  tally = s.tally;
  served = update s.served p (suc (s.served p));
  queue_entries = λ k. s.queue_entries k + hit_if b k j;
  gate = s.gate;
  adder = s.adder;
  finisher = s.finisher;
  holder = s.holder;
  failed = s.failed;
  spoiled = also s.spoiled j f;
  noted = s.noted;
}

-- a finish that has notified all dependents is over
abbrev pub close : State → ℕ → ℕ → State
close s w p = record {
  size = s.size;
  label = s.label;
  count = s.count;
  dependents = s.dependents;
  queue = s.queue;
  held = s.held;
  stage = update s.stage w apart;
  prerequisites = s.prerequisites;
  linked = s.linked;
  tally = s.tally;
  served = s.served;
  queue_entries = s.queue_entries;
  gate = s.gate;
  adder = s.adder;
  finisher = update s.finisher p none;
  holder = s.holder;
  failed = s.failed;
  spoiled = s.spoiled;
  noted = s.noted;
}
