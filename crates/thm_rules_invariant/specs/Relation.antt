-- How the graph and its reading stand to the maps: what each job and each worker is there, and what follows when one of
-- them changes.
use Rattle.std.specs.Prelude.{◌≡◌, refl, Bool, true, false, List, ℕ, ◌≤◌, ◌<◌, length, get_or}
use Rattle.std.proofs.Common.{sym, ◌∙◌, arith}
use Rattle.std.proofs.Math.Option.{Option, none, some}
use Rattle.def_numbers.specs.Numbers.{most_names, most_class}
use Rattle.def_basics.specs.Base.{contains}
use Rattle.def_minutes.specs.Rising.{is_rising}
use Rattle.def_terms.specs.Terms.{Label, finished, Arguments, listed, arguments_wrong, Tally}
use Rattle.def_terms.specs.declared.Sizes.{Sizes}
use Rattle.def_rules.specs.Rules.{Job, Call, idle, looking, linking, marking, notifying, Worker, Graph, no_job, job, at}
use Rattle.def_rules.specs.Rules.{seek}
use Rattle.def_rules.specs.Sound.{Looking}
use Rattle.def_call_order.specs.Calls.{Pending, Reading}
use Rattle.thm_rules_history.specs.History.{PacedCall}
use Rattle.thm_rules_invariant.specs.State.{Stage, apart, adding, finishing, State}
use Rattle.thm_rules_invariant.specs.Invariant.{Invariant, held_entered}
use Rattle.thm_rules_invariant.specs.Spoiling.{LastsFrom}
use Rattle.thm_rules_invariant.specs.Names.{Extends, looking_keeps}

-- ---- a job
-- its name is found at its number, and its listed names at the numbers of its prerequisites; its list and its class are
-- within their limits
pub record Known (l : List Job) (n k : ℕ) (numbers : List ℕ) (name : ℕ) (names : List ℕ) (class : ℕ) : Type 0 where
  pub named : k < n → seek name l 0 ≡ at k
  pub same_length : length names ≡ length numbers
  pub short : length names ≤ most_names
  pub within : class ≤ most_class
  pub found : (i : ℕ) → i < length names → seek (get_or names i 0) l 0 ≡ at (get_or numbers i 0)

pub known_keeps : {l h : List Job} {n k : ℕ} {numbers : List ℕ} {name : ℕ} {names : List ℕ} {class : ℕ}
    → Extends l h → Known l n k numbers name names class → Known h n k numbers name names class
known_keeps x o = record {
  named = λ r. x.found _ _ (o.named r);
  same_length = o.same_length;
  short = o.short;
  within = o.within;
  found = λ i r. x.found _ _ (o.found i r);
}

pub record JobRel (l : List Job) (n k : ℕ) (now : Label) (left : ℕ) (arcs numbers : List ℕ) (fails spoils : Bool)
    (x : Job) : Type 0 where
  pub label : x.label ≡ now
  pub count : x.count ≡ left
  pub dependents : x.dependents ≡ arcs
  pub failed : x.failed ≡ fails
  pub spoiled : x.spoiled ≡ spoils
  pub known : Known l n k numbers x.name x.list x.class

abbrev pub JobRelAt : List Job → State → ℕ → Job → Type 0
JobRelAt l s k x =
    JobRel l s.size k (s.label k) (s.count k) (s.dependents k) (s.prerequisites k) (s.failed k) (s.spoiled k) x

-- ---- a worker
abbrev pub stage_of : Call → Stage
stage_of idle = apart
stage_of (looking a i) = apart
stage_of (linking a j i t) = adding j
stage_of (marking f) = apart
stage_of (notifying p k f) = finishing p

pub record LinkRel (l : List Job) (done tallies : ℕ → ℕ) (notes : ℕ → Bool) (a : Arguments) (j i : ℕ) (t : Tally)
    : Type 0 where
  pub right : arguments_wrong a ≡ false
  pub there : j < length l
  pub list : (get_or l j no_job).list ≡ listed a
  pub place : i ≡ done j
  pub tallied : t.count ≡ tallies j
  pub noted : t.noted ≡ notes j

pub record NotifyRel (l : List Job) (done : ℕ → ℕ) (arcs : ℕ → List ℕ) (outcomes : ℕ → Bool) (p k : ℕ) (f : Bool)
    : Type 0 where
  pub there : p < length l
  pub place : k ≡ done p
  pub left : k < length (arcs p)
  pub outcome : f ≡ outcomes p

-- of a worker's hold and call: a finish that brings good is of a job that is not spoiled
abbrev pub CallRel : Graph → State → Option ℕ → Call → Type 0
CallRel g s h idle = Unit {0}
CallRel g s h (looking a i) = Looking g a i
CallRel g s h (linking a j i t) = LinkRel g.jobs s.linked s.tally s.noted a j i t
CallRel g s h (marking f) = (p : ℕ) → h ≡ some p → f ≡ false → s.spoiled p ≡ false
CallRel g s h (notifying p k f) = NotifyRel g.jobs s.served s.dependents s.failed p k f

pub record WorkerRel (g : Graph) (s : State) (v : ℕ) (p : Pending) (x : Worker) : Type 0 where
  pub held : x.held ≡ s.held v
  pub stage : s.stage v ≡ stage_of x.call
  pub call : CallRel g s x.held x.call
  pub paced : PacedCall g x.held x.call p

-- what another worker's call rests on is the same in two states
pub record Same (s t : State) (v : ℕ) : Type 0 where
  pub held : s.held v ≡ t.held v
  pub stage : s.stage v ≡ t.stage v
  pub linked : (j : ℕ) → s.stage v ≡ adding j → s.linked j ≡ t.linked j
  pub tally : (j : ℕ) → s.stage v ≡ adding j → s.tally j ≡ t.tally j
  pub noted : (j : ℕ) → s.stage v ≡ adding j → s.noted j ≡ t.noted j
  pub served : (p : ℕ) → s.stage v ≡ finishing p → s.served p ≡ t.served p
  pub dependents : (p : ℕ) → length (s.dependents p) ≤ length (t.dependents p)

module _ (g h : Graph) (s t : State) (x : Extends g.jobs h.jobs) (longer : length g.jobs ≤ length h.jobs)
    (v : ℕ) (same : Same s t v) (last : LastsFrom s t) (I : Invariant s) where
  call_keeps : (o : Option ℕ) (c : Call) → o ≡ s.held v → s.stage v ≡ stage_of c → CallRel g s o c → CallRel h t o c
  call_keeps o idle d e r = tt
  call_keeps o (looking a i) d e r = looking_keeps g h x a i r
  call_keeps o (linking a j i u) d e r = record {
    right = r.right;
    there = omega (arith, r.there);
    list = x.list j r.there ∙ r.list;
    place = r.place ∙ same.linked j e;
    tallied = r.tallied ∙ same.tally j e;
    noted = r.noted ∙ same.noted j e;
  }
  call_keeps o (marking f) d e r = λ p z good. last.spoiled_jobs p (held_entered s I v p (sym d ∙ z)) ∙ r p z good
  call_keeps o (notifying p k f) d e r = record {
    there = omega (arith, r.there);
    place = r.place ∙ same.served p e;
    left = omega (arith, r.left, same.dependents p);
    outcome = r.outcome ∙ sym (last.outcomes p (I.finisher_finished v p (I.finishers.to v p e)));
  }

  paced_keeps : (o : Option ℕ) (c : Call) (p : Pending) → ((j : ℕ) → o ≡ some j → j < length g.jobs)
      → CallRel g s o c → PacedCall g o c p → PacedCall h o c p
  paced_keeps o idle p there r e = e
  paced_keeps o (looking a i) p there r e = e
  paced_keeps o (linking a j i u) p there r e = (e.0, e.1 ∙ sym (x.name j r.there))
  paced_keeps none (marking f) p there r e = e
  paced_keeps (some j) (marking f) p there r e = rw (x.name j (there j refl)) e
  paced_keeps o (notifying q k f) p there r e = rw (x.name q r.there) e

  pub worker_keeps : (p : Pending) (y : Worker) → ((j : ℕ) → y.held ≡ some j → j < length g.jobs)
      → WorkerRel g s v p y → WorkerRel h t v p y
  worker_keeps p y there o = record {
    held = o.held ∙ same.held;
    stage = sym same.stage ∙ o.stage;
    call = call_keeps y.held y.call o.held o.stage o.call;
    paced = paced_keeps y.held y.call p there o.call o.paced;
  }

-- ---- the calls that have ended
-- an add of the name has ended: its job is found, and no add works on it
pub record AddEnded (l : List Job) (by : ℕ → Option ℕ) (name : ℕ) : Type 0 where
  pub job : ℕ
  pub found : seek name l 0 ≡ at job
  pub ended : by job ≡ none

-- a finish of the name has ended: its job is found and finished, and no finish works on it
pub record FinishEnded (l : List Job) (now : ℕ → Label) (by : ℕ → Option ℕ) (name : ℕ) : Type 0 where
  pub job : ℕ
  pub found : seek name l 0 ≡ at job
  pub finished : now job ≡ finished
  pub ended : by job ≡ none

pub added_keeps : {l h : List Job} {by : ℕ → Option ℕ} {name : ℕ} → Extends l h → AddEnded l by name
    → AddEnded h by name
added_keeps x o = record { job = o.job; found = x.found _ _ o.found; ended = o.ended }

pub finished_keeps : {l h : List Job} {now : ℕ → Label} {by : ℕ → Option ℕ} {name : ℕ} → Extends l h
    → FinishEnded l now by name → FinishEnded h now by name
finished_keeps x o =
    record { job = o.job; found = x.found _ _ o.found; finished = o.finished; ended = o.ended }

-- ---- the whole
pub record Kept (s : Sizes) (g : Graph) (r : Reading) (x : State) : Type 0 where
  pub jobs_room : length g.jobs ≤ s.jobs
  pub arcs_room : g.reserved ≤ s.arcs
  pub minutes : is_rising g.minutes ≡ true
  pub size : length g.jobs ≡ x.size
  pub jobs : (k : ℕ) → JobRelAt g.jobs x k (job g k)
  pub queue : g.queue ≡ x.queue
  pub workers : (v : ℕ) → WorkerRel g x v (r.pending v) (g.workers v)
  pub added : (name : ℕ) → contains name r.added ≡ true → AddEnded g.jobs x.adder name
  pub finished : (name : ℕ) → contains name r.finished ≡ true → FinishEnded g.jobs x.label x.finisher name

pub record Reached (s : Sizes) (g : Graph) (r : Reading) (e : ℕ → ℕ) : Type 0 where
  pub state : State
  pub invariant : Invariant state
  pub kept : Kept s g r state
  pub queue_entries : (k : ℕ) → e k ≡ state.queue_entries k
