-- THE STEPS TOLD OF A SHEET are those of its full runs, and there is one: of any machine that judges sheets, by the runs
-- of the words from tables that were laid out. Follows docs/RULES.md, "The room of a sheet".
use Rattle.std.specs.Prelude.{◌≡◌, List, [], ◌∷◌, ◌++◌, map, ℕ, ◌+◌, ◌≤◌, ◌<◌}
use Rattle.def_terms.specs.Terms.{Arguments}
use Rattle.def_terms.specs.declared.Sizes.{Sizes}
use Rattle.def_terms.specs.declared.Answer.TheVariants.{Laid}
use Rattle.def_words.specs.Layout.{Tables}
use Rattle.def_words.specs.Words.{perform, lay_out}
use Rattle.def_words.specs.Observed.{seen}
use Rattle.def_sheets.specs.Job.{Job}
use Rattle.def_sheets.specs.Decode.{jobs, decode_sheet}
use Rattle.def_room.specs.declared.Room.{Room}
use Rattle.def_room.specs.declared.Room.TheVariants.{Fits}
use Rattle.def_host_calls.specs.HostCalls.{HostCall, whole_add}
use Rattle.thm_calls_history.specs.WordsCalls.{turned_words, answer_words}
use Rattle.thm_room.specs.Tells.{AddOf, AddsOf}
use Rattle.thm_full_run.specs.FullRun as run

-- these adds are those of the jobs, in any order
pub data Enter : List Job → List Arguments → Type 0 where
  none : Enter [] []
  more : {j : Job} {js : List Job} {a : Arguments} (l m : List Arguments) → AddOf j a → Enter js (l ++ m)
      → Enter (j ∷ js) (l ++ a ∷ m)

module _ (s : Sizes) (t : Tables) (adds work : List HostCall) where
  abbrev pub FullRun : Type 0
  FullRun = run.FullRun perform turned_words answer_words seen s (lay_out s t).state adds work

  abbrev pub entered : List Arguments
  entered = run.entered perform turned_words answer_words seen s (lay_out s t).state adds work

  abbrev pub steps : ℕ
  steps = run.steps perform turned_words answer_words seen s (lay_out s t).state adds work

  abbrev pub refused_look_ups : ℕ
  refused_look_ups = run.looked_up (run.all perform turned_words answer_words seen s (lay_out s t).state adds work).calls

pub record FullRuns (room : List ℕ → Room) : Type 0 where
  -- every full run, "by any workers in any order"
  pub every_run : (s : Sizes) (t : Tables) → (lay_out s t).answer ≡ Laid → (adds work : List HostCall)
      → run.TakesSteps perform turned_words answer_words seen s (lay_out s t).state adds work
  -- so one of a sheet takes the steps that are told of it, in whatever order its jobs enter
  pub as_told : (sheet : List ℕ) (n a k : ℕ) → room sheet ≡ Fits n a k
      → (js : List Job) → decode_sheet sheet ≡ jobs js
      → (s : Sizes) (t : Tables) → (lay_out s t).answer ≡ Laid → (adds work : List HostCall) → FullRun s t adds work
      → Enter js (entered s t adds work) → steps s t adds work ≡ k + refused_look_ups s t adds work
  -- and wherever there is room there is one that takes just these: its adds, run whole in order, and then some work
  pub there_is_one : (sheet : List ℕ) (n a k : ℕ) → room sheet ≡ Fits n a k
      → (js : List Job) → decode_sheet sheet ≡ jobs js → (l : List Arguments) → AddsOf js l
      → (s : Sizes) (t : Tables) → (lay_out s t).answer ≡ Laid → n ≤ s.jobs → a ≤ s.arcs → (w : ℕ) → w < s.workers
      → (work : List HostCall) × FullRun s t (map (λ x. whole_add s w x) l) work
      × Enter js (entered s t (map (λ x. whole_add s w x) l) work)
      × (steps s t (map (λ x. whole_add s w x) l) work ≡ k)
