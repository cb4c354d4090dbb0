-- WHAT A SHEET COMES TO, of any machine that judges sheets: it is held against the adds themselves, run whole one after
-- another on tables that were laid out at greatest size. Follows docs/RULES.md, "The room of a sheet".
-- (Wrong/ has machines that do not meet it; by Settled.antt one answer is left.)
use Rattle.std.specs.Prelude.{◌≡◌, List, [], ◌∷◌, map, ℕ, suc, ◌+◌, ◌*◌, ◌≤◌, ◌<◌, length}
use Rattle.def_terms.specs.Terms.{Arguments, listed}
use Rattle.def_terms.specs.declared.Sizes.{Sizes}
use Rattle.def_terms.specs.declared.Answer.{Answer}
use Rattle.def_terms.specs.declared.Answer.TheVariants.{Laid, Ended, Refused}
use Rattle.def_words.specs.Layout.{Tables}
use Rattle.def_words.specs.Words.{lay_out}
use Rattle.def_sheets.specs.Job.{Job}
use Rattle.def_sheets.specs.Decode.{jobs, broken, decode_sheet}
use Rattle.def_room.specs.declared.Room.{Room}
use Rattle.def_room.specs.declared.Room.TheVariants.{Fits, TurnedAway, Unreadable}
use Rattle.def_host_calls.specs.HostCalls.{whole_add}
use Rattle.def_audit.specs.Audit.{Among, told_by}
use Rattle.thm_calls_history.specs.WordsCalls.{answer_words}

-- an add of the job that an entry tells of, whatever stands past the count of its names
pub record AddOf (j : Job) (a : Arguments) : Type 0 where
  pub name : a.name ≡ j.name
  pub count : a.count ≡ length j.list
  pub list : listed a ≡ j.list
  pub class : a.class ≡ j.class
  pub grower : a.grower ≡ j.grower

pub data AddsOf : List Job → List Arguments → Type 0 where
  none : AddsOf [] []
  more : {j : Job} {js : List Job} {a : Arguments} {l : List Arguments} → AddOf j a → AddsOf js l
      → AddsOf (j ∷ js) (a ∷ l)

-- "a fresh graph of greatest size", with any b and P
abbrev pub greatest : (b p : ℕ) → Sizes
greatest b p = record { jobs = 4096; arcs = 32768; bits = b; workers = p }

-- what these adds are answered, "run in order", each whole, by a worker of a graph laid out with these sizes
abbrev pub adds_on : Sizes → Tables → ℕ → List Arguments → List Answer
adds_on s t w l = told_by answer_words (lay_out s t).state (map (λ a. whole_add s w a) l)

-- "arcs (the sum of all list lengths)"
unfoldable pub arcs_of : List Job → ℕ
arcs_of [] = 0
arcs_of (j ∷ js) = length j.list + arcs_of js

-- each add is accepted
pub data AllEnded : List Answer → Type 0 where
  none : AllEnded []
  more : {xs : List Answer} → AllEnded xs → AllEnded (Ended ∷ xs)

-- "the first entry turned away and its number", and its place
pub data FirstTurned : List Answer → (entry number place : ℕ) → Type 0 where
  here : {n p : ℕ} {xs : List Answer} → FirstTurned (Refused n p ∷ xs) 0 n p
  later : {k n p : ℕ} {xs : List Answer} → FirstTurned xs k n p → FirstTurned (Ended ∷ xs) (suc k) n p

-- "jobs n, arcs and the steps of a full run, 4n + 3 times the arcs"; or the first entry turned away
pub data ComesTo (js : List Job) (xs : List Answer) : Room → Type 0 where
  fits : AllEnded xs → ComesTo js xs (Fits (length js) (arcs_of js) (4 * length js + 3 * arcs_of js))
  turned : {k n p : ℕ} → FirstTurned xs k n p → ComesTo js xs (TurnedAway k n p)

-- of every list of bytes; for a readable sheet, whatever b and P are, whichever worker adds, and whatever the tables
-- held before
pub record TellsRoom (room : List ℕ → Room) (sheet : List ℕ) : Type 0 where
  pub readable : (js : List Job) → decode_sheet sheet ≡ jobs js → (l : List Arguments) → AddsOf js l
      → (b p w : ℕ) (t : Tables) → (lay_out (greatest b p) t).answer ≡ Laid → w < p
      → ComesTo js (adds_on (greatest b p) t w l) (room sheet)
  pub unreadable : (n at : ℕ) → decode_sheet sheet ≡ broken n at → room sheet ≡ Unreadable n at

-- ---- ENOUGH IS ENOUGH: "With at least that many jobs and arcs, no larger size changes an add's answer", and with fewer
-- some add is refused by 8. Of the n jobs and a arcs told of a sheet, its adds and any sizes.
pub record Enough (n a : ℕ) (l : List Arguments) (s : Sizes) (t : Tables) (w : ℕ) : Type 0 where
  pub enough : n ≤ s.jobs → a ≤ s.arcs → AllEnded (adds_on s t w l)
  pub few_jobs : s.jobs < n → Among (Refused 8 0) (adds_on s t w l)
  pub few_arcs : s.arcs < a → Among (Refused 8 0) (adds_on s t w l)

pub record EnoughTold (room : List ℕ → Room) (sheet : List ℕ) : Type 0 where
  pub told : (n a k : ℕ) → room sheet ≡ Fits n a k → (js : List Job) → decode_sheet sheet ≡ jobs js
      → (l : List Arguments) → AddsOf js l
      → (s : Sizes) (t : Tables) (w : ℕ) → (lay_out s t).answer ≡ Laid → w < s.workers → Enough n a l s t w
  -- of any adds, refused ones among them: where none is refused by 8, no larger size changes an answer
  pub no_larger : (l : List Arguments) (s r : Sizes) (t u : Tables) (w v : ℕ)
      → (lay_out s t).answer ≡ Laid → (lay_out r u).answer ≡ Laid → w < s.workers → v < r.workers
      → s.jobs ≤ r.jobs → s.arcs ≤ r.arcs
      → (Among (Refused 8 0) (adds_on s t w l) → ⊥) → adds_on r u v l ≡ adds_on s t w l
