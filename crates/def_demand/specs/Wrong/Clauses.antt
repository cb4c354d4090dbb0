-- How a system is shown to be wrong: the clauses of the claim one by one, and the rules with one part put otherwise.
-- The systems stand in the other files of this folder.
use Rattle.std.specs.Prelude.{◌≡◌, Bool, false, List, [], ◌∷◌, ℕ, zero, suc, ◌+◌, ◌*◌, ◌<◌, eqb, length, get_or, take}
use Rattle.std.proofs.Math.Path.{refl, ap}
use Rattle.std.proofs.Common.{sym, subst, arith}
use Rattle.std.proofs.Math.Option.{Option, none, some}
use Rattle.std.proofs.lemmas.Bool.{eqb-false}
use Rattle.def_numbers.specs.Numbers.{already_holding}
use Rattle.def_basics.specs.Base.{update, contains, repeats, occurrences, prefix}
use Rattle.def_minutes.specs.Minutes.{minutes_in, fixed_minutes}
use Rattle.def_minutes.specs.Rising.{rises_above, is_rising}
use Rattle.def_terms.specs.Terms.{Arguments, Tally, bit, arguments_wrong, same_sizes}
use Rattle.def_terms.specs.Runs.{Item, post_add, post_finish, step, get, load, Result, result_of, Event, after, events}
use Rattle.def_terms.specs.Runs.{queue_entries}
use Rattle.def_terms.specs.Order.{earliest, first_by, without}
use Rattle.def_terms.specs.Starred.{S, steps}
use Rattle.def_terms.specs.declared.Sizes.{Sizes}
use Rattle.def_terms.specs.declared.HandOut.{HandOut}
use Rattle.def_terms.specs.declared.Answer.{Answer}
use Rattle.def_terms.specs.declared.Answer.TheVariants.{Laid, Loaded, Posted, Going, Ended, NoneReady, Handed, Refused}
use Rattle.def_rules.specs.Rules.{Graph, Call, idle, looking, linking, marking, notifying, empty, seek, look_up, enter}
use Rattle.def_rules.specs.Rules.{link_to, link, mark_dependents, mark, notify, step_call, when_idle, add_posted}
use Rattle.def_rules.specs.Rules.{finish_posted}
use Rattle.def_rules.specs.Rules.{take_next, get_job, load_minutes, admitted, perform, next_out}
use Rattle.def_rules.specs.Observed.{seen}
use Rattle.def_book.specs.Book.{Book, blank, book_job, Ready, Ends, GetEnd, taken, Follows, done, feed, End}
use Rattle.def_book.specs.Book.{handed, spoiled}
use Rattle.def_book.specs.Book.{known, awaited, awaited_names, has_failed, any_failed, first_unknown, listed_names}
use Rattle.def_book.specs.Book.{add_known, add_end, finish_end, finished_by, next}
use Rattle.def_book.specs.Book as book
use Rattle.def_call_order.specs.Calls.{unread, any_call_of, without_last, note_step, note_add, note_finish, note_get, note}
use Rattle.def_call_order.specs.Calls.{read_on, accepted_adds, minutes_on}
use Rattle.def_demand.specs.Demand.{Answers, Does, Once, AfterPrerequisites, WhenEnded, FollowedBy, ShownBy}
use Rattle.def_demand.specs.Demand.{SpoiledForCause, EndsFailed, Chains, NoneReadyBy, TurnsAway, Loads}
use Rattle.def_demand.specs.Demand.{Minutes}
use Rattle.def_demand.specs.Demand.{SpoiledOnceQueued, SpoiledWhenEnded, KeptBy, PostsBy, Demand}

-- ---- a system, from a fresh graph of R 4, A 4, b 2 and P 2
abbrev pub System : Type 0
System = Graph → Item → Result Graph

-- the parts of the rules: the post of an add, the steps of the four kinds of call half done, the get of a worker that
-- holds nothing
abbrev pub posts : Graph → ℕ → Arguments → Result Graph
posts = add_posted

abbrev pub looks : Graph → ℕ → Arguments → ℕ → Result Graph
looks g w a i = step_call S g w (looking a i)

abbrev pub links : Graph → ℕ → Arguments → ℕ → ℕ → Tally → Result Graph
links g w a j i t = step_call S g w (linking a j i t)

abbrev pub labels : Graph → ℕ → Bool → Result Graph
labels g w f = step_call S g w (marking f)

abbrev pub notifies : Graph → ℕ → ℕ → ℕ → Bool → Result Graph
notifies g w p k f = step_call S g w (notifying p k f)

abbrev pub takes : Graph → ℕ → Result Graph
takes g w = take_next g w (next_out g)

-- the system of such parts
module _ (on_post : Graph → ℕ → Arguments → Result Graph) (on_look : Graph → ℕ → Arguments → ℕ → Result Graph)
    (on_link : Graph → ℕ → Arguments → ℕ → ℕ → Tally → Result Graph) (on_mark : Graph → ℕ → Bool → Result Graph)
    (on_notify : Graph → ℕ → ℕ → ℕ → Bool → Result Graph) (on_take : Graph → ℕ → Result Graph) where
  abbrev stepped : Graph → ℕ → Call → Result Graph
  stepped g w idle = step_call S g w idle
  stepped g w (looking a i) = on_look g w a i
  stepped g w (linking a j i t) = on_link g w a j i t
  stepped g w (marking f) = on_mark g w f
  stepped g w (notifying p k f) = on_notify g w p k f

  abbrev got : Graph → ℕ → Option ℕ → Result Graph
  got g w none = on_take g w
  got g w (some j) = result_of (Refused already_holding 0) g

  abbrev pub system : System
  system g (post_add s w a) = admitted S s g w (when_idle g (g.workers w).call (on_post g w a))
  system g (post_finish s w f) = perform S g (post_finish s w f)
  system g (step s w) = admitted S s g w (stepped g w (g.workers w).call)
  system g (get s w) = admitted S s g w (when_idle g (g.workers w).call (got g w (g.workers w).held))
  system g (load s m) = perform S g (load s m)

-- with the parts above it is the rules; and so it is with links and steps for arcs that do the same
module _ (on_link : Graph → ℕ → Arguments → ℕ → ℕ → Tally → Result Graph)
    (on_notify : Graph → ℕ → ℕ → ℕ → Bool → Result Graph)
    (same_link : (g : Graph) (w : ℕ) (a : Arguments) (j i : ℕ) (t : Tally) → on_link g w a j i t ≡ links g w a j i t)
    (same_notify : (g : Graph) (w p k : ℕ) (f : Bool) → on_notify g w p k f ≡ notifies g w p k f) where
  same_step : (g : Graph) (w : ℕ) (c : Call)
      → stepped posts looks on_link labels on_notify takes g w c ≡ step_call S g w c
  same_step g w idle = refl
  same_step g w (looking a i) = refl
  same_step g w (linking a j i t) = same_link g w a j i t
  same_step g w (marking f) = refl
  same_step g w (notifying p k f) = same_notify g w p k f

  same_get : (g : Graph) (w : ℕ) (h : Option ℕ) → got posts looks on_link labels on_notify takes g w h ≡ get_job g w h
  unfolding get_job
  same_get g w none = refl
  same_get g w (some j) = refl

  pub same_parts : (g : Graph) (i : Item) → system posts looks on_link labels on_notify takes g i ≡ perform S g i
  unfolding perform
  same_parts g (post_add s w a) = refl
  same_parts g (post_finish s w f) = refl
  same_parts g (step s w) = ap (admitted S s g w) (same_step g w (g.workers w).call)
  same_parts g (get s w) =
      ap (λ r. admitted S s g w (when_idle g (g.workers w).call r)) (same_get g w (g.workers w).held)
  same_parts g (load s m) = refl

pub own_parts : (g : Graph) (i : Item) → system posts looks links labels notifies takes g i ≡ perform S g i
own_parts = same_parts links notifies (λ g w a j i t. refl) (λ g w p k f. refl)

-- ---- the clauses of `Demand`
pub data Clause : Type 0 where
  answers does once after_prerequisites when_ended spoiled_for_cause spoiled_once_queued spoiled_when_ended ends_failed
      chains follows keeps finish_posts shows none_ready_lem turns_away loads minutes : Clause

-- the clause does not hold of the system for the items; what speaks of the book, of that which `follows` gives
module _ (m : System) (items : List Item) where
  abbrev pub Lacks : Clause → Type 0
  Lacks answers = Answers m seen S empty items → ⊥
  Lacks does = Does m seen S empty items → ⊥
  Lacks once = Once m seen S empty items → ⊥
  Lacks after_prerequisites = AfterPrerequisites m seen S empty items → ⊥
  Lacks when_ended = WhenEnded m seen S empty items → ⊥
  Lacks spoiled_for_cause = SpoiledForCause m seen S empty items → ⊥
  Lacks spoiled_once_queued = SpoiledOnceQueued m seen S empty items → ⊥
  Lacks spoiled_when_ended = SpoiledWhenEnded m seen S empty items → ⊥
  Lacks ends_failed = EndsFailed m seen S empty items → ⊥
  Lacks chains = Chains m seen S empty items → ⊥
  Lacks follows = (b : Book) → FollowedBy m seen S empty items b → ⊥
  Lacks keeps = (b : Book) → FollowedBy m seen S empty items b → KeptBy m seen S empty items b → ⊥
  Lacks finish_posts = (b : Book) → FollowedBy m seen S empty items b → PostsBy m seen S empty items b → ⊥
  Lacks shows = (b : Book) → FollowedBy m seen S empty items b → ShownBy m seen S empty items b → ⊥
  Lacks none_ready_lem = (b : Book) → FollowedBy m seen S empty items b → NoneReadyBy m seen S empty items b → ⊥
  Lacks turns_away = TurnsAway m seen S empty items → ⊥
  Lacks loads = Loads m seen S empty items → ⊥
  Lacks minutes = Minutes m seen S empty items → ⊥

  -- a system that lacks a clause does not meet the claim
  pub refuted : (c : Clause) → Lacks c → Demand m seen S empty items → ⊥
  refuted answers lacks d = lacks d.answers
  refuted does lacks d = lacks d.does
  refuted once lacks d = lacks d.once
  refuted after_prerequisites lacks d = lacks d.after_prerequisites
  refuted when_ended lacks d = lacks d.when_ended
  refuted spoiled_for_cause lacks d = lacks d.spoiled_for_cause
  refuted spoiled_once_queued lacks d = lacks d.spoiled_once_queued
  refuted spoiled_when_ended lacks d = lacks d.spoiled_when_ended
  refuted ends_failed lacks d = lacks d.ends_failed
  refuted chains lacks d = lacks d.chains
  refuted follows lacks d = lacks d.book d.follows
  refuted keeps lacks d = lacks d.book d.follows d.keeps
  refuted finish_posts lacks d = lacks d.book d.follows d.finish_posts
  refuted shows lacks d = lacks d.book d.follows d.shows
  refuted none_ready_lem lacks d = lacks d.book d.follows d.none_ready_lem
  refuted turns_away lacks d = lacks d.turns_away
  refuted loads lacks d = lacks d.loads
  refuted minutes lacks d = lacks d.minutes

-- ---- what a run computes with, and the reading of it and the book
unfoldable pub running : ℕ
unfolding update contains repeats occurrences prefix earliest first_by without arguments_wrong same_sizes after events
    queue_entries steps empty seek
    look_up enter link_to link mark_dependents mark notify step_call when_idle add_posted finish_posted take_next get_job
    admitted load_minutes perform minutes_in fixed_minutes rises_above is_rising
running = 0

unfoldable pub booking : ℕ
unfolding running unread any_call_of without_last note_step note_add note_finish note_get note read_on accepted_adds blank known
    awaited awaited_names has_failed any_failed first_unknown listed_names add_known add_end finish_end finished_by next
    minutes_on
booking = 0

-- ---- things that are told apart by a number
pub apart : {A : Type 0} {x y : A} (f : A → ℕ) → eqb (f x) (f y) ≡ false → x ≡ y → ⊥
apart {A} {x} {y} f e p = eqb-false (f x) (f y) e (ap f p)

-- an answer's number: a refusal's number and place, and a job's number, spoiled or not, and name, are part of it
abbrev hand_code : HandOut → ℕ
hand_code h = 10000 * suc (2 * h.job + bit h.spoiled) + h.name

abbrev pub code : Answer → ℕ
code Laid = 0
code Loaded = 5
code Posted = 1
code Going = 2
code Ended = 3
code NoneReady = 4
code (Refused n i) = 100 * n + i
code (Handed h) = hand_code h

abbrev pub answer_at : ℕ → List Event → ℕ
answer_at k [] = 0
answer_at zero (e ∷ es) = code e.answer
answer_at (suc k) (e ∷ es) = answer_at k es

abbrev pub end_code : End → ℕ
end_code End.accepted = 3
end_code End.none_ready = 4
end_code (End.refused n i) = 100 * n + i
end_code (handed h) = hand_code h

-- ---- the book that is fed a list of calls, and how it has each of them end
unfoldable pub fed : Book → List book.Ended → Book
fed b [] = b
fed b (e ∷ l) = fed (next b e.call e.end) l

abbrev pub no_call : book.Ended
no_call = record { call = book.get 0; end = End.none_ready }

pub last_fed : {s : Sizes} {b c : Book} {l : List book.Ended} → Follows s b l c → fed b l ≡ c
unfolding fed
last_fed done = refl
last_fed (feed e f) = last_fed f

pub ends_at : {s : Sizes} {b c : Book} {l : List book.Ended} (k : ℕ) → k < length l → Follows s b l c
    → Ends s (fed b (take k l)) (get_or l k no_call).call (get_or l k no_call).end
unfolding fed
ends_at k h done = absurd (omega arith)
ends_at zero h (feed e f) = e
ends_at (suc k) h (feed e f) = ends_at k (omega arith) f

-- a job that the book has handed out was ready, and has that name, spoiled or not as told
pub handed_right : {b : Book} {held : Option ℕ} {h : HandOut} → GetEnd b held (handed h)
    → Ready b h.job × ((book_job b h.job).name ≡ h.name) × (spoiled b h.job ≡ h.spoiled)
handed_right (taken j r) = (r, refl, refl)

-- what holds of the book that follows holds of the book that is fed
pub by_fed : {s : Sizes} {b : Book} {l : List book.Ended} (P : Book → Type 0) → Follows s blank l b
    → P b → P (fed blank l)
by_fed P f p = subst P (sym (last_fed f)) p
