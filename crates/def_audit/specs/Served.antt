-- Nothing is refused or taken at will, of lists of host calls: an add is answered by the adds accepted before it, run
-- whole, in a sheet or posted and stepped, a finish by what its worker was handed, what was posted or has entered is
-- not refused on its way and ends, and minutes are loaded before the first job enters. By calls and replies alone, of
-- any machine. Follows docs/RULES.md, "The plain book", "A district's minutes" and "Turned-away calls".
-- (Wrong/Refusals.antt has machines that do not meet it; by Exact.antt each answer is the only one.)
use Rattle.std.specs.Prelude.{◌≡◌, true, false, ◌&&◌, not, List, [], ◌∷◌, ℕ, ◌+◌, ◌*◌, ◌≤◌, ◌<◌, eqb, length, get_or}
use Rattle.std.proofs.Math.Option.{Option, none, some}
use Rattle.def_basics.specs.Base.{pick}
use Rattle.def_minutes.specs.Rising.{SixteenRising}
use Rattle.def_terms.specs.Terms.{Arguments, Finish, arguments_wrong}
use Rattle.def_terms.specs.Runs.{post_add, post_finish, step, load}
use Rattle.def_terms.specs.declared.Sizes.{Sizes}
use Rattle.def_terms.specs.declared.HandOut.{HandOut}
use Rattle.def_terms.specs.declared.Answer.{Answer}
use Rattle.def_terms.specs.declared.Answer.TheVariants.{Loaded, Posted, Going, Ended, Refused}
use Rattle.def_call_order.specs.Calls.{Reading, idle, adding, finishing, accepted_adds}
use Rattle.def_call_order.specs.Holds.{handed_read}
use Rattle.def_demand.specs.Demand.{add_of}
use Rattle.def_host_calls.specs.HostCalls.{HostCall, single, whole_add, whole_finish, sheet, one, each, Replied}
use Rattle.def_host_calls.specs.CallsDemand.{note_whole_add}
use Rattle.def_audit.specs.Audit as audit

-- a finish of an idle worker, by what it was handed: "11 unless the worker holds a job of that name"; "19, good for a
-- spoiled job, after 11"; else it is taken, which a post and a whole call say in their own way
abbrev pub finish_answer : Answer → Option HandOut → Finish → Answer
finish_answer x none f = Refused 11 0
finish_answer x (some h) f =
    pick (eqb h.name f.name) (pick (h.spoiled && not f.failed) (Refused 19 0) x) (Refused 11 0)

-- ---- adds, by the adds accepted before: the name is that of one of them; the names that they list
abbrev pub Known : List Arguments → ℕ → Type 0
Known adds name = (k : ℕ) × (k < length adds) × ((add_of adds k).name ≡ name)

unfoldable pub names_listed : List Arguments → ℕ
names_listed [] = 0
names_listed (a ∷ l) = a.count + names_listed l

-- "8 if R jobs are there or the lists of all jobs and its own together have over A names"
pub data Full (s : Sizes) (adds : List Arguments) (a : Arguments) : Type 0 where
  of_jobs : s.jobs ≤ length adds → Full s adds a
  of_arcs : s.arcs < names_listed adds + a.count → Full s adds a

-- an add of which each listed name is known: "7 if its own name is there; else 8"; else it enters, which a step and a
-- whole call say in their own way
pub data Entering (s : Sizes) (adds : List Arguments) (a : Arguments) (yes : Answer) : Answer → Type 0 where
  by_7 : Known adds a.name → Entering s adds a yes (Refused 7 0)
  by_8 : (Known adds a.name → ⊥) → Full s adds a → Entering s adds a yes (Refused 8 0)
  enters : (Known adds a.name → ⊥) → (Full s adds a → ⊥) → Entering s adds a yes yes

-- an add run whole: "5 by its arguments; else 6 with the first place whose name no job has"; else as it enters
pub data AddAnswered (s : Sizes) (adds : List Arguments) (a : Arguments) : Answer → Type 0 where
  by_5 : arguments_wrong a ≡ true → AddAnswered s adds a (Refused 5 0)
  by_6 : (i : ℕ) → arguments_wrong a ≡ false → i < a.count
      → ((k : ℕ) → k < i → Known adds (get_or a.names k 0)) → (Known adds (get_or a.names i 0) → ⊥)
      → AddAnswered s adds a (Refused 6 i)
  all_known : {x : Answer} → arguments_wrong a ≡ false
      → ((k : ℕ) → k < a.count → Known adds (get_or a.names k 0)) → Entering s adds a Ended x
      → AddAnswered s adds a x

-- the step of an add after k answered ones: it looks up its own place's name alone, whatever stands at later places;
-- step d + 1 enters; the d links and the settling step refuse nothing, and no other step ends the add
pub data AddStepped (s : Sizes) (adds : List Arguments) (a : Arguments) (k : ℕ) : Answer → Type 0 where
  found : k < a.count → Known adds (get_or a.names k 0) → AddStepped s adds a k Going
  not_found : k < a.count → (Known adds (get_or a.names k 0) → ⊥) → AddStepped s adds a k (Refused 6 k)
  entering : {x : Answer} → k ≡ a.count → Entering s adds a Going x → AddStepped s adds a k x
  links : a.count < k → k < 2 * a.count + 1 → AddStepped s adds a k Going
  settles : k ≡ 2 * a.count + 1 → AddStepped s adds a k Ended

-- a step that refuses nothing
pub data GoesOn : Answer → Type 0 where
  going : GoesOn Going
  ended : GoesOn Ended

-- of a sheet each add, by those accepted before it
pub data AnswersEach (s : Sizes) (w : ℕ) : Reading → List Arguments → List Answer → Type 0 where
  nothing : {r : Reading} → AnswersEach s w r [] []
  entry : {r : Reading} {a : Arguments} {l : List Arguments} {x : Answer} {xs : List Answer}
      → AddAnswered s (accepted_adds r.calls) a x → AnswersEach s w (note_whole_add r w a x) l xs
      → AnswersEach s w r (a ∷ l) (x ∷ xs)

-- ---- the claim, of a machine that answers calls, the sizes laid out, the state that laying out left, and a list of
-- calls, as in Audit.antt
module _ {S : Type 0} (answer : S → HostCall → Replied S) (s : Sizes) (t : S) (calls : List HostCall) where
  abbrev at_end : S
  at_end = audit.at_end answer s t calls

  abbrev read : Reading
  read = audit.read answer s t calls

  abbrev adds : List Arguments
  adds = audit.adds answer s t calls

  -- run whole for an idle worker a finish and an add are answered as above;
  abbrev pub FinishesAnswered : Type 0
  FinishesAnswered =
      (w : ℕ) → w < s.workers → read.pending w ≡ idle → (f : Finish)
      → (answer at_end (whole_finish s w f)).reply ≡ one (finish_answer Ended (handed_read read w) f)

  abbrev pub AddsAnswered : Type 0
  AddsAnswered =
      (w : ℕ) → w < s.workers → read.pending w ≡ idle → (a : Arguments)
      → (x : Answer) × ((answer at_end (whole_add s w a)).reply ≡ one x) × AddAnswered s adds a x

  -- so is each entry of a sheet of at most 64;
  abbrev pub SheetsAnswered : Type 0
  SheetsAnswered =
      (w : ℕ) → w < s.workers → read.pending w ≡ idle → (l : List Arguments) → length l ≤ 64
      → (xs : List Answer) × ((answer at_end (sheet s w l)).reply ≡ each 0 xs) × AnswersEach s w read l xs

  -- and one of more is turned away by 16, whole;
  abbrev pub SheetsTurned : Type 0
  SheetsTurned =
      (w : ℕ) → w < s.workers → read.pending w ≡ idle → (l : List Arguments) → 64 < length l
      → (answer at_end (sheet s w l)).reply ≡ each 16 []

  -- a post is taken unless its arguments, or what its worker was handed, stand against it;
  abbrev pub AddsPosted : Type 0
  AddsPosted =
      (w : ℕ) → w < s.workers → read.pending w ≡ idle → (a : Arguments)
      → (answer at_end (single (post_add s w a))).reply ≡ one (pick (arguments_wrong a) (Refused 5 0) Posted)

  abbrev pub FinishesPosted : Type 0
  FinishesPosted =
      (w : ℕ) → w < s.workers → read.pending w ≡ idle → (f : Finish)
      → (answer at_end (single (post_finish s w f))).reply ≡ one (finish_answer Posted (handed_read read w) f)

  -- each step of an add is answered as above, and so it ends at its step 2d + 2;
  abbrev pub AddsStepped : Type 0
  AddsStepped =
      (w : ℕ) (a : Arguments) (k : ℕ) → read.pending w ≡ adding a k
      → (x : Answer) × ((answer at_end (single (step s w))).reply ≡ one x) × AddStepped s adds a k x

  -- a step of a worker that is in no call is refused by 4, and passes for no step of one;
  abbrev pub IdleNotStepped : Type 0
  IdleNotStepped =
      (w : ℕ) → w < s.workers → read.pending w ≡ idle → (answer at_end (single (step s w))).reply ≡ one (Refused 4 0)

  -- each step of a finish that was posted goes on or ends it, and it ends within A + 1 steps;
  abbrev pub FinishesStepped : Type 0
  FinishesStepped =
      (w : ℕ) (f : Finish) (k : ℕ) → read.pending w ≡ finishing f k
      → (x : Answer) × ((answer at_end (single (step s w))).reply ≡ one x) × GoesOn x × (s.arcs ≤ k → x ≡ Ended)

  -- and minutes are loaded, with the sizes laid out, just if they rise and no job has entered: "17, values that do not
  -- rise or leave the limits, and 18, loading after a job has entered"
  pub record LoadsAnswered (m : List ℕ) : Type 0 where
    pub by_17 : (SixteenRising m → ⊥) → (answer at_end (single (load s m))).reply ≡ one (Refused 17 0)
    pub by_18 : SixteenRising m → 0 < length adds → (answer at_end (single (load s m))).reply ≡ one (Refused 18 0)
    pub taken : SixteenRising m → length adds ≡ 0 → (answer at_end (single (load s m))).reply ≡ one Loaded

  pub record ServesAll : Type 0 where
    pub adds_answered : AddsAnswered
    pub sheets_answered : SheetsAnswered
    pub sheets_turned : SheetsTurned
    pub adds_posted : AddsPosted
    pub adds_stepped : AddsStepped
    pub idle_not_stepped : IdleNotStepped
    pub finishes_answered : FinishesAnswered
    pub finishes_posted : FinishesPosted
    pub finishes_stepped : FinishesStepped
    pub loads_answered : (m : List ℕ) → LoadsAnswered m
