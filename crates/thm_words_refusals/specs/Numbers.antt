-- Every item, over all tables, damaged ones too, is served or turned away by a number of the paper's list that its kind
-- can meet; laying out has its own theorem, `laid_out_lem` of thm_words_loads. Follows docs/RULES.md, "Turned-away calls"
-- and "Steps".
use Rattle.std.specs.Prelude.{◌≡◌, refl, Bool, false, List, [], ◌∷◌, ℕ, ◌<◌, ltb}
use Rattle.std.proofs.Common.{subst, arith}
use Rattle.std.proofs.Math.Bool.{true}
use Rattle.std.proofs.Math.Dec.{leb}
use borrow.Author.Tests.{ltb-true, leb-true}
use Rattle.def_numbers.specs.Numbers.{most_names, wrong_size, no_such_worker, half_done, worker_idle, wrong_arguments}
use Rattle.def_numbers.specs.Numbers.{unknown_name}
use Rattle.def_numbers.specs.Numbers.{name_present, tables_full, damaged, already_holding, not_held, wrong_minutes}
use Rattle.def_numbers.specs.Numbers.{jobs_entered}
use Rattle.def_numbers.specs.Numbers.{good_for_spoiled}
use Rattle.def_basics.specs.Base.{pick, contains}
use Rattle.def_terms.specs.Terms.{Arguments, Finish, bit}
use Rattle.def_terms.specs.Runs.{Item, post_add, post_finish, step, get, load, is_load}
use Rattle.def_terms.specs.declared.Sizes.{Sizes}
use Rattle.def_terms.specs.declared.HandOut.{HandOut}
use Rattle.def_terms.specs.declared.Answer.{Answer}
use Rattle.def_terms.specs.declared.Answer.TheVariants.{Loaded, Posted, Going, Ended, NoneReady, Handed, Refused}
use Rattle.def_words.specs.Layout.{HELD, LIST_COUNT, PLACE, MARKING, Tables, View, view, bare_worker}
use Rattle.def_words.specs.Words.{own_ok, plan_look_up, plan_enter, plan_append, plan_link, in_seat, with_seat, plan_settle}
use Rattle.def_words.specs.Words.{plan_tally, plan_mark}
use Rattle.def_words.specs.Words.{plan_notify, plan_add, plan_links, plan_call, plan_phase, admitted, plan_step, going_unless}
use Rattle.def_words.specs.Words.{answer_of, step_words, take_from, plan_take, plan_queue, plan_get, answer_get, plan_get_of}
use Rattle.def_words.specs.Words.{get_words}
use Rattle.def_words.specs.Words.{judged_add, judged_finish, adding_worker, posted, refusal, add_words, finish_words}
use Rattle.def_words.specs.Words.{judged_load, loading, load_words, perform}
use Rattle.def_words.specs.declared.Seat.{Seat}
use Rattle.def_words.specs.declared.Seating.{Seating}
use Rattle.def_words.specs.declared.Seating.TheVariants.{Seated, Unseated}
use Rattle.def_words.specs.declared.Found.{Found}
use Rattle.def_words.specs.declared.Found.TheVariants.{At, Missing, Damaged}
use Rattle.def_words.specs.declared.Plan.{Plan}
use Rattle.thm_words_tests.specs.Tests.{parts}

-- ---- the answers of each kind of item
-- the column "When": 3 "post or get while that worker's call is half done", 4 "step while the worker is idle", 5 "add
-- posted with", 7 and 8 "entering finds", 10 "get while holding a job", 11 "finish of a name", 17 "values that do not
-- rise or leave the limits", 18 "loading after a job has entered", 19 "good for a spoiled job"
abbrev pub kind_numbers : Item → List ℕ
kind_numbers (post_add s w a) = half_done ∷ wrong_arguments ∷ []
kind_numbers (post_finish s w f) = half_done ∷ not_held ∷ good_for_spoiled ∷ []
kind_numbers (step s w) = worker_idle ∷ name_present ∷ tables_full ∷ []
kind_numbers (get s w) = half_done ∷ already_holding ∷ []
kind_numbers (load s m) = wrong_minutes ∷ jobs_entered ∷ []

-- "Order: 1, 2, 9 for the worker's own words": those turn every kind away that has a worker; a load has
-- none, and "the order is 1, 17, 9, 18"
abbrev pub numbers : Item → List ℕ
numbers i =
    pick (is_load i) (wrong_size ∷ damaged ∷ kind_numbers i) (wrong_size ∷ no_such_worker ∷ damaged ∷ kind_numbers i)

-- served, or turned away: the column "Returned" says that 6 alone, "a look-up finds no such name", comes with a "place
-- in the list from 0", and a list has at most 32 names; every other number's place is 0
pub data Fits : Item → Answer → Type 0 where
  posted_add : {s : Sizes} {w : ℕ} {a : Arguments} → Fits (post_add s w a) Posted
  posted_finish : {s : Sizes} {w : ℕ} {f : Finish} → Fits (post_finish s w f) Posted
  going : {s : Sizes} {w : ℕ} → Fits (step s w) Going
  ended : {s : Sizes} {w : ℕ} → Fits (step s w) Ended
  none_ready_lem : {s : Sizes} {w : ℕ} → Fits (get s w) NoneReady
  handed : {s : Sizes} {w : ℕ} {h : HandOut} → Fits (get s w) (Handed h)
  loaded : {s : Sizes} {m : List ℕ} → Fits (load s m) Loaded
  turned_away_lem : {i : Item} {n : ℕ} → contains n (numbers i) ≡ true → Fits i (Refused n 0)
  unknown : {s : Sizes} {w p : ℕ} → p < most_names → Fits (step s w) (Refused unknown_name p)

-- ---- an answer read off a plan: a type of its own, so that `search` finds the tests of the plan
data Says {A : Type 0} (i : Item) (answer : A → Answer) (x : A) : Type 0 where
  says : Fits i (answer x) → Says i answer x

said : {A : Type 0} {i : Item} (answer : A → Answer) (x : A) → Says i answer x → Fits i (answer x)
said answer x (says f) = f

-- both sides of a test, and so the side taken
either : {A : Type 0} {i : Item} {answer : A → Answer} (b : Bool) {x y : A}
    → (b ≡ true → Says i answer x) → Says i answer y → Says i answer (pick b x y)
either true f g = f refl
either false f g = g

on : {s : Sizes} {w : ℕ} (b : Bool) → Fits (step s w) (going_unless b)
on true = ended
on false = going

-- for `search`
ruleset answers = (either, says, on, going, ended, none_ready_lem, handed, turned_away_lem, posted_add, posted_finish, loaded)

-- ---- a step
module _ (s : Sizes) (v : View) (w : ℕ) where
  abbrev Step : Plan → Type 0
  Step = Says (step s w) answer_of

  look_up_lem : (i : ℕ) → i < most_names → (f : Found) → Step (plan_look_up i f)
  unfolding plan_look_up contains
  look_up_lem i h (At j) = search answers
  look_up_lem i h Missing = says (unknown h)
  look_up_lem i h Damaged = search answers

  enter : (name d : ℕ) (f : Found) → Step (plan_enter s v name d f)
  unfolding plan_enter contains
  enter name d (At j) = search answers
  enter name d Missing = search answers
  enter name d Damaged = search answers

  link : (x j : ℕ) (f : Found) → Step (plan_link s v x j f)
  unfolding plan_link plan_tally plan_append contains
  link x j (At p) = search answers depth 7
  link x j Missing = search answers
  link x j Damaged = search answers

  in_seat_lem : (plan : Seat → Plan) → ((e : Seat) → Step (plan e)) → (r : Seating) → Step (in_seat r plan)
  unfolding contains
  in_seat_lem plan f (Seated e) = f e
  in_seat_lem plan f Unseated = search answers

  settle : (j t d : ℕ) → Step (plan_settle s v j t d)
  unfolding plan_settle with_seat contains
  settle j t d = search (answers, in_seat_lem)

  mark : (p : ℕ) → Step (plan_mark s v p)
  unfolding plan_mark contains
  mark p = search answers

  notify : (x : ℕ) → Step (plan_notify s v x)
  unfolding plan_notify with_seat contains
  notify x = search (answers, in_seat_lem)

  -- a look-up's place lies below the count of its list, which is one "of at most 32 names"
  adding : own_ok s v w ≡ true → Step (plan_add s v w)
  unfolding plan_add own_ok
  adding o =
      let i = v.worker PLACE w in let d = v.worker LIST_COUNT w in
      let h : leb d most_names ≡ true = search parts depth 10 in
      either (ltb i d) (λ e. look_up_lem i (omega (arith, ltb-true i d e, leb-true d most_names h)) _) (enter _ _ _)

  stepping : own_ok s v w ≡ true → Step (plan_phase s v w)
  unfolding plan_phase plan_call plan_links contains
  stepping o = search (answers, adding, link, settle, mark, notify) depth 9

  -- ---- a get
  taking : (r : Seating) → Says (get s w) answer_get (take_from v r)
  unfolding contains
  taking (Seated e) = search answers
  taking Unseated = search answers

  getting : Says (get s w) answer_get (plan_get s v w)
  unfolding plan_get plan_queue plan_take contains
  getting = search (answers, taking) depth 9

-- ---- the theorems
-- demand 1: "either served or turned away by a number from the paper's list"
pub fits : (t : Tables) (i : Item) → Fits i (perform t i).answer
unfolding perform add_words finish_words step_words get_words load_words posted loading admitted contains
fits t (post_add s w a) =
    said (λ n. (posted n t w (adding_worker ((view t).worker HELD w) a)).answer)
    (admitted s t w refusal (judged_add s (view t) w a))
    (search answers depth 9)
fits t (post_finish s w f) =
    said (λ n. (posted n t w (bare_worker MARKING ((view t).worker HELD w) (bit f.failed))).answer)
    (admitted s t w refusal (judged_finish s (view t) w f))
    (search answers depth 9)
fits t (step s w) = said answer_of (plan_step s t w) (search (answers, stepping) depth 7)
fits t (get s w) = said answer_get (plan_get_of s t w) (search (answers, getting) depth 7)
fits t (load s m) = said (λ n. (loading n t m).answer) (judged_load s t m) (search answers depth 9)

-- "Get is one step. It takes the job": a get alone hands a job out
by_get : {i : Item} {h : HandOut} → Fits i (Handed h) → (q : Sizes) × (w : ℕ) × (i ≡ get q w)
by_get (handed {s} {w}) = (s, w, refl)

pub handed_by_get_lem : (t : Tables) (i : Item) (h : HandOut) → (perform t i).answer ≡ Handed h
    → (q : Sizes) × (w : ℕ) × (i ≡ get q w)
handed_by_get_lem t i h e = by_get (subst (Fits i) e (fits t i))
