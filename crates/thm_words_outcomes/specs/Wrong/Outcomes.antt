-- Machines over the tables that are wrong in the outcome of a finish, in the spoiled word or in the note, each with
-- tables by which a statement of Outcomes.antt or OutcomeWords.antt fails of it.
use Rattle.std.specs.Prelude.{◌≡◌, refl, Bool, true, false, not, ◌&&◌, List, [], ◌∷◌, ℕ, ◌≤◌, eqb, get_or, replicate}
use Rattle.std.proofs.Common.{sym, ap, ◌∙◌, arith, lit≤, lit<}
use Rattle.def_numbers.specs.Numbers.{damaged, half_done, not_held, good_for_spoiled}
use Rattle.def_basics.specs.Base.{pick}
use Rattle.def_heap.specs.Sift.{sift_down}
use Rattle.def_terms.specs.Terms.{within_limits, Finish, finish_of, bit}
use Rattle.def_terms.specs.Runs.{Item, post_add, post_finish, step, get, load, Result, result_of}
use Rattle.def_terms.specs.declared.Sizes.{Sizes}
use Rattle.def_terms.specs.declared.Answer.{Answer}
use Rattle.def_terms.specs.declared.Answer.TheVariants.{Laid, Loaded, Posted, Going, Ended, NoneReady, Handed, Refused}
use Rattle.def_words.specs.Columns.{header, columns, put}
use Rattle.def_words.specs.Layout.{none, job_shape, NAME, LABEL, SPOILED, PHASE, HELD, OWN_JOB, NOTE, IDLE, LINKING}
use Rattle.def_words.specs.Layout.{MARKING}
use Rattle.def_words.specs.Layout.{Tables, tables, View, view, long_enough, sizes_kept, bare_worker}
use Rattle.def_words.specs.Index.{waits, first_seat, first_seat_by}
use Rattle.def_words.specs.Words.{counters_ok, own_ok, spoiled_ok, holds_name, admitted, refusal, posted, finish_words}
use Rattle.def_words.specs.Words.{next_job}
use Rattle.def_words.specs.Words.{plan_settle, plan_links, plan_call, plan_phase, applied, answer_get, applied_get, step_words}
use Rattle.def_words.specs.Words.{perform}
use Rattle.def_words.specs.declared.Seating.{Seating}
use Rattle.def_words.specs.declared.Seating.TheVariants.{Seated, Unseated}
use Rattle.def_words.specs.declared.GetPlan.{GetPlan}
use Rattle.def_words.specs.declared.GetPlan.TheVariants.{RefuseGet, Take}
use Rattle.thm_words_tests.specs.Tests.{test}
use Rattle.thm_words_tests.specs.Judged.{sized_means, own_means}
use Rattle.thm_words_tests.specs.Reach.{reach, plan_at}
use Rattle.thm_words_tests.specs.OneWord.{MayPost, Counted}
use Rattle.thm_words_tests.specs.Small.{one, with, holding, apart, number}
use Rattle.thm_words_outcomes.specs.Outcomes.{Post, HoldsJob, FinishesExactly, TellsSpoiled}
use Rattle.thm_words_outcomes.specs.OutcomeWords.{SpoiledAfter, same, entered, settled, notified, WritesOutcomes}

-- ---- what is computed of them
admits : (made word : ℕ) → own_ok one (view (holding made word)) 0 ≡ true → MayPost one (holding made word) 0
unfolding within_limits long_enough sizes_kept header
admits made word e = record {
  admitted = record {
    sizes = (sized_means one (holding made word)).0 refl;
    known = lit< tt;
    own = (own_means one (view (holding made word)) 0).0 e;
  };
  idle = refl;
}

holds : (made word : ℕ) → HoldsJob (holding made word) 0 7
holds made word = record { held = apart refl; named = refl }

counted : (word : ℕ) → Counted one (holding 1 word)
counted word = record { made = lit≤ tt; reserved = lit≤ tt }

-- ---- the order of a finish's numbers
pub data Test : Type 0 where
  name words counters good spoiled nonzero : Test

-- a test that turns a finish away, and its number. The last three are wrong: no look at the spoiled word, and 19 for
-- every finish of a spoiled job, or with a spoiled word that is not 0
abbrev pub met : Test → Sizes → View → ℕ → Finish → Bool
met name s v w f = not (holds_name v w f.name)
met words s v w f = not (counters_ok s v && spoiled_ok v (v.worker HELD w))
met good s v w f = eqb (v.job SPOILED (v.worker HELD w)) 1 && not f.failed
met counters s v w f = not (counters_ok s v)
met spoiled s v w f = eqb (v.job SPOILED (v.worker HELD w)) 1
met nonzero s v w f = not (eqb (v.job SPOILED (v.worker HELD w)) 0) && not f.failed

abbrev pub numbered : Test → ℕ
numbered name = not_held
numbered words = damaged
numbered good = good_for_spoiled
numbered counters = damaged
numbered spoiled = good_for_spoiled
numbered nonzero = good_for_spoiled

unfoldable pub first_met : List Test → Sizes → View → ℕ → Finish → ℕ
first_met [] s v w f = 0
first_met (x ∷ l) s v w f = pick (met x s v w f) (numbered x) (first_met l s v w f)

-- a post by its tests in an order, that stores these words
unfoldable pub in_order : List Test → (ℕ → Finish → List ℕ) → Post
in_order l stores s t w f =
    posted (admitted s t w refusal (pick (eqb ((view t).worker PHASE w) IDLE) (first_met l s (view t) w f) half_done)) t w
    (stores ((view t).worker HELD w) f)

abbrev pub with_outcome : ℕ → Finish → List ℕ
with_outcome held f = bare_worker MARKING held (bit f.failed)

-- in the order 11, 9, 19 it is the words' post
pub own_order : (s : Sizes) (t : Tables) (w : ℕ) (f : Finish)
    → in_order (name ∷ words ∷ good ∷ []) with_outcome s t w f ≡ finish_words s t w f
unfolding in_order first_met finish_words
own_order s t w f =
    let v = view t in
    test (holds_name v w f.name)
    (λ a. rw a (test (counters_ok s v && spoiled_ok v (v.worker HELD w)) (λ b. rw b) (λ b. rw b)))
    (λ a. rw a)

-- 19 before 11: the worker holds no job of that name
pub nineteen_before_eleven :
    FinishesExactly (in_order (good ∷ name ∷ words ∷ []) with_outcome) one (holding 1 1) 0 (finish_of 8 false) → ⊥
unfolding in_order first_met posted admitted within_limits long_enough sizes_kept own_ok header columns
nineteen_before_eleven d =
    apart refl (ap (λ (o : Result Tables). number o.answer)
    (d.by_11 (admits 1 1 refl) (λ h. apart refl h.named)))

-- 19 before 9: more jobs were made than there is room for
pub nineteen_before_nine :
    FinishesExactly (in_order (name ∷ good ∷ words ∷ []) with_outcome) one (holding 2 1) 0 (finish_of 7 false) → ⊥
unfolding in_order first_met posted admitted within_limits long_enough sizes_kept own_ok header columns
nineteen_before_nine d =
    apart refl (ap (λ (o : Result Tables). number o.answer)
    (d.counter_by_9 (admits 2 1 refl) (holds 2 1) (λ c. absurd (few c.made))))
  where
    few : 2 ≤ 1 → ⊥
    few h = omega arith

-- 19 for a failed finish of a spoiled job too
pub nineteen_for_failed :
    FinishesExactly (in_order (name ∷ words ∷ spoiled ∷ []) with_outcome) one (holding 1 1) 0 (finish_of 7 true) → ⊥
unfolding in_order first_met posted admitted within_limits long_enough sizes_kept own_ok header columns
nineteen_for_failed d =
    apart refl (ap number (d.posts (admits 1 1 refl) (holds 1 1) (counted 1) (lit≤ tt) (λ _. refl)).0)

-- a spoiled word of 2 taken for 1
pub two_is_spoiled :
    FinishesExactly (in_order (name ∷ counters ∷ nonzero ∷ []) with_outcome) one (holding 1 2) 0 (finish_of 7 false) → ⊥
unfolding in_order first_met posted admitted within_limits long_enough sizes_kept own_ok header columns
two_is_spoiled d =
    apart refl
    (ap (λ (o : Result Tables). number o.answer) (d.spoiled_by_9 (admits 1 2 refl) (holds 1 2) (lit< tt)))

-- ---- a post that stores no outcome
abbrev pub without_outcome : ℕ → Finish → List ℕ
without_outcome held f = bare_worker MARKING held 0

pub stores_no_outcome :
    FinishesExactly (in_order (name ∷ words ∷ good ∷ []) without_outcome) one (holding 1 0) 0 (finish_of 7 true) → ⊥
unfolding in_order first_met posted admitted within_limits long_enough sizes_kept own_ok header columns
stores_no_outcome d =
    apart refl (ap (λ (l : List ℕ). get_or l 10 0)
    (d.posts (admits 1 0 refl) (holds 1 0) (counted 0) (lit≤ tt) (λ e. absurd (apart refl e))).1.words)

-- ---- a get that takes a spoiled word of 2 for 1
abbrev pub take_spoiled : View → Seating → GetPlan
take_spoiled v (Seated e) =
    let j = next_job v in
    pick (eqb (v.job LABEL j) 0)
    (Take (record { job = j; name = v.job NAME j; spoiled = not (eqb (v.job SPOILED j) 0) }) e)
    (RefuseGet damaged)
take_spoiled v Unseated = RefuseGet damaged

abbrev pub plan_spoiled : Sizes → Tables → ℕ → GetPlan
plan_spoiled s t w = plan_at (reach s t w) (take_spoiled (view t) (first_seat (view t)))

unfoldable pub get_spoiled : Sizes → Tables → ℕ → Result Tables
get_spoiled s t w = result_of (answer_get (plan_spoiled s t w)) (applied_get (plan_spoiled s t w) t w)

-- the job waits, and the worker is idle and holds none
abbrev pub waiting : ℕ → Tables
waiting word = with 1 0 0 word (0 ∷ 1 ∷ 0 ∷ 0 ∷ 0 ∷ []) (bare_worker IDLE none 0)

pub tells_two : TellsSpoiled get_spoiled one (waiting 2) 0 → ⊥
unfolding get_spoiled reach admitted within_limits long_enough sizes_kept own_ok header columns first_seat_by waits sift_down
tells_two d = few (d.within (record { job = 0; name = 7; spoiled = true }) refl)
  where
    few : 2 ≤ 1 → ⊥
    few h = omega arith

-- ---- a settling that stores the note as the spoiled word, where it is 0 too
abbrev is_ended : Answer → Bool
is_ended Ended = true
is_ended Laid = false
is_ended Loaded = false
is_ended Posted = false
is_ended Going = false
is_ended NoneReady = false
is_ended (Handed h) = false
is_ended (Refused n p) = false

-- after a settling step of worker w the tables with this spoiled word of its job
abbrev pub settled_with : (View → ℕ) → Sizes → Tables → ℕ → Result Tables
settled_with word s t w =
    let v = view t in
    let o = perform t (step s w) in
    let u = o.state in
    result_of o.answer
    (pick (eqb (v.worker PHASE w) LINKING && is_ended o.answer)
    (tables (put job_shape u.jobs (v.worker OWN_JOB w) SPOILED (word v)) u.arcs u.buckets u.queue
    u.workers)
    u)

abbrev pub settling_with : (View → ℕ) → Tables → Item → Result Tables
settling_with word t (post_add s w a) = perform t (post_add s w a)
settling_with word t (post_finish s w f) = perform t (post_finish s w f)
settling_with word t (step s w) = settled_with word s t w
settling_with word t (get s w) = perform t (get s w)
settling_with word t (load s m) = perform t (load s m)

-- an add that is to settle its job, which waits for another, with a note
abbrev pub settling : ℕ → ℕ → Tables
settling word note =
    with 1 0 1 word (replicate 5 0) (LINKING ∷ none ∷ 7 ∷ 0 ∷ 0 ∷ 0 ∷ 0 ∷ 0 ∷ 0 ∷ none ∷ note ∷ replicate 32 0)

-- `spoiled`: the job's spoiled word was 1, and with the note 0 it may not become 0
pub stores_note : WritesOutcomes (settling_with (λ v. v.worker NOTE 0)) → ⊥
unfolding perform step_words applied plan_phase plan_call plan_links plan_settle admitted within_limits long_enough sizes_kept
    own_ok header columns put
stores_note d = go refl (d.spoiled (settling 1 0) (step one 0) 0)
  where
    go : {u : Tables} → get_or u.jobs 30 0 ≡ 0 → SpoiledAfter (settling 1 0) u 0 (step one 0) → ⊥
    go z (same e) = apart refl (sym z ∙ e)
    go z (entered e f g h) = apart refl e
    go z (settled e f g n h) = apart refl n
    go z (notified e f n h) = apart refl e

-- ---- a settling that leaves the spoiled word, where the note is 1 too
pub never_spoils : WritesOutcomes (settling_with (λ v. v.job SPOILED (v.worker OWN_JOB 0))) → ⊥
unfolding perform step_words applied plan_phase plan_call plan_links plan_settle admitted within_limits long_enough sizes_kept
    own_ok header columns put
never_spoils d = apart refl (d.settling_spoils one (settling 0 1) 0 refl refl refl)
