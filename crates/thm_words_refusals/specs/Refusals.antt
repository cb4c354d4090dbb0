-- What each answer leaves behind, for all tables, damaged ones too. Follows docs/RULES.md: the last column of the table
-- in "Turned-away calls", "none ready" in "Steps", and "A call that ends puts the words of its call back" in "Tables
-- and their measures".
use Rattle.std.specs.Prelude.{◌≡◌, refl, Bool, true, false, List, ◌++◌, ℕ, zero, suc, ◌+◌, ltb, leb, eqb, length, take, drop}
use Rattle.std.proofs.Common.{ap, subst, ◌∙◌, append_assoc, arith, length-take-le, take_at, drop_at}
use Rattle.std.proofs.lemmas.List.Edits.{sets-eq}
use Rattle.def_basics.specs.Base.{pick}
use Rattle.def_basics.specs.Laws.{pick_by}
use Rattle.def_minutes.specs.Rising.{is_rising}
use Rattle.def_terms.specs.Terms.{bit}
use Rattle.def_terms.specs.Runs.{Item, post_add, post_finish, step, get, load, Result, result_of, worker_of}
use Rattle.def_terms.specs.Cases.{if_ended, if_refused}
use Rattle.def_terms.specs.declared.Sizes.{Sizes}
use Rattle.def_terms.specs.declared.Answer.{Answer}
use Rattle.def_terms.specs.declared.Answer.TheVariants.{Laid, Loaded, Posted, Going, Ended, NoneReady, Handed, Refused}
use Rattle.def_words.specs.Columns.{offset, Rows}
use Rattle.def_words.specs.Layout.{none, worker_shape, HELD, IDLE, MARKING, Tables, tables, View, view, bare_worker}
use Rattle.def_words.specs.Layout.{long_enough, sizes_fit}
use Rattle.def_words.specs.Words.{plan_phase, answer_of, put_worker, idle_worker, applied, step_words, plan_get, answer_get}
use Rattle.def_words.specs.Words.{applied_get, get_words, judged_add, judged_finish, adding_worker, refusal, posted}
use Rattle.def_words.specs.Words.{add_words}
use Rattle.def_words.specs.Words.{finish_words, judged_load, loading, load_words, perform}
use Rattle.def_words.specs.declared.Plan.{Plan}
use Rattle.def_words.specs.declared.Plan.TheVariants.{Refuse, Quit, Pass, Enter, Tally, LinkFirst, LinkAfter, Settle}
use Rattle.def_words.specs.declared.Plan.TheVariants.{SettleQueue, Mark, Notify, NotifyQueue}
use Rattle.def_words.specs.declared.GetPlan.{GetPlan}
use Rattle.def_words.specs.declared.GetPlan.TheVariants.{RefuseGet, Wait, Take}
use Rattle.thm_words_tests.specs.Tests.{test, parts, Long, long, record_ends}
use Rattle.thm_words_need.specs.Plans.{quits_by, Inside, InsideGet, marking, phase_alike, get_alike, add_alike}
use Rattle.thm_words_need.specs.Plans.{finish_alike, admit}

-- "worker idle, nothing else changed"
abbrev pub idled : Tables → ℕ → Tables
idled t w = tables t.jobs t.arcs t.buckets t.queue (idle_worker (view t) w t.workers)

-- an answer that ends an add or a finish: accepted, or 6, 7 or 8
abbrev pub ends : Answer → Bool
ends x = if_ended x true (if_refused x (λ n p. quits_by n) false)

-- a worker's 43 words
abbrev pub record_of_lem : ℕ → List ℕ → List ℕ
record_of_lem w l = take worker_shape.width (drop (offset worker_shape w 0) l)

abbrev pub words_of : ℕ → Tables → List ℕ
words_of w t = record_of_lem w t.workers

-- its hold after a step that ends its call: the mark "frees the worker's hold", and no other step changes it
abbrev pub hold_after : View → ℕ → ℕ
hold_after v w = pick (marking v w) none (v.worker HELD w)

-- ---- what an answer says of the tables u after
abbrev Changed : Tables → ℕ → Tables → Answer → Type 0
Changed t w u Laid = Unit {0}
Changed t w u Loaded = Unit {0}
Changed t w u Posted = Unit {0}
Changed t w u Going = Unit {0}
Changed t w u Ended = Unit {0}
Changed t w u NoneReady = u ≡ t
Changed t w u (Handed h) = Unit {0}
Changed t w u (Refused n p) = u ≡ pick (quits_by n) (idled t w) t

abbrev Back : Tables → ℕ → Tables → Type 0
Back t w u =
    (u.workers ≡ put_worker t.workers w (bare_worker IDLE (hold_after (view t) w) 0))
    × (words_of w u ≡ bare_worker IDLE (hold_after (view t) w) 0)

abbrev Left : Tables → ℕ → Result Tables → Type 0
Left t w o = Changed t w o.state o.answer × pick (ends o.answer) (Back t w o.state) (Unit {0})

-- a worker's words that were put are read again
pub put_back : (P : ℕ) (l : List ℕ) (w : ℕ) (x : List ℕ) → Rows worker_shape P l → ltb w P ≡ true
    → length x ≡ worker_shape.width
    → record_of_lem w (put_worker l w x) ≡ x
put_back P l w x r k e =
    let i = offset worker_shape w 0 in
    let h = record_ends worker_shape P l w r k in
    let z = drop (i + length x) l in
    let o : length (take i l) ≡ i = length-take-le i l (omega arith) in
    ap (record_of_lem w) (sets-eq x l i (omega arith) ∙ append_assoc (take i l) x z)
    ∙ ap (take worker_shape.width) (drop_at (take i l) (x ++ z) i o)
    ∙ take_at x z worker_shape.width e

module _ (s : Sizes) (t : Tables) (w : ℕ) (h : Long s t) (known : ltb w s.workers ≡ true) where
  bare : (held : ℕ) → record_of_lem w (put_worker t.workers w (bare_worker IDLE held 0)) ≡ bare_worker IDLE held 0
  bare held = put_back s.workers t.workers w (bare_worker IDLE held 0) h.workers known refl

  step_left : (p : Plan) → Inside s (view t) (marking (view t) w) p → Left t w (result_of (answer_of p) (applied p t w))
  unfolding applied
  step_left (Refuse n) i = (rw i, rw i tt)
  step_left (Quit n j) i = (rw i.0, rw (i.0, i.1) (refl, bare _))
  step_left Pass i = (tt, tt)
  step_left (Enter j k x y) i = (tt, tt)
  step_left (Tally o) i = (tt, tt)
  step_left (LinkFirst p x j) i = (tt, tt)
  step_left (LinkAfter p l x j) i = (tt, tt)
  step_left (Settle j c) i = (tt, rw i.1 (refl, bare _))
  step_left (SettleQueue j c d) i = (tt, rw i.2 (refl, bare _))
  step_left (Mark p x) i = test (eqb x none) (λ e. rw e (tt, rw i.1 (refl, bare _))) (λ e. rw e (tt, tt))
  step_left (Notify j c x) i = test (eqb x none) (λ e. rw e (tt, rw i.1 (refl, bare _))) (λ e. rw e (tt, tt))
  step_left (NotifyQueue j c x d) i = test (eqb x none) (λ e. rw e (tt, rw i.2 (refl, bare _))) (λ e. rw e (tt, tt))

get_left : (s : Sizes) (t : Tables) (w : ℕ) (p : GetPlan) → InsideGet s (view t) p
    → Left t w (result_of (answer_get p) (applied_get p t w))
unfolding applied_get
get_left s t w (RefuseGet n) i = (rw i, rw i tt)
get_left s t w Wait i = (refl, tt)
get_left s t w (Take h e) i = (tt, tt)

post_left : (t : Tables) (w : ℕ) (x : List ℕ) (n : ℕ) → quits_by n ≡ false → Left t w (posted n t w x)
unfolding posted
post_left t w x zero e = (tt, tt)
post_left t w x (suc n) e = (rw e, rw e tt)

load_left : (t : Tables) (w : ℕ) (m : List ℕ) (n : ℕ) → quits_by n ≡ false → Left t w (loading n t m)
unfolding loading
load_left t w m zero e = (tt, tt)
load_left t w m (suc n) e = (rw e, rw e tt)

-- no load is turned away by 6, 7 or 8
load_keeps : (s : Sizes) (t : Tables) (m : List ℕ) → quits_by (judged_load s t m) ≡ false
load_keeps s t m =
    pick_by (λ n. quits_by n ≡ false) (sizes_fit s t)
    (λ _. pick_by (λ n. quits_by n ≡ false) (is_rising m)
    (λ _. pick_by (λ n. quits_by n ≡ false) (leb (view t).made s.jobs)
    (λ _. pick_by (λ n. quits_by n ≡ false) (eqb (view t).made 0) (λ _. refl) (λ _. refl))
    (λ _. refl))
    (λ _. refl))
    (λ _. refl)

left_behind : (t : Tables) (i : Item) → Left t (worker_of i) (perform t i)
unfolding perform add_words finish_words step_words get_words load_words applied applied_get
left_behind t (post_add s w a) =
    let x = adding_worker ((view t).worker HELD w) a in
    admit (λ n. Left t w (posted n t w x)) s t w refusal (judged_add s (view t) w a) (λ n. post_left t w x (suc n))
    (λ _ k o. post_left t w x (judged_add s (view t) w a) (add_alike s (view t) w k o a).1)
left_behind t (post_finish s w f) =
    let x = bare_worker MARKING ((view t).worker HELD w) (bit f.failed) in
    admit (λ n. Left t w (posted n t w x)) s t w refusal (judged_finish s (view t) w f)
    (λ n. post_left t w x (suc n))
    (λ _ k o. post_left t w x (judged_finish s (view t) w f) (finish_alike s (view t) w k o f).1)
left_behind t (step s w) =
    admit (λ p. Left t w (result_of (answer_of p) (applied p t w))) s t w Refuse (plan_phase s (view t) w)
    (λ n e. (rw e, rw e tt))
    (λ fit k o. let h : long_enough s t ≡ true = search parts in
    step_left s t w (long h) k (plan_phase s (view t) w) (phase_alike s (view t) w k o).1)
left_behind t (get s w) =
    admit (λ p. Left t w (result_of (answer_get p) (applied_get p t w))) s t w RefuseGet (plan_get s (view t) w)
    (λ n e. (rw e, rw e tt))
    (λ _ k o. get_left s t w (plan_get s (view t) w) (get_alike s (view t) w k o).1)
left_behind t (load s m) = load_left t 0 m (judged_load s t m) (load_keeps s t m)

-- ---- the theorems
-- "nothing changed", but for 6, 7 and 8: "worker idle, nothing else changed"
pub refused : (t : Tables) (i : Item) (n p : ℕ) → (perform t i).answer ≡ Refused n p
    → (perform t i).state ≡ pick (quits_by n) (idled t (worker_of i)) t
refused t i n p e = subst (Changed t (worker_of i) (perform t i).state) e (left_behind t i).0

-- "none ready" changes nothing
pub none_ready_lem : (t : Tables) (i : Item) → (perform t i).answer ≡ NoneReady → (perform t i).state ≡ t
none_ready_lem t i e = subst (Changed t (worker_of i) (perform t i).state) e (left_behind t i).0

-- "A call that ends puts the words of its call back": all 43 words of the worker are those of a fresh one but for the
-- hold, and no other worker's words change
pub ended : (t : Tables) (i : Item) → ends (perform t i).answer ≡ true
    → ((perform t i).state.workers
    ≡ put_worker t.workers (worker_of i) (bare_worker IDLE (hold_after (view t) (worker_of i)) 0))
    × (words_of (worker_of i) (perform t i).state ≡ bare_worker IDLE (hold_after (view t) (worker_of i)) 0)
ended t i e = subst (λ b. pick b (Back t (worker_of i) (perform t i).state) (Unit {0})) e (left_behind t i).1
