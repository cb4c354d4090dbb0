-- For ALL tables: the words' calls write outcomes, spoiled words and notes as OutcomeWords.antt says. Follows
-- docs/RULES.md, "Steps".
use Rattle.std.specs.Prelude.{◌≡◌, ◌≢◌, List, ltb, length, get_or}
use Rattle.std.proofs.Math.Path.{refl}
use Rattle.std.proofs.Common.{ap, subst, ◌∙◌, arith}
use Rattle.std.proofs.Math.Bool.{true}
use Prim.Native.Nat.{ℕ, zero, suc, ◌+◌, ◌*◌, ◌≤◌, ◌<◌}
use Rattle.std.proofs.Math.Decide.{ℕ_discrete}
use borrow.Author.Tests.{lt-ltb, lt-leb}
use Rattle.def_numbers.specs.Numbers.{most_names, damaged}
use Rattle.def_basics.specs.Base.{pick}
use Rattle.def_basics.specs.Laws.{never, length_prefix}
use Rattle.def_basics.specs.Stores.{sets_off}
use Rattle.def_minutes.specs.Rising.{is_rising, SixteenRising, rising_means}
use Rattle.def_terms.specs.Terms.{listed, bit}
use Rattle.def_terms.specs.Runs.{Item, post_add, post_finish, step, get, load, Result, result_of}
use Rattle.def_terms.specs.declared.Sizes.{Sizes}
use Rattle.def_terms.specs.declared.Answer.TheVariants.{Ended, Refused}
use Rattle.def_words.specs.Layout.{job_shape, LABEL, OUTCOME, SPOILED, HELD, PLACE, LIST_COUNT, MARKING}
use Rattle.def_words.specs.Layout.{MINUTES, Tables, view, long_enough, sizes_fit, bare_worker}
use Rattle.def_words.specs.Words.{counters_ok, find_of, name_at, plan_tally, plan_link, plan_links, plan_call, plan_phase}
use Rattle.def_words.specs.Words.{plan_step, admitted, answer_of, applied, step_words, plan_get_of, applied_get}
use Rattle.def_words.specs.Words.{get_words, refusal, judged_add, judged_finish, adding_worker, posted, add_words}
use Rattle.def_words.specs.Words.{finish_words}
use Rattle.def_words.specs.Words.{judged_load, loading, load_words, perform}
use Rattle.def_words.specs.declared.Found.TheVariants.{At}
use Rattle.def_words.specs.declared.Plan.{Plan}
use Rattle.def_words.specs.declared.Plan.TheVariants.{Refuse}
use Rattle.def_words.specs.declared.GetPlan.{GetPlan}
use Rattle.def_words.specs.declared.GetPlan.TheVariants.{RefuseGet, Wait, Take}
use Rattle.thm_words_tests.specs.Tests.{test, parts, Long, long}
use Rattle.thm_words_tests.specs.Judged.{Admitted, admits, did}
use Rattle.thm_words_tests.specs.OneWord.{own_word, job_word, own_by_word, job_by_word}
use Rattle.thm_words_need.specs.Plans.{Inside, marking, phase_alike, admit}
use Rattle.thm_words_steps.specs.Buckets.{LooksFor, look_up_means}
use Rattle.thm_words_outcomes.specs.OutcomeWords.{SpoiledAfter, OutcomeAfter, NoteAfter, same, posted_add}
use Rattle.thm_words_outcomes.specs.OutcomeWords.{posted_finish, Served, WritesOutcomes}
use Rattle.thm_words_outcomes.specs.Origins.{From, plan_from}
use Rattle.thm_words_outcomes.specs.Fields.{field_off}
use Rattle.thm_words_outcomes.specs.OutcomeSteps.{spoiled_after, outcome_after, spoils_own, spoils_dependent}
use Rattle.thm_words_outcomes.specs.OutcomeSteps.{keeps_outcome, arc_word, made_word, clears}
use Rattle.thm_words_outcomes.specs.NoteSteps.{apart, mine_at, mine_off, at_note, note_after}

-- what holds of a refused step and of one that is planned holds of the step
by_plan : (s : Sizes) (t : Tables) (w : ℕ) (Q : Plan → Type 0) → ((n : ℕ) → Q (Refuse n))
    → (Long s t → ltb w s.workers ≡ true → (p : Plan) → From s (view t) w p
    → Inside s (view t) (marking (view t) w) p → Q p)
    → Q (plan_step s t w)
by_plan s t w Q f g =
    admit Q s t w Refuse (plan_phase s (view t) w) (λ n _. f (suc n))
    (λ fit k o. let full : long_enough s t ≡ true = search parts in
    g (long full) k (plan_phase s (view t) w) (plan_from s (view t) w o) (phase_alike s (view t) w k o).1)

module _ (s : Sizes) (t : Tables) where
  step_spoiled : (w j : ℕ) → SpoiledAfter t (perform t (step s w)).state j (step s w)
  unfolding perform step_words applied
  step_spoiled w j =
      by_plan s t w (λ p. SpoiledAfter t (applied p t w) j (step s w)) (λ n. same refl)
      (λ h k p f i. spoiled_after s t w h (marking (view t) w) p f i j)

  step_outcomes : (w j : ℕ) → OutcomeAfter t (perform t (step s w)).state j (step s w)
  unfolding perform step_words applied
  step_outcomes w j =
      by_plan s t w (λ p. OutcomeAfter t (applied p t w) j (step s w)) (λ n. same refl)
      (λ h k p f i. outcome_after s t w h (marking (view t) w) p f i j)

  step_notes : (w x : ℕ) → NoteAfter t (perform t (step s w)) x (step s w)
  unfolding perform step_words applied
  step_notes w x =
      by_plan s t w (λ p. NoteAfter t (did p t w) x (step s w)) (λ n. same refl)
      (λ h k p f i. note_after s t w h k (marking (view t) w) p f i x)

  -- a get stores a label and a hold
  gets : (w j k : ℕ) → k < 10 → k ≢ LABEL → (p : GetPlan) → job_word (applied_get p t w) j k ≡ job_word t j k
  unfolding applied_get
  gets w j k b n (RefuseGet m) = refl
  gets w j k b n Wait = refl
  gets w j k b n (Take o e) =
      field_off job_shape s.jobs t.jobs o.job LABEL 1 j k (omega arith) b (λ _. n)

  get_notes : (w x : ℕ) (p : GetPlan) → own_word (applied_get p t w) x 10 ≡ own_word t x 10
  unfolding applied_get
  get_notes w x (RefuseGet m) = refl
  get_notes w x Wait = refl
  get_notes w x (Take o e) = apart w t.workers HELD o.job x (omega arith) (omega arith)

  -- a post stores the words z of its worker
  module _ (w x : ℕ) (z : List ℕ) (whole : length z ≡ 43) (i : Item) (fresh : x ≡ w → (o : Result Tables)
      → own_word o.state x 10 ≡ get_or z 10 0 → NoteAfter t o x i) where
    posts : Long s t → ltb w s.workers ≡ true → (n : ℕ) → NoteAfter t (posted n t w z) x i
    unfolding posted
    posts h k zero = elim (ℕ_discrete x w) [
      | yes d ↦ fresh d _ (rw d (mine_at s t w h k z whole 10 (omega arith)))
      | no d ↦ same (mine_off s t w h k z whole x 10 d (omega arith))
    ]
    posts h k (suc n) = same refl

    post_notes : (judged : ℕ) → NoteAfter t (posted (admitted s t w refusal judged) t w z) x i
    unfolding posted
    post_notes judged =
        admit (λ n. NoteAfter t (posted n t w z) x i) s t w refusal judged (λ n _. same refl)
        (λ fit k _. let full : long_enough s t ≡ true = search parts in posts (long full) k judged)

  -- and no job's words
  post_jobs : (n w : ℕ) (z : List ℕ) → (posted n t w z).state.jobs ≡ t.jobs
  unfolding posted
  post_jobs zero w z = refl
  post_jobs (suc n) w z = refl

  -- a load stores minutes alone
  loads : (m : List ℕ) (j k : ℕ) → SixteenRising m → (n : ℕ) → job_word (loading n t m).state j k ≡ job_word t j k
  unfolding loading
  loads m j k r zero = sets_off m t.jobs MINUTES (21 + 10 * j + k) (λ o. omega (arith, r.sixteen))
  loads m j k r (suc n) = refl

  load_words_lem : (m : List ℕ) (j k : ℕ) → job_word (perform t (load s m)).state j k ≡ job_word t j k
  unfolding perform load_words loading
  load_words_lem m j k =
      test (is_rising m) (λ e. loads m j k ((rising_means m).0 e) (judged_load s t m))
      (λ e. rw e (test (sizes_fit s t) (λ f. rw f) (λ f. rw f)))

  load_workers : (n : ℕ) (m : List ℕ) → (loading n t m).state.workers ≡ t.workers
  unfolding loading
  load_workers zero m = refl
  load_workers (suc n) m = refl

  -- what a step clears, notes, spoils and keeps
  module _ (w : ℕ) where
    entering : own_word t w 0 ≡ 1 → own_word t w 3 ≤ own_word t w 7 → Served (perform t (step s w)).answer
        → (job_word (perform t (step s w)).state (get_or t.jobs 4 0) 8 ≡ 0)
        × (job_word (perform t (step s w)).state (get_or t.jobs 4 0) 9 ≡ 0)
    unfolding perform step_words applied
    entering e m a =
        by_plan s t w
        (λ p. Served (answer_of p) → (job_word (applied p t w) (get_or t.jobs 4 0) 8 ≡ 0)
        × (job_word (applied p t w) (get_or t.jobs 4 0) 9 ≡ 0))
        (λ n z. absurd z)
        (λ h k p f i z. let phase = own_by_word t w 0 (omega arith) ∙ e in
        let all : (view t).worker LIST_COUNT w ≤ (view t).worker PLACE w =
        rw (own_by_word t w 3 (omega arith), own_by_word t w 7 (omega arith)) m in
        let cleared = clears s t w h (marking (view t) w) p f i phase all z in
        rw (made_word s t w h) (cleared 8 (omega arith) (λ _. refl), cleared 9 (omega arith) (λ _. refl)))
        a

    -- a link to a finished job
    module _ (p : ℕ) (e : own_word t w 0 ≡ 2) (m : own_word t w 7 < own_word t w 3)
        (g : find_of s (view t) (name_at (view t) w) ≡ At p) (a : job_word t p 1 ≡ 2) where
      tally_plan : plan_phase s (view t) w ≡ pick (counters_ok s (view t)) (plan_tally (view t) p) (Refuse damaged)
      unfolding plan_phase plan_call plan_links plan_link
      tally_plan =
          rw (
            own_by_word t w 0 (omega arith) ∙ e,
            lt-ltb ((view t).worker PLACE w) ((view t).worker LIST_COUNT w)
                (rw (own_by_word t w 7 (omega arith), own_by_word t w 3 (omega arith)) m),
            g,
            job_by_word t p 1 (omega arith) ∙ a,
          )

      outcome_word : (view t).job OUTCOME p ≡ job_word t p 8
      outcome_word = job_by_word t p 8 (omega arith)

      outcome_by_9 : Admitted s t w → 1 < job_word t p 8 → perform t (step s w) ≡ result_of (Refused 9 0) t
      unfolding perform step_words applied plan_tally
      outcome_by_9 d b =
          rw (
            admits s t w Refuse (plan_phase s (view t) w) d,
            tally_plan,
            outcome_word,
            lt-leb (job_word t p 8) 1 b,
          )
          (test (counters_ok s (view t)) (λ c. rw c) (λ c. rw c))

      link_notes : job_word t p 8 ≡ 1 → Served (perform t (step s w)).answer
          → own_word (perform t (step s w)).state w 10 ≡ 1
      unfolding perform step_words applied plan_tally
      link_notes b =
          admit (λ q. Served (answer_of q) → own_word (applied q t w) w 10 ≡ 1) s t w Refuse (plan_phase s (view t) w)
          (λ n _ z. absurd z)
          (λ fit k _. let full : long_enough s t ≡ true = search parts in
          rw (tally_plan, outcome_word ∙ b)
          (test (counters_ok s (view t)) (λ c. rw c (λ _. at_note s t w (long full) k _ 1))
          (λ c. rw c (λ z. absurd z))))

    settling : own_word t w 0 ≡ 2 → (perform t (step s w)).answer ≡ Ended → own_word t w 10 ≡ 1
        → job_word (perform t (step s w)).state (own_word t w 8) 9 ≡ 1
    unfolding perform step_words applied
    settling e a o =
        by_plan s t w (λ p. answer_of p ≡ Ended → job_word (applied p t w) (own_word t w 8) 9 ≡ 1) (λ n z. never cc)
        (λ h k p f i z. rw (← (own_by_word t w 8 (omega arith))) (spoils_own s t w h (marking (view t) w) p f i
        (own_by_word t w 0 (omega arith) ∙ e) (own_by_word t w 10 (omega arith) ∙ o) z))
        a

    arc : own_word t w 0 ≡ 4 → Served (perform t (step s w)).answer → own_word t w 10 ≡ 1
        → job_word (perform t (step s w)).state (get_or t.arcs (1 + 2 * own_word t w 9) 0) 9 ≡ 1
    unfolding perform step_words applied
    arc e a o =
        by_plan s t w
        (λ p. Served (answer_of p) → job_word (applied p t w) (get_or t.arcs (1 + 2 * own_word t w 9) 0) 9 ≡ 1)
        (λ n z. absurd z)
        (λ h k p f i z. rw (arc_word s t w h) (spoils_dependent s t w h (marking (view t) w) p f i
        (own_by_word t w 0 (omega arith) ∙ e) (own_by_word t w 10 (omega arith) ∙ o) z))
        a

    mark : own_word t w 0 ≡ 3 → Served (perform t (step s w)).answer
        → job_word (perform t (step s w)).state (own_word t w 1) 8 ≡ own_word t w 10
    unfolding perform step_words applied
    mark e a =
        by_plan s t w (λ p. Served (answer_of p) → job_word (applied p t w) (own_word t w 1) 8 ≡ own_word t w 10)
        (λ n z. absurd z)
        (λ h k p f i z. rw (← (own_by_word t w 1 (omega arith))) (keeps_outcome s t w h (marking (view t) w) p f i
        (own_by_word t w 0 (omega arith) ∙ e) z))
        a

-- ---- every item
item_spoiled : (t : Tables) (i : Item) (j : ℕ) → SpoiledAfter t (perform t i).state j i
unfolding perform add_words finish_words get_words
item_spoiled t (post_add s w a) j = same (ap (λ l. get_or l (21 + 10 * j + 9) 0) (post_jobs s t _ w _))
item_spoiled t (post_finish s w f) j = same (ap (λ l. get_or l (21 + 10 * j + 9) 0) (post_jobs s t _ w _))
item_spoiled t (step s w) j = step_spoiled s t w j
item_spoiled t (get s w) j = same (gets s t w j SPOILED (omega arith) (omega arith) (plan_get_of s t w))
item_spoiled t (load s m) j = same (load_words_lem s t m j 9)

item_outcomes : (t : Tables) (i : Item) (j : ℕ) → OutcomeAfter t (perform t i).state j i
unfolding perform add_words finish_words get_words
item_outcomes t (post_add s w a) j = same (ap (λ l. get_or l (21 + 10 * j + 8) 0) (post_jobs s t _ w _))
item_outcomes t (post_finish s w f) j = same (ap (λ l. get_or l (21 + 10 * j + 8) 0) (post_jobs s t _ w _))
item_outcomes t (step s w) j = step_outcomes s t w j
item_outcomes t (get s w) j = same (gets s t w j OUTCOME (omega arith) (omega arith) (plan_get_of s t w))
item_outcomes t (load s m) j = same (load_words_lem s t m j 8)

item_notes : (t : Tables) (i : Item) (x : ℕ) → NoteAfter t (perform t i) x i
unfolding perform add_words finish_words get_words load_words
item_notes t (post_add s w a) x =
    post_notes s t w x (adding_worker ((view t).worker HELD w) a) (omega (arith, length_prefix most_names (listed a)))
    (post_add s w a) (λ e u z. subst (λ q. NoteAfter t u x (post_add s q a)) e (posted_add z)) (judged_add s (view t) w a)
item_notes t (post_finish s w f) x =
    post_notes s t w x (bare_worker MARKING ((view t).worker HELD w) (bit f.failed)) refl
    (post_finish s w f) (λ e u z. subst (λ q. NoteAfter t u x (post_finish s q f)) e (posted_finish z))
    (judged_finish s (view t) w f)
item_notes t (step s w) x = step_notes s t w x
item_notes t (get s w) x = same (get_notes s t w x (plan_get_of s t w))
item_notes t (load s m) x = same (ap (λ l. get_or l (43 * x + 10) 0) (load_workers s t (judged_load s t m) m))

found : (s : Sizes) (t : Tables) (w p : ℕ) → LooksFor s t (name_at (view t) w) (At p)
    → find_of s (view t) (name_at (view t) w) ≡ At p
found s t w p = (look_up_means s t (name_at (view t) w) (At p)).0

pub writes_outcomes : WritesOutcomes perform
writes_outcomes = record {
  spoiled = item_spoiled;
  outcomes = item_outcomes;
  notes = item_notes;
  entering_clears = entering;
  link_notes = λ s t w p e m g. link_notes s t w p e m (found s t w p g);
  outcome_by_9 = λ s t w p d e m g a b. outcome_by_9 s t w p e m (found s t w p g) a d b;
  settling_spoils = settling;
  arc_spoils = arc;
  mark_keeps = mark;
}
