-- Machines over the tables that are wrong in a link or in the mark of a finish, each with tables by which a statement
-- of LinkSteps.antt or MarkSteps.antt fails of it.
use Rattle.std.specs.Prelude.{◌≡◌, refl, Bool, true, ◌&&◌, [], ◌∷◌, ℕ, ◌+◌, ltb, leb, eqb, replicate}
use Rattle.std.proofs.Common.{ap, lit≤, lit<, eqb-true}
use Rattle.def_numbers.specs.Numbers.{damaged}
use Rattle.def_basics.specs.Base.{pick}
use Rattle.def_bucket.specs.Bucket.{product_of, bucket_of}
use Rattle.def_terms.specs.Terms.{within_limits}
use Rattle.def_terms.specs.Runs.{Result, result_of}
use Rattle.def_terms.specs.declared.Sizes.{Sizes}
use Rattle.def_words.specs.Columns.{header, columns, put}
use Rattle.def_words.specs.Layout.{none, job_shape, LABEL, OUTCOME, SPOILED, PHASE, HELD, LIST_COUNT, PLACE, OWN_JOB}
use Rattle.def_words.specs.Layout.{OWN_ARC}
use Rattle.def_words.specs.Layout.{NOTE, LINKING, MARKING, Tables, tables, View, view, long_enough, sizes_kept, sizes_fit}
use Rattle.def_words.specs.Layout.{bare_worker}
use Rattle.def_words.specs.Words.{counters_ok, own_ok, walk, find_of, name_at, plan_append, plan_tally, plan_link, plan_mark}
use Rattle.def_words.specs.Words.{plan_links, plan_call, plan_phase, admitted, applied, step_words}
use Rattle.def_words.specs.declared.Found.{Found}
use Rattle.def_words.specs.declared.Found.TheVariants.{At, Missing, Damaged}
use Rattle.def_words.specs.declared.Plan.{Plan}
use Rattle.def_words.specs.declared.Plan.TheVariants.{Refuse, Tally}
use Rattle.thm_words_tests.specs.Tests.{test, parts}
use Rattle.thm_words_tests.specs.Judged.{sized_means, own_means, Admitted, did}
use Rattle.thm_words_tests.specs.OneWord.{own_word, job_word}
use Rattle.thm_words_tests.specs.Small.{two, graph, job_of, apart, number}
use Rattle.thm_words_steps.specs.Buckets.{hit}
use Rattle.thm_words_steps.specs.LinkSteps.{Stepper, LinksTo, LinksExactly}
use Rattle.thm_words_steps.specs.MarkSteps.{Marks, MarksExactly}

-- ---- tables of the two jobs of name 7 and 8
-- an add of 8 is to link to 7, which is finished with an outcome
abbrev pub linking : ℕ → Tables
linking outcome =
    graph 2 (job_of 7 2 0 none outcome 0) (job_of 8 0 1 none 0 0) (1 ∷ none ∷ none ∷ []) (0 ∷ 1 ∷ [])
    (LINKING ∷ none ∷ 8 ∷ 1 ∷ 0 ∷ 0 ∷ 0 ∷ 0 ∷ 1 ∷ 0 ∷ 0 ∷ 7 ∷ replicate 31 0)

-- a finish of 7 is to mark it, with a spoiled word of the job and a note
abbrev pub marking : ℕ → ℕ → Tables
marking spoiled note =
    graph 1 (job_of 7 1 0 none 0 spoiled) (job_of 0 0 0 none 0 0) (0 ∷ none ∷ none ∷ []) (0 ∷ none ∷ [])
    (bare_worker MARKING 0 note)

-- ---- what is computed of them
pub admits : (t : Tables) → sizes_fit two t ≡ true → own_ok two (view t) 0 ≡ true → Admitted two t 0
admits t z e = record { sizes = (sized_means two t).0 z; known = lit< tt; own = (own_means two (view t) 0).0 e }

pub to_link_lem : (outcome : ℕ) → LinksTo two (linking outcome) 0 0
unfolding within_limits long_enough sizes_kept own_ok header columns
to_link_lem outcome = (
  record {
    admitted = admits (linking outcome) refl refl;
    counted = record { made = lit≤ tt; reserved = lit≤ tt };
    linking = refl;
    more = lit< tt;
  },
  hit (record { some = apart refl; made = lit< tt }) (lit< tt) refl,
)

to_mark : (spoiled note : ℕ) → own_ok two (view (marking spoiled note)) 0 ≡ true → Marks two (marking spoiled note) 0
unfolding within_limits long_enough sizes_kept header
to_mark spoiled note e = record {
  comes = record {
    admitted = admits (marking spoiled note) refl e;
    counted = record { made = lit≤ tt; reserved = lit≤ tt };
    marking = refl;
  };
  holds = apart refl;
  executing = refl;
  first = λ n. absurd (n refl);
}

-- a step that is planned so, once it is admitted
abbrev pub planned : (Sizes → View → ℕ → Plan) → Stepper
planned plan s t w = did (admitted s t w Refuse (plan s (view t) w)) t w

-- ---- links: to a finished job p they are planned so, and else are the words' own
abbrev pub finished_by : (Sizes → View → ℕ → ℕ → Plan) → Sizes → View → ℕ → Found → Plan
finished_by plan s v w (At p) = pick (eqb (v.job LABEL p) 2) (plan s v w p) (plan_phase s v w)
finished_by plan s v w Missing = plan_phase s v w
finished_by plan s v w Damaged = plan_phase s v w

abbrev pub links_at : Sizes → View → ℕ → Bool
links_at s v w =
    eqb (v.worker PHASE w) LINKING && counters_ok s v && ltb (v.worker PLACE w) (v.worker LIST_COUNT w)

abbrev pub links_by : (Sizes → View → ℕ → ℕ → Plan) → Stepper
links_by plan =
    planned (λ s v w. pick (links_at s v w) (finished_by plan s v w (find_of s v (name_at v w))) (plan_phase s v w))

-- by the words' plan for it they are the words' step
abbrev pub tallies : Sizes → View → ℕ → ℕ → Plan
tallies s v w p = plan_tally v p

own_plan : (s : Sizes) (v : View) (w : ℕ) → links_at s v w ≡ true → (f : Found) → find_of s v (name_at v w) ≡ f
    → finished_by tallies s v w f ≡ plan_phase s v w
unfolding plan_phase plan_call plan_links plan_link
own_plan s v w e (At p) g =
    let phase : v.worker PHASE w ≡ LINKING = eqb-true (v.worker PHASE w) LINKING (search parts) in
    let sound : counters_ok s v ≡ true = search parts in
    let more : ltb (v.worker PLACE w) (v.worker LIST_COUNT w) ≡ true = search parts in
    test (eqb (v.job LABEL p) 2) (λ a. rw (phase, sound, more, g, eqb-true (v.job LABEL p) 2 a)) (λ a. rw a)
own_plan s v w e Missing g = refl
own_plan s v w e Damaged g = refl

pub own_links : (s : Sizes) (t : Tables) (w : ℕ) → links_by tallies s t w ≡ step_words s t w
unfolding step_words
own_links s t w =
    ap (λ p. did (admitted s t w Refuse p) t w)
    (test (links_at s (view t) w) (λ e. rw e (own_plan s (view t) w e _ refl)) (λ e. rw e))

-- an outcome of 7 is served: it is not tested
abbrev pub serves_all : Stepper
serves_all = links_by (λ s v w p. Tally (v.job OUTCOME p))

pub serves_seven : LinksExactly serves_all two (linking 7) 0 → ⊥
unfolding applied plan_phase plan_call plan_links plan_link admitted within_limits long_enough sizes_kept own_ok find_of walk
    product_of bucket_of header columns put
serves_seven d =
    apart refl (ap (λ (o : Result Tables). number o.answer) (d.outcome_by_9 0 (to_link_lem 7) refl (lit< tt)))

-- the note is forgotten
abbrev pub forgets : Stepper
forgets = links_by (λ s v w p. pick (leb (v.job OUTCOME p) 1) (Tally 0) (Refuse damaged))

pub forgets_the_note : LinksExactly forgets two (linking 1) 0 → ⊥
unfolding applied plan_phase plan_call plan_links plan_link admitted within_limits long_enough sizes_kept own_ok find_of walk
    product_of bucket_of header columns put
forgets_the_note d =
    apart refl (ap (λ (o : Result Tables). own_word o.state 0 10) (d.failed 0 (to_link_lem 1) refl refl))

-- the arc is appended, as to a job that is not finished, and nothing is tallied
abbrev pub appends : Stepper
appends = links_by (λ s v w p. plan_append s v p (v.worker OWN_ARC w + v.worker PLACE w) (v.worker OWN_JOB w))

pub appends_to_a_finished_job : LinksExactly appends two (linking 0) 0 → ⊥
unfolding applied plan_phase plan_call plan_links plan_link plan_append admitted within_limits long_enough sizes_kept own_ok
    find_of walk product_of bucket_of header columns put
appends_to_a_finished_job d =
    apart refl (ap (λ (o : Result Tables). own_word o.state 0 6) (d.good 0 (to_link_lem 0) refl refl))

-- ---- a step in a phase that leaves word k of the job that it writes as it was
abbrev pub leaves : ℕ → (View → ℕ → ℕ) → ℕ → Stepper
leaves phase job k s t w =
    let v = view t in
    let o = step_words s t w in
    let u = o.state in
    let j = job v w in
    result_of o.answer
    (pick (eqb (v.worker PHASE w) phase)
    (tables (put job_shape u.jobs j k (v.job k j)) u.arcs u.buckets u.queue u.workers) u)

-- a mark that keeps no outcome
abbrev pub keeps_none : Stepper
keeps_none = leaves MARKING (λ v w. v.worker HELD w) OUTCOME

pub keeps_no_outcome : MarksExactly keeps_none two (marking 0 1) 0 → ⊥
unfolding step_words applied plan_phase plan_call plan_mark admitted within_limits long_enough sizes_kept own_ok header columns
    put
keeps_no_outcome d =
    apart refl (ap (λ (o : Result Tables). job_word o.state 0 8) (d.ends (to_mark 0 1 refl) refl))

-- ---- a mark that refuses a good finish where the job's spoiled word is 1
abbrev pub refuses_spoiled : Stepper
refuses_spoiled =
    planned (λ s v w.
    pick (eqb (v.worker PHASE w) MARKING && eqb (v.job SPOILED (v.worker HELD w)) 1 && eqb (v.worker NOTE w) 0)
    (Refuse damaged)
    (plan_phase s v w))

pub refuses_a_spoiled_job : MarksExactly refuses_spoiled two (marking 1 0) 0 → ⊥
unfolding applied plan_phase plan_call plan_mark admitted within_limits long_enough sizes_kept own_ok header columns put
refuses_a_spoiled_job d =
    apart refl (ap (λ (o : Result Tables). number o.answer) (d.ends (to_mark 1 0 refl) refl))
