-- For ALL tables: what the entering step of an add does, and exactly when, of any machine over the tables, by the words
-- of docs/TABLES.md. A damaged walk is 9; a name that is present is 7, before 8; no room is 8; and in every other case
-- the job is made. Follows docs/RULES.md, "Steps": "it makes the job with remaining count d, the list's length, at the
-- head of its bucket, and reserves the next d arcs", and the rows of 7, 8 and 9 in "Turned-away calls". (Buckets.antt:
-- what a walk finds. Wrong/LookUps.antt: machines that do otherwise.)
use Rattle.std.specs.Prelude.{◌≡◌, true, List, [], ◌∷◌, ℕ, ◌+◌, ◌*◌, ◌≤◌, ◌<◌, ltb, leb, get_or}
use Rattle.std.proofs.Math.Path.{sym, ap}
use Rattle.std.proofs.Common.{◌∙◌, arith}
use Rattle.std.proofs.Math.Bool.{or-true}
use Rattle.std.proofs.Math.Decide.{ℕ_discrete, dec_lt}
use Rattle.std.proofs.Math.ListN.{set}
use Rattle.std.proofs.lemmas.List.Edits.{sets}
use borrow.Author.Tests.{eq-eqb, ne_eqb, lt-ltb, le-ltb, lt-leb, le-leb}
use Rattle.def_bucket.specs.Laws.{by_numbers}
use Rattle.def_terms.specs.Runs.{step, result_of}
use Rattle.def_terms.specs.declared.Sizes.{Sizes}
use Rattle.def_terms.specs.declared.Answer.TheVariants.{Going, Refused}
use Rattle.def_words.specs.Columns.{header, put, put_header}
use Rattle.def_words.specs.Layout.{worker_shape, bucket_shape, OWN_NAME, LIST_COUNT, OWN_CLASS, OWN_GROWER, PLACE}
use Rattle.def_words.specs.Layout.{Tables, tables, view, NEWEST}
use Rattle.def_words.specs.Words.{plan_enter, plan_add, plan_call, plan_phase, applied, step_words, perform}
use Rattle.def_words.specs.declared.Found.{Found}
use Rattle.def_words.specs.declared.Found.TheVariants.{At, Missing, Damaged}
use Rattle.def_words.specs.declared.Plan.TheVariants.{Refuse}
use Rattle.thm_words_tests.specs.Judged.{counters_mean, Admitted, admits, did}
use Rattle.thm_words_tests.specs.OneWord.{own_word, own_by_word, Counted}
use Rattle.thm_words_steps.specs.Buckets.{jobs_made, bucket_number, head_word, LooksFor, head_by_word, look_up_means}
use Rattle.thm_words_steps.specs.Buckets.{one_end}
use Rattle.thm_words_steps.specs.LinkSteps.{Stepper, own_put, counters_by_word, own_put_lem}
use Rattle.thm_words_steps.specs.LookUpSteps.{idle_again, idle_by_word}

-- ---- where a step comes to entering: its worker has looked up all names of its list, and none of its own words nor a
-- counter turns it away
pub record ComesToEnter (s : Sizes) (t : Tables) (w : ℕ) : Type 0 where
  pub admitted : Admitted s t w
  pub counted : Counted s t
  pub looking : own_word t w 0 ≡ 1
  pub all : own_word t w 7 ≡ own_word t w 3

-- the walk for the add's own name ends so
abbrev pub OwnName : Sizes → Tables → ℕ → Found → Type 0
OwnName s t w r = LooksFor s t (own_word t w 2) r

-- how many arcs were reserved
abbrev pub arcs_reserved : Tables → ℕ
arcs_reserved t = get_or t.arcs 0 0

-- "fewer than d arcs unreserved"
abbrev pub FewArcs : Sizes → Tables → ℕ → Type 0
FewArcs s t w = s.arcs < arcs_reserved t + own_word t w 3

-- there is room for the job and its arcs
pub record Room (s : Sizes) (t : Tables) (w : ℕ) : Type 0 where
  pub job : jobs_made t < s.jobs
  pub arcs : arcs_reserved t + own_word t w 3 ≤ s.arcs

-- ---- what it leaves
-- the ten words of the job: name, label 0, count d, class and grower as the worker has them, no first and no last arc,
-- the bucket's old head as next, outcome and spoiled word 0
abbrev pub job_words : Sizes → Tables → ℕ → List ℕ
job_words s t w =
    own_word t w 2 ∷ 0 ∷ own_word t w 3 ∷ own_word t w 4 ∷ own_word t w 5 ∷ 4294967295 ∷ 4294967295
    ∷ head_word s t (own_word t w 2) ∷ 0 ∷ 0 ∷ []

-- these are the words of the job that is made, which is the newest of its bucket; made is one more and reserved d more;
-- the worker links from place 0 on, with that job and its first arc. Every other word is as it was
abbrev pub entered_with : Sizes → Tables → ℕ → ℕ → Tables
entered_with s t w arc =
    tables (set (sets t.jobs (21 + 10 * jobs_made t) (job_words s t w)) 4 (jobs_made t + 1))
    (set t.arcs 0 (arcs_reserved t + own_word t w 3))
    (set t.buckets (bucket_number (own_word t w 2) s.bits) (jobs_made t))
    t.queue
    (own_put (own_put (own_put (own_put t.workers w 0 2) w 7 0) w 8 (jobs_made t)) w 9 arc)

-- ---- the statement, by where the walk for its own name ends and by the room. With no listed name no arc is reserved,
-- and the call's arc is none
pub record EntersExactly (make : Stepper) (s : Sizes) (t : Tables) (w : ℕ) : Type 0 where
  pub damaged_by_9 : ComesToEnter s t w → OwnName s t w Damaged → make s t w ≡ result_of (Refused 9 0) t
  pub present_by_7 : (p : ℕ) → ComesToEnter s t w → OwnName s t w (At p)
      → make s t w ≡ result_of (Refused 7 0) (idle_again t w)
  pub jobs_by_8 : ComesToEnter s t w → OwnName s t w Missing → jobs_made t ≡ s.jobs
      → make s t w ≡ result_of (Refused 8 0) (idle_again t w)
  pub arcs_by_8 : ComesToEnter s t w → OwnName s t w Missing → FewArcs s t w
      → make s t w ≡ result_of (Refused 8 0) (idle_again t w)
  pub enters_bare : ComesToEnter s t w → OwnName s t w Missing → Room s t w → own_word t w 3 ≡ 0
      → make s t w ≡ result_of Going (entered_with s t w 4294967295)
  pub enters : ComesToEnter s t w → OwnName s t w Missing → Room s t w → 0 < own_word t w 3
      → make s t w ≡ result_of Going (entered_with s t w (arcs_reserved t))

-- it settles the step: two machines of which it holds do the same
pub one_entering : (make other : Stepper) (s : Sizes) (t : Tables) (w : ℕ)
    → EntersExactly make s t w → EntersExactly other s t w
    → ComesToEnter s t w
    → make s t w ≡ other s t w
one_entering make other s t w d e c =
    let o = one_end s t (own_word t w 2) in
    go o.end o.along
  where
    go : (r : Found) → OwnName s t w r → make s t w ≡ other s t w
    go (At p) l = d.present_by_7 p c l ∙ sym (e.present_by_7 p c l)
    go Damaged l = d.damaged_by_9 c l ∙ sym (e.damaged_by_9 c l)
    go Missing l = elim (ℕ_discrete (jobs_made t) s.jobs) [
      | yes z ↦ d.jobs_by_8 c l z ∙ sym (e.jobs_by_8 c l z)
      | no z ↦ elim (dec_lt s.arcs (arcs_reserved t + own_word t w 3)) [
        | yes h ↦ d.arcs_by_8 c l h ∙ sym (e.arcs_by_8 c l h)
        | no h ↦
            let room : Room s t w = record { job = omega (arith, c.counted.made); arcs = omega arith } in
            elim (ℕ_discrete (own_word t w 3) 0) [
              | yes b ↦ d.enters_bare c l room b ∙ sym (e.enters_bare c l room b)
              | no b ↦ let m : 0 < own_word t w 3 = omega arith in d.enters c l room m ∙ sym (e.enters c l room m)
            ]
      ]
    ]

-- ---- the words' step
module _ (s : Sizes) (t : Tables) (w : ℕ) where
  name_word : (view t).worker OWN_NAME w ≡ own_word t w 2
  name_word = own_by_word t w 2 (omega arith)

  count_word : (view t).worker LIST_COUNT w ≡ own_word t w 3
  count_word = own_by_word t w 3 (omega arith)

  class_word : (view t).worker OWN_CLASS w ≡ own_word t w 4
  class_word = own_by_word t w 4 (omega arith)

  grower_word : (view t).worker OWN_GROWER w ≡ own_word t w 5
  grower_word = own_by_word t w 5 (omega arith)

  place_word : (view t).worker PLACE w ≡ own_word t w 7
  place_word = own_by_word t w 7 (omega arith)

  enter_here : (r : Found) → ComesToEnter s t w → OwnName s t w r
      → step_words s t w ≡ did (plan_enter s (view t) (own_word t w 2) (own_word t w 3) r) t w
  unfolding step_words applied plan_phase plan_call plan_add
  enter_here r c l =
      let n = (view t).worker LIST_COUNT w in
      let all : (view t).worker PLACE w ≡ n = place_word ∙ c.all ∙ sym count_word in
      rw (
        admits s t w Refuse _ c.admitted,
        own_by_word t w 0 (omega arith) ∙ c.looking,
        (counters_mean s (view t)).1 (counters_by_word s t c.counted),
        all,
        le-ltb n n (omega arith),
        name_word,
        count_word,
        (look_up_means s t (own_word t w 2) r).0 l,
      )

  no_job_lem : jobs_made t ≡ s.jobs → leb s.jobs (view t).made ≡ true
  unfolding header
  no_job_lem e = le-leb s.jobs (jobs_made t) (omega arith)

  no_arcs_lem : FewArcs s t w → ltb s.arcs ((view t).reserved + own_word t w 3) ≡ true
  unfolding header
  no_arcs_lem h = lt-ltb s.arcs (arcs_reserved t + own_word t w 3) h

  -- the four words of the worker
  worker_put : (arc : ℕ)
      → put worker_shape (put worker_shape (put worker_shape (put worker_shape t.workers w 0 2) w 7 0) w 8 (jobs_made t))
      w 9 arc
      ≡ own_put (own_put (own_put (own_put t.workers w 0 2) w 7 0) w 8 (jobs_made t)) w 9 arc
  worker_put arc =
      rw (
        own_put_lem t.workers w 0 2,
        own_put_lem (own_put t.workers w 0 2) w 7 0,
        own_put_lem (own_put (own_put t.workers w 0 2) w 7 0) w 8 (jobs_made t),
      )
      (own_put_lem _ w 9 arc)

  bucket_put : (k : ℕ) → put bucket_shape t.buckets k NEWEST (jobs_made t) ≡ set t.buckets k (jobs_made t)
  unfolding put
  bucket_put k = ap (λ n. set t.buckets n (jobs_made t)) {x = 0 + 1 * k + 0} {y = k} (omega arith)

  job_put_lem : sets t.jobs (21 + 10 * jobs_made t + 0) (job_words s t w)
      ≡ sets t.jobs (21 + 10 * jobs_made t) (job_words s t w)
  job_put_lem = ap (λ n. sets t.jobs n (job_words s t w)) {x = 21 + 10 * jobs_made t + 0} {y = 21 + 10 * jobs_made t}
      (omega arith)

  module _ (c : ComesToEnter s t w) (l : OwnName s t w Missing) where
    full_of_jobs : jobs_made t ≡ s.jobs → step_words s t w ≡ result_of (Refused 8 0) (idle_again t w)
    unfolding plan_enter applied
    full_of_jobs e = enter_here Missing c l ∙ rw (no_job_lem e) (ap (result_of (Refused 8 0)) (idle_by_word t w))

    full_of_arcs : FewArcs s t w → step_words s t w ≡ result_of (Refused 8 0) (idle_again t w)
    unfolding plan_enter applied
    full_of_arcs h =
        enter_here Missing c l
        ∙ rw (no_arcs_lem h, or-true (leb s.jobs (view t).made)) (ap (result_of (Refused 8 0)) (idle_by_word t w))

    made_bare : Room s t w → own_word t w 3 ≡ 0 → step_words s t w ≡ result_of Going (entered_with s t w 4294967295)
    unfolding plan_enter applied header put_header
    made_bare r e =
        enter_here Missing c l
        ∙ rw (
          lt-leb s.jobs (jobs_made t) r.job,
          le-ltb s.arcs (arcs_reserved t + own_word t w 3) r.arcs,
          head_by_word s t (own_word t w 2),
          by_numbers (own_word t w 2) s.bits,
          name_word,
          class_word,
          grower_word,
          count_word,
          eq-eqb (own_word t w 3) 0 e,
          bucket_put (bucket_number (own_word t w 2) s.bits),
          job_put_lem,
        )
        (rw (worker_put 4294967295))

    made_it : Room s t w → 0 < own_word t w 3 → step_words s t w ≡ result_of Going (entered_with s t w (arcs_reserved t))
    unfolding plan_enter applied header put_header
    made_it r h =
        enter_here Missing c l
        ∙ rw (
          lt-leb s.jobs (jobs_made t) r.job,
          le-ltb s.arcs (arcs_reserved t + own_word t w 3) r.arcs,
          head_by_word s t (own_word t w 2),
          by_numbers (own_word t w 2) s.bits,
          name_word,
          class_word,
          grower_word,
          count_word,
          ne_eqb (own_word t w 3) 0 (omega arith),
          bucket_put (bucket_number (own_word t w 2) s.bits),
          job_put_lem,
        )
        (rw (worker_put (arcs_reserved t)))

  pub enters_exactly : EntersExactly step_words s t w
  unfolding plan_enter applied
  enters_exactly = record {
    damaged_by_9 = λ c l. enter_here Damaged c l;
    present_by_7 = λ p c l. enter_here (At p) c l ∙ ap (result_of (Refused 7 0)) (idle_by_word t w);
    jobs_by_8 = full_of_jobs;
    arcs_by_8 = full_of_arcs;
    enters_bare = made_bare;
    enters = made_it;
  }

-- the same of the item of a list
pub item_enters_exactly : (s : Sizes) (t : Tables) (w : ℕ) → EntersExactly (λ q u v. perform u (step q v)) s t w
unfolding perform
item_enters_exactly s t w = enters_exactly s t w
