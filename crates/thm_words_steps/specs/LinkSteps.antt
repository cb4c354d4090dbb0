-- For ALL tables: what a link step does, and exactly when, of any machine over the tables, by the words of
-- docs/TABLES.md. A name that is not found, a damaged walk and a word off its range are 9, with nothing changed, and
-- nothing else is. Follows docs/RULES.md, "Steps": "A finished prerequisite adds 1 to the worker's tally, and one that
-- failed is noted beside it; any other gets the arc reserved for that list place appended to its list". (Buckets.antt:
-- what a walk finds. MarkSteps.antt: the mark of a finish. Wrong/Steps.antt: machines that do otherwise.)
use Rattle.std.specs.Prelude.{◌≡◌, ◌≢◌, Bool, true, ◌&&◌, List, ℕ, ◌+◌, ◌*◌, ◌<◌, ltb, get_or, set}
use Rattle.std.proofs.Common.{sym, ap, ◌∙◌, arith}
use Rattle.std.proofs.Math.Decide.{ℕ_discrete, dec_lt}
use borrow.Author.Tests.{ltb-true, lt-ltb, lt-leb, le-leb, ne_eqb}
use Rattle.def_basics.specs.Laws.{never, fails}
use Rattle.def_terms.specs.Runs.{step, Result, result_of}
use Rattle.def_terms.specs.declared.Sizes.{Sizes}
use Rattle.def_terms.specs.declared.Answer.TheVariants.{Going, Refused}
use Rattle.def_words.specs.Columns.{header, put}
use Rattle.def_words.specs.Layout.{none, worker_shape, LAST, LIST_COUNT, TALLY, PLACE, OWN_JOB, OWN_ARC, NOTE}
use Rattle.def_words.specs.Layout.{Tables, tables, view, LABEL, OUTCOME}
use Rattle.def_words.specs.Words.{place_ok, find_of, name_at, plan_append, plan_tally, plan_link, plan_links, plan_call}
use Rattle.def_words.specs.Words.{plan_phase}
use Rattle.def_words.specs.Words.{applied, step_words, perform}
use Rattle.def_words.specs.declared.Found.{Found}
use Rattle.def_words.specs.declared.Found.TheVariants.{At, Missing, Damaged}
use Rattle.def_words.specs.declared.Plan.TheVariants.{Refuse}
use Rattle.thm_words_tests.specs.Tests.{test, parts}
use Rattle.thm_words_tests.specs.Judged.{NoneOrUsed, place_means, Counters, counters_mean, Admitted, admits, did}
use Rattle.thm_words_tests.specs.OneWord.{own_word, job_word, own_by_word, job_by_word, Counted}
use Rattle.thm_words_steps.specs.Buckets.{LooksFor, look_up_means, one_end}

-- a step, of any machine over the tables
abbrev pub Stepper : Type 0
Stepper = Sizes → Tables → ℕ → Result Tables

-- the words of all workers, jobs and arcs with x as word k of worker w, of job j, of arc y
abbrev pub own_put : List ℕ → ℕ → ℕ → ℕ → List ℕ
own_put l w k x = set l (43 * w + k) x

abbrev pub job_put : List ℕ → ℕ → ℕ → ℕ → List ℕ
job_put l j k x = set l (21 + 10 * j + k) x

abbrev pub arc_put : List ℕ → ℕ → ℕ → ℕ → List ℕ
arc_put l y k x = set l (1 + 2 * y + k) x

-- ---- where a step comes to a link: its worker links, none of its own words nor a counter turns it away, and its place
-- is below its list's count
pub record ComesToLink (s : Sizes) (t : Tables) (w : ℕ) : Type 0 where
  pub admitted : Admitted s t w
  pub counted : Counted s t
  pub linking : own_word t w 0 ≡ 2
  pub more : own_word t w 7 < own_word t w 3

-- the listed name at that place
abbrev pub listed_name : Tables → ℕ → ℕ
listed_name t w = own_word t w (11 + own_word t w 7)

-- whose walk ends so
abbrev pub Listed : Sizes → Tables → ℕ → Found → Type 0
Listed s t w r = LooksFor s t (listed_name t w) r

-- and that finds the job p
abbrev pub LinksTo : Sizes → Tables → ℕ → ℕ → Type 0
LinksTo s t w p = ComesToLink s t w × Listed s t w (At p)

-- ---- what a link leaves
-- to a finished job: place and tally are one more, and the note is n; every other word is as it was
abbrev pub tallied : Tables → ℕ → ℕ → Tables
tallied t w n =
    tables t.jobs t.arcs t.buckets t.queue
    (own_put (own_put (own_put t.workers w 7 (own_word t w 7 + 1)) w 6 (own_word t w 6 + 1)) w 10 n)

-- the reserved arc of this place, with its two words: the add's job, and none after it
abbrev pub own_arc : Tables → ℕ → ℕ
own_arc t w = own_word t w 9 + own_word t w 7

abbrev pub arc_made : Tables → ℕ → List ℕ
arc_made t w = arc_put (arc_put t.arcs (own_arc t w) 0 (own_word t w 8)) (own_arc t w) 1 none

-- to another job p: the arc is p's first and last; or it comes after p's last arc, and is the last. The place is one
-- more, and the tally and the note are as they were
abbrev pub linked_first : Tables → ℕ → ℕ → Tables
linked_first t w p =
    tables (job_put (job_put t.jobs p 5 (own_arc t w)) p 6 (own_arc t w)) (arc_made t w) t.buckets t.queue
    (own_put t.workers w 7 (own_word t w 7 + 1))

abbrev pub linked_after : Tables → ℕ → ℕ → Tables
linked_after t w p =
    tables (job_put t.jobs p 6 (own_arc t w)) (arc_put (arc_made t w) (job_word t p 6) 1 (own_arc t w)) t.buckets
    t.queue
    (own_put t.workers w 7 (own_word t w 7 + 1))

-- the add has a job, its arc is one that was reserved, and the last arc of p is none or in use
pub record Appends (s : Sizes) (t : Tables) (w p : ℕ) : Type 0 where
  pub job : own_word t w 8 < get_or t.jobs 4 0
  pub arc : own_arc t w < get_or t.arcs 0 0
  pub last : NoneOrUsed (job_word t p 6) (get_or t.arcs 0 0) s.arcs

-- ---- the statement, by where the walk ends, the job's label and its outcome: 9 for a name that is not found or a
-- damaged walk, a label above 2, an outcome of a finished job above 1 or an arc that cannot be appended, and the link
-- is made in every other case
pub record LinksExactly (make : Stepper) (s : Sizes) (t : Tables) (w : ℕ) : Type 0 where
  pub missing_by_9 : ComesToLink s t w → Listed s t w Missing → make s t w ≡ result_of (Refused 9 0) t
  pub damaged_by_9 : ComesToLink s t w → Listed s t w Damaged → make s t w ≡ result_of (Refused 9 0) t
  pub label_by_9 : (p : ℕ) → LinksTo s t w p → 2 < job_word t p 1 → make s t w ≡ result_of (Refused 9 0) t
  pub outcome_by_9 : (p : ℕ) → LinksTo s t w p → job_word t p 1 ≡ 2 → 1 < job_word t p 8
      → make s t w ≡ result_of (Refused 9 0) t
  pub good : (p : ℕ) → LinksTo s t w p → job_word t p 1 ≡ 2 → job_word t p 8 ≡ 0
      → make s t w ≡ result_of Going (tallied t w (own_word t w 10))
  pub failed : (p : ℕ) → LinksTo s t w p → job_word t p 1 ≡ 2 → job_word t p 8 ≡ 1
      → make s t w ≡ result_of Going (tallied t w 1)
  pub arc_by_9 : (p : ℕ) → LinksTo s t w p → job_word t p 1 < 2 → (Appends s t w p → ⊥)
      → make s t w ≡ result_of (Refused 9 0) t
  pub first_arc_lem : (p : ℕ) → LinksTo s t w p → job_word t p 1 < 2 → Appends s t w p → job_word t p 6 ≡ none
      → make s t w ≡ result_of Going (linked_first t w p)
  pub next_arc : (p : ℕ) → LinksTo s t w p → job_word t p 1 < 2 → Appends s t w p → job_word t p 6 ≢ none
      → make s t w ≡ result_of Going (linked_after t w p)

-- it settles the step: two machines of which it holds do the same
appends_or_not : {A : Type 0} (s : Sizes) (t : Tables) (w p : ℕ) → (Appends s t w p → A) → ((Appends s t w p → ⊥) → A)
    → A
appends_or_not s t w p f g = elim (dec_lt (own_word t w 8) (get_or t.jobs 4 0)) [
  | no a ↦ g (λ x. a x.job)
  | yes a ↦ elim (dec_lt (own_arc t w) (get_or t.arcs 0 0)) [
    | no b ↦ g (λ x. b x.arc)
    | yes b ↦
        let sound = place_means (job_word t p 6) (get_or t.arcs 0 0) s.arcs in
        test (place_ok (job_word t p 6) (get_or t.arcs 0 0) s.arcs)
        (λ e. f (record { job = a; arc = b; last = sound.0 e }))
        (λ e. g (λ x. let z = sound.1 x.last in never cc))
  ]
]

pub one_link : (make other : Stepper) (s : Sizes) (t : Tables) (w : ℕ)
    → LinksExactly make s t w → LinksExactly other s t w
    → ComesToLink s t w
    → make s t w ≡ other s t w
one_link make other s t w d e c =
    let o = one_end s t (listed_name t w) in
    go o.end o.along
  where
    to_found : (p : ℕ) → LinksTo s t w p → make s t w ≡ other s t w
    to_found p l = elim (dec_lt 2 (job_word t p 1)) [
      | yes h ↦ d.label_by_9 p l h ∙ sym (e.label_by_9 p l h)
      | no h ↦ elim (ℕ_discrete (job_word t p 1) 2) [
        | yes f ↦ elim (dec_lt 1 (job_word t p 8)) [
          | yes k ↦ d.outcome_by_9 p l f k ∙ sym (e.outcome_by_9 p l f k)
          | no k ↦ elim (ℕ_discrete (job_word t p 8) 0) [
            | yes z ↦ d.good p l f z ∙ sym (e.good p l f z)
            | no z ↦ let u : job_word t p 8 ≡ 1 = omega arith in d.failed p l f u ∙ sym (e.failed p l f u)
          ]
        ]
        | no f ↦
            let k : job_word t p 1 < 2 = omega arith in
            appends_or_not s t w p
            (λ a. elim (ℕ_discrete (job_word t p 6) none) [
              | yes z ↦ d.first_arc_lem p l k a z ∙ sym (e.first_arc_lem p l k a z)
              | no z ↦ d.next_arc p l k a z ∙ sym (e.next_arc p l k a z)
            ])
            (λ a. d.arc_by_9 p l k a ∙ sym (e.arc_by_9 p l k a))
      ]
    ]

    go : (r : Found) → Listed s t w r → make s t w ≡ other s t w
    go (At p) l = to_found p (c, l)
    go Missing l = d.missing_by_9 c l ∙ sym (e.missing_by_9 c l)
    go Damaged l = d.damaged_by_9 c l ∙ sym (e.damaged_by_9 c l)

-- ---- the words' step
-- the counters, by their words
pub counters_by_word : (s : Sizes) (t : Tables) → Counted s t → Counters s (view t)
unfolding header
counters_by_word s t c = record { made = c.made; reserved = c.reserved }

-- a store in a field of a worker is one of its word
pub own_put_lem : (l : List ℕ) (w k x : ℕ) → put worker_shape l w k x ≡ own_put l w k x
unfolding put
own_put_lem l w k x = ap (λ n. set l n x) {x = 0 + 43 * w + k} {y = 43 * w + k} (omega arith)

-- and three of them
pub own_puts : (l : List ℕ) (w k x q y i z : ℕ)
    → put worker_shape (put worker_shape (put worker_shape l w k x) w q y) w i z
    ≡ own_put (own_put (own_put l w k x) w q y) w i z
own_puts l w k x q y i z = rw (own_put_lem l w k x, own_put_lem (own_put l w k x) w q y) (own_put_lem _ w i z)

-- the listed name, by its word, and where its walk ends
pub listed_by_word : (s : Sizes) (t : Tables) (w : ℕ) → Admitted s t w → own_word t w 7 < own_word t w 3
    → name_at (view t) w ≡ listed_name t w
listed_by_word s t w a h =
    let place : (view t).worker PLACE w ≡ own_word t w 7 = own_by_word t w 7 (omega arith) in
    let count : (view t).worker LIST_COUNT w ≡ own_word t w 3 = own_by_word t w 3 (omega arith) in
    rw place (own_by_word t w (11 + own_word t w 7) (omega (arith, a.own.count)))

pub listed_found : (s : Sizes) (t : Tables) (w : ℕ) (r : Found) → Admitted s t w → own_word t w 7 < own_word t w 3
    → Listed s t w r
    → find_of s (view t) (name_at (view t) w) ≡ r
listed_found s t w r a h l = rw (listed_by_word s t w a h) ((look_up_means s t (listed_name t w) r).0 l)

module _ (s : Sizes) (t : Tables) (w : ℕ) where
  place_word : (view t).worker PLACE w ≡ own_word t w 7
  place_word = own_by_word t w 7 (omega arith)

  count_word : (view t).worker LIST_COUNT w ≡ own_word t w 3
  count_word = own_by_word t w 3 (omega arith)

  tally_word : (view t).worker TALLY w ≡ own_word t w 6
  tally_word = own_by_word t w 6 (omega arith)

  job_word_lem : (view t).worker OWN_JOB w ≡ own_word t w 8
  job_word_lem = own_by_word t w 8 (omega arith)

  arc_word : (view t).worker OWN_ARC w ≡ own_word t w 9
  arc_word = own_by_word t w 9 (omega arith)

  note_word : (view t).worker NOTE w ≡ own_word t w 10
  note_word = own_by_word t w 10 (omega arith)

  link_here : (r : Found) → ComesToLink s t w → Listed s t w r
      → step_words s t w ≡ did (plan_link s (view t) (own_arc t w) (own_word t w 8) r) t w
  unfolding step_words applied plan_phase plan_call plan_links
  link_here r c l =
      let more : (view t).worker PLACE w < (view t).worker LIST_COUNT w = rw (place_word, count_word) c.more in
      rw (
        admits s t w Refuse _ c.admitted,
        own_by_word t w 0 (omega arith) ∙ c.linking,
        (counters_mean s (view t)).1 (counters_by_word s t c.counted),
        lt-ltb ((view t).worker PLACE w) ((view t).worker LIST_COUNT w) more,
        listed_found s t w r c.admitted c.more l,
      )
      (rw (← place_word, ← job_word_lem, ← arc_word))

  -- the step that finds p
  module _ (p : ℕ) (c : LinksTo s t w p) where
    found : step_words s t w ≡ did (plan_link s (view t) (own_arc t w) (own_word t w 8) (At p)) t w
    found = link_here (At p) c.0 c.1

    label_word : (view t).job LABEL p ≡ job_word t p 1
    label_word = job_by_word t p 1 (omega arith)

    outcome_word : (view t).job OUTCOME p ≡ job_word t p 8
    outcome_word = job_by_word t p 8 (omega arith)

    last_word : (view t).job LAST p ≡ job_word t p 6
    last_word = job_by_word t p 6 (omega arith)

    label_refused : 2 < job_word t p 1 → step_words s t w ≡ result_of (Refused 9 0) t
    unfolding plan_link applied
    label_refused h = found ∙ rw (label_word, lt-leb (job_word t p 1) 2 h)

    -- a finished one
    module _ (e : job_word t p 1 ≡ 2) where
      outcome_refused : 1 < job_word t p 8 → step_words s t w ≡ result_of (Refused 9 0) t
      unfolding plan_link plan_tally applied
      outcome_refused h = found ∙ rw (label_word, e, outcome_word, lt-leb (job_word t p 8) 1 h)

      good_tallied : job_word t p 8 ≡ 0 → step_words s t w ≡ result_of Going (tallied t w (own_word t w 10))
      unfolding plan_link plan_tally applied
      good_tallied z =
          found ∙ rw (label_word, e, outcome_word, z, place_word, tally_word, note_word, own_puts)

      failed_noted : job_word t p 8 ≡ 1 → step_words s t w ≡ result_of Going (tallied t w 1)
      unfolding plan_link plan_tally applied
      failed_noted z =
          found ∙ rw (label_word, e, outcome_word, z, place_word, tally_word, own_puts)

    -- one that is not
    module _ (h : job_word t p 1 < 2) where
      appended : step_words s t w ≡ did (plan_append s (view t) p (own_arc t w) (own_word t w 8)) t w
      unfolding plan_link
      appended =
          found ∙ rw (label_word, le-leb (job_word t p 1) 2 (omega arith), ne_eqb (job_word t p 1) 2 (omega arith))

      abbrev fits : Bool
      fits =
          ltb (own_word t w 8) (view t).made && ltb (own_arc t w) (view t).reserved
          && place_ok ((view t).job LAST p) (view t).reserved s.arcs

      fits_means : fits ≡ true → Appends s t w p
      unfolding header
      fits_means e = record {
        job = ltb-true (own_word t w 8) (view t).made (search parts);
        arc = ltb-true (own_arc t w) (view t).reserved (search parts);
        last = rw (← last_word) ((place_means ((view t).job LAST p) (view t).reserved s.arcs).0 (search parts));
      }

      arc_refused : (Appends s t w p → ⊥) → step_words s t w ≡ result_of (Refused 9 0) t
      unfolding plan_append applied
      arc_refused n = appended ∙ rw (fails fits fits_means n)

      -- the arc is appended
      module _ (a : Appends s t w p) where
        job_made : ltb (own_word t w 8) (view t).made ≡ true
        unfolding header
        job_made = lt-ltb (own_word t w 8) (view t).made a.job

        arc_reserved : ltb (own_arc t w) (view t).reserved ≡ true
        unfolding header
        arc_reserved = lt-ltb (own_arc t w) (view t).reserved a.arc

        last_sound : place_ok (job_word t p 6) (view t).reserved s.arcs ≡ true
        unfolding header
        last_sound = (place_means (job_word t p 6) (view t).reserved s.arcs).1 a.last

        first_made : job_word t p 6 ≡ none → step_words s t w ≡ result_of Going (linked_first t w p)
        unfolding plan_append applied put
        first_made e =
            appended ∙ rw (job_made, arc_reserved, last_word, e, place_word, own_put_lem)

        next_made : job_word t p 6 ≢ none → step_words s t w ≡ result_of Going (linked_after t w p)
        unfolding plan_append applied put
        next_made n =
            appended
            ∙ rw (
              job_made,
              arc_reserved,
              last_word,
              last_sound,
              ne_eqb (job_word t p 6) none n,
              place_word,
              own_put_lem,
            )

  pub links_exactly : LinksExactly step_words s t w
  unfolding plan_link applied
  links_exactly = record {
    missing_by_9 = link_here Missing;
    damaged_by_9 = link_here Damaged;
    label_by_9 = label_refused;
    outcome_by_9 = outcome_refused;
    good = good_tallied;
    failed = failed_noted;
    arc_by_9 = arc_refused;
    first_arc_lem = first_made;
    next_arc = next_made;
  }

-- the same of the item of a list
pub item_links_exactly : (s : Sizes) (t : Tables) (w : ℕ) → LinksExactly (λ q u v. perform u (step q v)) s t w
unfolding perform
item_links_exactly s t w = links_exactly s t w
