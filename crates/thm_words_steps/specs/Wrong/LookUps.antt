-- Machines over the tables that are wrong in a walk along a bucket, a look-up or the entering step of an add, each with
-- tables by which a statement of LookUpSteps.antt or EnterSteps.antt fails of it. Follows docs/RULES.md, "Turned-away
-- calls": "a bucket walk passes more jobs than were made", "then 6, or 7 before 8".
use Rattle.std.specs.Prelude.{◌≡◌, refl, Bool, true, false, ◌&&◌, ◌||◌, not, List, [], ◌∷◌, ℕ, zero, suc, ◌+◌, ◌*◌, ◌-◌, ◌/◌, ◌%◌, ◌^◌, ltb, leb, eqb, get_or, set, replicate}
use Rattle.std.proofs.Common.{ap, lit≤, lit<, eqb-true, leb-true, ltb-true}
use Rattle.std.proofs.lemmas.Bool.{eqb-false}
use Rattle.def_numbers.specs.Numbers.{unknown_name, damaged, name_present, tables_full}
use Rattle.def_basics.specs.Base.{pick}
use Rattle.def_bucket.specs.Bucket.{product_of, bucket_of}
use Rattle.def_terms.specs.Terms.{within_limits}
use Rattle.def_terms.specs.Runs.{Result, result_of}
use Rattle.def_terms.specs.declared.Sizes.{Sizes}
use Rattle.def_terms.specs.declared.Answer.{Answer}
use Rattle.def_terms.specs.declared.Answer.TheVariants.{Laid, Loaded, Posted, Going, Ended, NoneReady, Handed, Refused}
use Rattle.def_words.specs.Columns.{header, columns, put, put_header}
use Rattle.def_words.specs.Layout.{none, NAME, NEXT, PHASE, OWN_NAME, LIST_COUNT, PLACE, LOOKING, Tables, tables, View}
use Rattle.def_words.specs.Layout.{view, long_enough, sizes_kept, sizes_fit, NEWEST}
use Rattle.def_words.specs.Words.{place_ok, counters_ok, own_ok, walk, find_of, name_at, plan_look_up, plan_enter, plan_add}
use Rattle.def_words.specs.Words.{plan_call, plan_phase, admitted, applied, step_words}
use Rattle.def_words.specs.declared.Found.{Found}
use Rattle.def_words.specs.declared.Found.TheVariants.{At, Missing, Damaged}
use Rattle.def_words.specs.declared.Plan.{Plan}
use Rattle.def_words.specs.declared.Plan.TheVariants.{Refuse, Quit, Enter}
use Rattle.thm_words_tests.specs.Tests.{test, parts}
use Rattle.thm_words_tests.specs.Judged.{did}
use Rattle.thm_words_tests.specs.OneWord.{own_word, job_word}
use Rattle.thm_words_tests.specs.Small.{apart, number, two, graph}
use Rattle.thm_words_steps.specs.Buckets.{jobs_made, IsJob, at_end, hit, pass, stray, too_many_lem}
use Rattle.thm_words_steps.specs.LinkSteps.{Stepper, own_put, job_put}
use Rattle.thm_words_steps.specs.LookUpSteps.{ComesToLookUp, idle_again, LooksUpExactly}
use Rattle.thm_words_steps.specs.EnterSteps.{ComesToEnter, entered_with, EntersExactly}
use Rattle.thm_words_steps.specs.Wrong.Steps.{planned, admits}

-- ---- tables of R 2, A 1, b 1 and P 1. The names 2, 5 and 7 share bucket 0
-- a job of this name, with the next job of its bucket
abbrev pub job_before : ℕ → ℕ → List ℕ
job_before name next = name ∷ 0 ∷ 0 ∷ 0 ∷ 0 ∷ none ∷ none ∷ next ∷ 0 ∷ 0 ∷ []

-- an add of a name, grower 9, that has passed so many of its d listed names, of which one is given
abbrev pub add_of : (name count place listed : ℕ) → List ℕ
add_of name d place listed = LOOKING ∷ none ∷ name ∷ d ∷ 3 ∷ 9 ∷ 0 ∷ place ∷ none ∷ none ∷ 0 ∷ listed ∷ replicate 31 0

-- one job was made, 7, of bucket 0: with this head of the bucket, and with this next job
abbrev pub one_job : ℕ → ℕ → List ℕ → Tables
one_job head next worker =
    graph 1 (job_before 7 next) (job_before 0 none) (0 ∷ none ∷ none ∷ []) (head ∷ none ∷ []) worker

-- two jobs were made: 7, and 5 before it in the bucket
abbrev pub two_jobs : List ℕ → Tables
two_jobs worker =
    graph 2 (job_before 7 none) (job_before 5 0) (0 ∷ none ∷ none ∷ []) (1 ∷ none ∷ []) worker

-- the worker holds this
abbrev pub with_hold : ℕ → Tables → ℕ → Tables
with_hold held t w = tables t.jobs t.arcs t.buckets t.queue (own_put t.workers w 1 held)

-- ---- what is computed of them
-- an add whose place and count are these, with sound counters
abbrev pub adds_from : (ℕ → ℕ → Bool) → Tables → Bool
adds_from test t =
    sizes_fit two t && own_ok two (view t) 0 && leb (get_or t.jobs 4 0) 2 && leb (get_or t.arcs 0 0) 1
    && eqb (own_word t 0 0) 1
    && test (own_word t 0 7) (own_word t 0 3)

to_look_up : (t : Tables) → adds_from ltb t ≡ true → ComesToLookUp two t 0
to_look_up t e = record {
  admitted = admits t (search parts) (search parts);
  counted = record {
    made = leb-true (get_or t.jobs 4 0) 2 (search parts);
    reserved = leb-true (get_or t.arcs 0 0) 1 (search parts);
  };
  looking = eqb-true (own_word t 0 0) 1 (search parts);
  more = ltb-true (own_word t 0 7) (own_word t 0 3) (search parts);
}

to_enter : (t : Tables) → adds_from eqb t ≡ true → ComesToEnter two t 0
to_enter t e = record {
  admitted = admits t (search parts) (search parts);
  counted = record {
    made = leb-true (get_or t.jobs 4 0) 2 (search parts);
    reserved = leb-true (get_or t.arcs 0 0) 1 (search parts);
  };
  looking = eqb-true (own_word t 0 0) 1 (search parts);
  all = eqb-true (own_word t 0 7) (own_word t 0 3) (search parts);
}

job : {t : Tables} {p : ℕ} → eqb p none ≡ false → ltb p (jobs_made t) ≡ true → IsJob t p
job {t} {p} e l = record { some = eqb-false p none e; made = ltb-true p (jobs_made t) l }

-- the number that is answered
numbered : {o p : Result Tables} → o ≡ p → number o.answer ≡ number p.answer
numbered e = ap (λ (o : Result Tables). number o.answer) e

-- and the place that is told
abbrev pub placed : Answer → ℕ
placed Laid = 0
placed Loaded = 0
placed Posted = 0
placed Going = 0
placed Ended = 0
placed NoneReady = 0
placed (Handed h) = 0
placed (Refused n p) = p

-- ---- walks
abbrev pub Finder : Type 0
Finder = Sizes → View → ℕ → Found

-- an add whose look-ups and entering find so; every other step is the words' own
abbrev pub adds : Sizes → View → ℕ → Bool
adds s v w = eqb (v.worker PHASE w) LOOKING && counters_ok s v

abbrev pub adds_by : Finder → Sizes → View → ℕ → Plan
adds_by find s v w =
    pick (ltb (v.worker PLACE w) (v.worker LIST_COUNT w)) (plan_look_up (v.worker PLACE w) (find s v (name_at v w)))
    (plan_enter s v (v.worker OWN_NAME w) (v.worker LIST_COUNT w) (find s v (v.worker OWN_NAME w)))

abbrev pub looks_by : Finder → Stepper
looks_by find = planned (λ s v w. pick (adds s v w) (adds_by find s v w) (plan_phase s v w))

-- by the words' walk they are the words' step
pub own_walk : (s : Sizes) (t : Tables) (w : ℕ) → looks_by find_of s t w ≡ step_words s t w
unfolding step_words plan_phase plan_call plan_add
own_walk s t w =
    ap (λ p. did (admitted s t w Refuse p) t w)
    (test (adds s (view t) w)
    (λ e.
    let phase : (view t).worker PHASE w ≡ LOOKING = eqb-true ((view t).worker PHASE w) LOOKING (search parts) in
    let sound : counters_ok s (view t) ≡ true = search parts in
    rw (phase, sound))
    (λ e. rw e))

-- a walk past at most k jobs, with what it says then at none and at any other place, and at a place that is no job
unfoldable pub walk_by : (end left off : Found) (most : ℕ) → (ℕ → ℕ → ℕ) → (made name at : ℕ) → Found
walk_by end left off zero f made name at = pick (eqb at none) end left
walk_by end left off (suc k) f made name at =
    pick (eqb at none) Missing
    (pick (ltb at made)
    (pick (eqb (f NAME at) name) (At at) (walk_by end left off k f made name (f NEXT at)))
    off)

abbrev pub find_by : Found → Found → Found → (ℕ → ℕ) → Finder
find_by end left off most s v name =
    walk_by end left off (most v.made) v.job v.made name (v.bucket NEWEST (bucket_of name s.bits))

-- with these it is the words' own
pub own_find : (s : Sizes) (v : View) (name : ℕ) → find_by Missing Damaged Damaged (λ n. n) s v name ≡ find_of s v name
unfolding find_of walk_by walk
own_find s v name = same v.made (v.bucket NEWEST (bucket_of name s.bits))
  where
    same : (k at : ℕ) → walk_by Missing Damaged Damaged k v.job v.made name at ≡ walk k v.job v.made name at
    same zero at = refl
    same (suc k) at = rw (same k (v.job NEXT at))

-- a circle is taken for a missing name: 6, and the job enters
abbrev pub circle_missing : Stepper
circle_missing = looks_by (find_by Missing Missing Damaged (λ n. n))

pub looks_up_in_a_circle : LooksUpExactly circle_missing two (one_job 0 0 (add_of 8 1 0 5)) 0 → ⊥
unfolding applied plan_phase plan_call plan_add plan_look_up plan_enter walk_by admitted within_limits long_enough sizes_kept
    own_ok product_of bucket_of header columns put put_header
looks_up_in_a_circle d =
    apart refl (numbered (d.damaged_by_9 (to_look_up (one_job 0 0 (add_of 8 1 0 5)) refl)
    (pass (job refl refl) (lit< tt) (apart refl) (too_many_lem (apart refl) (lit≤ tt)))))

pub enters_in_a_circle : EntersExactly circle_missing two (one_job 0 0 (add_of 5 0 0 0)) 0 → ⊥
unfolding applied plan_phase plan_call plan_add plan_look_up plan_enter walk_by admitted within_limits long_enough sizes_kept
    own_ok product_of bucket_of header columns put put_header
enters_in_a_circle d =
    apart refl (numbered (d.damaged_by_9 (to_enter (one_job 0 0 (add_of 5 0 0 0)) refl)
    (pass (job refl refl) (lit< tt) (apart refl) (too_many_lem (apart refl) (lit≤ tt)))))

-- a place that is no job is taken for the bucket's end
abbrev pub stray_missing : Stepper
stray_missing = looks_by (find_by Missing Damaged Missing (λ n. n))

pub ends_at_a_stray_place : LooksUpExactly stray_missing two (one_job 1 none (add_of 8 1 0 7)) 0 → ⊥
unfolding applied plan_phase plan_call plan_add plan_look_up plan_enter walk_by admitted within_limits long_enough sizes_kept
    own_ok product_of bucket_of header columns put put_header
ends_at_a_stray_place d =
    apart refl (numbered (d.damaged_by_9 (to_look_up (one_job 1 none (add_of 8 1 0 7)) refl)
    (stray (apart refl) (lit≤ tt))))

-- a walk one job too short: the last of n jobs is damage
abbrev pub too_short : Stepper
too_short = looks_by (find_by Missing Damaged Damaged (λ n. n - 1))

pub walks_too_short : LooksUpExactly too_short two (two_jobs (add_of 8 1 0 7)) 0 → ⊥
unfolding applied plan_phase plan_call plan_add plan_look_up plan_enter walk_by admitted within_limits long_enough sizes_kept
    own_ok product_of bucket_of header columns put put_header
walks_too_short d =
    apart refl (numbered (d.found 0 (to_look_up (two_jobs (add_of 8 1 0 7)) refl)
    (pass (job refl refl) (lit< tt) (apart refl)
    (hit (job refl refl) (lit< tt) refl))))

-- one that stops there, and takes what is left for missing
abbrev pub stops_early : Stepper
stops_early = looks_by (find_by Missing Missing Damaged (λ n. n - 1))

pub stops_early_lem : LooksUpExactly stops_early two (two_jobs (add_of 8 1 0 7)) 0 → ⊥
unfolding applied plan_phase plan_call plan_add plan_look_up plan_enter walk_by admitted within_limits long_enough sizes_kept
    own_ok product_of bucket_of header columns put put_header
stops_early_lem d =
    apart refl (numbered (d.found 0 (to_look_up (two_jobs (add_of 8 1 0 7)) refl)
    (pass (job refl refl) (lit< tt) (apart refl)
    (hit (job refl refl) (lit< tt) refl))))

-- one for which a bucket of all n jobs is a circle, though none comes after them
abbrev pub none_is_damage : Stepper
none_is_damage = looks_by (find_by Damaged Damaged Damaged (λ n. n))

pub damages_a_full_bucket : LooksUpExactly none_is_damage two (two_jobs (add_of 8 1 0 2)) 0 → ⊥
unfolding applied plan_phase plan_call plan_add plan_look_up plan_enter walk_by admitted within_limits long_enough sizes_kept
    own_ok product_of bucket_of header columns put put_header
damages_a_full_bucket d =
    apart refl (numbered (d.missing_by_6 (to_look_up (two_jobs (add_of 8 1 0 2)) refl)
    (pass (job refl refl) (lit< tt) (apart refl)
    (pass (job refl refl) (lit< tt) (apart refl) (at_end refl)))))

-- one that takes the newest job, made - 1, for no job
abbrev pub misses_newest : Stepper
misses_newest =
    looks_by (λ s v name. walk v.made v.job (v.made - 1) name (v.bucket NEWEST (bucket_of name s.bits)))

pub misses_the_newest : LooksUpExactly misses_newest two (two_jobs (add_of 8 1 0 5)) 0 → ⊥
unfolding applied plan_phase plan_call plan_add plan_look_up plan_enter walk admitted within_limits long_enough sizes_kept
    own_ok product_of bucket_of header columns put put_header
misses_the_newest d =
    apart refl (numbered (d.found 1 (to_look_up (two_jobs (add_of 8 1 0 5)) refl)
    (hit (job refl refl) (lit< tt) refl)))

-- another multiplier, of the same five buckets as docs/RULES.md's: the name is looked for in another bucket
abbrev pub other_multiplier : Stepper
other_multiplier =
    looks_by (λ s v name.
    walk v.made v.job v.made name (v.bucket NEWEST (name * 2654435761 % 4294967296 / 2 ^ (32 - s.bits))))

abbrev pub large_name : Tables
large_name =
    graph 1 (job_before 3000000000 none) (job_before 0 none) (0 ∷ none ∷ none ∷ []) (none ∷ 0 ∷ [])
    (add_of 8 1 0 3000000000)

pub looks_in_another_bucket : LooksUpExactly other_multiplier two large_name 0 → ⊥
unfolding applied plan_phase plan_call plan_add plan_look_up plan_enter walk admitted within_limits long_enough sizes_kept
    own_ok product_of bucket_of header columns put put_header
looks_in_another_bucket d =
    apart refl (numbered (d.found 0 (to_look_up large_name refl) (hit (job refl refl) (lit< tt) refl)))

-- one that judges the next place of the job that it found too: a fault behind a hit is 9
abbrev pub judged_behind : Sizes → View → Found → Found
judged_behind s v (At p) = pick (place_ok (v.job NEXT p) v.made s.jobs) (At p) Damaged
judged_behind s v Missing = Missing
judged_behind s v Damaged = Damaged

abbrev pub judges_behind : Stepper
judges_behind = looks_by (λ s v name. judged_behind s v (find_of s v name))

pub judges_behind_a_hit : LooksUpExactly judges_behind two (one_job 0 1 (add_of 8 1 0 7)) 0 → ⊥
unfolding applied plan_phase plan_call plan_add plan_look_up plan_enter find_of walk admitted within_limits long_enough
    sizes_kept own_ok product_of bucket_of header columns put put_header
judges_behind_a_hit d =
    apart refl (numbered (d.found 0 (to_look_up (one_job 0 1 (add_of 8 1 0 7)) refl)
    (hit (job refl refl) (lit< tt) refl)))

-- ---- look-ups that end otherwise at a missing name
abbrev pub ends_by : (Tables → ℕ → Result Tables → Result Tables) → Stepper
ends_by change s t w =
    let o = step_words s t w in
    pick (eqb (number o.answer) unknown_name) (change t w o) o

-- 6 with the place counted from 1
abbrev pub counts_from_one : Stepper
counts_from_one = ends_by (λ t w o. result_of (Refused unknown_name (own_word t w 7 + 1)) o.state)

pub tells_another_place : LooksUpExactly counts_from_one two (one_job 0 none (add_of 8 1 0 5)) 0 → ⊥
unfolding step_words applied plan_phase plan_call plan_add plan_look_up plan_enter find_of walk admitted within_limits
    long_enough sizes_kept own_ok product_of bucket_of header columns put put_header
tells_another_place d =
    apart refl (ap (λ (o : Result Tables). placed o.answer)
    (d.missing_by_6 (to_look_up (one_job 0 none (add_of 8 1 0 5)) refl)
    (pass (job refl refl) (lit< tt) (apart refl) (at_end refl))))

-- 6 that frees the hold with the call: "The hold is no word of the call"
abbrev pub frees_hold : Stepper
frees_hold = ends_by (λ t w o. result_of o.answer (with_hold none o.state w))

pub frees_the_hold : LooksUpExactly frees_hold two (with_hold 0 (one_job 0 none (add_of 8 1 0 5)) 0) 0 → ⊥
unfolding step_words applied plan_phase plan_call plan_add plan_look_up plan_enter find_of walk admitted within_limits
    long_enough sizes_kept own_ok product_of bucket_of header columns put put_header
frees_the_hold d =
    apart refl (ap (λ (o : Result Tables). own_word o.state 0 1)
    (d.missing_by_6 (to_look_up (with_hold 0 (one_job 0 none (add_of 8 1 0 5)) 0) refl)
    (pass (job refl refl) (lit< tt) (apart refl) (at_end refl))))

-- ---- entering that is planned otherwise
abbrev pub enters_at : Sizes → View → ℕ → Bool
enters_at s v w = adds s v w && not (ltb (v.worker PLACE w) (v.worker LIST_COUNT w))

abbrev pub plans_entering : (Sizes → View → ℕ → ℕ → Found → Plan) → Stepper
plans_entering plan =
    planned (λ s v w.
    pick (enters_at s v w)
    (plan s v (v.worker OWN_NAME w) (v.worker LIST_COUNT w) (find_of s v (v.worker OWN_NAME w)))
    (plan_phase s v w))

-- 8 before 7
abbrev pub eight_first : Sizes → View → ℕ → ℕ → Found → Plan
eight_first s v name d (At j) =
    pick (leb s.jobs v.made || ltb s.arcs (v.reserved + d)) (Quit tables_full 0) (Quit name_present 0)
eight_first s v name d Missing = plan_enter s v name d Missing
eight_first s v name d Damaged = Refuse damaged

pub full_before_present : EntersExactly (plans_entering eight_first) two (two_jobs (add_of 7 0 0 0)) 0 → ⊥
unfolding applied plan_phase plan_call plan_add plan_look_up plan_enter find_of walk admitted within_limits long_enough
    sizes_kept own_ok product_of bucket_of header columns put put_header
full_before_present d =
    apart refl (numbered (d.present_by_7 0 (to_enter (two_jobs (add_of 7 0 0 0)) refl)
    (pass (job refl refl) (lit< tt) (apart refl)
    (hit (job refl refl) (lit< tt) refl))))

-- 7 with the call left half done
abbrev pub half_done_by7 : Sizes → View → ℕ → ℕ → Found → Plan
half_done_by7 s v name d (At j) = Refuse name_present
half_done_by7 s v name d Missing = plan_enter s v name d Missing
half_done_by7 s v name d Damaged = Refuse damaged

pub stays_half_done_lem : EntersExactly (plans_entering half_done_by7) two (one_job 0 none (add_of 7 0 0 0)) 0 → ⊥
unfolding applied plan_phase plan_call plan_add plan_look_up plan_enter find_of walk admitted within_limits long_enough
    sizes_kept own_ok product_of bucket_of header columns put put_header
stays_half_done_lem d =
    apart refl (ap (λ (o : Result Tables). own_word o.state 0 0)
    (d.present_by_7 0 (to_enter (one_job 0 none (add_of 7 0 0 0)) refl)
    (hit (job refl refl) (lit< tt) refl)))

-- an add of 5, needing 7, is to enter; and one that needs nothing
abbrev pub entering : Tables
entering = one_job 0 none (add_of 5 1 1 7)

abbrev pub entering_bare : Tables
entering_bare = one_job 0 none (add_of 5 0 0 0)

made : {make : Stepper} → EntersExactly make two entering 0
    → make two entering 0 ≡ result_of Going (entered_with two entering 0 0)
unfolding within_limits long_enough sizes_kept own_ok header columns
made d =
    d.enters (to_enter entering refl) (pass (job refl refl) (lit< tt) (apart refl) (at_end refl))
    (record { job = lit< tt; arcs = lit≤ tt }) (lit< tt)

-- where the name is missing the tables are full by this test, and the call ends so
abbrev pub full_by : (Sizes → View → ℕ → Bool) → Plan → Sizes → View → ℕ → ℕ → Found → Plan
full_by full end s v name d (At j) = Quit name_present 0
full_by full end s v name d Missing =
    pick (full s v d) end
    (Enter v.made (bucket_of name s.bits) (v.bucket NEWEST (bucket_of name s.bits)) v.reserved)
full_by full end s v name d Damaged = Refuse damaged

-- the jobs are not counted, or the arcs; the last d arcs are never given; or the call is left half done
abbrev pub unjudged_jobs : Stepper
unjudged_jobs = plans_entering (full_by (λ s v d. ltb s.arcs (v.reserved + d)) (Quit tables_full 0))

abbrev pub unjudged_arcs : Stepper
unjudged_arcs = plans_entering (full_by (λ s v d. leb s.jobs v.made) (Quit tables_full 0))

abbrev pub spares_an_arc : Stepper
spares_an_arc =
    plans_entering
    (full_by (λ s v d. leb s.jobs v.made || leb s.arcs (v.reserved + d)) (Quit tables_full 0))

abbrev pub half_done_by8 : Stepper
half_done_by8 =
    plans_entering
    (full_by (λ s v d. leb s.jobs v.made || ltb s.arcs (v.reserved + d)) (Refuse tables_full))

-- 7 and 5 are all that R holds, and 2 is to enter; and 5 is to enter with an arc where the one arc is reserved
abbrev pub no_job_left : Tables
no_job_left = two_jobs (add_of 2 0 0 0)

abbrev pub no_arc_left : Tables
no_arc_left =
    graph 1 (job_before 7 none) (job_before 0 none) (1 ∷ none ∷ none ∷ []) (0 ∷ none ∷ []) (add_of 5 1 1 7)

full : {make : Stepper} → EntersExactly make two no_job_left 0
    → make two no_job_left 0 ≡ result_of (Refused 8 0) (idle_again no_job_left 0)
unfolding within_limits long_enough sizes_kept own_ok header columns
full d =
    d.jobs_by_8 (to_enter no_job_left refl)
    (pass (job refl refl) (lit< tt) (apart refl) (pass (job refl refl) (lit< tt) (apart refl) (at_end refl)))
    refl

pub counts_no_jobs : EntersExactly unjudged_jobs two no_job_left 0 → ⊥
unfolding applied plan_phase plan_call plan_add plan_look_up plan_enter find_of walk admitted within_limits long_enough
    sizes_kept own_ok product_of bucket_of header columns put put_header
counts_no_jobs d = apart refl (numbered (full d))

pub half_done_by_8 : EntersExactly half_done_by8 two no_job_left 0 → ⊥
unfolding applied plan_phase plan_call plan_add plan_look_up plan_enter find_of walk admitted within_limits long_enough
    sizes_kept own_ok product_of bucket_of header columns put put_header
half_done_by_8 d = apart refl (ap (λ (o : Result Tables). own_word o.state 0 0) (full d))

pub counts_no_arcs : EntersExactly unjudged_arcs two no_arc_left 0 → ⊥
unfolding applied plan_phase plan_call plan_add plan_look_up plan_enter find_of walk admitted within_limits long_enough
    sizes_kept own_ok product_of bucket_of header columns put put_header
counts_no_arcs d =
    apart refl (numbered (d.arcs_by_8 (to_enter no_arc_left refl)
    (pass (job refl refl) (lit< tt) (apart refl) (at_end refl)) (lit< tt)))

pub spares_an_arc_lem : EntersExactly spares_an_arc two entering 0 → ⊥
unfolding applied plan_phase plan_call plan_add plan_look_up plan_enter find_of walk admitted within_limits long_enough
    sizes_kept own_ok product_of bucket_of header columns put put_header
spares_an_arc_lem d = apart refl (numbered (made d))

-- ---- entering that stores otherwise: where the job is made the tables u become these, of t before
abbrev pub stores_entering : (Tables → Tables → ℕ → Tables) → Stepper
stores_entering change s t w =
    let o = step_words s t w in
    let u = o.state in
    result_of o.answer (pick (enters_at s (view t) w && eqb (number o.answer) 0) (change t u w) u)

-- the bucket's head stays: the job is never found
abbrev pub keeps_head : Stepper
keeps_head = stores_entering (λ t u w. tables u.jobs u.arcs t.buckets u.queue u.workers)

pub keeps_the_head : EntersExactly keeps_head two entering 0 → ⊥
unfolding step_words applied plan_phase plan_call plan_add plan_look_up plan_enter find_of walk admitted within_limits
    long_enough sizes_kept own_ok product_of bucket_of header columns put put_header
keeps_the_head d = apart refl (ap (λ (o : Result Tables). get_or o.state.buckets 0 0) (made d))

-- d + 1 arcs are reserved
abbrev pub reserves_more : Stepper
reserves_more =
    stores_entering (λ t u w.
    tables u.jobs (set u.arcs 0 (get_or u.arcs 0 0 + 1)) u.buckets u.queue u.workers)

pub reserves_one_more : EntersExactly reserves_more two entering 0 → ⊥
unfolding step_words applied plan_phase plan_call plan_add plan_look_up plan_enter find_of walk admitted within_limits
    long_enough sizes_kept own_ok product_of bucket_of header columns put put_header
reserves_one_more d = apart refl (ap (λ (o : Result Tables). get_or o.state.arcs 0 0) (made d))

-- the grower is forgotten
abbrev pub forgets_grower : Stepper
forgets_grower =
    stores_entering (λ t u w. tables (job_put u.jobs (jobs_made t) 4 0) u.arcs u.buckets u.queue u.workers)

pub forgets_the_grower : EntersExactly forgets_grower two entering 0 → ⊥
unfolding step_words applied plan_phase plan_call plan_add plan_look_up plan_enter find_of walk admitted within_limits
    long_enough sizes_kept own_ok product_of bucket_of header columns put put_header
forgets_the_grower d = apart refl (ap (λ (o : Result Tables). job_word o.state 1 4) (made d))

-- "It starts the remaining count at 0"
abbrev pub counts_from_nought : Stepper
counts_from_nought =
    stores_entering (λ t u w. tables (job_put u.jobs (jobs_made t) 2 0) u.arcs u.buckets u.queue u.workers)

pub counts_from_nought_lem : EntersExactly counts_from_nought two entering 0 → ⊥
unfolding step_words applied plan_phase plan_call plan_add plan_look_up plan_enter find_of walk admitted within_limits
    long_enough sizes_kept own_ok product_of bucket_of header columns put put_header
counts_from_nought_lem d = apart refl (ap (λ (o : Result Tables). job_word o.state 1 2) (made d))

-- the place stays at the list's end, so that no link is made
abbrev pub keeps_place : Stepper
keeps_place =
    stores_entering (λ t u w.
    tables u.jobs u.arcs u.buckets u.queue (own_put u.workers w 7 (own_word t w 7)))

pub keeps_the_place : EntersExactly keeps_place two entering 0 → ⊥
unfolding step_words applied plan_phase plan_call plan_add plan_look_up plan_enter find_of walk admitted within_limits
    long_enough sizes_kept own_ok product_of bucket_of header columns put put_header
keeps_the_place d = apart refl (ap (λ (o : Result Tables). own_word o.state 0 7) (made d))

-- with no listed name the call's arc is the next unreserved one, not none
abbrev pub names_an_arc : Stepper
names_an_arc =
    stores_entering (λ t u w.
    tables u.jobs u.arcs u.buckets u.queue (own_put u.workers w 9 (get_or t.arcs 0 0)))

pub names_an_arc_lem : EntersExactly names_an_arc two entering_bare 0 → ⊥
unfolding step_words applied plan_phase plan_call plan_add plan_look_up plan_enter find_of walk admitted within_limits
    long_enough sizes_kept own_ok product_of bucket_of header columns put put_header
names_an_arc_lem d =
    apart refl (ap (λ (o : Result Tables). own_word o.state 0 9)
    (d.enters_bare (to_enter entering_bare refl) (pass (job refl refl) (lit< tt) (apart refl) (at_end refl))
    (record { job = lit< tt; arcs = lit≤ tt }) refl))
