-- An add of an idle worker in one go: all look-ups, entering, all links by the jobs that were found, settling. It is
-- planned before anything is stored, and the worker's words are stored once, at the end. (That this is the post and its
-- steps: thm_fused_add.)
use Rattle.std.specs.Prelude.{Bool, true, false, ◌||◌, List, [], ◌∷◌, ℕ, suc, ◌+◌, ◌-◌, eqb, ltb, leb}
use Rattle.std.proofs.lemmas.List.Edits.{sets}
use Rattle.def_numbers.specs.Numbers.{half_done, wrong_arguments, unknown_name, name_present, tables_full, damaged}
use Rattle.def_basics.specs.Base.{pick}
use Rattle.def_bucket.specs.Bucket.{bucket_of}
use Rattle.def_terms.specs.Terms.{settles, Arguments, listed, arguments_wrong}
use Rattle.def_terms.specs.Runs.{Result, result_of}
use Rattle.def_terms.specs.declared.Sizes.{Sizes}
use Rattle.def_terms.specs.declared.Answer.TheVariants.{Ended, Refused}
use Rattle.def_words.specs.Columns.{offset, put, put_header}
use Rattle.def_words.specs.Layout.{Tables, tables, View, view, none, job_shape, bucket_shape, MADE, FIRST, LAST}
use Rattle.def_words.specs.Layout.{RESERVED, arc_shape, AFTER, PHASE, IDLE, LOOKING, LINKING, NEWEST}
use Rattle.def_words.specs.Index.{seat_for, put_seat}
use Rattle.def_words.specs.Words.{counters_ok, find_of, plan_link, first_arc, noted, put_count, new_arc}
use Rattle.def_words.specs.declared.Seat.{Seat}
use Rattle.def_words.specs.declared.Seating.{Seating}
use Rattle.def_words.specs.declared.Seating.TheVariants.{Seated, Unseated}
use Rattle.def_words.specs.declared.Found.{Found}
use Rattle.def_words.specs.declared.Found.TheVariants.{At, Missing, Damaged}
use Rattle.def_words.specs.declared.Plan.{Plan}
use Rattle.def_words.specs.declared.Plan.TheVariants.{Refuse, Quit, Pass, Enter, Tally, LinkFirst, LinkAfter, Settle}
use Rattle.def_words.specs.declared.Plan.TheVariants.{SettleQueue, Mark, Notify, NotifyQueue}
use Rattle.def_fused.specs.FusedWorker.{hold_of, idled_with, add_worker, halted}
use Rattle.def_fused.specs.declared.LookUps.{LookUps}
use Rattle.def_fused.specs.declared.LookUps.TheVariants.{All, Unknown, Broken}
use Rattle.def_fused.specs.declared.AddPlan.{AddPlan}
use Rattle.def_fused.specs.declared.AddPlan.TheVariants.{Reject, TurnAway, Stop, EnterJob}

-- ---- the look-ups, the first of these names being at place i: how they end, and the jobs found
abbrev pub or_on : Found → ℕ → LookUps → LookUps
or_on (At j) i more = more
or_on Missing i more = Unknown i
or_on Damaged i more = Broken i

unfoldable pub look_ups : Sizes → View → List ℕ → ℕ → LookUps
look_ups s v [] i = All
look_ups s v (x ∷ l) i = or_on (find_of s v x) i (look_ups s v l (suc i))

abbrev pub job_found : Found → ℕ
job_found (At j) = j
job_found Missing = 0
job_found Damaged = 0

unfoldable pub jobs_found : Sizes → View → List ℕ → List ℕ
jobs_found s v [] = []
jobs_found s v (x ∷ l) = job_found (find_of s v x) ∷ jobs_found s v l

-- ---- entering: the job's words at the head of its bucket, its arcs reserved
abbrev pub new_record : Arguments → ℕ → List ℕ
new_record a head = a.name ∷ 0 ∷ a.count ∷ a.class ∷ a.grower ∷ none ∷ none ∷ head ∷ 0 ∷ 0 ∷ []

abbrev pub entered_tables : Sizes → Tables → Arguments → Tables
entered_tables s t a =
    let v = view t in
    let k = bucket_of a.name s.bits in
    tables (put_header (sets t.jobs (offset job_shape v.made 0) (new_record a (v.bucket NEWEST k))) MADE (v.made
    + 1))
    (put_header t.arcs RESERVED (v.reserved + a.count))
    (put bucket_shape t.buckets k NEWEST v.made)
    t.queue
    t.workers

-- ---- the links: the tables, the place reached, the finished prerequisites, whether one of them failed, and whether
-- all was sound
pub record Links : Type 0 where
  pub state : Tables
  pub place : ℕ
  pub tally : ℕ
  pub note : ℕ
  pub sound : Bool

abbrev pub links_to : Tables → ℕ → ℕ → ℕ → Bool → Links
links_to t i k n b = record { state = t; place = i; tally = k; note = n; sound = b }

-- what a link's plan stores, but for the worker's words
abbrev pub first_linked : Tables → ℕ → ℕ → ℕ → Tables
first_linked t p x j =
    tables (put job_shape (put job_shape t.jobs p FIRST x) p LAST x) (new_arc t.arcs x j) t.buckets t.queue
    t.workers

abbrev pub after_linked : Tables → (prerequisite last arc job : ℕ) → Tables
after_linked t p l x j =
    tables (put job_shape t.jobs p LAST x) (put arc_shape (new_arc t.arcs x j) l AFTER x) t.buckets t.queue
    t.workers

-- the link of place i by its plan, with k tallied and the note n, and then what follows
abbrev pub link_by : Plan → Tables → ℕ → ℕ → ℕ → (Tables → ℕ → ℕ → Links) → Links
link_by (Tally o) t i k n next = next t (suc k) (noted o n)
link_by (LinkFirst p x j) t i k n next = next (first_linked t p x j) k n
link_by (LinkAfter p l x j) t i k n next = next (after_linked t p l x j) k n
link_by (Refuse m) t i k n next = links_to t i k n false
link_by (Quit m q) t i k n next = links_to t i k n false
link_by Pass t i k n next = links_to t i k n false
link_by (Enter j b h x) t i k n next = links_to t i k n false
link_by (Settle j c) t i k n next = links_to t i k n false
link_by (SettleQueue j c e) t i k n next = links_to t i k n false
link_by (Mark p x) t i k n next = links_to t i k n false
link_by (Notify j c x) t i k n next = links_to t i k n false
link_by (NotifyQueue j c x e) t i k n next = links_to t i k n false

-- the links of job j to these jobs, the first of them being at place i; arc x is that of place 0
unfoldable pub links : Sizes → (job arc : ℕ) (found : List ℕ) (place : ℕ) → Tables → (tally note : ℕ) → Links
links s j x [] i t k n = links_to t i k n true
links s j x (p ∷ l) i t k n =
    link_by (plan_link s (view t) (x + i) j (At p)) t i k n (links s j x l (suc i))

-- ---- settling: the job's count falls by the tally, it is spoiled by the note, and it is queued or not
abbrev pub settled_tables : Tables → ℕ → ℕ → ℕ → Tables
settled_tables t j c n = tables (put_count t.jobs j c n) t.arcs t.buckets t.queue t.workers

abbrev pub queued_tables : Tables → ℕ → ℕ → ℕ → Seat → Tables
queued_tables t j c n e = tables (put_count t.jobs j c n) t.arcs t.buckets (put_seat t.queue e j) t.workers

-- the add ends with its job queued, or stops
abbrev pub queue_in : Seating → Tables → (w held job count note : ℕ) → Result Tables → Result Tables
queue_in (Seated e) t w held j c n stopped = result_of Ended (idled_with (queued_tables t j c n e) w held)
queue_in Unseated t w held j c n stopped = stopped

unfoldable pub settle_in : Sizes → (w : ℕ) → Arguments → (held job arc : ℕ) → Links → Result Tables
settle_in s w a held j x r =
    let t = r.state in
    let c = a.count - r.tally in
    let stopped =
    halted t w (add_worker LINKING held a r.tally r.place j (first_arc a.count x) r.note) in
    pick r.sound
    (pick (settles c r.tally a.count)
    (queue_in (seat_for s (view t) j) t w held j c r.note stopped)
    (result_of Ended (idled_with (settled_tables t j c r.note) w held)))
    stopped

-- ---- the plan of an add: what its post is refused by, then its look-ups, its own name and the room
-- by the look-up of its own name, with d prerequisites
abbrev pub plan_own : Sizes → View → ℕ → Found → AddPlan
plan_own s v d (At j) = TurnAway name_present 0
plan_own s v d Damaged = Stop d
plan_own s v d Missing =
    pick (leb s.jobs v.made || ltb s.arcs (v.reserved + d)) (TurnAway tables_full 0) EnterJob

abbrev pub plan_looked : Sizes → View → Arguments → LookUps → AddPlan
plan_looked s v a All = plan_own s v a.count (find_of s v a.name)
plan_looked s v a (Unknown i) = TurnAway unknown_name i
plan_looked s v a (Broken i) = Stop i

unfoldable pub plan_add : Sizes → View → ℕ → Arguments → AddPlan
plan_add s v w a =
    pick (eqb (v.worker PHASE w) IDLE)
    (pick (arguments_wrong a) (Reject wrong_arguments)
    (pick (counters_ok s v) (plan_looked s v a (look_ups s v (listed a) 0)) (Reject damaged)))
    (Reject half_done)

-- ---- the add by its plan
unfoldable pub add_by : Sizes → Tables → ℕ → Arguments → AddPlan → Result Tables
add_by s t w a (Reject n) = result_of (Refused n 0) t
add_by s t w a (TurnAway n i) = result_of (Refused n i) (idled_with t w (hold_of t w))
add_by s t w a (Stop i) = halted t w (add_worker LOOKING (hold_of t w) a 0 i none none 0)
add_by s t w a EnterJob =
    let v = view t in
    settle_in s w a (hold_of t w) v.made v.reserved
    (links s v.made v.reserved (jobs_found s v (listed a)) 0 (entered_tables s t a) 0 0)

unfoldable pub add_if_idle : Sizes → Tables → ℕ → Arguments → Result Tables
add_if_idle s t w a = add_by s t w a (plan_add s (view t) w a)
