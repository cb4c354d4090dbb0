-- Every call and step over the words of the tables, for ALL tables and arguments: the order of the tests, every number,
-- what is left behind ("Steps", "Turned-away calls"). A call plans by reading, and stores only where nothing is left to
-- refuse.
use Rattle.std.specs.Prelude.{Bool, true, false, ◌&&◌, ◌||◌, not, List, [], ◌∷◌, ℕ, zero, suc, ◌+◌, ◌-◌, ltb, leb, eqb}
use Rattle.std.proofs.lemmas.List.Edits.{sets}
use Rattle.def_numbers.specs.Numbers.{most_names, most_class, most_grower, wrong_size, no_such_worker, half_done, worker_idle}
use Rattle.def_numbers.specs.Numbers.{wrong_arguments, unknown_name, name_present, tables_full, damaged, already_holding}
use Rattle.def_numbers.specs.Numbers.{not_held, wrong_minutes, jobs_entered, good_for_spoiled}
use Rattle.def_basics.specs.Base.{pick, prefix}
use Rattle.def_bucket.specs.Bucket.{bucket_of}
use Rattle.def_minutes.specs.Rising.{is_rising}
use Rattle.def_terms.specs.Terms.{settles, Arguments, listed, arguments_wrong, Finish, bit}
use Rattle.def_terms.specs.Runs.{Item, post_add, post_finish, step, get, load, Result, result_of}
use Rattle.def_terms.specs.declared.Sizes.{Sizes}
use Rattle.def_terms.specs.declared.HandOut.{HandOut}
use Rattle.def_terms.specs.declared.Answer.{Answer}
use Rattle.def_terms.specs.declared.Answer.TheVariants.{Laid, Loaded, Posted, Going, Ended, NoneReady, Handed}
use Rattle.def_terms.specs.declared.Answer.TheVariants.{Refused}
use Rattle.def_words.specs.Columns.{offset, put, put_header}
use Rattle.def_words.specs.Layout.{none, job_shape, MADE, NAME, LABEL, COUNT, FIRST, LAST, NEXT, OUTCOME, SPOILED}
use Rattle.def_words.specs.Layout.{arc_shape, RESERVED, DEPENDENT, AFTER, bucket_shape, QUEUED, worker_shape, PHASE}
use Rattle.def_words.specs.Layout.{HELD}
use Rattle.def_words.specs.Layout.{OWN_NAME, LIST_COUNT, OWN_CLASS, OWN_GROWER, TALLY, PLACE, OWN_JOB, OWN_ARC}
use Rattle.def_words.specs.Layout.{NAMES}
use Rattle.def_words.specs.Layout.{IDLE, LOOKING, LINKING, MARKING, NOTIFYING, tables, view, room_for, sizes_fit}
use Rattle.def_words.specs.Layout.{NOTE, bare_worker, fresh_tables, put_minutes, Tables, View, NEWEST}
use Rattle.def_words.specs.Index.{seat_for, first_cell, first_seat, put_seat, take_seat}
use Rattle.def_words.specs.declared.Seat.{Seat}
use Rattle.def_words.specs.declared.Seating.{Seating}
use Rattle.def_words.specs.declared.Seating.TheVariants.{Seated, Unseated}
use Rattle.def_words.specs.declared.Found.{Found}
use Rattle.def_words.specs.declared.Found.TheVariants.{At, Missing, Damaged}
use Rattle.def_words.specs.declared.Plan.{Plan}
use Rattle.def_words.specs.declared.Plan.TheVariants.{Refuse, Quit, Pass, Enter, Tally, LinkFirst, LinkAfter}
use Rattle.def_words.specs.declared.Plan.TheVariants.{Settle}
use Rattle.def_words.specs.declared.Plan.TheVariants.{SettleQueue, Mark, Notify, NotifyQueue}
use Rattle.def_words.specs.declared.GetPlan.{GetPlan}
use Rattle.def_words.specs.declared.GetPlan.TheVariants.{RefuseGet, Wait, Take}

-- ---- number 9
-- "a place that is neither none nor in use": in use is below its counter, and below the table's size
abbrev pub in_use : ℕ → ℕ → ℕ → Bool
in_use p counter size = ltb p counter && ltb p size

abbrev pub place_ok : ℕ → ℕ → ℕ → Bool
place_ok p counter size = eqb p none || in_use p counter size

abbrev pub is_place : ℕ → Bool
is_place p = not (eqb p none)

-- "counter": every call with a worker reads how many jobs were made and arcs reserved, against which the worker's
-- places are judged. Off their range, at most R and at most A, they are 9 where the words that the step reads have
-- their turn: after 3, 4, 5, 10 and 11
abbrev pub counters_ok : Sizes → View → Bool
counters_ok s v = leb v.made s.jobs && leb v.reserved s.arcs

-- the worker's own words, whatever its phase
unfoldable pub own_ok : Sizes → View → ℕ → Bool
own_ok s v w =
    leb (v.worker PHASE w) NOTIFYING && place_ok (v.worker HELD w) v.made s.jobs
    && leb (v.worker LIST_COUNT w) most_names
    && leb (v.worker OWN_CLASS w) most_class
    && leb (v.worker OWN_GROWER w) most_grower
    && leb (v.worker TALLY w) (v.worker LIST_COUNT w)
    && leb (v.worker PLACE w) (v.worker LIST_COUNT w)
    && place_ok (v.worker OWN_JOB w) v.made s.jobs
    && place_ok (v.worker OWN_ARC w) v.reserved s.arcs
    && leb (v.worker NOTE w) 1

-- ---- the job of a name: the walk along its bucket, which passes at most as many jobs as were made
unfoldable pub walk : (most : ℕ) → (ℕ → ℕ → ℕ) → (made name at : ℕ) → Found
walk zero f made name at = pick (eqb at none) Missing Damaged
walk (suc k) f made name at =
    pick (eqb at none) Missing
    (pick (ltb at made) (pick (eqb (f NAME at) name) (At at) (walk k f made name (f NEXT at))) Damaged)

unfoldable pub find_of : Sizes → View → ℕ → Found
find_of s v name = walk v.made v.job v.made name (v.bucket NEWEST (bucket_of name s.bits))

-- ---- the plans of a step
-- a look-up
unfoldable pub plan_look_up : ℕ → Found → Plan
plan_look_up i (At j) = Pass
plan_look_up i Missing = Quit unknown_name i
plan_look_up i Damaged = Refuse damaged

-- entering: 9 for the words it reads, then 7 before 8
unfoldable pub plan_enter : Sizes → View → ℕ → ℕ → Found → Plan
plan_enter s v name d (At j) = Quit name_present 0
plan_enter s v name d Missing =
    pick (leb s.jobs v.made || ltb s.arcs (v.reserved + d)) (Quit tables_full 0)
    (Enter v.made (bucket_of name s.bits) (v.bucket NEWEST (bucket_of name s.bits)) v.reserved)
plan_enter s v name d Damaged = Refuse damaged

-- a link that appends the arc x of the add's job j to the list of p
unfoldable pub plan_append : Sizes → View → ℕ → ℕ → ℕ → Plan
plan_append s v p x j =
    pick (ltb j v.made && ltb x v.reserved && place_ok (v.job LAST p) v.reserved s.arcs)
    (pick (eqb (v.job LAST p) none) (LinkFirst p x j) (LinkAfter p (v.job LAST p) x j))
    (Refuse damaged)

-- a link to the finished job p reads its outcome
unfoldable pub plan_tally : View → ℕ → Plan
plan_tally v p = pick (leb (v.job OUTCOME p) 1) (Tally (v.job OUTCOME p)) (Refuse damaged)

unfoldable pub plan_link : Sizes → View → ℕ → ℕ → Found → Plan
plan_link s v x j (At p) =
    pick (leb (v.job LABEL p) 2) (pick (eqb (v.job LABEL p) 2) (plan_tally v p) (plan_append s v p x j))
    (Refuse damaged)
plan_link s v x j Missing = Refuse damaged
plan_link s v x j Damaged = Refuse damaged

-- a job that is queued, with its seat: "the queue would pass its end" is 9
abbrev pub in_seat : Seating → (Seat → Plan) → Plan
in_seat (Seated e) plan = plan e
in_seat Unseated plan = Refuse damaged

unfoldable pub with_seat : Sizes → View → ℕ → (Seat → Plan) → Plan
with_seat s v j plan = in_seat (seat_for s v j) plan

unfoldable pub plan_settle : Sizes → View → ℕ → ℕ → ℕ → Plan
plan_settle s v j t d =
    pick (is_place j && leb (v.job COUNT j) most_names && leb t (v.job COUNT j))
    (pick (settles (v.job COUNT j - t) t d)
    (with_seat s v j (SettleQueue j (v.job COUNT j - t)))
    (Settle j (v.job COUNT j - t)))
    (Refuse damaged)

-- the mark of the held job p: "the job finished has the wrong label" is 9
unfoldable pub plan_mark : Sizes → View → ℕ → Plan
plan_mark s v p =
    pick (is_place p && eqb (v.job LABEL p) 1 && place_ok (v.job FIRST p) v.reserved s.arcs)
    (Mark p (v.job FIRST p))
    (Refuse damaged)

-- the step for the arc x: "a count would fall below 0" is 9
unfoldable pub plan_notify : Sizes → View → ℕ → Plan
plan_notify s v x =
    pick (is_place x && ltb (v.arc DEPENDENT x) v.made
    && place_ok (v.arc AFTER x) v.reserved s.arcs
    && leb 1 (v.job COUNT (v.arc DEPENDENT x))
    && leb (v.job COUNT (v.arc DEPENDENT x)) most_names)
    (pick (eqb (v.job COUNT (v.arc DEPENDENT x)) 1)
    (with_seat s v (v.arc DEPENDENT x)
    (NotifyQueue (v.arc DEPENDENT x) (v.job COUNT (v.arc DEPENDENT x) - 1) (v.arc AFTER x)))
    (Notify (v.arc DEPENDENT x) (v.job COUNT (v.arc DEPENDENT x) - 1) (v.arc AFTER x)))
    (Refuse damaged)

-- a worker's words, as its call has them
abbrev pub name_at : View → ℕ → ℕ
name_at v w = v.worker (NAMES + v.worker PLACE w) w

unfoldable pub plan_add : Sizes → View → ℕ → Plan
plan_add s v w =
    pick (ltb (v.worker PLACE w) (v.worker LIST_COUNT w))
    (plan_look_up (v.worker PLACE w) (find_of s v (name_at v w)))
    (plan_enter s v (v.worker OWN_NAME w) (v.worker LIST_COUNT w) (find_of s v (v.worker OWN_NAME w)))

unfoldable pub plan_links : Sizes → View → ℕ → Plan
plan_links s v w =
    pick (ltb (v.worker PLACE w) (v.worker LIST_COUNT w))
    (plan_link s v (v.worker OWN_ARC w + v.worker PLACE w) (v.worker OWN_JOB w) (find_of s v (name_at v w)))
    (plan_settle s v (v.worker OWN_JOB w) (v.worker TALLY w) (v.worker LIST_COUNT w))

-- the step of the call that the worker is in, by its phase
unfoldable pub plan_call : Sizes → View → ℕ → Plan
plan_call s v w =
    pick (eqb (v.worker PHASE w) LOOKING) (plan_add s v w)
    (pick (eqb (v.worker PHASE w) LINKING) (plan_links s v w)
    (pick (eqb (v.worker PHASE w) MARKING) (plan_mark s v (v.worker HELD w)) (plan_notify s v (v.worker OWN_ARC w))))

unfoldable pub plan_phase : Sizes → View → ℕ → Plan
plan_phase s v w =
    pick (eqb (v.worker PHASE w) IDLE) (Refuse worker_idle)
    (pick (counters_ok s v) (plan_call s v w) (Refuse damaged))

-- "Order: 1, 2, 9 for the worker's own words"
unfoldable pub admitted : {A : Type 0} → Sizes → Tables → ℕ → (ℕ → A) → A → A
admitted s t w refuse plan =
    pick (sizes_fit s t)
    (pick (ltb w s.workers) (pick (own_ok s (view t) w) plan (refuse damaged)) (refuse no_such_worker))
    (refuse wrong_size)

abbrev pub plan_step : Sizes → Tables → ℕ → Plan
plan_step s t w = admitted s t w Refuse (plan_phase s (view t) w)

-- ---- what a plan answers
abbrev pub going_unless : Bool → Answer
going_unless true = Ended
going_unless false = Going

abbrev pub answer_of : Plan → Answer
answer_of (Refuse n) = Refused n 0
answer_of (Quit n i) = Refused n i
answer_of Pass = Going
answer_of (Enter j k h x) = Going
answer_of (Tally o) = Going
answer_of (LinkFirst p x j) = Going
answer_of (LinkAfter p l x j) = Going
answer_of (Settle j c) = Ended
answer_of (SettleQueue j c e) = Ended
answer_of (Mark p x) = going_unless (eqb x none)
answer_of (Notify j c x) = going_unless (eqb x none)
answer_of (NotifyQueue j c x e) = going_unless (eqb x none)

-- ---- what a plan stores
-- a whole record
abbrev pub put_worker : List ℕ → ℕ → List ℕ → List ℕ
put_worker l w r = sets l (offset worker_shape w 0) r

-- "A call that ends puts the words of its call back": the worker is idle, and its hold stays
abbrev pub idle_worker : View → ℕ → List ℕ → List ℕ
idle_worker v w l = put_worker l w (bare_worker IDLE (v.worker HELD w) 0)

abbrev pub put_field : List ℕ → ℕ → ℕ → ℕ → List ℕ
put_field l w k x = put worker_shape l w k x

-- the entered job's words
abbrev pub entered_job : View → ℕ → ℕ → List ℕ
entered_job v w head =
    v.worker OWN_NAME w ∷ 0 ∷ v.worker LIST_COUNT w ∷ v.worker OWN_CLASS w ∷ v.worker OWN_GROWER w ∷ none ∷ none
    ∷ head ∷ 0 ∷ 0 ∷ []

-- "With d = 0" no arc is reserved, and the first reserved arc is none
abbrev pub first_arc : ℕ → ℕ → ℕ
first_arc d x = pick (eqb d 0) none x

abbrev pub entered_worker : View → ℕ → ℕ → ℕ → List ℕ → List ℕ
entered_worker v w j x l =
    put_field (put_field (put_field (put_field l w PHASE LINKING) w PLACE 0) w OWN_JOB j) w OWN_ARC
    (first_arc (v.worker LIST_COUNT w) x)

abbrev pub next_place : View → ℕ → List ℕ → List ℕ
next_place v w l = put_field l w PLACE (v.worker PLACE w + 1)

-- the note after a link to a finished job of outcome o
abbrev pub noted : ℕ → ℕ → ℕ
noted o note = pick (eqb o 1) 1 note

-- the job j is spoiled where the note is 1: "settling spoils", and "a failed finish's step for an arc spoils that arc's
-- dependent". The spoiled word is not read
abbrev pub spoiled_by : ℕ → List ℕ → ℕ → List ℕ
spoiled_by note l j = pick (eqb note 1) (put job_shape l j SPOILED 1) l

abbrev pub put_count : List ℕ → ℕ → ℕ → ℕ → List ℕ
put_count l j c note = spoiled_by note (put job_shape l j COUNT c) j

-- by the note of the worker w
abbrev pub lowered : View → ℕ → List ℕ → ℕ → ℕ → List ℕ
lowered v w l j c = put_count l j c (v.worker NOTE w)

-- a job that is finished, with its outcome
abbrev pub put_outcome : List ℕ → ℕ → ℕ → List ℕ
put_outcome l p o = put job_shape (put job_shape l p LABEL 2) p OUTCOME o

abbrev pub new_arc : List ℕ → ℕ → ℕ → List ℕ
new_arc l x j = put arc_shape (put arc_shape l x DEPENDENT j) x AFTER none

-- a finish that has marked: its next arc, or the end of the call
abbrev pub arcs_from : ℕ → View → ℕ → List ℕ → List ℕ
arcs_from x v w l = pick (eqb x none) (idle_worker v w l) (put_field l w OWN_ARC x)

abbrev pub marked_worker : ℕ → ℕ → List ℕ → List ℕ
marked_worker x w l =
    pick (eqb x none) (put_worker l w (bare_worker IDLE none 0))
    (put_field (put_field (put_field l w PHASE NOTIFYING) w HELD none) w OWN_ARC x)

unfoldable pub applied : Plan → Tables → ℕ → Tables
applied (Refuse n) t w = t
applied (Quit n i) t w = tables t.jobs t.arcs t.buckets t.queue (idle_worker (view t) w t.workers)
applied Pass t w = tables t.jobs t.arcs t.buckets t.queue (next_place (view t) w t.workers)
applied (Enter j k h x) t w =
    tables (put_header (sets t.jobs (offset job_shape j 0) (entered_job (view t) w h)) MADE (j + 1))
    (put_header t.arcs RESERVED (x + (view t).worker LIST_COUNT w))
    (put bucket_shape t.buckets k NEWEST j)
    t.queue
    (entered_worker (view t) w j x t.workers)
applied (Tally o) t w =
    tables t.jobs t.arcs t.buckets t.queue
    (put_field (put_field (next_place (view t) w t.workers) w TALLY ((view t).worker TALLY w + 1)) w NOTE
    (noted o ((view t).worker NOTE w)))
applied (LinkFirst p x j) t w =
    tables (put job_shape (put job_shape t.jobs p FIRST x) p LAST x) (new_arc t.arcs x j) t.buckets t.queue
    (next_place (view t) w t.workers)
applied (LinkAfter p l x j) t w =
    tables (put job_shape t.jobs p LAST x) (put arc_shape (new_arc t.arcs x j) l AFTER x) t.buckets t.queue
    (next_place (view t) w t.workers)
applied (Settle j c) t w =
    tables (lowered (view t) w t.jobs j c) t.arcs t.buckets t.queue (idle_worker (view t) w t.workers)
applied (SettleQueue j c e) t w =
    tables (lowered (view t) w t.jobs j c) t.arcs t.buckets (put_seat t.queue e j)
    (idle_worker (view t) w t.workers)
applied (Mark p x) t w =
    tables (put_outcome t.jobs p ((view t).worker NOTE w)) t.arcs t.buckets t.queue
    (marked_worker x w t.workers)
applied (Notify j c x) t w =
    tables (lowered (view t) w t.jobs j c) t.arcs t.buckets t.queue (arcs_from x (view t) w t.workers)
applied (NotifyQueue j c x e) t w =
    tables (lowered (view t) w t.jobs j c) t.arcs t.buckets (put_seat t.queue e j)
    (arcs_from x (view t) w t.workers)

unfoldable pub step_words : Sizes → Tables → ℕ → Result Tables
step_words s t w = result_of (answer_of (plan_step s t w)) (applied (plan_step s t w) t w)

-- ---- get
-- a job as it is handed out
abbrev pub hand_out : View → ℕ → HandOut
hand_out v j = record { job = j; name = v.job NAME j; spoiled = eqb (v.job SPOILED j) 1 }

-- the job that is next by the order of hand-outs: that of the index's first cell
abbrev pub next_job : View → ℕ
next_job v = v.cell QUEUED (first_cell v)

-- the spoiled word of a job is 0 or 1
abbrev pub spoiled_ok : View → ℕ → Bool
spoiled_ok v j = leb (v.job SPOILED j) 1

abbrev pub take_from : View → Seating → GetPlan
take_from v (Seated e) =
    pick (eqb (v.job LABEL (next_job v)) 0 && spoiled_ok v (next_job v)) (Take (hand_out v (next_job v)) e)
    (RefuseGet damaged)
take_from v Unseated = RefuseGet damaged

unfoldable pub plan_take : View → GetPlan
plan_take v = take_from v (first_seat v)

unfoldable pub plan_queue : Sizes → View → GetPlan
plan_queue s v =
    pick (counters_ok s v && leb v.taken v.put && leb v.put s.jobs)
    (pick (eqb v.taken v.put) Wait (plan_take v))
    (RefuseGet damaged)

unfoldable pub plan_get : Sizes → View → ℕ → GetPlan
plan_get s v w =
    pick (eqb (v.worker PHASE w) IDLE)
    (pick (eqb (v.worker HELD w) none) (plan_queue s v) (RefuseGet already_holding))
    (RefuseGet half_done)

abbrev pub answer_get : GetPlan → Answer
answer_get (RefuseGet n) = Refused n 0
answer_get Wait = NoneReady
answer_get (Take h e) = Handed h

unfoldable pub applied_get : GetPlan → Tables → ℕ → Tables
applied_get (RefuseGet n) t w = t
applied_get Wait t w = t
applied_get (Take h e) t w =
    tables (put job_shape t.jobs h.job LABEL 1) t.arcs t.buckets (take_seat t.queue e)
    (put_field t.workers w HELD h.job)

abbrev pub plan_get_of : Sizes → Tables → ℕ → GetPlan
plan_get_of s t w = admitted s t w RefuseGet (plan_get s (view t) w)

unfoldable pub get_words : Sizes → Tables → ℕ → Result Tables
get_words s t w = result_of (answer_get (plan_get_of s t w)) (applied_get (plan_get_of s t w) t w)

-- ---- posts: the number that refuses, or 0
-- a post whose other tests are passed reads the counters alone
abbrev pub judged_counters : Sizes → View → ℕ
judged_counters s v = pick (counters_ok s v) 0 damaged

abbrev pub judged_add : Sizes → View → ℕ → Arguments → ℕ
judged_add s v w a =
    pick (eqb (v.worker PHASE w) IDLE) (pick (arguments_wrong a) wrong_arguments (judged_counters s v)) half_done

-- "finish of a name that this worker does not hold"
abbrev pub holds_name : View → ℕ → ℕ → Bool
holds_name v w name = is_place (v.worker HELD w) && eqb (v.job NAME (v.worker HELD w)) name

-- the finish of the job p that is held, failed or good: it reads the counters and the spoiled word, and then "19, good
-- for a spoiled job"
abbrev pub judged_outcome : Sizes → View → ℕ → Bool → ℕ
judged_outcome s v p failed =
    pick (counters_ok s v && spoiled_ok v p) (pick (eqb (v.job SPOILED p) 1 && not failed) good_for_spoiled 0) damaged

abbrev pub judged_finish : Sizes → View → ℕ → Finish → ℕ
judged_finish s v w f =
    pick (eqb (v.worker PHASE w) IDLE)
    (pick (holds_name v w f.name) (judged_outcome s v (v.worker HELD w) f.failed) not_held)
    half_done

-- the words of the posted add; "names past the count are kept as 0"
abbrev pub adding_worker : ℕ → Arguments → List ℕ
adding_worker held a =
    LOOKING ∷ held ∷ a.name ∷ a.count ∷ a.class ∷ a.grower ∷ 0 ∷ 0 ∷ none ∷ none ∷ 0 ∷ prefix most_names (listed a)

unfoldable pub posted : ℕ → Tables → ℕ → List ℕ → Result Tables
posted zero t w r =
    result_of Posted (tables t.jobs t.arcs t.buckets t.queue (put_worker t.workers w r))
posted (suc n) t w r = result_of (Refused (suc n) 0) t

abbrev pub refusal : ℕ → ℕ
refusal n = n

unfoldable pub add_words : Sizes → Tables → ℕ → Arguments → Result Tables
add_words s t w a =
    posted (admitted s t w refusal (judged_add s (view t) w a)) t w (adding_worker ((view t).worker HELD w) a)

unfoldable pub finish_words : Sizes → Tables → ℕ → Finish → Result Tables
finish_words s t w f =
    posted (admitted s t w refusal (judged_finish s (view t) w f)) t w
    (bare_worker MARKING ((view t).worker HELD w) (bit f.failed))

-- ---- laying out
unfoldable pub lay_out : Sizes → Tables → Result Tables
lay_out s t = pick (room_for s t) (result_of Laid (fresh_tables s t)) (result_of (Refused wrong_size 0) t)

-- ---- a load: "the order is 1, 17, 9, 18". It reads how many jobs were made, and none of the minutes that it replaces
abbrev pub loaded : Tables → List ℕ → Tables
loaded t m = tables (put_minutes t.jobs m) t.arcs t.buckets t.queue t.workers

abbrev pub judged_load : Sizes → Tables → List ℕ → ℕ
judged_load s t m =
    pick (sizes_fit s t)
    (pick (is_rising m)
    (pick (leb (view t).made s.jobs) (pick (eqb (view t).made 0) 0 jobs_entered) damaged)
    wrong_minutes)
    wrong_size

unfoldable pub loading : ℕ → Tables → List ℕ → Result Tables
loading zero t m = result_of Loaded (loaded t m)
loading (suc n) t m = result_of (Refused (suc n) 0) t

unfoldable pub load_words : Sizes → Tables → List ℕ → Result Tables
load_words s t m = loading (judged_load s t m) t m

-- ---- an item of demand 3's list
unfoldable pub perform : Tables → Item → Result Tables
perform t (post_add s w a) = add_words s t w a
perform t (post_finish s w f) = finish_words s t w f
perform t (step s w) = step_words s t w
perform t (get s w) = get_words s t w
perform t (load s m) = load_words s t m
