-- A step of a worker whose whole record was stored: its plan is that of the record, and what it stores is the record as
-- the plan leaves it, and the other tables. Follows docs/RULES.md, "Steps".
use Rattle.std.specs.Prelude.{◌≡◌, Bool, true, false, ◌&&◌, List, ℕ, ◌+◌, ◌<◌, ◌^◌, leb, eqb, length, get_or, set}
use Rattle.std.proofs.Math.Path.{refl, ap}
use Rattle.std.proofs.Common.{◌∙◌, arith, length-set}
use borrow.Author.Tests.{lt-ltb}
use Rattle.def_basics.specs.Base.{pick}
use Rattle.def_basics.specs.Laws.{and_left, and_right}
use Rattle.def_terms.specs.Terms.{within_limits}
use Rattle.def_terms.specs.Runs.{result_of}
use Rattle.def_terms.specs.declared.Sizes.{Sizes}
use Rattle.def_words.specs.Columns.{rows, Rows}
use Rattle.def_words.specs.Layout.{Tables, tables, view, none, need, job_shape, arc_shape, bucket_shape, queue_shape}
use Rattle.def_words.specs.Layout.{worker_shape}
use Rattle.def_words.specs.Layout.{PHASE, HELD, OWN_NAME, LIST_COUNT, OWN_CLASS, OWN_GROWER, TALLY, PLACE, OWN_JOB}
use Rattle.def_words.specs.Layout.{OWN_ARC}
use Rattle.def_words.specs.Layout.{NOTE}
use Rattle.def_words.specs.Layout.{IDLE, LINKING, NOTIFYING, bare_worker, long_enough, sizes_kept, room_for, sizes_fit}
use Rattle.def_words.specs.Words.{counters_ok, own_ok, plan_call, plan_phase, admitted, plan_step, answer_of, put_worker}
use Rattle.def_words.specs.Words.{put_field}
use Rattle.def_words.specs.Words.{noted, first_arc, idle_worker, next_place, arcs_from, marked_worker, entered_worker}
use Rattle.def_words.specs.Words.{applied}
use Rattle.def_words.specs.Words.{step_words}
use Rattle.def_words.specs.declared.Plan.{Plan}
use Rattle.def_words.specs.declared.Plan.TheVariants.{Refuse, Quit, Pass, Enter, Tally, LinkFirst, LinkAfter, Settle}
use Rattle.def_words.specs.declared.Plan.TheVariants.{SettleQueue, Mark, Notify, NotifyQueue}
use Rattle.def_fused.specs.FusedWorker.{with_worker}
use Rattle.thm_fused_steps.specs.Records.{field_in_record, record_on_record, record_word}
use Rattle.thm_fused_steps.specs.Fits.{with_worker_fits}
use Rattle.thm_fused_steps.specs.Plans.{record_ok, record_plan, own_by_record, call_by_record}
use Rattle.thm_fused_steps.specs.Deeds.{idle_record, next_record, record_by, stored_by}

-- ---- the tables have room for the workers
pub room_for_workers : (s : Sizes) (t : Tables) → sizes_fit s t ≡ true → Rows worker_shape s.workers t.workers
unfolding long_enough rows
room_for_workers s t e =
    and_right
    (leb (need job_shape s.jobs) (length t.jobs) && leb (need arc_shape s.arcs) (length t.arcs)
    && leb (need bucket_shape (2 ^ s.bits)) (length t.buckets)
    && leb (need queue_shape s.jobs) (length t.queue))
    (leb (need worker_shape s.workers) (length t.workers))
    (and_right (within_limits s) (long_enough s t) (and_left (room_for s t) (sizes_kept s t.jobs) e))

module _ (s : Sizes) (t : Tables) (w : ℕ) (r : List ℕ) (fit : sizes_fit s t ≡ true) (known : w < s.workers)
    (whole : length r ≡ worker_shape.width) where
  -- the words of the stored record
  pub worker_word : (k : ℕ) → (view (with_worker t w r)).worker k w ≡ get_or r k 0
  worker_word k = record_word s.workers t.workers w r whole (room_for_workers s t fit) known k

  pub worker_ok : own_ok s (view (with_worker t w r)) w ≡ record_ok s (view t) r
  worker_ok = own_by_record s (view t) (view (with_worker t w r)).worker w r worker_word

  pub worker_plan : plan_call s (view (with_worker t w r)) w ≡ record_plan s (view t) r
  worker_plan = call_by_record s (view t) (view (with_worker t w r)).worker w r worker_word

  -- what the plans store in the record
  abbrev l : List ℕ
  l = t.workers

  field : (k x : ℕ) → k < worker_shape.width → put_field (put_worker l w r) w k x ≡ put_worker l w (set r k x)
  field k x h = field_in_record l w r k x (omega arith)

  over : (m : List ℕ) → length m ≡ worker_shape.width → put_worker (put_worker l w r) w m ≡ put_worker l w m
  over m e = record_on_record l w r m (omega arith)

  idled : idle_worker (view (with_worker t w r)) w (put_worker l w r) ≡ put_worker l w (idle_record r)
  idled = over (bare_worker IDLE ((view (with_worker t w r)).worker HELD w) 0) refl
      ∙ ap (λ h. put_worker l w (bare_worker IDLE h 0)) (worker_word HELD)

  next : next_place (view (with_worker t w r)) w (put_worker l w r) ≡ put_worker l w (next_record r)
  next = ap (λ i. put_field (put_worker l w r) w PLACE (i + 1)) (worker_word PLACE)
      ∙ field PLACE (get_or r PLACE 0 + 1) (omega arith)

  -- three fields one after the other
  three : (a b c x y z : ℕ) → a < worker_shape.width → b < worker_shape.width → c < worker_shape.width
      → put_field (put_field (put_field (put_worker l w r) w a x) w b y) w c z
      ≡ put_worker l w (set (set (set r a x) b y) c z)
  three a b c x y z ha hb hc =
      ap (λ m. put_field (put_field m w b y) w c z) (field a x ha)
      ∙ ap (λ m. put_field m w c z) (field_in_record l w (set r a x) b y (omega (arith, length-set r a x)))
      ∙ field_in_record l w (set (set r a x) b y) c z (omega (arith, length-set r a x, length-set (set r a x) b y))

  tallied : (o : ℕ)
      → put_field (put_field (next_place (view (with_worker t w r)) w (put_worker l w r)) w TALLY
      ((view (with_worker t w r)).worker TALLY w + 1)) w NOTE (noted o ((view (with_worker t w r)).worker NOTE w))
      ≡ put_worker l w (record_by (Tally o) r)
  tallied o =
      rw (worker_word PLACE, worker_word TALLY, worker_word NOTE)
      (three PLACE TALLY NOTE (get_or r PLACE 0 + 1) (get_or r TALLY 0 + 1) (noted o (get_or r NOTE 0)) (omega arith)
      (omega arith) (omega arith))

  entered : (j x : ℕ) → entered_worker (view (with_worker t w r)) w j x (put_worker l w r)
      ≡ put_worker l w (record_by (Enter j 0 0 x) r)
  entered j x =
      let m = set (set (set r PHASE LINKING) PLACE 0) OWN_JOB j in
      ap (λ n. put_field n w OWN_ARC (first_arc ((view (with_worker t w r)).worker LIST_COUNT w) x))
      (three PHASE PLACE OWN_JOB LINKING 0 j (omega arith) (omega arith) (omega arith))
      ∙ ap (λ d. put_field (put_worker l w m) w OWN_ARC (first_arc d x)) (worker_word LIST_COUNT)
      ∙ field_in_record l w m OWN_ARC (first_arc (get_or r LIST_COUNT 0) x)
      (omega (
        arith,
        length-set r PHASE LINKING,
        length-set (set r PHASE LINKING) PLACE 0,
        length-set (set (set r PHASE LINKING) PLACE 0) OWN_JOB j,
      ))

  choose : (b : Bool) {x y : List ℕ} (m n : List ℕ) → x ≡ put_worker l w m → y ≡ put_worker l w n
      → pick b x y ≡ put_worker l w (pick b m n)
  choose true m n e f = e
  choose false m n e f = f

  from : (x : ℕ) → arcs_from x (view (with_worker t w r)) w (put_worker l w r) ≡ put_worker l w (record_by (Notify 0 0 x) r)
  from x = choose (eqb x none) (idle_record r) (set r OWN_ARC x) idled (field OWN_ARC x (omega arith))

  marked : (x : ℕ) → marked_worker x w (put_worker l w r) ≡ put_worker l w (record_by (Mark 0 x) r)
  marked x =
      choose (eqb x none) (bare_worker IDLE none 0) (set (set (set r PHASE NOTIFYING) HELD none) OWN_ARC x)
      (over (bare_worker IDLE none 0) refl)
      (three PHASE HELD OWN_ARC NOTIFYING none x (omega arith) (omega arith) (omega arith))

  -- what a plan stores
  with_workers_lem : (u : Tables) {x : List ℕ} (m : List ℕ) → x ≡ put_worker l w m
      → tables u.jobs u.arcs u.buckets u.queue x
      ≡ tables u.jobs u.arcs u.buckets u.queue (put_worker l w m)
  with_workers_lem u m e = ap (λ y. tables u.jobs u.arcs u.buckets u.queue y) e

  pub applied_by_record : (p : Plan) → applied p (with_worker t w r) w ≡ with_worker (stored_by p t r) w (record_by p r)
  unfolding applied stored_by
  applied_by_record (Refuse n) = refl
  applied_by_record (Quit n i) = with_workers_lem t (idle_record r) idled
  applied_by_record Pass = with_workers_lem t (next_record r) next
  applied_by_record (Enter j k h x) =
      rw (worker_word OWN_NAME, worker_word LIST_COUNT, worker_word OWN_CLASS, worker_word OWN_GROWER)
      (with_workers_lem (stored_by (Enter j k h x) t r) (record_by (Enter j k h x) r) (rw worker_word at (entered j x)))
  applied_by_record (Tally o) = with_workers_lem t (record_by (Tally o) r) (tallied o)
  applied_by_record (LinkFirst p x j) = with_workers_lem (stored_by (LinkFirst p x j) t r) (next_record r) next
  applied_by_record (LinkAfter p y x j) = with_workers_lem (stored_by (LinkAfter p y x j) t r) (next_record r) next
  applied_by_record (Settle j c) = rw (worker_word NOTE) (with_workers_lem (stored_by (Settle j c) t r) (idle_record r) idled)
  applied_by_record (SettleQueue j c e) =
      rw (worker_word NOTE) (with_workers_lem (stored_by (SettleQueue j c e) t r) (idle_record r) idled)
  applied_by_record (Mark p x) =
      rw (worker_word NOTE) (with_workers_lem (stored_by (Mark p x) t r) (record_by (Mark p x) r) (marked x))
  applied_by_record (Notify j c x) =
      rw (worker_word NOTE) (with_workers_lem (stored_by (Notify j c x) t r) (record_by (Notify j c x) r) (from x))
  applied_by_record (NotifyQueue j c x e) =
      rw (worker_word NOTE)
      (with_workers_lem (stored_by (NotifyQueue j c x e) t r) (record_by (NotifyQueue j c x e) r) (from x))

  -- a step of a call half done, whose words are sound
  module _ (own : record_ok s (view t) r ≡ true) (counters : counters_ok s (view t) ≡ true)
      (busy : eqb (get_or r PHASE 0) IDLE ≡ false) where
    planned : plan_step s (with_worker t w r) w ≡ record_plan s (view t) r
    unfolding admitted plan_phase
    planned =
        rw (with_worker_fits s t w r, fit, lt-ltb w s.workers known, worker_ok, own)
        (rw (worker_word PHASE, busy, counters) worker_plan)

    pub step_by_record : step_words s (with_worker t w r) w
        ≡ result_of (answer_of (record_plan s (view t) r))
        (with_worker (stored_by (record_plan s (view t) r) t r) w (record_by (record_plan s (view t) r) r))
    unfolding step_words
    step_by_record =
        ap (λ p. result_of (answer_of p) (applied p (with_worker t w r) w)) planned
        ∙ ap (λ u. result_of (answer_of (record_plan s (view t) r)) u) (applied_by_record (record_plan s (view t) r))
