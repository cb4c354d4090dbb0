-- Every plan of a step and of a get is a fitting one: the sizes' limits and the worker's own words bound what is
-- counted. Follows docs/RULES.md, "Tables and their measures" and "Turned-away calls".
use Rattle.std.specs.Prelude.{◌≡◌, refl, Bool, true, false, ◌&&◌, ◌||◌, ℕ, ◌+◌, ◌-◌, ◌<◌, ◌≤◌}
use Rattle.std.proofs.Common.{arith}
use Rattle.std.proofs.Math.Dec.{ltb, leb, eqb}
use borrow.Author.Tests.{ltb-false, leb-true, leb-false}
use Rattle.def_numbers.specs.Numbers.{most_names, most_class, most_grower, most_jobs, most_arcs, most_bits, most_workers}
use Rattle.def_basics.specs.Base.{pick}
use Rattle.def_basics.specs.Laws.{and_left, and_right, or_left, or_right}
use Rattle.def_terms.specs.Terms.{settles, within_limits}
use Rattle.def_terms.specs.declared.Sizes.{Sizes}
use Rattle.def_terms.specs.declared.HandOut.{HandOut}
use Rattle.def_words.specs.Layout.{none, LABEL, COUNT, FIRST, LAST, DEPENDENT, AFTER, PHASE, HELD, LIST_COUNT}
use Rattle.def_words.specs.Layout.{OUTCOME, OWN_CLASS, NOTE}
use Rattle.def_words.specs.Layout.{OWN_GROWER, TALLY, PLACE, OWN_JOB, OWN_ARC, IDLE, LOOKING, LINKING, MARKING}
use Rattle.def_words.specs.Layout.{NOTIFYING}
use Rattle.def_words.specs.Layout.{Tables, View, view, long_enough, sizes_kept, room_for, sizes_fit}
use Rattle.def_words.specs.Words.{place_ok, is_place, counters_ok, own_ok, plan_look_up, plan_enter, plan_append, plan_tally}
use Rattle.def_words.specs.Words.{plan_link, with_seat, plan_settle, plan_mark, plan_notify, plan_add, plan_links, plan_call}
use Rattle.def_words.specs.Words.{plan_phase, spoiled_ok}
use Rattle.def_words.specs.Words.{admitted, plan_step, next_job, take_from, plan_take, plan_queue, plan_get, plan_get_of}
use Rattle.def_words.specs.Index.{first_seat}
use Rattle.def_words.specs.declared.Seat.{Seat}
use Rattle.def_words.specs.declared.Seating.{Seating}
use Rattle.def_words.specs.declared.Seating.TheVariants.{Seated, Unseated}
use Rattle.def_words.specs.declared.Found.{Found}
use Rattle.def_words.specs.declared.Found.TheVariants.{At, Missing, Damaged}
use Rattle.def_words.specs.declared.Plan.{Plan}
use Rattle.def_words.specs.declared.Plan.TheVariants.{Refuse, Quit, Pass, Enter, Tally, LinkFirst, LinkAfter, Settle}
use Rattle.def_words.specs.declared.Plan.TheVariants.{SettleQueue, Mark, Notify, NotifyQueue}
use Rattle.def_words.specs.declared.GetPlan.{GetPlan}
use Rattle.def_words.specs.declared.GetPlan.TheVariants.{RefuseGet, Wait, Take}
use Rattle.thm_counters_fit.specs.Fitting.{Fitting, FittingGet}
use Rattle.thm_counters_fit.specs.Seats.{with_seat_lem}

-- what holds of both plans of a choice holds of the chosen
choice : {A : Type 0} (P : A → Type 0) (b : Bool) (x y : A) → (b ≡ true → P x) → (b ≡ false → P y) → P (pick b x y)
choice P true x y f g = f refl
choice P false x y f g = g refl

-- the second and third of five tests; the third, sixth and seventh of ten
limits : (a b c d e : Bool) → (a && b && c && d && e) ≡ true → (b ≡ true) × (c ≡ true)
limits a b c d e h =
    let k = and_left (a && b && c) d (and_left (a && b && c && d) e h) in
    (and_right a b (and_left (a && b) c k), and_right (a && b) c k)

counts : (a b c d e f g h i j : Bool) → (a && b && c && d && e && f && g && h && i && j) ≡ true
    → (c ≡ true) × (f ≡ true) × (g ≡ true)
counts a b c d e f g h i j k =
    let l = and_left (a && b && c && d && e && f && g && h && i) j k in
    let m = and_left (a && b && c && d && e && f && g) h (and_left (a && b && c && d && e && f && g && h) i l) in
    let n = and_left (a && b && c && d && e && f) g m in
    let o = and_left (a && b && c) d (and_left (a && b && c && d) e (and_left (a && b && c && d && e) f n)) in
    (and_right (a && b) c o, and_right (a && b && c && d && e) f n, and_right (a && b && c && d && e && f) g m)

-- ---- sizes within their limits are small
pub few : (s : Sizes) → within_limits s ≡ true → (s.jobs ≤ most_jobs) × (s.arcs ≤ most_arcs)
unfolding within_limits
few s e =
    let h = limits (leb 1 s.jobs) (leb s.jobs most_jobs) (leb s.arcs most_arcs)
    (leb 1 s.bits && leb s.bits most_bits)
    (leb 1 s.workers && leb s.workers most_workers) e in
    (leb-true s.jobs most_jobs h.0, leb-true s.arcs most_arcs h.1)

fit_within : (s : Sizes) (t : Tables) → sizes_fit s t ≡ true → within_limits s ≡ true
fit_within s t e = and_left (within_limits s) (long_enough s t) (and_left (room_for s t) (sizes_kept s t.jobs) e)

-- ---- and so are the counts of sound own words
own_small : (s : Sizes) (v : View) (w : ℕ) → own_ok s v w ≡ true
    → (v.worker PLACE w < none) × (v.worker TALLY w < none)
unfolding own_ok
own_small s v w e =
    let h = counts (leb (v.worker PHASE w) NOTIFYING) (place_ok (v.worker HELD w) v.made s.jobs)
    (leb (v.worker LIST_COUNT w) most_names)
    (leb (v.worker OWN_CLASS w) most_class) (leb (v.worker OWN_GROWER w) most_grower)
    (leb (v.worker TALLY w) (v.worker LIST_COUNT w))
    (leb (v.worker PLACE w) (v.worker LIST_COUNT w)) (place_ok (v.worker OWN_JOB w) v.made s.jobs)
    (place_ok (v.worker OWN_ARC w) v.reserved s.arcs) (leb (v.worker NOTE w) 1) e in
    let a = leb-true (v.worker LIST_COUNT w) most_names h.0 in
    let b = leb-true (v.worker TALLY w) (v.worker LIST_COUNT w) h.1 in
    let c = leb-true (v.worker PLACE w) (v.worker LIST_COUNT w) h.2 in
    (omega arith, omega arith)

-- ---- a step's plans
module _ (s : Sizes) (v : View) (w : ℕ) (jobs : s.jobs ≤ most_jobs) (arcs : s.arcs ≤ most_arcs)
    (place : v.worker PLACE w < none) (tally : v.worker TALLY w < none) where
  abbrev Fine : Plan → Type 0
  Fine p = Fitting p v w

  -- the plans one by one
  refuse : (n : ℕ) → Fine (Refuse n)
  unfolding Fitting
  refuse n = tt

  quit : (n i : ℕ) → Fine (Quit n i)
  unfolding Fitting
  quit n i = tt

  pass : Fine Pass
  unfolding Fitting
  pass = place

  enter : (j k h x : ℕ) → j < none → x + v.worker LIST_COUNT w ≤ none → Fine (Enter j k h x)
  unfolding Fitting
  enter j k h x a b = (a, b)

  tallied : (o : ℕ) → Fine (Tally o)
  unfolding Fitting
  tallied o = (place, tally)

  link_first_lem : (p x j : ℕ) → Fine (LinkFirst p x j)
  unfolding Fitting
  link_first_lem p x j = place

  link_after_lem : (p l x j : ℕ) → Fine (LinkAfter p l x j)
  unfolding Fitting
  link_after_lem p l x j = place

  settled : (j c : ℕ) → Fine (Settle j c)
  unfolding Fitting
  settled j c = tt

  settled_queue : (j c : ℕ) (e : Seat) → e.cell < none → Fine (SettleQueue j c e)
  unfolding Fitting
  settled_queue j c e h = h

  marked : (p x : ℕ) → Fine (Mark p x)
  unfolding Fitting
  marked p x = tt

  notified : (j c x : ℕ) → Fine (Notify j c x)
  unfolding Fitting
  notified j c x = tt

  notified_queue : (j c x : ℕ) (e : Seat) → e.cell < none → Fine (NotifyQueue j c x e)
  unfolding Fitting
  notified_queue j c x e h = h

  -- the planning functions
  look_up_lem : (i : ℕ) (f : Found) → Fine (plan_look_up i f)
  unfolding plan_look_up
  look_up_lem i (At j) = pass
  look_up_lem i Missing = quit _ _
  look_up_lem i Damaged = refuse _

  entering : (name : ℕ) (f : Found) → Fine (plan_enter s v name (v.worker LIST_COUNT w) f)
  unfolding plan_enter
  entering name (At j) = quit _ _
  entering name Missing =
      choice Fine (leb s.jobs v.made || ltb s.arcs (v.reserved + v.worker LIST_COUNT w)) _ _ (λ _. quit _ _)
      (λ h. let full = leb s.jobs v.made in
      let over = ltb s.arcs (v.reserved + v.worker LIST_COUNT w) in
      let a = leb-false s.jobs v.made (or_left full over h) in
      let b = ltb-false s.arcs (v.reserved + v.worker LIST_COUNT w) (or_right full over h) in
      enter _ _ _ _ (omega arith) (omega arith))
  entering name Damaged = refuse _

  append : (p x j : ℕ) → Fine (plan_append s v p x j)
  unfolding plan_append
  append p x j =
      choice Fine
      (ltb j v.made && ltb x v.reserved && place_ok (v.job LAST p) v.reserved s.arcs)
      _
      _
      (λ _. choice Fine (eqb (v.job LAST p) none) _ _ (λ _. link_first_lem _ _ _) (λ _. link_after_lem _ _ _ _))
      (λ _. refuse _)

  tally_one_lem : (p : ℕ) → Fine (plan_tally v p)
  unfolding plan_tally
  tally_one_lem p = choice Fine (leb (v.job OUTCOME p) 1) _ _ (λ _. tallied _) (λ _. refuse _)

  link : (x j : ℕ) (f : Found) → Fine (plan_link s v x j f)
  unfolding plan_link
  link x j (At p) =
      choice Fine (leb (v.job LABEL p) 2) _ _
      (λ _. choice Fine (eqb (v.job LABEL p) 2) _ _ (λ _. tally_one_lem p) (λ _. append p x j))
      (λ _. refuse _)
  link x j Missing = refuse _
  link x j Damaged = refuse _

  seat_fits : (j : ℕ) (plan : Seat → Plan) → ((e : Seat) → e.cell < none → Fine (plan e)) → Fine (with_seat s v j plan)
  seat_fits j plan f = with_seat_lem Fine s v j plan (λ e h. f e (omega arith)) (refuse _)

  settle : (j t d : ℕ) → Fine (plan_settle s v j t d)
  unfolding plan_settle
  settle j t d =
      choice Fine (is_place j && leb (v.job COUNT j) most_names && leb t (v.job COUNT j)) _ _
      (λ _. choice Fine (settles (v.job COUNT j - t) t d) _ _ (λ _. seat_fits _ _ (settled_queue _ _))
      (λ _. settled _ _))
      (λ _. refuse _)

  mark : (p : ℕ) → Fine (plan_mark s v p)
  unfolding plan_mark
  mark p =
      choice Fine
      (is_place p && eqb (v.job LABEL p) 1 && place_ok (v.job FIRST p) v.reserved s.arcs)
      _
      _
      (λ _. marked _ _)
      (λ _. refuse _)

  notify : (x : ℕ) → Fine (plan_notify s v x)
  unfolding plan_notify
  notify x =
      let j = v.arc DEPENDENT x in
      choice Fine
      (is_place x && ltb j v.made && place_ok (v.arc AFTER x) v.reserved s.arcs
      && leb 1 (v.job COUNT j)
      && leb (v.job COUNT j) most_names)
      _
      _
      (λ _. choice Fine (eqb (v.job COUNT j) 1) _ _ (λ _. seat_fits _ _ (notified_queue _ _ _)) (λ _. notified _ _ _))
      (λ _. refuse _)

  adding : Fine (plan_add s v w)
  unfolding plan_add
  adding =
      choice Fine (ltb (v.worker PLACE w) (v.worker LIST_COUNT w)) _ _ (λ _. look_up_lem _ _) (λ _. entering _ _)

  linking : Fine (plan_links s v w)
  unfolding plan_links
  linking = choice Fine (ltb (v.worker PLACE w) (v.worker LIST_COUNT w)) _ _ (λ _. link _ _ _) (λ _. settle _ _ _)

  phase : Fine (plan_phase s v w)
  unfolding plan_phase plan_call
  phase =
      choice Fine (eqb (v.worker PHASE w) IDLE) _ _ (λ _. refuse _)
      (λ _. choice Fine (counters_ok s v) _ _
      (λ _. choice Fine (eqb (v.worker PHASE w) LOOKING) _ _ (λ _. adding)
      (λ _. choice Fine (eqb (v.worker PHASE w) LINKING) _ _ (λ _. linking)
      (λ _. choice Fine (eqb (v.worker PHASE w) MARKING) _ _ (λ _. mark _) (λ _. notify _))))
      (λ _. refuse _))

-- what is admitted, and what refuses it, is fine: so is the answer to both
let_in : {A : Type 0} (P : A → Type 0) (s : Sizes) (t : Tables) (w : ℕ) (refused : ℕ → A) (x : A)
    → ((n : ℕ) → P (refused n)) → (sizes_fit s t ≡ true → own_ok s (view t) w ≡ true → P x) → P (admitted s t w refused x)
unfolding admitted
let_in P s t w refused x f g =
    choice P (sizes_fit s t) _ _
    (λ fit. choice P (ltb w s.workers) _ _ (λ _. choice P (own_ok s (view t) w) _ _ (λ own. g fit own) (λ _. f _))
    (λ _. f _))
    (λ _. f _)

pub plan_step_fits : (s : Sizes) (t : Tables) (w : ℕ) → Fitting (plan_step s t w) (view t) w
unfolding Fitting
plan_step_fits s t w =
    let_in (λ p. Fitting p (view t) w) s t w Refuse (plan_phase s (view t) w) (λ n. tt)
    (λ fit own. let h = few s (fit_within s t fit) in let k = own_small s (view t) w own in
    phase s (view t) w h.0 h.1 k.0 k.1)

-- ---- a get's plans
module _ (v : View) where
  abbrev FineGet : GetPlan → Type 0
  FineGet p = FittingGet p v

  refuse_get : (n : ℕ) → FineGet (RefuseGet n)
  unfolding FittingGet
  refuse_get n = tt

  holds_off : FineGet Wait
  unfolding FittingGet
  holds_off = tt

  takes : (h : HandOut) (e : Seat) → v.taken < none → FineGet (Take h e)
  unfolding FittingGet
  takes h e b = b

  take_fits : (r : Seating) → v.taken < none → FineGet (take_from v r)
  take_fits (Seated e) h =
      choice FineGet (eqb (v.job LABEL (next_job v)) 0 && spoiled_ok v (next_job v)) _ _ (λ _. takes _ _ h)
      (λ _. refuse_get _)
  take_fits Unseated h = refuse_get _

  queue_fits : (s : Sizes) → s.jobs ≤ most_jobs → FineGet (plan_queue s v)
  unfolding plan_queue plan_take
  queue_fits s jobs =
      choice FineGet (counters_ok s v && leb v.taken v.put && leb v.put s.jobs) _ _
      (λ h. let start = counters_ok s v && leb v.taken v.put in
      let ordered = and_right (counters_ok s v) (leb v.taken v.put) (and_left start (leb v.put s.jobs) h) in
      let a = leb-true v.taken v.put ordered in
      let b = leb-true v.put s.jobs (and_right start (leb v.put s.jobs) h) in
      choice FineGet (eqb v.taken v.put) _ _ (λ _. holds_off) (λ _. take_fits (first_seat v) (omega arith)))
      (λ _. refuse_get _)

  get_fits : (s : Sizes) (w : ℕ) → s.jobs ≤ most_jobs → FineGet (plan_get s v w)
  unfolding plan_get
  get_fits s w jobs =
      choice FineGet (eqb (v.worker PHASE w) IDLE) _ _
      (λ _. choice FineGet (eqb (v.worker HELD w) none) _ _ (λ _. queue_fits s jobs) (λ _. refuse_get _))
      (λ _. refuse_get _)

pub plan_get_fits : (s : Sizes) (t : Tables) (w : ℕ) → FittingGet (plan_get_of s t w) (view t)
plan_get_fits s t w =
    let_in (λ p. FittingGet p (view t)) s t w RefuseGet (plan_get s (view t) w) (refuse_get (view t))
    (λ fit _. get_fits (view t) s w (few s (fit_within s t fit)).0)
