-- For ALL tables: which step plans what. Entering comes of an add that has looked up, a tally of one that links,
-- settling of one that has linked, a mark and an arc's step of a finish; and each names the job that the worker's words
-- name. Follows docs/RULES.md, "Steps".
use Rattle.std.specs.Prelude.{◌≡◌, true, ◌&&◌, ◌||◌, ℕ, ◌+◌, ◌-◌, ◌≤◌, ◌<◌}
use Rattle.std.proofs.Math.Path.{refl}
use native.Mathlib.Omega.{arith}
use Rattle.std.proofs.Math.Dec.{ltb, leb, eqb}
use borrow.Author.Tests.{ltb-true, ltb-false, eqb-true, eqb-false}
use Rattle.def_numbers.specs.Numbers.{most_names}
use Rattle.def_basics.specs.Laws.{pick_by}
use Rattle.def_terms.specs.Terms.{settles}
use Rattle.def_terms.specs.declared.Sizes.{Sizes}
use Rattle.def_words.specs.Layout.{none, LABEL, COUNT, FIRST, LAST, OUTCOME, DEPENDENT, AFTER, PHASE, HELD, LIST_COUNT}
use Rattle.def_words.specs.Layout.{PLACE, OWN_JOB, OWN_ARC, IDLE, LOOKING, LINKING, MARKING, NOTIFYING, View}
use Rattle.def_words.specs.Words.{place_ok, is_place, counters_ok, own_ok, find_of, name_at, plan_look_up, plan_enter}
use Rattle.def_words.specs.Words.{plan_append}
use Rattle.def_words.specs.Words.{plan_tally, plan_link, in_seat, with_seat, plan_settle, plan_mark, plan_notify, plan_add}
use Rattle.def_words.specs.Words.{plan_links, plan_call, plan_phase}
use Rattle.def_words.specs.Index.{seat_for}
use Rattle.def_words.specs.declared.Seat.{Seat}
use Rattle.def_words.specs.declared.Seating.{Seating}
use Rattle.def_words.specs.declared.Seating.TheVariants.{Seated, Unseated}
use Rattle.def_words.specs.declared.Found.{Found}
use Rattle.def_words.specs.declared.Found.TheVariants.{At, Missing, Damaged}
use Rattle.def_words.specs.declared.Plan.{Plan}
use Rattle.def_words.specs.declared.Plan.TheVariants.{Refuse, Quit, Pass, Enter, Tally, LinkFirst, LinkAfter, Settle}
use Rattle.def_words.specs.declared.Plan.TheVariants.{SettleQueue, Mark, Notify, NotifyQueue}
use Rattle.thm_words_tests.specs.Judged.{own_means}

module _ (s : Sizes) (v : View) (w : ℕ) where
  abbrev pub phase : ℕ
  phase = v.worker PHASE w

  -- a link to the finished job p, of outcome o
  pub record FromLink (o : ℕ) : Type 0 where
    pub linking : phase ≡ LINKING
    pub more : v.worker PLACE w < v.worker LIST_COUNT w
    pub job : ℕ
    pub found : find_of s v (name_at v w) ≡ At job
    pub finished : v.job LABEL job ≡ 2
    pub outcome : v.job OUTCOME job ≡ o

  -- settling the job j
  pub record FromSettling (j : ℕ) : Type 0 where
    pub linking : phase ≡ LINKING
    pub all : v.worker LIST_COUNT w ≤ v.worker PLACE w
    pub job : v.worker OWN_JOB w ≡ j

  -- the step of an arc to the job j
  pub record FromArc (j : ℕ) : Type 0 where
    pub notifying : phase ≡ NOTIFYING
    pub dependent : v.arc DEPENDENT (v.worker OWN_ARC w) ≡ j

  abbrev pub From : Plan → Type 0
  From (Refuse n) = Unit {0}
  From (Quit n i) = phase ≡ LOOKING
  From Pass = (phase ≡ LOOKING) × (v.worker PLACE w < v.worker LIST_COUNT w)
  From (Enter j k h x) = (phase ≡ LOOKING) × (v.worker LIST_COUNT w ≤ v.worker PLACE w) × (v.made ≡ j)
  From (Tally o) = FromLink o
  From (LinkFirst p x j) = phase ≡ LINKING
  From (LinkAfter p l x j) = phase ≡ LINKING
  From (Settle j c) = FromSettling j
  From (SettleQueue j c e) = FromSettling j
  From (Mark p x) = (phase ≡ MARKING) × (v.worker HELD w ≡ p)
  From (Notify j c x) = FromArc j
  From (NotifyQueue j c x e) = FromArc j

  look_up_lem : phase ≡ LOOKING → v.worker PLACE w < v.worker LIST_COUNT w → (i : ℕ) (f : Found) → From (plan_look_up i f)
  unfolding plan_look_up
  look_up_lem e m i (At j) = (e, m)
  look_up_lem e m i Missing = e
  look_up_lem e m i Damaged = tt

  enter : phase ≡ LOOKING → v.worker LIST_COUNT w ≤ v.worker PLACE w → (name d : ℕ) (f : Found)
      → From (plan_enter s v name d f)
  unfolding plan_enter
  enter e m name d (At j) = e
  enter e m name d Missing =
      pick_by From (leb s.jobs v.made || ltb s.arcs (v.reserved + d)) (λ _. e) (λ _. (e, m, refl))
  enter e m name d Damaged = tt

  append : phase ≡ LINKING → (p x j : ℕ) → From (plan_append s v p x j)
  unfolding plan_append
  append e p x j =
      pick_by From (ltb j v.made && ltb x v.reserved && place_ok (v.job LAST p) v.reserved s.arcs)
      (λ _. pick_by From (eqb (v.job LAST p) none) (λ _. e) (λ _. e))
      (λ _. tt)

  link : phase ≡ LINKING → v.worker PLACE w < v.worker LIST_COUNT w → (x j : ℕ) (f : Found)
      → find_of s v (name_at v w) ≡ f
      → From (plan_link s v x j f)
  unfolding plan_link plan_tally
  link e m x j (At p) g =
      pick_by From (leb (v.job LABEL p) 2)
      (λ _. pick_by From (eqb (v.job LABEL p) 2)
      (λ a. pick_by From (leb (v.job OUTCOME p) 1)
      (λ _. record {
        linking = e;
        more = m;
        job = p;
        found = g;
        finished = eqb-true (v.job LABEL p) 2 a;
        outcome = refl;
      })
      (λ _. tt))
      (λ _. append e p x j))
      (λ _. tt)
  link e m x j Missing g = tt
  link e m x j Damaged g = tt

  in_seat_lem : (plan : Seat → Plan) → ((e : Seat) → From (plan e)) → (r : Seating) → From (in_seat r plan)
  in_seat_lem plan f (Seated e) = f e
  in_seat_lem plan f Unseated = tt

  settle : (j t d : ℕ) → FromSettling j → From (plan_settle s v j t d)
  unfolding plan_settle with_seat
  settle j t d h =
      pick_by From (is_place j && leb (v.job COUNT j) most_names && leb t (v.job COUNT j))
      (λ _. pick_by From (settles (v.job COUNT j - t) t d) (λ _. in_seat_lem _ (λ e. h) (seat_for s v j)) (λ _. h))
      (λ _. tt)

  mark : phase ≡ MARKING → From (plan_mark s v (v.worker HELD w))
  unfolding plan_mark
  mark e =
      let p = v.worker HELD w in
      pick_by From (is_place p && eqb (v.job LABEL p) 1 && place_ok (v.job FIRST p) v.reserved s.arcs)
      (λ _. (e, refl)) (λ _. tt)

  notify : phase ≡ NOTIFYING → From (plan_notify s v (v.worker OWN_ARC w))
  unfolding plan_notify with_seat
  notify e =
      let x = v.worker OWN_ARC w in
      let j = v.arc DEPENDENT x in
      let h : FromArc j = record { notifying = e; dependent = refl } in
      pick_by From
      (is_place x && ltb j v.made && place_ok (v.arc AFTER x) v.reserved s.arcs && leb 1 (v.job COUNT j)
      && leb (v.job COUNT j) most_names)
      (λ _. pick_by From (eqb (v.job COUNT j) 1) (λ _. in_seat_lem _ (λ e. h) (seat_for s v j)) (λ _. h))
      (λ _. tt)

  adding : phase ≡ LOOKING → From (plan_add s v w)
  unfolding plan_add
  adding e =
      pick_by From (ltb (v.worker PLACE w) (v.worker LIST_COUNT w))
      (λ a. look_up_lem e (ltb-true (v.worker PLACE w) (v.worker LIST_COUNT w) a) _ _)
      (λ a. enter e (ltb-false (v.worker PLACE w) (v.worker LIST_COUNT w) a) _ _ _)

  linking : phase ≡ LINKING → From (plan_links s v w)
  unfolding plan_links
  linking e =
      pick_by From (ltb (v.worker PLACE w) (v.worker LIST_COUNT w))
      (λ a. link e (ltb-true (v.worker PLACE w) (v.worker LIST_COUNT w) a) _ _ _ refl)
      (λ a. settle _ _ _ (record {
        linking = e;
        all = ltb-false (v.worker PLACE w) (v.worker LIST_COUNT w) a;
        job = refl;
      }))

  -- of a worker whose own words are sound: its phase is at most 4
  pub plan_from : own_ok s v w ≡ true → From (plan_phase s v w)
  unfolding plan_phase plan_call
  plan_from own =
      let most = ((own_means s v w).0 own).phase in
      pick_by From (eqb phase IDLE) (λ _. tt)
      (λ a. pick_by From (counters_ok s v)
      (λ _. pick_by From (eqb phase LOOKING) (λ b. adding (eqb-true phase LOOKING b))
      (λ b. pick_by From (eqb phase LINKING) (λ c. linking (eqb-true phase LINKING c))
      (λ c. pick_by From (eqb phase MARKING) (λ d. mark (eqb-true phase MARKING d))
      (λ d. notify (omega (
        arith,
        eqb-false phase IDLE a,
        eqb-false phase LOOKING b,
        eqb-false phase LINKING c,
        eqb-false phase MARKING d,
      ))))))
      (λ _. tt))
