-- Every action keeps the outcomes, spoiled words and notes right. No action makes a spoiled job unspoiled, and none
-- changes the spoiled word of a job that has entered the queue or the outcome of a job that is finished (docs/RULES.md,
-- "Outcomes").
use Rattle.std.specs.Prelude.{◌≡◌, refl, ◌≢◌, Bool, true, false, ◌||◌, List, ℕ, ◌+◌, ◌≤◌, ◌<◌, length, get_or, take}
use Rattle.std.proofs.Common.{sym, ap, ◌∙◌, true≢false, arith}
use Rattle.std.proofs.Math.Decide.{ℕ_discrete}
use Rattle.def_basics.specs.Base.{update, occurrences}
use Rattle.def_basics.specs.Laws.{update_same, update_at, update_other}
use Rattle.def_terms.specs.Terms.{Label, unexecuted, executing, finished, bit}
use Rattle.def_rules.specs.Sound.{started_by}
use Rattle.def_basics.specs.Counting.{hit, hit_same, hit_other, occurrences_nil, place_of}
use Rattle.thm_rules_invariant.specs.Tests.{or-true, or_none, lit, bit_left, bit_right, bit_both}
use Rattle.thm_rules_invariant.specs.State.{State, also, enter, link_finished, link_dependent, settle, hand, mark}
use Rattle.thm_rules_invariant.specs.State.{serve}
use Rattle.thm_rules_invariant.specs.Invariant.{Invariant, SomeFailed, SpoilingOf, unserved, unnoted, all_settled}
use Rattle.thm_rules_invariant.specs.Invariant.{executing_not_finished, finished_not_unexecuted}

-- ---- what is so of a job, and becomes so of one more
module _ (m : ℕ → Bool) (j : ℕ) (b : Bool) where
  also_keeps : (k : ℕ) → bit (m k) ≤ bit (also m j b k)
  also_keeps k = elim (ℕ_discrete k j) [
    | yes e ↦ rw e (omega (arith, ap bit (update_same m j (m j || b)), bit_left (m j) b))
    | no e ↦ omega (arith, ap bit (update_other m j (m j || b) k e))
  ]

  also_still : (k : ℕ) → m k ≡ true → also m j b k ≡ true
  also_still k e = lit (also m j b k) (omega (arith, also_keeps k, ap bit e))

  also_here : bit b ≤ bit (also m j b j)
  also_here = omega (arith, ap bit (update_same m j (m j || b)), bit_right (m j) b)

  also_true : {P : Type 0} (k : ℕ) → also m j b k ≡ true → (m k ≡ true → P) → (k ≡ j → b ≡ true → P) → P
  also_true k h f g = elim (ℕ_discrete k j) [
    | yes e ↦ or-true (m j) b (sym (update_at m j (m j || b) k e) ∙ h) (λ z. f (ap m e ∙ z)) (g e)
    | no e ↦ f (sym (update_other m j (m j || b) k e) ∙ h)
  ]

  also_nothing : (k : ℕ) → (k ≡ j → b ≡ false) → also m j b k ≡ m k
  also_nothing k h = elim (ℕ_discrete k j) [
    | yes e ↦ update_at m j (m j || b) k e ∙ or_none (m j) b (h e) ∙ ap m (sym e)
    | no e ↦ update_other m j (m j || b) k e
  ]

-- ---- what lasts
-- that a job is spoiled, the spoiled word of a job that has entered the queue, and the label and the outcome of a job
-- that is finished
pub record Lasts (queue_entries : ℕ → ℕ) (label label' : ℕ → Label) (failed failed' spoiled spoiled' : ℕ → Bool)
    : Type 0 where
  pub still : (j : ℕ) → spoiled j ≡ true → spoiled' j ≡ true
  pub spoiled_jobs : (j : ℕ) → 0 < queue_entries j → spoiled' j ≡ spoiled j
  pub labels : (j : ℕ) → label j ≡ finished → label' j ≡ finished
  pub outcomes : (j : ℕ) → label j ≡ finished → failed' j ≡ failed j

abbrev pub LastsFrom : State → State → Type 0
LastsFrom x y = Lasts x.queue_entries x.label y.label x.failed y.failed x.spoiled y.spoiled

pub lasts_same : (x : State) → LastsFrom x x
lasts_same x = record { still = λ j h. h; spoiled_jobs = λ j h. refl; labels = λ j h. h; outcomes = λ j h. refl }

module _ (s : State) (I : Invariant s) where
  finished_entered : (j : ℕ) → s.label j ≡ finished → 0 < s.queue_entries j
  finished_entered j e = omega (arith, I.queued j, ap started_by e)

  -- ---- entering
  abbrev fresh : ℕ
  fresh = s.size

  pub fresh_list : length (s.prerequisites fresh) ≡ 0
  fresh_list = ap length (I.bounds.new_prerequisites fresh (omega arith))

  pub fresh_linked : s.linked fresh ≡ 0
  fresh_linked = omega (arith, I.counts.linked_within fresh, fresh_list)

  module _ (w : ℕ) (ps : List ℕ) where
    -- a job with a failed prerequisite is not the new one
    old_failed : (k : ℕ) → SomeFailed s.failed (s.prerequisites k)
        → SomeFailed s.failed (update s.prerequisites fresh ps k)
    old_failed k o = elim (ℕ_discrete k fresh) [
      | yes e ↦ absurd (omega (arith, o.within, ap (λ (i : ℕ). length (s.prerequisites i)) e, fresh_list))
      | no e ↦ rw (update_other s.prerequisites fresh ps k e) o
    ]

    pub enter_spoiling : SpoilingOf (enter s w ps)
    enter_spoiling = record {
      complete = λ p k f h. elim (ℕ_discrete k fresh) [
        | yes e ↦ absurd (omega (arith, rw (e, fresh_linked) at h, occurrences_nil p))
        | no e ↦ I.spoiling.complete p k f (rw (update_other s.prerequisites fresh ps k e) at h)
      ];
      spoiled_rightly = λ k e. old_failed k (I.spoiling.spoiled_rightly k e);
      noted_rightly = λ k e. old_failed k (I.spoiling.noted_rightly k e);
      note_tallied = I.spoiling.note_tallied;
      failed_finished = I.spoiling.failed_finished;
      spoiled_fails = I.spoiling.spoiled_fails;
    }

  -- ---- linking
  module _ (j : ℕ) (h : s.linked j < length (s.prerequisites j))
      (reach_at : (p : ℕ)
      → occurrences p (take (s.linked j + hit j j) (s.prerequisites j))
      ≡ occurrences p (take (s.linked j) (s.prerequisites j))
      + hit p (get_or (s.prerequisites j) (s.linked j) 0))
      (reach_off : (p k : ℕ) → k ≢ j
      → occurrences p (take (s.linked k + hit k j) (s.prerequisites k))
      ≡ occurrences p (take (s.linked k) (s.prerequisites k))) where
    abbrev needed : ℕ
    needed = get_or (s.prerequisites j) (s.linked j) 0

    -- another prerequisite was linked before
    reached_before : (p k : ℕ) → (k ≡ j → p ≢ needed)
        → occurrences p (take (s.linked k + hit k j) (s.prerequisites k))
        ≡ occurrences p (take (s.linked k) (s.prerequisites k))
    reached_before p k o = elim (ℕ_discrete k j) [
      | yes e ↦ rw e (omega (arith, reach_at p, hit_other p needed (o e)))
      | no e ↦ reach_off p k e
    ]

    pub link_finished_spoiling : SpoilingOf (link_finished s j (s.failed needed))
    link_finished_spoiling =
        let b : Bool = s.failed needed in
        record {
          complete = λ p k f o. elim (ℕ_discrete k j) [
            | yes e ↦ elim (ℕ_discrete p needed) [
              | yes z ↦ rw e
                  (omega (arith, also_here s.noted j b, ap bit (ap s.failed (sym z) ∙ f)))
              | no z ↦ omega (
                arith,
                also_keeps s.noted j b k,
                I.spoiling.complete p k f (omega (arith, reached_before p k (λ u. z))),
              )
            ]
            | no e ↦ omega (
              arith,
              also_keeps s.noted j b k,
              I.spoiling.complete p k f (omega (arith, reached_before p k (λ u. absurd (e u)))),
            )
          ];
          spoiled_rightly = I.spoiling.spoiled_rightly;
          noted_rightly = λ k e. also_true s.noted j b k e (I.spoiling.noted_rightly k)
              (λ z f. rw z (record { place = s.linked j; within = h; there = f }));
          note_tallied = λ k. elim (ℕ_discrete k j) [
            | yes e ↦ rw e (omega (
              arith,
              hit_same j,
              ap bit (update_same s.noted j (s.noted j || b)),
              bit_both (s.noted j) b,
              I.spoiling.note_tallied j,
            ))
            | no e ↦ omega (
              arith,
              ap bit (update_other s.noted j (s.noted j || b) k e),
              I.spoiling.note_tallied k,
            )
          ];
          failed_finished = I.spoiling.failed_finished;
          spoiled_fails = I.spoiling.spoiled_fails;
        }

    -- the prerequisite is not finished, and has not failed
    pub link_dependent_spoiling : s.label needed ≢ finished
        → ((r k : ℕ) → r ≢ needed → unserved (link_dependent s j needed) r k ≡ unserved s r k)
        → SpoilingOf (link_dependent s j needed)
    link_dependent_spoiling unready arcs_off = record {
      complete = λ p k f o.
          let other : p ≢ needed = (λ z. unready (ap s.label (sym z) ∙ I.spoiling.failed_finished p f)) in
          omega (
            arith,
            arcs_off p k other,
            I.spoiling.complete p k f (omega (arith, reached_before p k (λ u. other))),
          );
      spoiled_rightly = I.spoiling.spoiled_rightly;
      noted_rightly = I.spoiling.noted_rightly;
      note_tallied = I.spoiling.note_tallied;
      failed_finished = I.spoiling.failed_finished;
      spoiled_fails = I.spoiling.spoiled_fails;
    }

  -- ---- settling
  module _ (w j : ℕ) (b : Bool) where
    abbrev n : Bool
    n = s.noted j

    -- nothing is noted of a job that has entered the queue
    entered_unnoted : (k : ℕ) → 0 < s.queue_entries k → also s.spoiled j n k ≡ s.spoiled k
    entered_unnoted k h = also_nothing s.spoiled j n k (λ e. unnoted s I j (all_settled s I j (rw e at h)))

    pub settle_spoiling : SpoilingOf (settle s w j b)
    settle_spoiling = record {
      complete = λ p k f o. elim (ℕ_discrete k j) [
        | yes e ↦ rw e (omega (
          arith,
          also_keeps s.spoiled j n j,
          also_here s.spoiled j n,
          I.spoiling.complete p j f (rw e at o),
        ))
        | no e ↦ omega (
          arith,
          also_keeps s.spoiled j n k,
          ap bit (update_other s.noted j false k e),
          I.spoiling.complete p k f o,
        )
      ];
      spoiled_rightly = λ k e. also_true s.spoiled j n k e (I.spoiling.spoiled_rightly k)
          (λ z f. rw z (I.spoiling.noted_rightly j f));
      noted_rightly = λ k e. elim (ℕ_discrete k j) [
        | yes z ↦ absurd (true≢false (sym e ∙ update_at s.noted j false k z))
        | no z ↦ I.spoiling.noted_rightly k (sym (update_other s.noted j false k z) ∙ e)
      ];
      note_tallied = λ k. elim (ℕ_discrete k j) [
        | yes e ↦ rw e (omega (arith, ap bit (update_same s.noted j false)))
        | no e ↦ omega (
          arith,
          ap bit (update_other s.noted j false k e),
          update_other s.tally j 0 k e,
          I.spoiling.note_tallied k,
        )
      ];
      failed_finished = I.spoiling.failed_finished;
      spoiled_fails = λ k l e. I.spoiling.spoiled_fails k l (sym (entered_unnoted k (finished_entered k l)) ∙ e);
    }

    pub settle_lasts : LastsFrom s (settle s w j b)
    settle_lasts = record {
      still = also_still s.spoiled j n;
      spoiled_jobs = entered_unnoted;
      labels = λ k h. h;
      outcomes = λ k h. refl;
    }

  -- ---- handing out
  module _ (w j : ℕ) (q : List ℕ) (waits : s.label j ≡ unexecuted) where
    not_taken : (p : ℕ) → s.label p ≡ finished → p ≢ j
    not_taken p z e = finished_not_unexecuted (cc (waits))

    pub hand_spoiling : SpoilingOf (hand s w j q)
    hand_spoiling = record {
      complete = I.spoiling.complete;
      spoiled_rightly = I.spoiling.spoiled_rightly;
      noted_rightly = I.spoiling.noted_rightly;
      note_tallied = I.spoiling.note_tallied;
      failed_finished = λ p f. let z = I.spoiling.failed_finished p f in
          update_other s.label j executing p (not_taken p z) ∙ z;
      spoiled_fails = λ k l e. elim (ℕ_discrete k j) [
        | yes z ↦ absurd (executing_not_finished (sym (update_at s.label j executing k z) ∙ l))
        | no z ↦ I.spoiling.spoiled_fails k (sym (update_other s.label j executing k z) ∙ l) e
      ];
    }

    pub hand_lasts : LastsFrom s (hand s w j q)
    hand_lasts = record {
      still = λ k h. h;
      spoiled_jobs = λ k h. refl;
      labels = λ k h. update_other s.label j executing k (not_taken k h) ∙ h;
      outcomes = λ k h. refl;
    }

  -- ---- marking
  module _ (w p : ℕ) (f : Bool) (out : s.label p ≡ executing) (right : f ≡ false → s.spoiled p ≡ false) where
    not_marked : (q : ℕ) → s.label q ≡ finished → q ≢ p
    not_marked q z e = executing_not_finished (cc (out))

    still_failed : (l : List ℕ) → SomeFailed s.failed l → SomeFailed (update s.failed p f) l
    still_failed l o =
        let q : ℕ = get_or l o.place 0 in
        record {
          place = o.place;
          within = o.within;
          there = update_other s.failed p f q (not_marked q (I.spoiling.failed_finished q o.there)) ∙ o.there;
        }

    by_outcome_lem : (b : Bool) → f ≡ b → s.spoiled p ≡ true → f ≡ true
    by_outcome_lem true e z = e
    by_outcome_lem false e z = absurd (true≢false (sym z ∙ right e))

    pub mark_spoiling : SpoilingOf (mark s w p f)
    mark_spoiling = record {
      complete = λ q k e o. elim (ℕ_discrete q p) [
        | yes z ↦ omega (
          arith,
          I.arcs q k (λ y. executing_not_finished (cc (out))),
        )
        | no z ↦ I.spoiling.complete q k (sym (update_other s.failed p f q z) ∙ e) o
      ];
      spoiled_rightly = λ k e. still_failed (s.prerequisites k) (I.spoiling.spoiled_rightly k e);
      noted_rightly = λ k e. still_failed (s.prerequisites k) (I.spoiling.noted_rightly k e);
      note_tallied = I.spoiling.note_tallied;
      failed_finished = λ q e. elim (ℕ_discrete q p) [
        | yes z ↦ update_at s.label p finished q z
        | no z ↦ update_other s.label p finished q z
            ∙ I.spoiling.failed_finished q (sym (update_other s.failed p f q z) ∙ e)
      ];
      spoiled_fails = λ k l e. elim (ℕ_discrete k p) [
        | yes z ↦ update_at s.failed p f k z ∙ by_outcome_lem f refl (ap s.spoiled (sym z) ∙ e)
        | no z ↦ update_other s.failed p f k z
            ∙ I.spoiling.spoiled_fails k (sym (update_other s.label p finished k z) ∙ l) e
      ];
    }

    pub mark_lasts : LastsFrom s (mark s w p f)
    mark_lasts = record {
      still = λ k h. h;
      spoiled_jobs = λ k h. refl;
      labels = λ k h. update_other s.label p finished k (not_marked k h) ∙ h;
      outcomes = λ k h. update_other s.failed p f k (not_marked k h);
    }

  -- ---- notifying
  module _ (p j : ℕ) (b : Bool) (counted : 0 < s.count j) (waits : 0 < unserved s p j) where
    abbrev f : Bool
    f = s.failed p

    abbrev after : State
    after = serve s p j b f

    not_entered : (k : ℕ) → 0 < s.queue_entries k → k ≢ j
    not_entered k h e = omega (arith, I.gates.enters j, ap s.queue_entries e)

    pub serve_spoiling : ((k : ℕ) → unserved s p k ≡ hit k j + unserved after p k)
        → ((r k : ℕ) → r ≢ p → unserved after r k ≡ unserved s r k) → SpoilingOf after
    serve_spoiling arcs_at arcs_off = record {
      complete = λ r k e o. elim (ℕ_discrete r p) [
        | yes z ↦ elim (ℕ_discrete k j) [
          | yes y ↦ rw y (omega (arith, also_here s.spoiled j f, ap bit (ap s.failed (sym z) ∙ e)))
          | no y ↦ rw z (omega (
            arith,
            also_keeps s.spoiled j f k,
            arcs_at k,
            hit_other k j y,
            I.spoiling.complete p k (ap s.failed (sym z) ∙ e) (rw z at o),
          ))
        ]
        | no z ↦ omega (arith, also_keeps s.spoiled j f k, arcs_off r k z, I.spoiling.complete r k e o)
      ];
      spoiled_rightly = λ k e. also_true s.spoiled j f k e (I.spoiling.spoiled_rightly k)
          (λ z y.
          let o = place_of p (s.prerequisites j) (omega (arith, I.arcs_within p j)) in
          rw z (record { place = o.place; within = o.within; there = ap s.failed o.there ∙ y }));
      noted_rightly = I.spoiling.noted_rightly;
      note_tallied = I.spoiling.note_tallied;
      failed_finished = I.spoiling.failed_finished;
      spoiled_fails = λ k l e. I.spoiling.spoiled_fails k l
          (sym (update_other s.spoiled j (s.spoiled j || f) k (not_entered k (finished_entered k l))) ∙ e);
    }

    pub serve_lasts : LastsFrom s after
    serve_lasts = record {
      still = also_still s.spoiled j f;
      spoiled_jobs = λ k h. update_other s.spoiled j (s.spoiled j || f) k (not_entered k h);
      labels = λ k h. h;
      outcomes = λ k h. refl;
    }
