-- Linking and settling keep the invariant, and settling queues a job exactly when it waits for nothing.
use Rattle.std.specs.Prelude.{◌≡◌, refl, Bool, true, false, ◌&&◌, ◌||◌, ◌≢◌, List, [], ◌∷◌, ◌++◌, ℕ, ◌+◌, ◌-◌, ◌≤◌, ◌<◌, eqb, ltb, length, get_or, take}
use Rattle.std.proofs.Common.{sym, ap, ◌∙◌, arith, add-one, add-zero, eqb-true, ltb-true, ltb-false, length-append}
use Rattle.std.proofs.Math.Option.{none, none-ne-some}
use Rattle.std.proofs.Math.Decide.{ℕ_discrete}
use Rattle.std.proofs.lemmas.Bool.{eqb-false}
use Rattle.std.proofs.Math.ListN.{get_or-append}
use Rattle.std.proofs.Math.Seq.{get_or-append_seam}
use Rattle.def_basics.specs.Base.{occurrences}
use Rattle.def_basics.specs.Laws.{update_same, update_at, update_other}
use Rattle.def_terms.specs.Terms.{settles, finished, bit}
use Rattle.def_basics.specs.Counting.{hit, hit_same, hit_other}
use Rattle.def_basics.specs.Counting.{occurrences_take}
use Rattle.def_basics.specs.Counting.{occurrences_take_le, occurrences_drop_snoc, sum_at}
use Rattle.thm_rules_invariant.specs.Own.{owns_frame, owns_drop}
use Rattle.thm_rules_invariant.specs.State.{apart, adding, finishing, tag, State, link_finished, link_dependent}
use Rattle.thm_rules_invariant.specs.State.{settle}
use Rattle.thm_rules_invariant.specs.Invariant.{Invariant, unserved, Below, adding_injective, hit_if_same}
use Rattle.thm_rules_invariant.specs.Invariant.{hit_if_other}
use Rattle.thm_rules_invariant.specs.Invariant.{occurrences_enqueue, adding_there, prerequisites_there}
use Rattle.thm_rules_invariant.specs.Spoiling.{link_finished_spoiling, link_dependent_spoiling, settle_spoiling}

-- one more number that is below
below_snoc : (n : ℕ) (l : List ℕ) (x : ℕ) → Below n l → x < n → (i : ℕ) → i < length (l ++ (x ∷ []))
    → get_or (l ++ (x ∷ [])) i 0 < n
below_snoc n l x b h i r = elim (ℕ_discrete i (length l)) [
  | yes e ↦ rw (e, get_or-append_seam l x [] 0) h
  | no e ↦
      let z : i < length l = omega (arith, length-append l (x ∷ [])) in
      rw (get_or-append l (x ∷ []) 0 i z) (b.at i z)
]

module _ (s : State) (I : Invariant s) where
  -- ---- linking
  module _ (w j : ℕ) (f : s.stage w ≡ adding j) (h : s.linked j < length (s.prerequisites j)) where
    abbrev needed : ℕ
    needed = get_or (s.prerequisites j) (s.linked j) 0

    reach_at : (p : ℕ)
        → occurrences p (take (s.linked j + hit j j) (s.prerequisites j))
        ≡ occurrences p (take (s.linked j) (s.prerequisites j)) + hit p needed
    reach_at p = rw (hit_same j, add-one (s.linked j)) (occurrences_take p (s.prerequisites j) (s.linked j) h)

    reach_off : (p k : ℕ) → k ≢ j
        → occurrences p (take (s.linked k + hit k j) (s.prerequisites k))
        ≡ occurrences p (take (s.linked k) (s.prerequisites k))
    reach_off p k e = rw (hit_other k j e, add-zero (s.linked k)) refl

    linked_further : (k : ℕ) → s.linked k + hit k j ≤ length (s.prerequisites k)
    linked_further k = elim (ℕ_discrete k j) [
      | yes e ↦ rw e (omega (arith, hit_same j))
      | no e ↦ omega (arith, hit_other k j e, I.counts.linked_within k)
    ]

    busy : (k : ℕ) → s.adder k ≡ none → k ≢ j
    busy k e z = none-ne-some w (cc (I.adders.to w j f))

    -- the prerequisite is finished
    pub link_finished_keeps : s.label needed ≡ finished → Invariant (link_finished s j (s.failed needed))
    link_finished_keeps ready = record {
      spoiling = link_finished_spoiling s I j h reach_at reach_off;
      adders = I.adders;
      finishers = I.finishers;
      held_executing = I.held_executing;
      held_by = I.held_by;
      finisher_finished = I.finisher_finished;
      counts = record {
        count_within = I.counts.count_within;
        balance = λ k. omega (arith, I.counts.balance k);
        linked_within = linked_further;
        adder_done = λ k e. omega (arith, hit_other k j (busy k e), I.counts.adder_done k e);
      };
      arcs_within = I.arcs_within;
      bounds = I.bounds;
      finisher_done = I.finisher_done;
      served_none = I.served_none;
      served_within = I.served_within;
      gates = I.gates;
      queued = I.queued;
      arcs = λ p k u. elim (ℕ_discrete k j) [
        | yes e ↦ rw e (omega (arith, reach_at p, I.arcs p j u, hit_other p needed (λ z. u (ap s.label z ∙ ready))))
        | no e ↦ omega (arith, reach_off p k e, I.arcs p k u)
      ];
    }

    -- the prerequisite is not finished
    module _ (unready : s.label needed ≢ finished) where
      below : needed < s.size
      below = (prerequisites_there s I j).at (s.linked j) h

      abbrev after : State
      after = link_dependent s j needed

      arcs_at : (k : ℕ) → unserved after needed k ≡ unserved s needed k + hit k j
      arcs_at k = rw (update_same s.dependents needed (s.dependents needed ++ (j ∷ [])))
          (occurrences_drop_snoc k (s.dependents needed) (s.served needed) j (I.served_within needed))

      arcs_off : (r k : ℕ) → r ≢ needed → unserved after r k ≡ unserved s r k
      arcs_off r k e = rw (update_other s.dependents needed (s.dependents needed ++ (j ∷ [])) r e) refl

      arcs_after : (r k : ℕ) → s.label r ≢ finished
          → unserved after r k ≡ occurrences r (take (s.linked k + hit k j) (s.prerequisites k))
      arcs_after r k u = elim (ℕ_discrete r needed) [
        | yes e ↦ elim (ℕ_discrete k j) [
          | yes z ↦ rw (e, z)
              (omega (arith, arcs_at j, reach_at needed, hit_same j, hit_same needed, I.arcs needed j unready))
          | no z ↦ rw e (omega (arith, arcs_at k, reach_off needed k z, hit_other k j z, I.arcs needed k unready))
        ]
        | no e ↦ elim (ℕ_discrete k j) [
          | yes z ↦ rw z (omega (arith, arcs_off r j e, reach_at r, hit_other r needed e, I.arcs r j u))
          | no z ↦ omega (arith, arcs_off r k e, reach_off r k z, I.arcs r k u)
        ]
      ]

      pub link_dependent_keeps : Invariant after
      link_dependent_keeps = record {
        spoiling = link_dependent_spoiling s I j h reach_at reach_off unready arcs_off;
        adders = I.adders;
        finishers = I.finishers;
        held_executing = I.held_executing;
        held_by = I.held_by;
        finisher_finished = I.finisher_finished;
        served_none = I.served_none;
        counts = record {
          count_within = I.counts.count_within;
          balance = λ k. omega (
            arith,
            I.counts.balance k,
            arcs_at k,
            sum_at s.size (λ r. unserved s r k) (λ r. unserved after r k) needed below (λ r e. arcs_off r k e),
          );
          linked_within = linked_further;
          adder_done = λ k e. omega (arith, hit_other k j (busy k e), I.counts.adder_done k e);
        };
        arcs_within = λ r k. elim (ℕ_discrete r needed) [
          | yes e ↦ rw e (omega (
            arith,
            arcs_after needed k unready,
            occurrences_take_le needed (s.prerequisites k) (s.linked k + hit k j),
          ))
          | no e ↦ omega (arith, arcs_off r k e, I.arcs_within r k)
        ];
        bounds = record {
          prerequisites_earlier = I.bounds.prerequisites_earlier;
          new_prerequisites = I.bounds.new_prerequisites;
          new_adder = I.bounds.new_adder;
          dependents_there = λ r. record {
            at = λ i. elim (ℕ_discrete r needed) [
              | yes e ↦ rw (update_at s.dependents needed (s.dependents needed ++ (j ∷ [])) r e)
                  (below_snoc s.size (s.dependents needed) j (I.bounds.dependents_there needed)
                  (adding_there s I w j f) i)
              | no e ↦ rw (update_other s.dependents needed (s.dependents needed ++ (j ∷ [])) r e)
                  ((I.bounds.dependents_there r).at i)
            ];
          };
          new_dependents = λ r e. update_other s.dependents needed (s.dependents needed ++ (j ∷ [])) r
              (omega (arith, below)) ∙ I.bounds.new_dependents r e;
        };
        gates = I.gates;
        queued = I.queued;
        finisher_done = λ r e g. rw (update_other s.dependents needed (s.dependents needed ++ (j ∷ [])) r
            (λ z. unready (cc))) (I.finisher_done r e g);
        served_within = λ r. elim (ℕ_discrete r needed) [
          | yes e ↦ rw (e, update_same s.dependents needed (s.dependents needed ++ (j ∷ [])), length-append)
              (omega (arith, I.served_within needed))
          | no e ↦ rw (update_other s.dependents needed (s.dependents needed ++ (j ∷ [])) r e) (I.served_within r)
        ];
        arcs = arcs_after;
      }

  -- ---- settling
  pub settle_keeps : (w j : ℕ) (b : Bool) → s.stage w ≡ adding j → s.linked j ≡ length (s.prerequisites j)
      → s.queue_entries j + bit b ≡ 1 - (s.count j - s.tally j) → Invariant (settle s w j b)
  settle_keeps w j b f full hb = record {
    spoiling = settle_spoiling s I w j b;
    held_executing = I.held_executing;
    held_by = I.held_by;
    finisher_finished = I.finisher_finished;
    finisher_done = I.finisher_done;
    served_none = I.served_none;
    served_within = I.served_within;
    arcs = I.arcs;
    counts = record {
      linked_within = I.counts.linked_within;
      balance = λ k. elim (ℕ_discrete k j) [
        | yes e ↦ rw e (omega (
          arith,
          update_same s.count j (s.count j - s.tally j),
          update_same s.tally j 0,
          I.counts.balance j,
        ))
        | no e ↦ omega (
          arith,
          update_other s.count j (s.count j - s.tally j) k e,
          update_other s.tally j 0 k e,
          I.counts.balance k,
        )
      ];
      count_within = λ k. elim (ℕ_discrete k j) [
        | yes e ↦ rw e (omega (arith, update_same s.count j (s.count j - s.tally j), I.counts.count_within j))
        | no e ↦ omega (arith, update_other s.count j (s.count j - s.tally j) k e, I.counts.count_within k)
      ];
      adder_done = λ k a. elim (ℕ_discrete k j) [
        | yes e ↦ rw e (full, update_same s.tally j 0)
        | no e ↦ omega (
          arith,
          update_other s.tally j 0 k e,
          I.counts.adder_done k (sym (update_other s.adder j none k e) ∙ a),
        )
      ];
    };
    arcs_within = I.arcs_within;
    bounds = record {
      dependents_there = I.bounds.dependents_there;
      prerequisites_earlier = I.bounds.prerequisites_earlier;
      new_dependents = I.bounds.new_dependents;
      new_prerequisites = I.bounds.new_prerequisites;
      new_adder = λ k e. elim (ℕ_discrete k j) [
        | yes z ↦ update_at s.adder j none k z
        | no z ↦ update_other s.adder j none k z ∙ I.bounds.new_adder k e
      ];
    };
    adders = owns_drop adding s.stage s.adder I.adders w j apart adding_injective f
        (λ i e. omega (arith, ap tag e));
    finishers = owns_frame finishing s.stage s.finisher I.finishers w apart
        (λ i e. omega (arith, ap tag (sym f ∙ e))) (λ i e. omega (arith, ap tag e));
    gates = record {
      enters = λ k. elim (ℕ_discrete k j) [
        | yes e ↦ rw e (omega (
          arith,
          update_same s.count j (s.count j - s.tally j),
          update_same s.gate j 0,
          hit_if_same b j,
        ))
        | no e ↦ omega (
          arith,
          update_other s.count j (s.count j - s.tally j) k e,
          update_other s.gate j 0 k e,
          hit_if_other b k j e,
          I.gates.enters k,
        )
      ];
      gate_within = λ k. elim (ℕ_discrete k j) [
        | yes e ↦ rw e (omega (arith, update_same s.gate j 0))
        | no e ↦ omega (arith, update_other s.gate j 0 k e, I.gates.gate_within k)
      ];
      gate_new = λ k e. elim (ℕ_discrete k j) [
        | yes z ↦ absurd (none-ne-some w (cc (I.adders.to w j f, I.bounds.new_adder k e)))
        | no z ↦ update_other s.gate j 0 k z ∙ I.gates.gate_new k e
      ];
      gate_adding = λ k v a. elim (ℕ_discrete k j) [
        | yes e ↦ absurd (none-ne-some v (cc (update_at s.adder j none k e)))
        | no e ↦ update_other s.gate j 0 k e ∙ I.gates.gate_adding k v (cc (update_other s.adder j none k e))
      ];
      gate_settled = λ k l a. elim (ℕ_discrete k j) [
        | yes e ↦ update_at s.gate j 0 k e
        | no e ↦ update_other s.gate j 0 k e ∙ I.gates.gate_settled k l (cc (update_other s.adder j none k e))
      ];
    };
    queued = λ k. omega (arith, occurrences_enqueue b s.queue j k, I.queued k);
  }

-- whether a settled job is queued is right
module _ (x : State) (I : Invariant x) (w j : ℕ) (f : x.stage w ≡ adding j)
    (full : x.linked j ≡ length (x.prerequisites j)) where
  abbrev left : ℕ
  left = x.count j - x.tally j

  abbrev listing : ℕ
  listing = length (x.prerequisites j)

  by_tests : (a : Bool) → eqb left 0 ≡ a → (b : Bool) → ltb 0 (x.tally j) ≡ b → (c : Bool) → eqb listing 0 ≡ c
      → x.queue_entries j + bit (a && (b || c)) ≡ 1 - left
  by_tests false p b q c r = let more : left ≢ 0 = eqb-false left 0 p in omega (arith, I.gates.enters j)
  by_tests true p true q c r =
      omega (
        arith,
        I.gates.enters j,
        I.counts.balance j,
        I.gates.gate_adding j w (I.adders.to w j f),
        eqb-true left 0 p,
        ltb-true 0 (x.tally j) q,
      )
  by_tests true p false q true r =
      omega (
        arith,
        I.gates.enters j,
        I.counts.balance j,
        I.gates.gate_adding j w (I.adders.to w j f),
        eqb-true left 0 p,
        eqb-true listing 0 r,
      )
  by_tests true p false q false r =
      let more : listing ≢ 0 = eqb-false listing 0 r in
      omega (
        arith,
        I.gates.enters j,
        I.counts.balance j,
        I.gates.gate_adding j w (I.adders.to w j f),
        eqb-true left 0 p,
        ltb-false 0 (x.tally j) q,
      )

  pub settles_right : x.queue_entries j + bit (settles left (x.tally j) listing) ≡ 1 - left
  settles_right = by_tests (eqb left 0) refl (ltb 0 (x.tally j)) refl (eqb listing 0) refl
