-- Handing out, marking, notifying and ending a finish keep the invariant.
use Rattle.std.specs.Prelude.{◌≡◌, refl, ◌≢◌, Bool, false, List, ℕ, suc, ◌+◌, ◌-◌, ◌≤◌, ◌<◌, length, get_or}
use Rattle.std.proofs.Common.{sym, ap, ◌∙◌, arith}
use Rattle.std.proofs.Math.Option.{none, some, none-ne-some, some-injective}
use Rattle.std.proofs.Math.Decide.{ℕ_discrete, dec_lt}
use Rattle.def_basics.specs.Base.{update, occurrences}
use Rattle.def_basics.specs.Laws.{update_same, update_at, update_other}
use Rattle.def_terms.specs.Terms.{unexecuted, executing, finished, bit}
use Rattle.def_rules.specs.Sound.{started_by}
use Rattle.def_basics.specs.Counting.{hit, hit_same, hit_other}
use Rattle.def_basics.specs.Counting.{occurrences_drop, sum, sum_at}
use Rattle.thm_rules_invariant.specs.Own.{owns_frame, owns_take, owns_drop}
use Rattle.thm_rules_invariant.specs.State.{apart, adding, finishing, tag, State, hand, mark, serve, close}
use Rattle.thm_rules_invariant.specs.Invariant.{Invariant, unserved, finishing_injective, finished_not_unexecuted}
use Rattle.thm_rules_invariant.specs.Invariant.{executing_not_unexecuted, executing_not_finished, started_by_none}
use Rattle.thm_rules_invariant.specs.Invariant.{hit_if_same, hit_if_other, occurrences_enqueue, once}
use Rattle.thm_rules_invariant.specs.Spoiling.{hand_spoiling, mark_spoiling, serve_spoiling}

module _ (s : State) (I : Invariant s) where
  -- ---- handing out
  module _ (w j : ℕ) (q : List ℕ)
      (out_occurrences : (k : ℕ) → occurrences k s.queue ≡ hit k j + occurrences k q) where
    pub out_waits : s.label j ≡ unexecuted
    out_waits = started_by_none (s.label j) (omega (arith, out_occurrences j, hit_same j, I.queued j, once s I j))

    taken_finished : (p : ℕ) → s.label p ≡ finished → p ≢ j
    taken_finished p z e = finished_not_unexecuted (cc out_waits)

    taken_held : (v i : ℕ) → s.held v ≡ some i → i ≢ j
    taken_held v i z e = executing_not_unexecuted (cc (out_waits, I.held_executing v i z))

    taken_unfinished : (p : ℕ) → update s.label j executing p ≢ finished → s.label p ≢ finished
    taken_unfinished p u z = u (cc (update_other s.label j executing p (taken_finished p z)))

    pub hand_keeps : Invariant (hand s w j q)
    hand_keeps = record {
      spoiling = hand_spoiling s I w j q out_waits;
      adders = I.adders;
      finishers = I.finishers;
      served_within = I.served_within;
      counts = I.counts;
      arcs_within = I.arcs_within;
      bounds = I.bounds;
      gates = I.gates;
      held_executing = λ v i e. elim (ℕ_discrete v w) [
        | yes y ↦ update_at s.label j executing i
            (some-injective i j (cc (update_at s.held w (some j) v y)))
        | no y ↦
            let o : s.held v ≡ some i = cc (update_other s.held w (some j) v y) in
            update_other s.label j executing i (taken_held v i o) ∙ I.held_executing v i o
      ];
      held_by = λ v i e. elim (ℕ_discrete v w) [
        | yes y ↦ let z : i ≡ j = some-injective i j (cc (update_at s.held w (some j) v y)) in
            update_at s.holder j w i z ∙ sym y
        | no y ↦
            let o : s.held v ≡ some i = cc (update_other s.held w (some j) v y) in
            update_other s.holder j w i (taken_held v i o) ∙ I.held_by v i o
      ];
      finisher_finished = λ v p e. update_other s.label j executing p
          (taken_finished p (I.finisher_finished v p e)) ∙ I.finisher_finished v p e;
      finisher_done = λ p e g. elim (ℕ_discrete p j) [
        | yes z ↦ absurd (executing_not_finished (cc (update_at s.label j executing p z)))
        | no z ↦ I.finisher_done p e (cc (update_other s.label j executing p z))
      ];
      served_none = λ p u. I.served_none p (taken_unfinished p u);
      arcs = λ p k u. I.arcs p k (taken_unfinished p u);
      queued = λ k. elim (ℕ_discrete k j) [
        | yes e ↦ rw e (omega (
          arith,
          out_occurrences j,
          hit_same j,
          ap started_by (update_same s.label j executing),
          ap started_by out_waits,
          I.queued j,
        ))
        | no e ↦ omega (
          arith,
          out_occurrences k,
          hit_other k j e,
          ap started_by (update_other s.label j executing k e),
          I.queued k,
        )
      ];
    }

  -- ---- marking
  module _ (w p : ℕ) (f : s.stage w ≡ apart) (hw : s.held w ≡ some p) where
    pub marked_executing : s.label p ≡ executing
    marked_executing = I.held_executing w p hw

    marked_unfinished : (r : ℕ) → update s.label p finished r ≢ finished → s.label r ≢ finished
    marked_unfinished r u z = elim
        (ℕ_discrete r p) [
          | yes e ↦ u (update_at s.label p finished r e)
          | no e ↦ u (cc (update_other s.label p finished r e))
        ]

    still_held : (v i : ℕ) → update s.held w none v ≡ some i → (s.held v ≡ some i) × (i ≢ p)
    still_held v i e = elim (ℕ_discrete v w) [
      | yes y ↦ absurd (none-ne-some i (cc (update_at s.held w none v y)))
      | no y ↦
          let o : s.held v ≡ some i = cc (update_other s.held w none v y) in
          (o, λ z. y (cc (I.held_by v i o, I.held_by w p hw)))
    ]

    pub mark_keeps : (b : Bool) → (b ≡ false → s.spoiled p ≡ false) → Invariant (mark s w p b)
    mark_keeps b right = record {
      spoiling = mark_spoiling s I w p b marked_executing right;
      served_within = I.served_within;
      counts = I.counts;
      arcs_within = I.arcs_within;
      bounds = I.bounds;
      gates = I.gates;
      adders = owns_frame adding s.stage s.adder I.adders w (finishing p)
          (λ i e. omega (arith, ap tag (sym f ∙ e))) (λ i e. omega (arith, ap tag e));
      finishers = owns_take finishing s.stage s.finisher I.finishers w p finishing_injective
          (λ i e. omega (arith, ap tag (sym f ∙ e)))
          (λ v e. executing_not_finished (cc (marked_executing, I.finisher_finished v p e)));
      held_executing = λ v i e. let o = still_held v i e in
          update_other s.label p finished i o.1 ∙ I.held_executing v i o.0;
      held_by = λ v i e. I.held_by v i (still_held v i e).0;
      finisher_finished = λ v r e. elim (ℕ_discrete r p) [
        | yes z ↦ update_at s.label p finished r z
        | no z ↦ update_other s.label p finished r z
            ∙ I.finisher_finished v r (cc (update_other s.finisher p (some w) r z))
      ];
      finisher_done = λ r e g. elim (ℕ_discrete r p) [
        | yes z ↦ absurd (none-ne-some w (cc (update_at s.finisher p (some w) r z)))
        | no z ↦ I.finisher_done r (cc (update_other s.finisher p (some w) r z))
            (cc (update_other s.label p finished r z))
      ];
      served_none = λ r u. I.served_none r (marked_unfinished r u);
      arcs = λ r k u. I.arcs r k (marked_unfinished r u);
      queued = λ k. elim (ℕ_discrete k p) [
        | yes e ↦ rw e (omega (
          arith,
          ap started_by (update_same s.label p finished),
          ap started_by marked_executing,
          I.queued p,
        ))
        | no e ↦ omega (arith, ap started_by (update_other s.label p finished k e), I.queued k)
      ];
    }

  -- ---- notifying
  module _ (w p j : ℕ) (b : Bool) (f : s.stage w ≡ finishing p) (h : s.served p < length (s.dependents p))
      (at_j : get_or (s.dependents p) (s.served p) 0 ≡ j) where
    abbrev after : State
    after = serve s p j b (s.failed p)

    served_finished : s.label p ≡ finished
    served_finished = I.finisher_finished w p (I.finishers.to w p f)

    served_there : p < s.size
    served_there = elim (dec_lt p s.size) [
      | yes z ↦ z
      | no z ↦ absurd (omega (arith, ap length (I.bounds.new_dependents p (omega arith))))
    ]

    arcs_at : (k : ℕ) → unserved s p k ≡ hit k j + unserved after p k
    arcs_at k = rw (update_same s.served p (suc (s.served p)), ← at_j)
        (occurrences_drop k (s.dependents p) (s.served p) h)

    arcs_off : (r k : ℕ) → r ≢ p → unserved after r k ≡ unserved s r k
    arcs_off r k e = rw (update_other s.served p (suc (s.served p)) r e) refl

    arcs_sum : (k : ℕ) → sum s.size (λ r. unserved s r k) ≡ hit k j + sum s.size (λ r. unserved after r k)
    arcs_sum k = omega (
      arith,
      arcs_at k,
      sum_at s.size (λ r. unserved s r k) (λ r. unserved after r k) p served_there (λ r e. arcs_off r k e),
    )

    pub served_counted : 0 < s.count j
    served_counted = omega (arith, I.counts.balance j, I.counts.linked_within j, arcs_sum j, hit_same j)

    pub serve_waits : 0 < unserved s p j
    serve_waits = omega (arith, arcs_at j, hit_same j)

    pub serve_keeps : s.queue_entries j + bit b ≡ 1 - ((s.count j - 1) + s.gate j) → Invariant after
    serve_keeps hb = record {
      spoiling = serve_spoiling s I p j b served_counted serve_waits arcs_at arcs_off;
      adders = I.adders;
      finishers = I.finishers;
      held_executing = I.held_executing;
      held_by = I.held_by;
      finisher_finished = I.finisher_finished;
      bounds = I.bounds;
      counts = record {
        linked_within = I.counts.linked_within;
        adder_done = I.counts.adder_done;
        balance = λ k. omega (arith, I.counts.balance k, I.counts.linked_within k, arcs_sum k);
        count_within = λ k. omega (arith, I.counts.count_within k);
      };
      arcs_within = λ r k. elim (ℕ_discrete r p) [
        | yes z ↦ rw z (omega (arith, arcs_at k, I.arcs_within p k))
        | no z ↦ omega (arith, arcs_off r k z, I.arcs_within r k)
      ];
      gates = record {
        gate_within = I.gates.gate_within;
        gate_new = I.gates.gate_new;
        gate_adding = I.gates.gate_adding;
        gate_settled = I.gates.gate_settled;
        enters = λ k. elim (ℕ_discrete k j) [
          | yes e ↦ rw e (omega (arith, hit_same j, hit_if_same b j))
          | no e ↦ omega (arith, hit_other k j e, hit_if_other b k j e, I.gates.enters k)
        ];
      };
      finisher_done = λ r e g. elim (ℕ_discrete r p) [
        | yes z ↦ absurd (none-ne-some w (cc (I.finishers.to w p f)))
        | no z ↦ update_other s.served p (suc (s.served p)) r z ∙ I.finisher_done r e g
      ];
      served_none = λ r u. update_other s.served p (suc (s.served p)) r (λ z. u (cc served_finished))
          ∙ I.served_none r u;
      served_within = λ r. elim (ℕ_discrete r p) [
        | yes z ↦ rw (z, update_same s.served p (suc (s.served p))) h
        | no z ↦ rw (update_other s.served p (suc (s.served p)) r z) (I.served_within r)
      ];
      arcs = λ r k u. arcs_off r k (λ z. u (cc served_finished)) ∙ I.arcs r k u;
      queued = λ k. omega (arith, occurrences_enqueue b s.queue j k, I.queued k);
    }

  -- ---- ending
  pub close_keeps : (w p : ℕ) → s.stage w ≡ finishing p → length (s.dependents p) ≤ s.served p
      → Invariant (close s w p)
  close_keeps w p f h = record {
    spoiling = I.spoiling;
    held_executing = I.held_executing;
    held_by = I.held_by;
    served_none = I.served_none;
    served_within = I.served_within;
    counts = I.counts;
    arcs_within = I.arcs_within;
    bounds = I.bounds;
    arcs = I.arcs;
    gates = I.gates;
    queued = I.queued;
    adders = owns_frame adding s.stage s.adder I.adders w apart (λ i e. omega (arith, ap tag (sym f ∙ e)))
        (λ i e. omega (arith, ap tag e));
    finishers = owns_drop finishing s.stage s.finisher I.finishers w p apart finishing_injective f
        (λ i e. omega (arith, ap tag e));
    finisher_finished = λ v r e. elim (ℕ_discrete r p) [
      | yes z ↦ absurd (none-ne-some v (cc (update_at s.finisher p none r z)))
      | no z ↦ I.finisher_finished v r (cc (update_other s.finisher p none r z))
    ];
    finisher_done = λ r e g. elim (ℕ_discrete r p) [
      | yes z ↦ rw z (omega (arith, I.served_within p))
      | no z ↦ I.finisher_done r (cc (update_other s.finisher p none r z)) g
    ];
  }
