-- Entering keeps the invariant.
use Rattle.std.specs.Prelude.{◌≡◌, List, ℕ, ◌-◌, length}
use Rattle.std.proofs.Common.{sym, ap, ◌∙◌, arith}
use Rattle.std.proofs.Math.Option.{some, none-ne-some}
use Rattle.std.proofs.Math.Decide.{ℕ_discrete}
use Rattle.std.proofs.Math.Seq.{drop-nil}
use Rattle.def_basics.specs.Base.{update, occurrences}
use Rattle.def_basics.specs.Laws.{update_same, update_at, update_other}
use Rattle.def_basics.specs.Counting.{occurrences_nil, sum_suc}
use Rattle.thm_rules_invariant.specs.Own.{owns_frame, owns_take}
use Rattle.thm_rules_invariant.specs.State.{apart, adding, finishing, tag, State, enter}
use Rattle.thm_rules_invariant.specs.Invariant.{Invariant, unserved, Below, adding_injective}
use Rattle.thm_rules_invariant.specs.Spoiling.{fresh_list, fresh_linked, enter_spoiling}

module _ (s : State) (I : Invariant s) where
  -- ---- entering
  module _ (w : ℕ) (ps : List ℕ) (f : s.stage w ≡ apart) (there : Below s.size ps) where
    abbrev fresh : ℕ
    fresh = s.size

    fresh_arcs_lem : (k : ℕ) → unserved s fresh k ≡ 0
    fresh_arcs_lem k = rw (I.bounds.new_dependents fresh (omega arith), drop-nil (s.served fresh)) (occurrences_nil k)

    fresh_gate : (k : ℕ) → k ≡ fresh
        → update s.gate fresh (1 - length ps) k ≡ 1 - length (update s.prerequisites fresh ps k)
    fresh_gate k e = rw (update_at s.gate fresh (1 - length ps) k e, update_at s.prerequisites fresh ps k e)

    pub enter_keeps : Invariant (enter s w ps)
    enter_keeps = record {
      held_executing = I.held_executing;
      held_by = I.held_by;
      finisher_finished = I.finisher_finished;
      finisher_done = I.finisher_done;
      served_none = I.served_none;
      served_within = I.served_within;
      queued = I.queued;
      spoiling = enter_spoiling s I w ps;
      counts = record {
        balance = λ k. elim (ℕ_discrete k fresh) [
          | yes e ↦ rw e (omega (
            arith,
            update_same s.count fresh (length ps),
            ap length (update_same s.prerequisites fresh ps),
            I.counts.balance fresh,
            I.counts.count_within fresh,
            fresh_linked s I,
            fresh_list s I,
            sum_suc fresh (λ p. unserved s p fresh),
            fresh_arcs_lem fresh,
          ))
          | no e ↦ omega (
            arith,
            update_other s.count fresh (length ps) k e,
            ap length (update_other s.prerequisites fresh ps k e),
            I.counts.balance k,
            sum_suc fresh (λ p. unserved s p k),
            fresh_arcs_lem k,
          )
        ];
        count_within = λ k. elim (ℕ_discrete k fresh) [
          | yes e ↦ rw e (omega (
            arith,
            update_same s.count fresh (length ps),
            ap length (update_same s.prerequisites fresh ps),
          ))
          | no e ↦ omega (
            arith,
            update_other s.count fresh (length ps) k e,
            ap length (update_other s.prerequisites fresh ps k e),
            I.counts.count_within k,
          )
        ];
        linked_within = λ k. elim (ℕ_discrete k fresh) [
          | yes e ↦ rw e (omega (arith, fresh_linked s I))
          | no e ↦ omega (arith, ap length (update_other s.prerequisites fresh ps k e), I.counts.linked_within k)
        ];
        adder_done = λ k a. elim (ℕ_discrete k fresh) [
          | yes e ↦ absurd (none-ne-some w (cc (update_at s.adder fresh (some w) k e)))
          | no e ↦ omega (
            arith,
            ap length (update_other s.prerequisites fresh ps k e),
            I.counts.adder_done k (sym (update_other s.adder fresh (some w) k e) ∙ a),
          )
        ];
      };
      arcs_within = λ p k. elim (ℕ_discrete k fresh) [
        | yes e ↦ rw e (omega (
          arith,
          I.arcs_within p fresh,
          ap (occurrences p) (I.bounds.new_prerequisites fresh (omega arith)),
          occurrences_nil p,
        ))
        | no e ↦ rw (update_other s.prerequisites fresh ps k e) (I.arcs_within p k)
      ];
      bounds = record {
        dependents_there = λ p. record { at = λ i l. omega (arith, (I.bounds.dependents_there p).at i l) };
        prerequisites_earlier = λ k. elim (ℕ_discrete k fresh) [
          | yes e ↦ rw (e, update_same s.prerequisites fresh ps) there
          | no e ↦ rw (update_other s.prerequisites fresh ps k e) (I.bounds.prerequisites_earlier k)
        ];
        new_dependents = λ k l. I.bounds.new_dependents k (omega arith);
        new_prerequisites = λ k l. update_other s.prerequisites fresh ps k (omega arith)
            ∙ I.bounds.new_prerequisites k (omega arith);
        new_adder = λ k l. update_other s.adder fresh (some w) k (omega arith)
            ∙ I.bounds.new_adder k (omega arith);
      };
      adders = owns_take adding s.stage s.adder I.adders w fresh adding_injective
          (λ i e. omega (arith, ap tag (sym f ∙ e)))
          (λ v e. none-ne-some v (cc (I.bounds.new_adder fresh (omega arith))));
      finishers = owns_frame finishing s.stage s.finisher I.finishers w (adding fresh)
          (λ i e. omega (arith, ap tag (sym f ∙ e))) (λ i e. omega (arith, ap tag e));
      arcs = λ p k u. elim (ℕ_discrete k fresh) [
        | yes e ↦ rw (e, fresh_linked s I) (rw (fresh_linked s I) at (I.arcs p fresh u))
        | no e ↦ rw (update_other s.prerequisites fresh ps k e) (I.arcs p k u)
      ];
      gates = record {
        enters = λ k. elim (ℕ_discrete k fresh) [
          | yes e ↦ rw e (omega (
            arith,
            update_same s.count fresh (length ps),
            update_same s.gate fresh (1 - length ps),
            I.gates.enters fresh,
            I.gates.gate_new fresh (omega arith),
          ))
          | no e ↦ omega (
            arith,
            update_other s.count fresh (length ps) k e,
            update_other s.gate fresh (1 - length ps) k e,
            I.gates.enters k,
          )
        ];
        gate_within = λ k. elim (ℕ_discrete k fresh) [
          | yes e ↦ omega (arith, fresh_gate k e)
          | no e ↦
              rw (update_other s.gate fresh (1 - length ps) k e, update_other s.prerequisites fresh ps k e)
              (I.gates.gate_within k)
        ];
        gate_new = λ k l. update_other s.gate fresh (1 - length ps) k (omega arith)
            ∙ I.gates.gate_new k (omega arith);
        gate_adding = λ k v a. elim (ℕ_discrete k fresh) [
          | yes e ↦ fresh_gate k e
          | no e ↦
              rw (update_other s.gate fresh (1 - length ps) k e, update_other s.prerequisites fresh ps k e)
              (I.gates.gate_adding k v (sym (update_other s.adder fresh (some w) k e) ∙ a))
        ];
        gate_settled = λ k l a. elim (ℕ_discrete k fresh) [
          | yes e ↦ absurd (none-ne-some w (cc (update_at s.adder fresh (some w) k e)))
          | no e ↦ update_other s.gate fresh (1 - length ps) k e
              ∙ I.gates.gate_settled k (omega arith) (sym (update_other s.adder fresh (some w) k e) ∙ a)
        ];
      };
    }
