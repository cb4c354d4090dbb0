-- The entries of every history: at most one for each job, only after all its prerequisites are finished, and one once
-- its add and the finishes of its prerequisites have ended (docs/RULES.md, demand 3, "count of entries"). And a job is
-- spoiled once its add and the failed finish of a prerequisite have ended.
use Rattle.std.specs.Prelude.{◌≡◌, true, ℕ, ◌<◌, length, get_or}
use Rattle.std.proofs.Common.{sym, ap, ◌∙◌, arith, drop_of_length-le}
use Rattle.std.proofs.Math.Option.{none}
use Rattle.std.proofs.Math.Decide.{dec_lt}
use Rattle.def_basics.specs.Base.{contains, occurrences}
use Rattle.def_terms.specs.Terms.{finished}
use Rattle.def_terms.specs.declared.Sizes.{Sizes}
use Rattle.def_rules.specs.Rules.{Graph, job, find, at}
use Rattle.def_call_order.specs.Calls.{Reading}
use Rattle.thm_rules_history.specs.History as history
use Rattle.thm_rules_history.specs.History.{History}
use Rattle.def_basics.specs.Counting.{occurrences_nil, place_of, sum_zero}
use Rattle.thm_rules_invariant.specs.State.{State}
use Rattle.thm_rules_invariant.specs.Invariant.{Invariant, unserved, once, entered_there, spoiled_by_lem}
use Rattle.thm_rules_invariant.specs.Names.{at_injective, sought_there}
use Rattle.thm_rules_invariant.specs.Relation.{Kept}
use Rattle.thm_rules_invariant.specs.Start.{reached}
use Rattle.thm_rules_invariant.specs.Sound.{prerequisites_finished}

module _ (s : Sizes) (g : Graph) (r : Reading) (x : State) (K : Kept s g r x) (I : Invariant x) where
  -- a finish that is over has notified every dependent
  pub all_served : (p j : ℕ) → x.label p ≡ finished → x.finisher p ≡ none → unserved x p j ≡ 0
  all_served p j f e =
      rw (drop_of_length-le (x.dependents p) {i = x.served p} (omega (arith, I.finisher_done p e f)))
      (occurrences_nil j)

  -- so has one that was read as ended, by the name of its job
  finish_served : (name p j : ℕ) → find g name ≡ at p → contains name r.finished ≡ true → unserved x p j ≡ 0
  finish_served name p j found ended =
      let o = K.finished name ended in
      let same : o.job ≡ p = at_injective o.job p (sym o.found ∙ found) in
      all_served p j (ap x.label (sym same) ∙ o.finished) (ap x.finisher (sym same) ∙ o.ended)

  module _ (j : ℕ) (there : j < length g.jobs) (added : contains (job g j).name r.added ≡ true) where
    no_adder : x.adder j ≡ none
    no_adder =
        let o = K.added (job g j).name added in
        let same : o.job ≡ j = at_injective o.job j
        (sym o.found ∙ (K.jobs j).known.named (omega (arith, K.size))) in
        ap x.adder (sym same) ∙ o.ended

    -- ---- the mark
    module _ (p i : ℕ) (l : i < length (job g j).list) (found : find g (get_or (job g j).list i 0) ≡ at p)
        (ended : contains (job g p).name r.finished ≡ true) (failed : (job g p).failed ≡ true) where
      ended_served : unserved x p j ≡ 0
      ended_served =
          let below : p < x.size = omega (arith, K.size, sought_there (get_or (job g j).list i 0) g.jobs p found) in
          finish_served (job g p).name p j ((K.jobs p).known.named below) ended

      pub ended_spoiled : (job g j).spoiled ≡ true
      ended_spoiled =
          let same : p ≡ get_or (x.prerequisites j) i 0 =
          at_injective p (get_or (x.prerequisites j) i 0) (sym found ∙ (K.jobs j).known.found i l) in
          let done = I.counts.adder_done j no_adder in
          (K.jobs j).spoiled ∙ spoiled_by_lem x I j done.0 done.1 i (omega (arith, (K.jobs j).known.same_length))
          (rw (← same) ended_served) (ap x.failed (sym same) ∙ sym (K.jobs p).failed ∙ failed)

    -- ---- the entry into the queue
    module _ (ended : (i : ℕ) → i < length (job g j).list
        → contains (get_or (job g j).list i 0) r.finished ≡ true) where
      prerequisite_served : (i : ℕ) → i < length (x.prerequisites j)
          → unserved x (get_or (x.prerequisites j) i 0) j ≡ 0
      prerequisite_served i h =
          let l : i < length (job g j).list = omega (arith, (K.jobs j).known.same_length) in
          finish_served (get_or (job g j).list i 0) (get_or (x.prerequisites j) i 0) j ((K.jobs j).known.found i l)
          (ended i l)

      none_unserved : (p : ℕ) → unserved x p j ≡ 0
      none_unserved p = elim (dec_lt 0 (occurrences p (x.prerequisites j))) [
        | yes h ↦ let o = place_of p (x.prerequisites j) h in
            rw (← o.there) (prerequisite_served o.place o.within)
        | no h ↦ omega (arith, I.arcs_within p j)
      ]

      pub entered_once : x.queue_entries j ≡ 1
      entered_once =
          omega (
            arith,
            I.gates.enters j,
            I.counts.balance j,
            I.counts.adder_done j no_adder,
            I.gates.gate_settled j (omega (arith, K.size)) no_adder,
            sum_zero x.size (λ p. unserved x p j) none_unserved,
          )

pub counted : {s : Sizes} {g : Graph} {r : Reading} {e : ℕ → ℕ} → History s g r e → history.Counted g r e
counted {s} {g} {r} {e} told =
    let o = reached told in
    let x : State = o.state in
    record {
      once = λ j. omega (arith, o.queue_entries j, once x o.invariant j);
      there = λ j h. omega (arith, o.kept.size, entered_there x o.invariant j (omega (arith, o.queue_entries j)));
      after_prerequisites = λ j h. prerequisites_finished s g r x o.kept o.invariant j
          (omega (arith, o.queue_entries j));
      when_ended = λ j h a f. o.queue_entries j ∙ entered_once s g r x o.kept o.invariant j h a f;
    }

pub spoiled_by_then : {s : Sizes} {g : Graph} {r : Reading} {e : ℕ → ℕ} → History s g r e → history.Spoiled g r
spoiled_by_then {s} {g} {r} told j p i there added =
    let o = reached told in
    ended_spoiled s g r o.state o.kept o.invariant j there added p i
