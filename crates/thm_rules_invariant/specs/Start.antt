-- Every history is reached: the empty graph stands for the empty maps, and every item keeps step.
use Rattle.std.specs.Prelude.{◌≡◌, refl, ◌≢◌, true, false, [], ℕ}
use Rattle.std.proofs.Common.{ap, arith}
use Rattle.std.proofs.lemmas.Bool.{false≢true}
use Rattle.std.proofs.Math.Option.{none, none-ne-some}
use Rattle.def_basics.specs.Base.{contains}
use Rattle.def_minutes.specs.Minutes.{fixed_minutes}
use Rattle.def_minutes.specs.Rising.{rises_above, is_rising}
use Rattle.def_terms.specs.Terms.{unexecuted}
use Rattle.def_terms.specs.declared.Sizes.{Sizes}
use Rattle.def_rules.specs.Rules.{Graph, empty}
use Rattle.def_call_order.specs.Calls.{Reading, unread}
use Rattle.thm_rules_history.specs.History.{History, start, then}
use Rattle.def_basics.specs.Counting.{occurrences_nil, sum}
use Rattle.thm_rules_invariant.specs.State.{State, apart, tag}
use Rattle.thm_rules_invariant.specs.Invariant.{Invariant}
use Rattle.thm_rules_invariant.specs.Relation.{Reached}
use Rattle.thm_rules_invariant.specs.Steps.{performs}

-- ---- from the empty graph
abbrev blank : State
blank = record {
  size = 0;
  label = λ j. unexecuted;
  count = λ j. 0;
  dependents = λ j. [];
  queue = [];
  held = λ w. none;
  stage = λ w. apart;
  prerequisites = λ j. [];
  linked = λ j. 0;
  tally = λ j. 0;
  served = λ j. 0;
  queue_entries = λ j. 0;
  gate = λ j. 1;
  adder = λ j. none;
  finisher = λ j. none;
  holder = λ j. 0;
  failed = λ j. false;
  spoiled = λ j. false;
  noted = λ j. false;
}

blank_invariant : Invariant blank
unfolding sum
blank_invariant = record {
  adders = record { to = λ w j e. absurd (omega (arith, ap tag e)); of = λ w j e. absurd (none-ne-some w e) };
  finishers = record { to = λ w j e. absurd (omega (arith, ap tag e)); of = λ w j e. absurd (none-ne-some w e) };
  held_executing = λ w j e. absurd (none-ne-some j e);
  held_by = λ w j e. absurd (none-ne-some j e);
  finisher_finished = λ w p e. absurd (none-ne-some w e);
  finisher_done = λ p e f. refl;
  served_none = λ p u. refl;
  served_within = λ p. omega arith;
  counts = record {
    balance = λ j. omega arith;
    count_within = λ j. omega arith;
    linked_within = λ j. omega arith;
    adder_done = λ j e. (refl, refl);
  };
  arcs_within = λ p j. omega (arith, occurrences_nil j);
  arcs = λ p j u. simp occurrences_nil;
  bounds = record {
    prerequisites_earlier = λ j. record { at = λ i h. omega arith };
    dependents_there = λ p. record { at = λ i h. omega arith };
    new_dependents = λ p h. refl;
    new_prerequisites = λ j h. refl;
    new_adder = λ j h. refl;
  };
  gates = record {
    enters = λ j. refl;
    gate_within = λ j. omega arith;
    gate_new = λ j h. refl;
    gate_adding = λ j w e. absurd (none-ne-some w e);
    gate_settled = λ j h e. absurd (omega arith);
  };
  spoiling = record {
    complete = λ p j e h. absurd (false≢true e);
    spoiled_rightly = λ j e. absurd (false≢true e);
    noted_rightly = λ j e. absurd (false≢true e);
    note_tallied = λ j. omega arith;
    failed_finished = λ p e. absurd (false≢true e);
    spoiled_fails = λ j l e. absurd (false≢true e);
  };
  queued = λ j. omega (arith, occurrences_nil j);
}

no_name : (name : ℕ) → contains name [] ≢ true
unfolding contains
no_name name e = let z : ◌≡◌ {A = ℕ} 0 1 = cc in omega arith

pub reached : {s : Sizes} {g : Graph} {r : Reading} {e : ℕ → ℕ} → History s g r e → Reached s g r e
unfolding empty unread is_rising rises_above fixed_minutes
reached {s} start = record {
  state = blank;
  invariant = blank_invariant;
  queue_entries = λ k. refl;
  kept = record {
    jobs_room = omega arith;
    arcs_room = omega arith;
    minutes = refl;
    size = refl;
    queue = refl;
    jobs = λ k. record {
      label = refl;
      count = refl;
      dependents = refl;
      failed = refl;
      spoiled = refl;
      known = record {
        named = λ h. absurd (omega arith);
        same_length = refl;
        short = omega arith;
        within = omega arith;
        found = λ i h. absurd (omega arith);
      };
    };
    workers = λ v. record { held = refl; stage = refl; call = tt; paced = refl };
    added = λ name e. absurd (no_name name e);
    finished = λ name e. absurd (no_name name e);
  };
}
reached {s} (then {g} {r} {e} history i) =
    let o = reached history in
    let n = performs s g r o.state o.kept o.invariant i in
    record {
      state = n.state;
      invariant = n.invariant;
      kept = n.kept;
      queue_entries = λ k. omega (arith, o.queue_entries k, n.grown k);
    }
