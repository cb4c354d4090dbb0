-- What no later item changes, by the rules, in every history (docs/RULES.md, "Outcomes"): that a job is spoiled, the
-- spoiled word of a job that has entered the queue, and the label and the outcome of a job that is finished.
use Rattle.std.specs.Prelude.{refl, List, [], ◌∷◌, ℕ}
use Rattle.std.proofs.Common.{ap, ◌∙◌, arith}
use Rattle.def_terms.specs.Terms.{label_number, bit}
use Rattle.def_terms.specs.Runs.{Item, after}
use Rattle.def_terms.specs.declared.Sizes.{Sizes}
use Rattle.def_rules.specs.Rules.{Graph, empty, perform}
use Rattle.def_rules.specs.Observed.{seen}
use Rattle.def_call_order.specs.Calls.{Reading}
use Rattle.thm_rules_history.specs.History.{History, start, then}
use Rattle.thm_rules_history.specs.Onward.{onward}
use Rattle.def_demand.specs.Stays as demand
use Rattle.def_host_calls.specs.Joined.{after_joined}
use Rattle.thm_rules_invariant.specs.Stays.{Stays, stays}
use Rattle.thm_rules_audit.specs.Bits.{bit_one, finished_number}

-- through a list of items
stays_on : {s : Sizes} {g : Graph} {r : Reading} {e : ℕ → ℕ} → History s g r e → (more : List Item)
    → Stays g e (after (perform s) g more)
unfolding after
stays_on history [] =
    record { spoiled = λ j h. h; spoiled_queued = λ j h. refl; label = λ j h. h; outcome = λ j h. refl }
stays_on {s = s} {g = g} history (i ∷ more) =
    let now = stays history i in
    let rest = stays_on {g = (perform s g i).state} (then history i) more in
    record {
      spoiled = λ j h. rest.spoiled j (now.spoiled j h);
      spoiled_queued = λ j h. rest.spoiled_queued j (omega arith) ∙ now.spoiled_queued j h;
      label = λ j h. rest.label j (now.label j h);
      outcome = λ j h. rest.outcome j (now.label j h) ∙ now.outcome j h;
    }

pub rules_stay : (s : Sizes) (items more : List Item) → demand.Stays (perform s) seen empty items more
rules_stay s items more =
    let history = onward s start items in
    let whole = after_joined (perform s) empty items more in
    let o = stays_on history more in
    record {
      spoiled = λ j m h. rw whole ((bit_one _).1 (o.spoiled j ((bit_one _).0 h)));
      spoiled_queued = λ j h. rw whole (ap bit (o.spoiled_queued j (omega arith)));
      label = λ j m h. rw whole (ap label_number (o.label j (finished_number _ h)));
      outcome = λ j m h. rw whole (ap bit (o.outcome j (finished_number _ h)));
    }
