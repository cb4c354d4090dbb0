-- What no item changes in a graph that a history reached: that a job is spoiled, the spoiled word of a job that has
-- entered the queue, and the label and the outcome of a job that is finished (docs/RULES.md, "Outcomes"). And the
-- prerequisites of a job are earlier jobs.
use Rattle.std.specs.Prelude.{◌≡◌, true, ℕ, ◌<◌, length, get_or}
use Rattle.std.proofs.Common.{sym, ◌∙◌, arith}
use Rattle.def_terms.specs.Terms.{finished}
use Rattle.def_terms.specs.Runs.{Item}
use Rattle.def_terms.specs.declared.Sizes.{Sizes}
use Rattle.def_rules.specs.Rules.{Graph, job, find, at, perform}
use Rattle.def_call_order.specs.Calls.{Reading}
use Rattle.thm_rules_history.specs.History.{History}
use Rattle.thm_rules_invariant.specs.Steps.{performs}
use Rattle.thm_rules_invariant.specs.Start.{reached}

-- from the graph g, with the entries e of each job into the queue, to the graph h
pub record Stays (g : Graph) (e : ℕ → ℕ) (h : Graph) : Type 0 where
  pub spoiled : (j : ℕ) → (job g j).spoiled ≡ true → (job h j).spoiled ≡ true
  pub spoiled_queued : (j : ℕ) → 0 < e j → (job h j).spoiled ≡ (job g j).spoiled
  pub label : (j : ℕ) → (job g j).label ≡ finished → (job h j).label ≡ finished
  pub outcome : (j : ℕ) → (job g j).label ≡ finished → (job h j).failed ≡ (job g j).failed

pub stays : {s : Sizes} {g : Graph} {r : Reading} {e : ℕ → ℕ} → History s g r e → (i : Item)
    → Stays g e (perform s g i).state
stays {s} {g} {r} history i =
    let o = reached history in
    let K = o.kept in
    let n = performs s g r o.state K o.invariant i in
    record {
      spoiled = λ j e. (n.kept.jobs j).spoiled ∙ n.lasting.still j (sym (K.jobs j).spoiled ∙ e);
      spoiled_queued = λ j h. (n.kept.jobs j).spoiled ∙ n.lasting.spoiled_jobs j (omega (arith, o.queue_entries j))
          ∙ sym (K.jobs j).spoiled;
      label = λ j f. (n.kept.jobs j).label ∙ n.lasting.labels j (sym (K.jobs j).label ∙ f);
      outcome = λ j f. (n.kept.jobs j).failed ∙ n.lasting.outcomes j (sym (K.jobs j).label ∙ f)
          ∙ sym (K.jobs j).failed;
    }

-- the name has a job before the j-th
pub record Before (g : Graph) (j name : ℕ) : Type 0 where
  pub job : ℕ
  pub found : find g name ≡ at job
  pub earlier : job < j

pub prerequisites_before : {s : Sizes} {g : Graph} {r : Reading} {e : ℕ → ℕ} → History s g r e → (j i : ℕ)
    → i < length (job g j).list → Before g j (get_or (job g j).list i 0)
prerequisites_before history j i h =
    let o = reached history in
    let known = (o.kept.jobs j).known in
    record {
      job = get_or (o.state.prerequisites j) i 0;
      found = known.found i h;
      earlier = (o.invariant.bounds.prerequisites_earlier j).at i (omega (arith, known.same_length));
    }
