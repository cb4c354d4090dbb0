-- What no later item changes, on the words (docs/RULES.md, "Outcomes"): that a job is spoiled, the mark of a job that
-- has entered the queue, and the label and the outcome of a job that is finished.
use Rattle.std.specs.Prelude.{◌≡◌, List, ◌++◌, ℕ, ◌≤◌, ◌<◌, length}
use Rattle.std.proofs.Common.{sym, ap, ◌∙◌, arith}
use Rattle.std.proofs.Math.Decide.{dec_lt}
use Rattle.std.proofs.Math.ListN.{get_or-eq_default}
use Rattle.def_terms.specs.Terms.{label_number, finished, bit}
use Rattle.def_terms.specs.Runs.{Item, after, queue_entries}
use Rattle.def_terms.specs.Seen.{JobSeen, Same}
use Rattle.def_terms.specs.declared.Sizes.{Sizes}
use Rattle.def_terms.specs.declared.Answer.TheVariants.{Laid}
use Rattle.def_words.specs.Layout.{Tables}
use Rattle.def_words.specs.Words.{perform, lay_out}
use Rattle.def_words.specs.Observed.{seen}
use Rattle.def_rules.specs.Rules.{Job, Graph, no_job, empty, job}
use Rattle.def_rules.specs.Rules as rules
use Rattle.def_rules.specs.Observed as rules_seen
use Rattle.def_demand.specs.Stays.{Stays}
use Rattle.def_host_calls.specs.Joined.{queue_entries_joined}
use Rattle.thm_rules_audit.specs.Stays.{rules_stay}
use Rattle.thm_words_history.specs.Theorem.{after_items, same_queue_entries, demand}

-- a job with a label or a spoiled word was made
no_job_lem : (g : Graph) (j : ℕ) → length g.jobs ≤ j → job g j ≡ no_job
no_job_lem g j h = get_or-eq_default g.jobs no_job {n = j} h

labelled_made : (g : Graph) (j : ℕ) → label_number (job g j).label ≡ label_number finished → j < length g.jobs
labelled_made g j e = elim (dec_lt j (length g.jobs)) [
  | yes h ↦ h
  | no h ↦ absurd (omega (arith, e, ap (λ (x : Job). label_number x.label) (no_job_lem g j (omega arith))))
]

spoiled_made : (g : Graph) (j : ℕ) → bit (job g j).spoiled ≡ 1 → j < length g.jobs
spoiled_made g j e = elim (dec_lt j (length g.jobs)) [
  | yes h ↦ h
  | no h ↦ absurd (omega (arith, e, ap (λ (x : Job). bit x.spoiled) (no_job_lem g j (omega arith))))
]

-- ---- after any items, and some more
module _ (s : Sizes) (t : Tables) (laid : (lay_out s t).answer ≡ Laid) (items later : List Item) where
  by_rules : Stays (rules.perform s) rules_seen.seen empty items later
  by_rules = rules_stay s items later

  abbrev g : Graph
  g = after (rules.perform s) empty items

  abbrev h : Graph
  h = after (rules.perform s) empty (items ++ later)

  now : Same s (seen (after perform (lay_out s t).state items)) (rules_seen.seen g)
  now = (demand s t laid items).does

  then : Same s (seen (after perform (lay_out s t).state (items ++ later))) (rules_seen.seen h)
  then = (demand s t laid (items ++ later)).does

  -- a job that has entered the queue was made, then and later
  there : (is : List Item) (j : ℕ) → 0 < queue_entries perform (λ x. (seen x).waiting) (lay_out s t).state is j
      → j < length (after (rules.perform s) empty is).jobs
  there is j e = omega (arith, ((demand s t laid is).after_prerequisites j e).0, (after_items s t laid is).booked.adds)

  module _ (j : ℕ) (made : j < (seen (after perform (lay_out s t).state items)).made) where
    was : (seen (after perform (lay_out s t).state items)).job j ≡ (rules_seen.seen g).job j
    was = now.jobs j (omega (arith, now.made))

    in_rules : j < (rules_seen.seen g).made
    in_rules = omega (arith, now.made)

    still_spoiled : ((seen (after perform (lay_out s t).state items)).job j).spoiled ≡ 1
        → ((seen (after perform (lay_out s t).state (items ++ later))).job j).spoiled ≡ 1
    still_spoiled e =
        let on = by_rules.spoiled j in_rules (sym (ap (λ (x : JobSeen). x.spoiled) was) ∙ e) in
        ap (λ (x : JobSeen). x.spoiled) (then.jobs j (spoiled_made h j on)) ∙ on

    module _ (e : ((seen (after perform (lay_out s t).state items)).job j).label ≡ label_number finished) where
      done : label_number (job g j).label ≡ label_number finished
      done = sym (ap (λ (x : JobSeen). x.label) was) ∙ e

      on : label_number (job h j).label ≡ label_number finished
      on = by_rules.label j in_rules done

      still_finished : ((seen (after perform (lay_out s t).state (items ++ later))).job j).label ≡ label_number finished
      still_finished = ap (λ (x : JobSeen). x.label) (then.jobs j (labelled_made h j on)) ∙ on

      same_outcome : ((seen (after perform (lay_out s t).state (items ++ later))).job j).outcome
          ≡ ((seen (after perform (lay_out s t).state items)).job j).outcome
      same_outcome = ap (λ (x : JobSeen). x.outcome) (then.jobs j (labelled_made h j on))
          ∙ by_rules.outcome j in_rules done ∙ sym (ap (λ (x : JobSeen). x.outcome) was)

  pub stays : Stays perform seen (lay_out s t).state items later
  stays = record {
    spoiled = still_spoiled;
    spoiled_queued = λ j e.
        let entered : 0 < queue_entries perform (λ x. (seen x).waiting) (lay_out s t).state (items ++ later) j =
        omega (arith, e, queue_entries_joined perform (λ x. (seen x).waiting) (lay_out s t).state items later j) in
        ap (λ (x : JobSeen). x.spoiled) (then.jobs j (there (items ++ later) j entered))
        ∙ by_rules.spoiled_queued j (rw (same_queue_entries s t laid items j) at e)
        ∙ sym (ap (λ (x : JobSeen). x.spoiled) (now.jobs j (there items j e)));
    label = still_finished;
    outcome = same_outcome;
  }
