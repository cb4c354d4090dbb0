-- No job is forgotten, by the rules: with no call half done and the queue empty, a job has been handed out if an
-- accepted finish of each of its prerequisites was made (docs/RULES.md, "The plain book": "it is ready, and waits").
use Rattle.std.specs.Prelude.{◌≡◌, refl, [], ℕ, ◌<◌, length, get_or}
use Rattle.std.proofs.Common.{sym, ap, ◌∙◌, arith}
use Rattle.def_basics.specs.Base.{occurrences}
use Rattle.def_basics.specs.Counting.{occurrences_nil}
use Rattle.def_terms.specs.Terms.{Label, unexecuted, executing, finished}
use Rattle.def_terms.specs.declared.Sizes.{Sizes}
use Rattle.def_rules.specs.Rules.{Graph, job}
use Rattle.def_rules.specs.Sound.{started_by}
use Rattle.def_call_order.specs.Calls.{Reading, accepted_finishes}
use Rattle.thm_rules_history.specs.History.{History, AllIdle, book_jobs_of}
use Rattle.thm_rules_invariant.specs.Start.{reached}
use Rattle.thm_rules_invariant.specs.Sound.{sound}
use Rattle.thm_rules_invariant.specs.Balanced.{balanced}
use Rattle.thm_rules_follow_book.specs.BookJobs.{none_awaited, finished_not_awaited}
use Rattle.thm_rules_audit.specs.Earlier.{earlier}
use Rattle.thm_rules_audit.specs.Finishes.{finished_by, finishes}

pub finished_by_lem : (l : Label) → 0 < finished_by l → l ≡ finished
finished_by_lem unexecuted h = absurd (omega arith)
finished_by_lem executing h = absurd (omega arith)
finished_by_lem finished h = refl

module _ {s : Sizes} {g : Graph} {r : Reading} {e : ℕ → ℕ} (history : History s g r e) (quiet : AllIdle g)
    (empty : g.queue ≡ []) (j : ℕ) (h : j < length g.jobs)
    (all : (i : ℕ) → i < length (job g j).list
    → 0 < occurrences (get_or (job g j).list i 0) (accepted_finishes r.calls)) where
  none_left : (job g j).count ≡ 0
  none_left =
      let K = (reached history).kept in
      (balanced history quiet).counts j h ∙ none_awaited (book_jobs_of g.jobs) (job g j).list (λ i k.
      let o = earlier history j h i k in
      let there : o.job < length g.jobs = omega (arith, o.below) in
      let once = (finishes history).of_job o.job there in
      finished_not_awaited (get_or (job g j).list i 0) (sound history) (record {
        job = o.job;
        found = rw o.named at ((K.jobs o.job).known.named (omega (arith, K.size)));
        finished = finished_by_lem (job g o.job).label (rw (sym once, o.named) (all i k));
      }))

  pub started : 0 < started_by (job g j).label
  started = by_label_lem (job g j).label refl
    where
      by_label_lem : (l : Label) → (job g j).label ≡ l → 0 < started_by l
      by_label_lem finished z = omega arith
      by_label_lem executing z = omega arith
      by_label_lem unexecuted z =
          let queued : 0 < occurrences j g.queue =
          ((balanced history quiet).waits j).1 (record { there = h; unexecuted = z; none_left = none_left }) in
          absurd (omega (arith, ap (occurrences j) empty, occurrences_nil j))
