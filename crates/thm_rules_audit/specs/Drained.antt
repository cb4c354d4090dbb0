-- With no call half done, no job held and the queue empty, every job is finished, by the rules.
use Rattle.std.specs.Prelude.{◌≡◌, refl, [], ℕ, zero, suc, ◌<◌, length, get_or}
use Rattle.std.proofs.Common.{ap, ◌∙◌, arith}
use Rattle.std.proofs.Math.Option.{none}
use Rattle.def_basics.specs.Base.{occurrences}
use Rattle.def_basics.specs.Laws.{never}
use Rattle.def_terms.specs.Terms.{Label, unexecuted, executing, finished}
use Rattle.def_terms.specs.declared.Sizes.{Sizes}
use Rattle.def_rules.specs.Rules.{Graph, job}
use Rattle.def_call_order.specs.Calls.{Reading}
use Rattle.thm_rules_history.specs.History.{History, AllIdle, book_jobs_of}
use Rattle.def_basics.specs.Counting.{occurrences_nil}
use Rattle.thm_rules_invariant.specs.Start.{reached}
use Rattle.thm_rules_invariant.specs.Sound.{sound}
use Rattle.thm_rules_invariant.specs.Balanced.{balanced}
use Rattle.thm_rules_follow_book.specs.BookJobs.{none_awaited, finished_not_awaited}
use Rattle.thm_rules_audit.specs.Held.{holders}
use Rattle.thm_rules_audit.specs.Earlier.{earlier}

module _ {s : Sizes} {g : Graph} {r : Reading} {e : ℕ → ℕ} (history : History s g r e) (quiet : AllIdle g)
    (free : (w : ℕ) → w < s.workers → (g.workers w).held ≡ none) (empty : g.queue ≡ []) where
  -- a job whose prerequisites are all finished is finished itself
  next_finished : (j : ℕ) → j < length g.jobs
      → ((p : ℕ) → p < j → p < length g.jobs → (job g p).label ≡ finished) → (job g j).label ≡ finished
  next_finished j h all = by_label_lem (job g j).label refl
    where
      none_left : (job g j).count ≡ 0
      none_left =
          let B = balanced history quiet in
          let K = (reached history).kept in
          B.counts j h ∙ none_awaited (book_jobs_of g.jobs) (job g j).list (λ i k.
          let o = earlier history j h i k in
          let there : o.job < length g.jobs = omega (arith, o.below) in
          finished_not_awaited (get_or (job g j).list i 0) (sound history) (record {
            job = o.job;
            found = rw o.named at ((K.jobs o.job).known.named (omega (arith, K.size)));
            finished = all o.job o.below there;
          }))

      by_label_lem : (l : Label) → (job g j).label ≡ l → l ≡ finished
      by_label_lem finished z = refl
      by_label_lem executing z = let o = holders history j z in never (cc (o.held, free o.worker o.below))
      by_label_lem unexecuted z =
          let queued : 0 < occurrences j g.queue =
          ((balanced history quiet).waits j).1 (record { there = h; unexecuted = z; none_left = none_left }) in
          absurd (omega (arith, ap (occurrences j) empty, occurrences_nil j))

  all_below : (n j : ℕ) → j < n → j < length g.jobs → (job g j).label ≡ finished
  all_below zero j k h = absurd (omega arith)
  all_below (suc n) j k h = next_finished j h (λ p l m. all_below n p (omega arith) m)

  -- every job that was made is finished
  pub drained : (j : ℕ) → j < length g.jobs → (job g j).label ≡ finished
  drained j h = all_below (suc j) j (omega arith) h
