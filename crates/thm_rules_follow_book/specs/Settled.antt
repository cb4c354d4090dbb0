-- With no call half done: the graph's counts are the book's remaining counts, its spoiled words tell which jobs are
-- spoiled in the book, and the jobs in its queue are those ready there ("The plain book", demand 3). Assumes that the
-- graph is booked and balanced.
use Rattle.std.specs.Prelude.{◌≡◌, refl, ◌↔◌, ℕ, ◌<◌, length}
use Rattle.std.proofs.Common.{sym, ◌∙◌}
use Rattle.std.proofs.Math.Path.{ap}
use Rattle.std.proofs.Math.Option.{none, some}
use native.Mathlib.Omega.{arith}
use Rattle.def_basics.specs.Base.{occurrences}
use Rattle.def_basics.specs.Laws.{never}
use Rattle.def_terms.specs.Runs.{get}
use Rattle.def_terms.specs.OrderLaws.{first_occurs}
use Rattle.def_terms.specs.declared.Sizes.{Sizes}
use Rattle.def_terms.specs.declared.Answer.{Answer}
use Rattle.def_terms.specs.declared.Answer.TheVariants.{NoneReady, Handed}
use Rattle.def_rules.specs.Rules.{idle, Graph, job, perform, next_out, hand_out, order}
use Rattle.thm_rules_cases.specs.Deed as by
use Rattle.thm_rules_cases.specs.Deed.{Made}
use Rattle.def_book.specs.Book.{book_job, awaited_names, remaining, spoiled, Ready}
use Rattle.def_call_order.specs.Calls.{Reading}
use Rattle.thm_rules_history.specs.History.{book_job_of, book_jobs_of, Booked, Balanced, Free, AllIdle}
use Rattle.thm_rules_cases.specs.Own.{own_sizes, own_made}
use Rattle.thm_rules_follow_book.specs.BookJobs.{book_job_at, book_jobs_length}

-- ---- a get by an idle worker that holds nothing
module _ (s : Sizes) (g : Graph) (w : ℕ) (l : w < s.workers) (c : (g.workers w).call ≡ idle)
    (f : (g.workers w).held ≡ none) where
  pub own_get : Made s g (get s w) (perform s g (get s w)).answer (perform s g (get s w)).state
  own_get = own_made s g (get s w) (own_sizes s) l refl refl c

  pub hands_next : (j : ℕ) → next_out g ≡ some j → (perform s g (get s w)).answer ≡ Handed (hand_out g j)
  unfolding occurrences
  hands_next j z = of own_get
    where
      of : {x : Answer} {h : Graph} → Made s g (get s w) x h → x ≡ Handed (hand_out g j)
      of (by.get_holding k e) = never (cc)
      of (by.get_none e y) = absurd (omega (arith, first_occurs (order g) g.queue j z, ap (occurrences j) y))
      of (by.get_handed e k y) = let same : k ≡ j = cc in rw same

  none_in_queue : ((perform s g (get s w)).answer ≡ NoneReady) ↔ ((j : ℕ) → 0 < occurrences j g.queue → ⊥)
  unfolding occurrences
  none_in_queue = of own_get
    where
      of : {x : Answer} {h : Graph} → Made s g (get s w) x h
          → (x ≡ NoneReady) ↔ ((j : ℕ) → 0 < occurrences j g.queue → ⊥)
      of (by.get_holding k e) = never (cc)
      of (by.get_none e y) = rw y (λ e j h. omega arith, λ empty. refl)
      of (by.get_handed e j y) = (λ e. never (cc), λ empty. absurd (empty j (first_occurs (order g) g.queue j y)))

module _ {s : Sizes} {g : Graph} {r : Reading} (K : Booked s g r) (B : Balanced g) where
  -- the book's job is the graph's
  pub same_book_job : (j : ℕ) → book_job K.book j ≡ book_job_of (job g j)
  same_book_job j = rw K.jobs (book_job_at g.jobs j)

  same_length : length K.book.jobs ≡ length g.jobs
  same_length = rw K.jobs (book_jobs_length g.jobs)

  awaited_here : (j : ℕ) → remaining K.book j ≡ awaited_names (book_jobs_of g.jobs) (job g j).list
  awaited_here j = rw (same_book_job j, K.jobs)

  -- "the remaining counts"
  pub counts : (j : ℕ) → j < length g.jobs → (job g j).count ≡ remaining K.book j
  counts j h = B.counts j h ∙ sym (awaited_here j)

  -- the spoiled jobs
  pub spoiled_jobs : (j : ℕ) → j < length g.jobs → (job g j).spoiled ≡ spoiled K.book j
  spoiled_jobs j h = B.spoiled_jobs j h ∙ sym (rw (same_book_job j, K.jobs))

  -- "the set of waiting jobs"
  pub waiting_ready : (j : ℕ) → (0 < occurrences j g.queue) ↔ Ready K.book j
  waiting_ready j = (λ h. ready ((B.waits j).0 h), λ h. (B.waits j).1 (free h))
    where
      ready : Free g j → Ready K.book j
      ready f = record {
        there = omega (arith, same_length, f.there);
        unexecuted = rw (same_book_job j) f.unexecuted;
        none_left = sym (counts j f.there) ∙ f.none_left;
      }

      free : Ready K.book j → Free g j
      free f =
          let there : j < length g.jobs = omega (arith, same_length, f.there) in
          record {
            there = there;
            unexecuted = rw (same_book_job j) at f.unexecuted;
            none_left = counts j there ∙ f.none_left;
          }

  -- "None ready": "with no call half done it is given exactly if no unexecuted job has all prerequisites finished"
  pub none_ready_lem : AllIdle g → (w : ℕ) → w < s.workers → K.book.held w ≡ none
      → ((perform s g (get s w)).answer ≡ NoneReady) ↔ ((j : ℕ) → Ready K.book j → ⊥)
  none_ready_lem I w h e =
      let here = none_in_queue s g w h (I w) (sym (K.held w) ∙ e) in
      (λ z j f. here.0 z j ((waiting_ready j).1 f), λ empty. here.1 (λ j f. empty j ((waiting_ready j).0 f)))
