-- At every moment the book that was fed the calls read so far has the graph's jobs with their labels and outcomes, and
-- the holds; and a finish of an idle worker is posted, or refused by 11 or 19 at once, as that book has it end ("The
-- plain book", demand 3). Assumes that the graph is booked; for posts, that every history's graph is sound.
use Rattle.std.specs.Prelude.{◌≡◌, refl, ℕ, ◌<◌, length}
use Rattle.std.proofs.Common.{sym, ap}
use Rattle.def_terms.specs.Terms.{label_number, bit, Finish}
use Rattle.def_terms.specs.Runs.{post_finish}
use Rattle.def_terms.specs.declared.Sizes.{Sizes}
use Rattle.def_terms.specs.declared.Answer.{Answer}
use Rattle.def_rules.specs.Rules.{Graph, job, perform}
use Rattle.def_rules.specs.Observed.{seen}
use Rattle.def_rules.specs.Sound.{Sound}
use Rattle.thm_rules_cases.specs.Deed as by
use Rattle.thm_rules_cases.specs.Deed.{Made}
use Rattle.thm_rules_cases.specs.Own.{own_sizes, own_made}
use Rattle.def_book.specs.Book.{BookJob, book_job, finish_end}
use Rattle.def_call_order.specs.Calls.{Reading}
use Rattle.def_call_order.specs.Calls as reading
use Rattle.thm_rules_history.specs.History.{History, Booked, book_job_of}
use Rattle.def_demand.specs.Demand.{Keeps, post_end}
use Rattle.thm_rules_follow_book.specs.BookJobs.{book_job_at, book_jobs_length}
use Rattle.thm_rules_follow_book.specs.Ends.{book_of, finish_not, finish_good_lem, finish_taken_lem}
use Rattle.thm_rules_follow_book.specs.Paced.{paced, worker_idle_lem}

pub keeps : {s : Sizes} {g : Graph} {r : Reading} → (K : Booked s g r) → Keeps s (seen g) K.book
keeps {g = g} K = record {
  made = sym size;
  jobs = λ j h.
      let same : book_job K.book j ≡ book_job_of (job g j) = rw K.jobs (book_job_at g.jobs j) in
      record {
        name = sym (ap (λ (x : BookJob). x.name) same);
        class = sym (ap (λ (x : BookJob). x.class) same);
        grower = sym (ap (λ (x : BookJob). x.grower) same);
        label = sym (ap (λ (x : BookJob). label_number x.label) same);
        outcome = sym (ap (λ (x : BookJob). bit x.failed) same);
      };
  holds = λ w h. sym (K.held w);
}
  where
    size : length K.book.jobs ≡ length g.jobs
    size = rw K.jobs (book_jobs_length g.jobs)

posted : {s : Sizes} {g : Graph} → Sound s g → {w : ℕ} {f : Finish} {x : Answer} {h : Graph}
    → Made s g (post_finish s w f) x h → x ≡ post_end (finish_end (book_of g) f (g.workers w).held)
posted {g = g} S {w} {f} (by.finish_wrong e) = ap post_end (finish_not g f (g.workers w).held e)
posted S {w} {f} (by.finish_good p e n u) = rw e (ap post_end (finish_good_lem S w p e f n u))
posted S {w} {f} (by.finish_posted p e n u) = rw e (ap post_end (finish_taken_lem S w p e f n u))

module _ {s : Sizes} (sound : (g : Graph) (r : Reading) (e : ℕ → ℕ) → History s g r e → Sound s g) where
  pub posts : {g : Graph} {r : Reading} {e : ℕ → ℕ} → History s g r e → (K : Booked s g r) → (w : ℕ) → w < s.workers
      → r.pending w ≡ reading.idle → (f : Finish)
      → (perform s g (post_finish s w f)).answer ≡ post_end (finish_end K.book f (K.book.held w))
  posts {g} {r} {e} history K w h free f =
      let same : K.book ≡ book_of g = (λ i. record { jobs = K.jobs i; held = λ v. K.held v i }) in
      let idle = worker_idle_lem g r (paced sound history) w free in
      rw same (posted (sound g r e history) (own_made s g (post_finish s w f) (own_sizes s) h refl refl idle))
