-- That a job which waits or was handed out is spoiled is what the plain book works out: whether a listed name has a job
-- that failed (docs/RULES.md, "Outcomes"). Assumes that the graph is sound.
use Rattle.std.specs.Prelude.{◌≡◌, refl, ◌↔◌, Bool, true, false, List, [], ◌∷◌, ℕ, zero, suc, ◌+◌, ◌<◌, eqb, length, get_or}
use Rattle.std.proofs.Common.{sym, ap, ◌∙◌, arith, eq-eqb}
use Rattle.def_basics.specs.Base.{pick, occurrences}
use Rattle.def_basics.specs.Laws.{never}
use Rattle.def_terms.specs.declared.Sizes.{Sizes}
use Rattle.def_rules.specs.Rules.{Job, no_job, Graph, job, find, Found, at, missing, seek}
use Rattle.def_rules.specs.Sound.{started_by, FailedAmong, Sound}
use Rattle.def_book.specs.Book.{any_failed}
use Rattle.thm_book_chains.specs.Worked.{failed_in, any_failed_lem}
use Rattle.thm_rules_history.specs.History.{book_job_of, book_jobs_of}
use Rattle.thm_rules_follow_book.specs.BookJobs.{book_job_at, book_jobs_length, is_found, found_name}

-- ---- a name that a job has is found
found_there : (name : ℕ) (l : List Job) (i k : ℕ) → k < length l → (get_or l k no_job).name ≡ name
    → is_found (seek name l i) ≡ true
unfolding seek
found_there name [] i k h e = absurd (omega arith)
found_there name (x ∷ l) i zero h e = rw (eq-eqb x.name name e)
found_there name (x ∷ l) i (suc k) h e = go (found_there name l (suc i) k (omega arith) e) (eqb x.name name)
  where
    go : is_found (seek name l (suc i)) ≡ true → (b : Bool) → is_found (pick b (at i) (seek name l (suc i))) ≡ true
    go later true = refl
    go later false = later

module _ {s : Sizes} {g : Graph} (S : Sound s g) where
  -- and it is that job: names are had once
  pub found_at : (name k : ℕ) → k < length g.jobs → (job g k).name ≡ name → find g name ≡ at k
  found_at name k h e = go (find g name) refl (found_there name g.jobs 0 k h e)
    where
      go : (f : Found) → find g name ≡ f → is_found f ≡ true → find g name ≡ at k
      go (at j) z y =
          let n = found_name name g.jobs 0 j z in
          let same : n.place ≡ k = S.names n.place k n.there h (n.named ∙ sym e) in
          z ∙ ap at (omega arith)
      go missing z y = never (cc)

  pub failed_among_lem : (names : List ℕ) → (any_failed (book_jobs_of g.jobs) names ≡ true) ↔ FailedAmong g names
  failed_among_lem names = (to, from)
    where
      to : any_failed (book_jobs_of g.jobs) names ≡ true → FailedAmong g names
      to e =
          let f = failed_in (book_jobs_of g.jobs) names e in
          let k : ℕ = f.by.job in
          let same = book_job_at g.jobs k in
          record {
            place = f.place;
            within = f.within;
            job = k;
            found = found_at (get_or names f.place 0) k (omega (arith, book_jobs_length g.jobs, f.by.there))
                (rw same at f.by.named);
            failed = rw same at f.by.failed;
          }

      from : FailedAmong g names → any_failed (book_jobs_of g.jobs) names ≡ true
      from f =
          let n = found_name (get_or names f.place 0) g.jobs 0 f.job f.found in
          let here : n.place ≡ f.job = omega (arith, n.job) in
          let same : get_or (book_jobs_of g.jobs) f.job _ ≡ book_job_of (job g f.job) =
          book_job_at g.jobs f.job in
          any_failed_lem (book_jobs_of g.jobs) names f.place f.within (record {
            job = f.job;
            there = omega (arith, book_jobs_length g.jobs, n.there);
            named = rw (same, ← here) n.named;
            failed = rw same f.failed;
          })

  pub spoiled_shown : (j : ℕ) → 0 < occurrences j g.queue + started_by (job g j).label
      → any_failed (book_jobs_of g.jobs) (job g j).list ≡ (job g j).spoiled
  spoiled_shown j h = same _ _ (λ e. (S.spoiled_jobs j h).1 ((failed_among_lem (job g j).list).0 e))
      (λ e. (failed_among_lem (job g j).list).1 ((S.spoiled_jobs j h).0 e))
    where
      same : (a b : Bool) → (a ≡ true → b ≡ true) → (b ≡ true → a ≡ true) → a ≡ b
      same true b f k = sym (f refl)
      same false true f k = k refl
      same false false f k = refl
