-- What holds of every book that was fed whole calls from the blank one on, as far as the theorem of chains rests on it.
-- The statement, and what follows at once.
use Rattle.std.specs.Prelude.{◌≡◌, ◌≢◌, ◌↔◌, true, ℕ, ◌<◌, length, get_or}
use Rattle.std.proofs.Common.{sym, ◌∙◌, arith}
use Rattle.std.proofs.Math.Option.{some}
use Rattle.def_terms.specs.Terms.{unexecuted, executing, finished}
use Rattle.def_book.specs.Book.{Book, book_job, remaining, spoiled}
use Rattle.thm_book_chains.specs.Chain.{Prerequisite, PrerequisiteFailed}
use Rattle.thm_book_chains.specs.Worked.{none_left_finished, failed_in, any_failed_lem}

-- a job that entered before job j has the name
pub record Earlier (b : Book) (j name : ℕ) : Type 0 where
  pub job : ℕ
  pub before : job < j
  pub named : (book_job b job).name ≡ name

pub record Lawful (b : Book) : Type 0 where
  pub names : (i j : ℕ) → i < length b.jobs → j < length b.jobs → (book_job b i).name ≡ (book_job b j).name → i ≡ j
  pub listed : (j i : ℕ) → i < length (book_job b j).list → j < length b.jobs
      → Earlier b j (get_or (book_job b j).list i 0)
  pub held_there : (w j : ℕ) → b.held w ≡ some j → j < length b.jobs
  pub held_executing : (w j : ℕ) → b.held w ≡ some j → (book_job b j).label ≡ executing
  pub held_once : (v w j : ℕ) → b.held v ≡ some j → b.held w ≡ some j → v ≡ w
  -- a job that was handed out has finished prerequisites
  pub started : (j k : ℕ) → (book_job b j).label ≢ unexecuted → Prerequisite b j k → (book_job b k).label ≡ finished
  -- a job not finished has not failed, and a job with a failed prerequisite ends failed
  pub unended : (j : ℕ) → (book_job b j).failed ≡ true → (book_job b j).label ≡ finished
  pub ends_failed : (j k : ℕ) → (book_job b j).label ≡ finished → Prerequisite b j k → (book_job b k).failed ≡ true
      → (book_job b j).failed ≡ true

-- ---- of every book
-- a job is spoiled exactly if a prerequisite failed
pub spoiled_by_lem : (b : Book) (j : ℕ) → (spoiled b j ≡ true) ↔ PrerequisiteFailed b j
spoiled_by_lem b j = (to, from)
  where
    to : spoiled b j ≡ true → PrerequisiteFailed b j
    to e =
        let f = failed_in b.jobs (book_job b j).list e in
        record {
          job = f.by.job;
          needed = record { there = f.by.there; place = f.place; within = f.within; named = f.by.named };
          failed = f.by.failed;
        }

    from : PrerequisiteFailed b j → spoiled b j ≡ true
    from f = any_failed_lem b.jobs (book_job b j).list f.needed.place f.needed.within
        (record { job = f.job; there = f.needed.there; named = f.needed.named; failed = f.failed })

-- a job with no name left to wait for has finished prerequisites
pub none_left : (b : Book) (j k : ℕ) → remaining b j ≡ 0 → Prerequisite b j k → (book_job b k).label ≡ finished
none_left b j k e n =
    none_left_finished b.jobs (book_job b j).list e n.place n.within k n.there n.named

-- ---- of a lawful one
-- prerequisites entered before
pub before : {b : Book} → Lawful b → (j k : ℕ) → j < length b.jobs → Prerequisite b j k → k < j
before L j k h n =
    let e = L.listed j n.place n.within h in
    omega (arith, L.names k e.job n.there (omega arith) (n.named ∙ sym e.named))
