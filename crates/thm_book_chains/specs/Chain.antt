-- A job's prerequisites in the plain book, by number, and the chains of them (docs/RULES.md, "Outcomes"): "a chain of
-- prerequisites leads to a job that failed without being spoiled". The definitions alone.
use Rattle.std.specs.Prelude.{◌≡◌, true, false, ℕ, ◌<◌, length, get_or}
use Rattle.def_book.specs.Book.{Book, book_job, spoiled}

-- k is a prerequisite of j: its name is one that j lists
pub record Prerequisite (b : Book) (j k : ℕ) : Type 0 where
  pub there : k < length b.jobs
  pub place : ℕ
  pub within : place < length (book_job b j).list
  pub named : (book_job b k).name ≡ get_or (book_job b j).list place 0

-- one or more of them in a row
pub data Chain (b : Book) : ℕ → ℕ → Type 0 where
  one : {j k : ℕ} → Prerequisite b j k → Chain b j k
  more : {j k l : ℕ} → Prerequisite b j k → Chain b k l → Chain b j l

pub record PrerequisiteFailed (b : Book) (j : ℕ) : Type 0 where
  pub job : ℕ
  pub needed : Prerequisite b j job
  pub failed : (book_job b job).failed ≡ true

pub record Source (b : Book) (j : ℕ) : Type 0 where
  pub job : ℕ
  pub chain : Chain b j job
  pub failed : (book_job b job).failed ≡ true
  pub unspoiled : spoiled b job ≡ false
