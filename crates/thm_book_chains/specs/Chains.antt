-- "a job whose prerequisites have all ended is spoiled exactly if a chain of prerequisites leads to a job that failed
-- without being spoiled" (docs/RULES.md, "Outcomes"), of every book that was fed whole calls.
use Rattle.std.specs.Prelude.{◌≡◌, refl, ◌↔◌, Bool, true, false, List, ℕ, zero, suc, ◌<◌, length}
use Rattle.std.proofs.Common.{arith}
use Rattle.def_basics.specs.Laws.{never}
use Rattle.def_terms.specs.Terms.{finished}
use Rattle.def_terms.specs.declared.Sizes.{Sizes}
use Rattle.def_book.specs.Book.{Book, blank, book_job, remaining, spoiled, Ended, Follows}
use Rattle.thm_book_chains.specs.Chain.{Prerequisite, PrerequisiteFailed, Chain, one, more, Source}
use Rattle.thm_book_chains.specs.Lawful.{Lawful, spoiled_by_lem, none_left, before}
use Rattle.thm_book_chains.specs.Kept.{lawful}

module _ (b : Book) (L : Lawful b) where
  -- ---- from a spoiled job to a source: its failed prerequisite is one, or is spoiled and entered earlier
  leads_by : (j : ℕ) → j < length b.jobs → PrerequisiteFailed b j
      → ((k : ℕ) → k < j → k < length b.jobs → spoiled b k ≡ true → Source b k) → Source b j
  leads_by j h f later = go (spoiled b f.job) refl
    where
      go : (m : Bool) → spoiled b f.job ≡ m → Source b j
      go false z = record { job = f.job; chain = one f.needed; failed = f.failed; unspoiled = z }
      go true z =
          let s = later f.job (before L j f.job h f.needed) f.needed.there z in
          record { job = s.job; chain = more f.needed s.chain; failed = s.failed; unspoiled = s.unspoiled }

  leads : (n j : ℕ) → j < n → j < length b.jobs → spoiled b j ≡ true → Source b j
  leads zero j l h e = absurd (omega arith)
  leads (suc n) j l h e = leads_by j h ((spoiled_by_lem b j).0 e) (λ k m. leads n k (omega arith))

  -- ---- back along a chain: each job on it is finished and spoiled, so it failed
  failed_spoils : (j k : ℕ) → Prerequisite b j k → (book_job b k).failed ≡ true → spoiled b j ≡ true
  failed_spoils j k n f = (spoiled_by_lem b j).1 (record { job = k; needed = n; failed = f })

  back : {j k : ℕ} → ((i : ℕ) → Prerequisite b j i → (book_job b i).label ≡ finished) → Chain b j k
      → (book_job b k).failed ≡ true → spoiled b j ≡ true
  back {j} {k} ended (one n) f = failed_spoils j k n f
  back {j} {k} ended (more {k = i} n c) f =
      let done = ended i n in
      let spoils = back (λ m p. L.started i m (λ z. never (cc)) p) c f in
      let by = (spoiled_by_lem b i).0 spoils in
      failed_spoils j i n (L.ends_failed i by.job done by.needed by.failed)

  pub spoiled_source : (j : ℕ) → j < length b.jobs → ((k : ℕ) → Prerequisite b j k → (book_job b k).label ≡ finished)
      → (spoiled b j ≡ true) ↔ Source b j
  spoiled_source j h ended = (λ e. leads (suc j) j (omega arith) h e, λ s. back ended s.chain s.failed)

-- of every book that was fed whole calls, by its own count of names with jobs not finished
pub chains : {s : Sizes} {l : List Ended} {b : Book} → Follows s blank l b → (j : ℕ) → j < length b.jobs
    → remaining b j ≡ 0 → (spoiled b j ≡ true) ↔ Source b j
chains {b = b} f j h e = spoiled_source b (lawful f) j h (λ k. none_left b j k e)
