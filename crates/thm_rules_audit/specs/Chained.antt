-- With no call half done, a job whose prerequisites are all marked finished is seen spoiled exactly if a chain of
-- prerequisites leads to a job that failed without being spoiled (docs/RULES.md, "Outcomes"), in every history of the
-- rules: the book's theorem, by what is seen in the graph and by the accepted adds.
use Rattle.std.specs.Prelude.{◌≡◌, ◌↔◌, List, ℕ, ◌<◌, length}
use Rattle.std.proofs.Common.{sym, ap, ◌∙◌, arith}
use Rattle.def_terms.specs.Terms.{finished, Arguments}
use Rattle.def_terms.specs.declared.Sizes.{Sizes}
use Rattle.def_rules.specs.Rules.{Graph, job}
use Rattle.def_rules.specs.Sound.{Sound}
use Rattle.def_rules.specs.Observed.{seen}
use Rattle.def_book.specs.Book.{Book, BookJob, book_job}
use Rattle.def_call_order.specs.Calls.{Reading, Quiet, accepted_adds}
use Rattle.def_demand.specs.Demand.{PrerequisitesFinished, Prerequisite, Chain, one, more, Source}
use Rattle.thm_book_chains.specs.Chain as book
use Rattle.thm_book_chains.specs.Kept.{lawful}
use Rattle.thm_book_chains.specs.Chains.{spoiled_source}
use Rattle.thm_rules_history.specs.History.{History, Booked, Balanced}
use Rattle.thm_rules_invariant.specs.Sound.{sound, soundly}
use Rattle.thm_rules_invariant.specs.Balanced.{balanced}
use Rattle.thm_rules_follow_book.specs.BookJobs.{book_jobs_length}
use Rattle.thm_rules_follow_book.specs.Paced.{paced, all_idle}
use Rattle.thm_rules_follow_book.specs.Booked.{booked}
use Rattle.thm_rules_follow_book.specs.Settled.{same_book_job, spoiled_jobs}
use Rattle.thm_rules_audit.specs.Bits.{bit_one, bit_none, finished_number}
use Rattle.thm_rules_audit.specs.Spoiled.{same_count, needs}

module _ {s : Sizes} {g : Graph} {r : Reading} {e : ℕ → ℕ} (history : History s g r e) (quiet : Quiet r) where
  abbrev adds : List Arguments
  adds = accepted_adds r.calls

  S : Sound s g
  S = sound history

  K : Booked s g r
  K = booked soundly history

  B : Balanced g
  B = balanced history (all_idle g r (paced soundly history) quiet)

  abbrev b : Book
  b = K.book

  same_size : length b.jobs ≡ length g.jobs
  same_size = rw K.jobs (book_jobs_length g.jobs)

  -- ---- prerequisites and chains by the adds are those of the book
  same_list : (j : ℕ) → (book_job b j).list ≡ (job g j).list
  same_list j = ap (λ (x : BookJob). x.list) (same_book_job K B j)

  same_name : (j : ℕ) → (book_job b j).name ≡ (job g j).name
  same_name j = ap (λ (x : BookJob). x.name) (same_book_job K B j)

  in_book : (j k : ℕ) → j < length g.jobs → Prerequisite adds j k → book.Prerequisite b j k
  in_book j k h n =
      let there : k < length g.jobs = omega (arith, K.adds, n.there) in
      record {
        there = omega (arith, same_size);
        place = n.place;
        within = rw (same_list j) (omega (arith, same_count history j h, n.within));
        named = rw (same_name k, same_list j) (rw ((K.added k there).name, (K.added j h).list) at n.named);
      }

  by_adds : (j k : ℕ) → j < length g.jobs → book.Prerequisite b j k → Prerequisite adds j k
  by_adds j k h n =
      let there : k < length g.jobs = omega (arith, same_size, n.there) in
      let within : n.place < length (job g j).list = rw (same_list j) at n.within in
      needs history j k h there n.place within (rw (same_name k, same_list j) at n.named)

  chain_in_book : {j k : ℕ} → j < length g.jobs → Chain adds j k → book.Chain b j k
  chain_in_book {j} {k} h (one n) = book.one (in_book j k h n)
  chain_in_book {j} h (more {k = i} n c) =
      book.more (in_book j i h n) (chain_in_book (omega (arith, K.adds, n.there)) c)

  chain_by_adds : {j k : ℕ} → j < length g.jobs → book.Chain b j k → Chain adds j k
  chain_by_adds {j} {k} h (book.one n) = one (by_adds j k h n)
  chain_by_adds {j} h (book.more {k = i} n c) =
      more (by_adds j i h n) (chain_by_adds (omega (arith, same_size, n.there)) c)

  last_there : {j k : ℕ} → Chain adds j k → k < length g.jobs
  last_there (one n) = omega (arith, K.adds, n.there)
  last_there (more n c) = last_there c

  -- ---- and so are their ends
  source_in_book : (j : ℕ) → j < length g.jobs → Source (seen g) adds j → book.Source b j
  source_in_book j h o =
      let k : ℕ = o.job in
      record {
        job = k;
        chain = chain_in_book h o.chain;
        failed = ap (λ (x : BookJob). x.failed) (same_book_job K B k) ∙ (bit_one (job g k).failed).0 o.failed;
        unspoiled = sym (spoiled_jobs K B k (last_there o.chain)) ∙ (bit_none (job g k).spoiled).0 o.unspoiled;
      }

  source_by_adds : (j : ℕ) → j < length g.jobs → book.Source b j → Source (seen g) adds j
  source_by_adds j h o =
      let k : ℕ = o.job in
      let chain = chain_by_adds h o.chain in
      record {
        job = k;
        chain = chain;
        failed = (bit_one (job g k).failed).1 (sym (ap (λ (x : BookJob). x.failed) (same_book_job K B k)) ∙ o.failed);
        unspoiled = (bit_none (job g k).spoiled).1 (spoiled_jobs K B k (last_there chain) ∙ o.unspoiled);
      }

  -- each job of a listed name is finished
  all_ended : (j : ℕ) → j < length g.jobs → PrerequisitesFinished (seen g) adds j
      → (k : ℕ) → book.Prerequisite b j k → (book_job b k).label ≡ finished
  all_ended j h all k n =
      let p = by_adds j k h n in
      let o = all p.place p.within in
      let mine : k < length g.jobs = omega (arith, K.adds, p.there) in
      let there : o.job < length g.jobs = omega (arith, K.adds, o.there) in
      let same : o.job ≡ k = S.names o.job k there mine
      (sym (K.added o.job there).name ∙ o.named ∙ sym p.named ∙ (K.added k mine).name) in
      ap (λ (x : BookJob). x.label) (same_book_job K B k)
      ∙ finished_number (job g k).label (rw same at o.marked)

  pub chained : (j : ℕ) → j < length adds → PrerequisitesFinished (seen g) adds j
      → (((seen g).job j).spoiled ≡ 1) ↔ Source (seen g) adds j
  chained j l all =
      let h : j < length g.jobs = omega (arith, K.adds) in
      let known = spoiled_source b (lawful K.follows) j (omega (arith, same_size)) (all_ended j h all) in
      let same = spoiled_jobs K B j h in
      let one = bit_one (job g j).spoiled in (
        λ z. source_by_adds j h (known.0 (sym same ∙ one.0 z)),
        λ z. one.1 (same ∙ known.1 (source_in_book j h z)),
      )
