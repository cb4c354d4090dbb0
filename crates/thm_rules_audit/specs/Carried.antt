-- What is claimed of spoiled words and outcomes by what is seen goes over to another machine's state in which the same
-- jobs are seen.
use Rattle.std.specs.Prelude.{◌≡◌, ◌↔◌, List, ℕ, ◌<◌, length}
use Rattle.std.proofs.Common.{sym, ap, ◌∙◌, arith}
use Rattle.std.proofs.Math.Decide.{dec_lt}
use Rattle.std.proofs.Math.ListN.{get_or-eq_default}
use Rattle.def_terms.specs.Terms.{Arguments, no_arguments, label_number, finished}
use Rattle.def_terms.specs.Seen.{JobSeen, Seen, Same}
use Rattle.def_terms.specs.declared.Sizes.{Sizes}
use Rattle.def_book.specs.Book.{Book}
use Rattle.def_demand.specs.Demand.{PrerequisitesFinished, Prerequisite, PrerequisiteFailed}
use Rattle.def_demand.specs.Demand.{SpoiledRightly, Chain, one, more, Source, Keeps}

-- the jobs of the accepted adds are seen alike
pub record JobsAlike (x y : Seen) (adds : List Arguments) : Type 0 where
  pub job : (j : ℕ) → j < length adds → x.job j ≡ y.job j

alike_back : {x y : Seen} {adds : List Arguments} → JobsAlike x y adds → JobsAlike y x adds
alike_back A = record { job = λ j h. sym (A.job j h) }

last_there : {adds : List Arguments} {j k : ℕ} → Chain adds j k → k < length adds
last_there (one n) = n.there
last_there (more n c) = last_there c

module _ {x y : Seen} {adds : List Arguments} (A : JobsAlike x y adds) where
  pub failed_carried : (j : ℕ) → PrerequisiteFailed y adds j → PrerequisiteFailed x adds j
  failed_carried j f = record {
    job = f.job;
    needed = f.needed;
    failed = ap (λ (z : JobSeen). z.outcome) (A.job f.job f.needed.there) ∙ f.failed;
  }

  pub finished_carried : (j : ℕ) → PrerequisitesFinished y adds j → PrerequisitesFinished x adds j
  finished_carried j all i h =
      let o = all i h in
      record {
        job = o.job;
        there = o.there;
        named = o.named;
        marked = ap (λ (z : JobSeen). z.label) (A.job o.job o.there) ∙ o.marked;
      }

  pub source_carried : (j : ℕ) → Source y adds j → Source x adds j
  source_carried j o =
      let same = A.job o.job (last_there o.chain) in
      record {
        job = o.job;
        chain = o.chain;
        failed = ap (λ (z : JobSeen). z.outcome) same ∙ o.failed;
        unspoiled = ap (λ (z : JobSeen). z.spoiled) same ∙ o.unspoiled;
      }

-- the add of no job lists nothing
pub lists_there : {adds : List Arguments} {j k : ℕ} → Prerequisite adds j k → j < length adds
lists_there {adds} {j} n = elim (dec_lt j (length adds)) [
  | yes l ↦ l
  | no l ↦ absurd (omega (
    arith,
    n.within,
    ap (λ (a : Arguments). a.count) (get_or-eq_default adds no_arguments {n = j} (omega arith)),
  ))
]

-- ---- the claims
module _ {x y : Seen} {adds : List Arguments} (A : JobsAlike x y adds) (j : ℕ) (h : j < length adds) where
  same_spoiled : (x.job j).spoiled ≡ (y.job j).spoiled
  same_spoiled = ap (λ (z : JobSeen). z.spoiled) (A.job j h)

  pub spoiled_carried : SpoiledRightly y adds j → SpoiledRightly x adds j
  spoiled_carried m = record {
    spoiled_word_lem = rw (A.job j h) m.spoiled_word_lem;
    outcome = rw (A.job j h) m.outcome;
    spoiled = λ e. failed_carried A j (m.spoiled (sym same_spoiled ∙ e));
    failed = rw (A.job j h) m.failed;
  }

  pub queued_carried : (PrerequisiteFailed y adds j → (y.job j).spoiled ≡ 1) → PrerequisiteFailed x adds j
      → (x.job j).spoiled ≡ 1
  queued_carried f p = same_spoiled ∙ f (failed_carried (alike_back A) j p)

  pub ended_carried : ((y.job j).label ≡ label_number finished → (y.job j).spoiled ≡ 1 → (y.job j).outcome ≡ 1)
      → (x.job j).label ≡ label_number finished → (x.job j).spoiled ≡ 1 → (x.job j).outcome ≡ 1
  ended_carried f = rw (A.job j h) f

  pub chained_carried : (PrerequisitesFinished y adds j → ((y.job j).spoiled ≡ 1) ↔ Source y adds j)
      → PrerequisitesFinished x adds j → ((x.job j).spoiled ≡ 1) ↔ Source x adds j
  chained_carried f all =
      let known = f (finished_carried (alike_back A) j all) in (
        λ e. source_carried A j (known.0 (sym same_spoiled ∙ e)),
        λ o. same_spoiled ∙ known.1 (source_carried (alike_back A) j o),
      )

-- once the add of j and the failed finish of k have ended
pub when_ended_carried : {x y : Seen} {adds : List Arguments} → JobsAlike x y adds → {j k : ℕ} → Prerequisite adds j k
    → ((y.job k).outcome ≡ 1 → (y.job j).spoiled ≡ 1) → (x.job k).outcome ≡ 1 → (x.job j).spoiled ≡ 1
when_ended_carried A {j} {k} n f e =
    ap (λ (z : JobSeen). z.spoiled) (A.job j (lists_there n))
    ∙ f (sym (ap (λ (z : JobSeen). z.outcome) (A.job k n.there)) ∙ e)

-- ---- what the book keeps
pub keeps_carried : {s : Sizes} {x y : Seen} {b : Book} → Same s x y → Keeps s y b → Keeps s x b
keeps_carried S K = record {
  made = S.made ∙ K.made;
  jobs = λ j h.
      let row = S.jobs j (rw K.made h) in
      let o = K.jobs j h in
      record {
        name = ap (λ (z : JobSeen). z.name) row ∙ o.name;
        class = ap (λ (z : JobSeen). z.class) row ∙ o.class;
        grower = ap (λ (z : JobSeen). z.grower) row ∙ o.grower;
        label = ap (λ (z : JobSeen). z.label) row ∙ o.label;
        outcome = ap (λ (z : JobSeen). z.outcome) row ∙ o.outcome;
      };
  holds = λ w h. S.held w h ∙ K.holds w h;
}
