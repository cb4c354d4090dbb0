-- What the book asks of the jobs of a name, it asks of one: names are not repeated. So for the names that are awaited
-- and for those whose jobs failed.
use Rattle.std.specs.Prelude.{◌≡◌, Bool, ◌&&◌, ◌||◌, length, get_or}
use Rattle.std.proofs.Math.Path.{refl}
use Rattle.std.proofs.Common.{sym, ap, subst, ◌∙◌, arith, eq-eqb, eqb-true}
use Rattle.std.proofs.Math.Bool.{true, false}
use Rattle.std.proofs.lemmas.Bool.{false≢true}
use mathlib.Core.List.{List, [], ◌∷◌}
use Prim.Native.Nat.{ℕ, zero, suc, ◌+◌, ◌-◌, ◌<◌}
use Rattle.std.proofs.Math.Dec.{eqb}
use Rattle.def_basics.specs.Base.{pick}
use Rattle.def_rules.specs.Rules.{Job, no_job, Found, at, missing, seek}
use Rattle.def_book.specs.Book.{BookJob, unfinished, awaited, has_failed, any_failed}
use Rattle.thm_rules_history.specs.History.{book_jobs_of}
use Rattle.thm_rules_invariant.specs.Tests.{or_none}
use Rattle.thm_rules_invariant.specs.Names.{at_injective, missing_not_at, sought}

-- each job of the list is found at its place, from i on
pub record Distinct (l : List Job) (i : ℕ) : Type 0 where
  pub found : (k : ℕ) → k < length l → seek (get_or l k no_job).name l i ≡ at (i + k)

distinct_rest : (x : Job) (l : List Job) (i : ℕ) → Distinct (x ∷ l) i → Distinct l (suc i)
unfolding seek
distinct_rest x l i d = record
    { found = λ k h. go k (eqb x.name (get_or l k no_job).name) (d.found (suc k) (omega arith)) }
  where
    go : (k : ℕ) (b : Bool) → pick b (at i) (seek (get_or l k no_job).name l (suc i)) ≡ at (i + suc k)
        → seek (get_or l k no_job).name l (suc i) ≡ at (suc i + k)
    go k true e = absurd (omega (arith, at_injective i (i + suc k) e))
    go k false e = e ∙ ap at (omega arith)

-- the rest of the list has not the first job's name
first_only : (x : Job) (l : List Job) (i : ℕ) → Distinct (x ∷ l) i → (o : Found) → seek x.name l (suc i) ≡ o
    → o ≡ missing
unfolding seek
first_only x l i d missing e = refl
first_only x l i d (at p) e =
    let o = sought x.name l (suc i) p e in
    let k : ℕ = p - suc i in
    let z : (get_or (x ∷ l) (suc k) no_job).name ≡ x.name = o.named in
    let named : ℕ → Type 0 = λ n. seek n (x ∷ l) i ≡ at (i + suc k) in
    let y : seek x.name (x ∷ l) i ≡ at (i + suc k) = subst named z (d.found (suc k) (omega (arith, o.low, o.high))) in
    absurd (omega (arith, at_injective i (i + suc k) (sym (rw (eq-eqb x.name x.name refl)) ∙ y)))

-- ---- a test of the jobs of a name
module _ (test : Job → Bool) where
  unfoldable some_named : ℕ → List Job → Bool
  some_named name [] = false
  some_named name (x ∷ l) = (eqb x.name name && test x) || some_named name l

  none_named : (name : ℕ) (l : List Job) (i : ℕ) → seek name l i ≡ missing → some_named name l ≡ false
  unfolding seek some_named
  none_named name [] i e = refl
  none_named name (x ∷ l) i e = go (eqb x.name name) e (none_named name l (suc i))
    where
      go : (b : Bool) → pick b (at i) (seek name l (suc i)) ≡ missing
          → (seek name l (suc i) ≡ missing → some_named name l ≡ false) → (b && test x) || some_named name l ≡ false
      go true z later = absurd (missing_not_at i (sym z))
      go false z later = later z

  found_named : (name : ℕ) (l : List Job) (i p : ℕ) → Distinct l i → seek name l i ≡ at p
      → some_named name l ≡ test (get_or l (p - i) no_job)
  unfolding seek some_named
  found_named name [] i p d e = absurd (missing_not_at p e)
  found_named name (x ∷ l) i p d e =
      go (eqb x.name name) refl e (found_named name l (suc i) p (distinct_rest x l i d))
    where
      go : (b : Bool) → eqb x.name name ≡ b → pick b (at i) (seek name l (suc i)) ≡ at p
          → (seek name l (suc i) ≡ at p → some_named name l ≡ test (get_or l (p - suc i) no_job))
          → (b && test x) || some_named name l ≡ test (get_or (x ∷ l) (p - i) no_job)
      go true t z later =
          let here : p - i ≡ 0 = omega (arith, at_injective i p z) in
          let gone : seek name l (suc i) ≡ missing =
          rw (eqb-true x.name name t) at (first_only x l i d (seek x.name l (suc i)) refl) in
          rw here (or_none (test x) (some_named name l) (none_named name l (suc i) gone))
      go false t z later =
          let there : p - i ≡ suc (p - suc i) = omega (arith, (sought name l (suc i) p z).low) in
          rw there (later z)

  named_first : (name : ℕ) (l : List Job) (p : ℕ) → Distinct l 0 → seek name l 0 ≡ at p
      → some_named name l ≡ test (get_or l p no_job)
  named_first name l p d e =
      let here : p - 0 ≡ p = omega arith in
      found_named name l 0 p d e ∙ ap (λ (q : ℕ). test (get_or l q no_job)) here

-- ---- the names that are awaited
awaited_named : (name : ℕ) (l : List Job) → awaited name (book_jobs_of l) ≡ some_named (λ x. unfinished x.label) name l
unfolding awaited book_jobs_of some_named
awaited_named name [] = refl
awaited_named name (x ∷ l) = rw (awaited_named name l) refl

pub found_awaited : (name : ℕ) (l : List Job) (p : ℕ) → Distinct l 0 → seek name l 0 ≡ at p
    → awaited name (book_jobs_of l) ≡ unfinished (get_or l p no_job).label
found_awaited name l p d e = awaited_named name l ∙ named_first (λ x. unfinished x.label) name l p d e

-- ---- the names whose jobs failed
failed_named : (name : ℕ) (l : List Job) → has_failed name (book_jobs_of l) ≡ some_named (λ x. x.failed) name l
unfolding has_failed book_jobs_of some_named
failed_named name [] = refl
failed_named name (x ∷ l) = rw (failed_named name l) refl

pub found_failed : (name : ℕ) (l : List Job) (p : ℕ) → Distinct l 0 → seek name l 0 ≡ at p
    → has_failed name (book_jobs_of l) ≡ (get_or l p no_job).failed
found_failed name l p d e = failed_named name l ∙ named_first (λ x. x.failed) name l p d e

-- one of these names has a job that failed
pub record FailedName (jobs : List BookJob) (names : List ℕ) : Type 0 where
  pub place : ℕ
  pub within : place < length names
  pub there : has_failed (get_or names place 0) jobs ≡ true

pub any_place : (jobs : List BookJob) (names : List ℕ) → any_failed jobs names ≡ true → FailedName jobs names
unfolding any_failed
any_place jobs [] e = absurd (false≢true e)
any_place jobs (n ∷ ns) e = go (has_failed n jobs) refl e (any_place jobs ns)
  where
    go : (b : Bool) → has_failed n jobs ≡ b → b || any_failed jobs ns ≡ true
        → (any_failed jobs ns ≡ true → FailedName jobs ns) → FailedName jobs (n ∷ ns)
    go true t z later = record { place = 0; within = omega arith; there = t }
    go false t z later =
        let o = later z in
        record { place = suc o.place; within = omega (arith, o.within); there = o.there }

pub any_at : (jobs : List BookJob) (names : List ℕ) (i : ℕ) → i < length names
    → has_failed (get_or names i 0) jobs ≡ true → any_failed jobs names ≡ true
unfolding any_failed
any_at jobs [] i h e = absurd (omega arith)
any_at jobs (n ∷ ns) zero h e = rw e refl
any_at jobs (n ∷ ns) (suc i) h e = go (has_failed n jobs) (any_at jobs ns i (omega arith) e)
  where
    go : (b : Bool) → any_failed jobs ns ≡ true → b || any_failed jobs ns ≡ true
    go true z = refl
    go false z = z
