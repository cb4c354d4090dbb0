-- For ALL tables, damaged ones too: the walk for a name along its bucket, by the words of docs/TABLES.md: the bucket's
-- head, and name and next of each job passed. It ends in one way and no other, and the words' look-up tells which.
-- Follows docs/RULES.md: "The bucket of a name is the top b bits of its product with 2654435769, kept to 32 bits", and
-- 9 where "a bucket walk passes more jobs than were made". (LookUpSteps.antt, EnterSteps.antt, LinkSteps.antt: what a
-- step does by it. Wrong/LookUps.antt: walks that end otherwise.)
use Rattle.std.specs.Prelude.{◌≡◌, refl, ◌↔◌, ◌≢◌, ltb, eqb, get_or}
use Rattle.std.proofs.Common.{sym, ap, arith}
use Prim.Native.Nat.{ℕ, zero, suc, ◌+◌, ◌*◌, ◌-◌, ◌/◌, ◌%◌, ◌^◌, ◌≤◌, ◌<◌}
use borrow.Author.Tests.{eqb-true, eqb-false, ltb-true, ltb-false, eq-eqb, ne_eqb, lt-ltb, le-ltb}
use Rattle.def_bucket.specs.Bucket.{bucket_of}
use Rattle.def_bucket.specs.Laws.{by_numbers}
use Rattle.def_terms.specs.declared.Sizes.{Sizes}
use Rattle.def_words.specs.Columns.{header, columns}
use Rattle.def_words.specs.Layout.{NAME, NEXT, Tables, view, NEWEST}
use Rattle.def_words.specs.Words.{walk, find_of}
use Rattle.def_words.specs.declared.Found.{Found}
use Rattle.def_words.specs.declared.Found.TheVariants.{At, Missing, Damaged}
use Rattle.thm_words_tests.specs.Tests.{test}
use Rattle.thm_words_tests.specs.OneWord.{job_word, job_by_word}

-- ---- the words that a walk reads
-- how many jobs were made
abbrev pub jobs_made : Tables → ℕ
jobs_made t = get_or t.jobs 4 0

-- "the top b bits of its product with 2654435769, kept to 32 bits"
abbrev pub bucket_number : ℕ → ℕ → ℕ
bucket_number name bits = name * 2654435769 % 4294967296 / 2 ^ (32 - bits)

-- the newest job of the name's bucket, or none
abbrev pub head_word : Sizes → Tables → ℕ → ℕ
head_word s t name = get_or t.buckets (bucket_number name s.bits) 0

-- a place that is a job: not none, and below the number of jobs made
pub record IsJob (t : Tables) (p : ℕ) : Type 0 where
  pub some : p ≢ 4294967295
  pub made : p < jobs_made t

-- ---- the walk: with n jobs passed it is at the place p. It ends at none, also after as many jobs as were made: the
-- name is missing; and at a job of that name, whatever stands behind it. "A place that is not below made is 9, and so
-- is one that is left once made jobs were passed"
pub data Along (t : Tables) (name : ℕ) : ℕ → ℕ → Found → Type 0 where
  at_end : {n p : ℕ} → p ≡ 4294967295 → Along t name n p Missing
  hit : {n p : ℕ} → IsJob t p → n < jobs_made t → job_word t p 0 ≡ name → Along t name n p (At p)
  pass : {n p : ℕ} {r : Found} → IsJob t p → n < jobs_made t → job_word t p 0 ≢ name
      → Along t name (n + 1) (job_word t p 7) r → Along t name n p r
  stray : {n p : ℕ} → p ≢ 4294967295 → jobs_made t ≤ p → Along t name n p Damaged
  too_many_lem : {n p : ℕ} → p ≢ 4294967295 → jobs_made t ≤ n → Along t name n p Damaged

-- from the bucket's head, with no job passed
abbrev pub LooksFor : Sizes → Tables → ℕ → Found → Type 0
LooksFor s t name r = Along t name 0 (head_word s t name) r

-- ---- the words' walk goes so
module _ (t : Tables) (name : ℕ) where
  name_word : (p : ℕ) → (view t).job NAME p ≡ job_word t p 0
  name_word p = job_by_word t p 0 (omega arith)

  next_word : (p : ℕ) → (view t).job NEXT p ≡ job_word t p 7
  next_word p = job_by_word t p 7 (omega arith)

  walk_ends : {n p : ℕ} {r : Found} → Along t name n p r → (k : ℕ) → k + n ≡ jobs_made t
      → walk k (view t).job (jobs_made t) name p ≡ r
  unfolding walk
  walk_ends (at_end e) zero h = rw e
  walk_ends (at_end e) (suc k) h = rw e
  walk_ends (hit j l e) zero h = absurd (omega arith)
  walk_ends {n} {p} (hit j l e) (suc k) h =
      rw (
        ne_eqb p 4294967295 j.some,
        lt-ltb p (jobs_made t) j.made,
        name_word p,
        eq-eqb (job_word t p 0) name e,
      )
  walk_ends (pass j l e a) zero h = absurd (omega arith)
  walk_ends {n} {p} (pass j l e a) (suc k) h =
      rw (
        ne_eqb p 4294967295 j.some,
        lt-ltb p (jobs_made t) j.made,
        name_word p,
        ne_eqb (job_word t p 0) name e,
        next_word p,
      )
      (walk_ends a k (omega arith))
  walk_ends {n} {p} (stray e l) zero h = rw (ne_eqb p 4294967295 e)
  walk_ends {n} {p} (stray e l) (suc k) h = rw (ne_eqb p 4294967295 e, le-ltb p (jobs_made t) l)
  walk_ends {n} {p} (too_many_lem e l) zero h = rw (ne_eqb p 4294967295 e)
  walk_ends (too_many_lem e l) (suc k) h = absurd (omega arith)

  goes_along : (k n p : ℕ) → k + n ≡ jobs_made t → Along t name n p (walk k (view t).job (jobs_made t) name p)
  unfolding walk
  goes_along zero n p h =
      test (eqb p 4294967295) (λ e. rw e (at_end (eqb-true p 4294967295 e)))
      (λ e. rw e (too_many_lem {n = n} (eqb-false p 4294967295 e) (omega arith)))
  goes_along (suc k) n p h =
      test (eqb p 4294967295) (λ e. rw e (at_end (eqb-true p 4294967295 e)))
      (λ e. test (ltb p (jobs_made t))
      (λ l. let j : IsJob t p = record { some = eqb-false p 4294967295 e; made = ltb-true p (jobs_made t) l } in
      test (eqb (job_word t p 0) name)
      (λ q. rw (e, l, name_word p, q) (hit {n = n} j (omega arith) (eqb-true (job_word t p 0) name q)))
      (λ q. rw (e, l, name_word p, q, next_word p)
      (pass {n = n} j (omega arith) (eqb-false (job_word t p 0) name q)
      (goes_along k (n + 1) (job_word t p 7) (omega arith)))))
      (λ l. rw (e, l) (stray (eqb-false p 4294967295 e) (ltb-false p (jobs_made t) l))))

-- ---- the head of a name's bucket
pub head_by_word : (s : Sizes) (t : Tables) (name : ℕ)
    → (view t).bucket NEWEST (bucket_of name s.bits) ≡ head_word s t name
unfolding columns
head_by_word s t name =
    rw (by_numbers name s.bits)
    (let b = bucket_number name s.bits in
    ap (λ n. get_or t.buckets n 0) {x = 0 + 1 * b + 0} {y = b} (omega arith))

-- ---- the look-up of a name, both ways
pub look_up_means : (s : Sizes) (t : Tables) (name : ℕ) (r : Found)
    → LooksFor s t name r ↔ (find_of s (view t) name ≡ r)
unfolding find_of header
look_up_means s t name r = (
  λ a. rw (head_by_word s t name) (walk_ends t name a (jobs_made t) (omega arith)),
  λ e. rw (← e, head_by_word s t name) (goes_along t name (jobs_made t) 0 (head_word s t name) (omega arith)),
)

-- every walk ends, in one way and no other
pub record OneEnd (s : Sizes) (t : Tables) (name : ℕ) : Type 0 where
  pub end : Found
  pub along : LooksFor s t name end
  pub alone : (r : Found) → LooksFor s t name r → r ≡ end

pub one_end : (s : Sizes) (t : Tables) (name : ℕ) → OneEnd s t name
one_end s t name = record {
  end = find_of s (view t) name;
  along = (look_up_means s t name (find_of s (view t) name)).1 refl;
  alone = λ r a. sym ((look_up_means s t name r).0 a);
}
