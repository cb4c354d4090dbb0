-- The graph's jobs as the plain book has them: what the book works out from them is what the rules find ("The plain
-- book").
use Rattle.std.specs.Prelude.{◌≡◌, refl, Bool, true, false, ◌&&◌, ◌||◌, List, [], ◌∷◌, ◌++◌, ℕ, zero, suc, ◌+◌, ◌<◌, eqb, length, get_or, set}
use Rattle.std.proofs.Common.{sym, ap, ◌∙◌, true≢false, zero-le, suc-le-suc, arith, eqb-true}
use Rattle.def_basics.specs.Base.{pick}
use Rattle.def_basics.specs.Laws.{length_prefix}
use Rattle.def_terms.specs.Terms.{finished, Arguments, listed}
use Rattle.def_rules.specs.Rules.{Job, no_job, Graph, Found, at, missing, seek}
use Rattle.def_terms.specs.declared.Sizes.{Sizes}
use Rattle.def_rules.specs.Sound.{Sound, Finished}
use Rattle.def_book.specs.Book.{BookJob, no_book_job, known, unfinished, awaited, awaited_names, nowhere}
use Rattle.def_book.specs.Book.{first_unknown}
use Rattle.def_book.specs.Book.{listed_names}
use Rattle.def_book.specs.Book as book
use Rattle.thm_rules_history.specs.History.{book_job_of, book_jobs_of}

-- ---- a job's entry, and changes of jobs
pub book_job_at : (l : List Job) (j : ℕ) → get_or (book_jobs_of l) j no_book_job ≡ book_job_of (get_or l j no_job)
unfolding book_jobs_of
book_job_at [] j = refl
book_job_at (x ∷ l) zero = refl
book_job_at (x ∷ l) (suc j) = book_job_at l j

pub book_jobs_length : (l : List Job) → length (book_jobs_of l) ≡ length l
unfolding book_jobs_of
book_jobs_length [] = refl
book_jobs_length (x ∷ l) = ap suc (book_jobs_length l)

pub book_jobs_append : (l : List Job) (x : Job) → book_jobs_of (l ++ (x ∷ [])) ≡ book_jobs_of l ++ (book_job_of x ∷ [])
unfolding book_jobs_of
book_jobs_append [] x = refl
book_jobs_append (y ∷ l) x = ap (λ m. book_job_of y ∷ m) (book_jobs_append l x)

pub book_jobs_set : (l : List Job) (j : ℕ) (x : Job) → book_jobs_of (set l j x) ≡ set (book_jobs_of l) j (book_job_of x)
unfolding book_jobs_of
book_jobs_set [] j x = refl
book_jobs_set (y ∷ l) zero x = refl
book_jobs_set (y ∷ l) (suc j) x = ap (λ m. book_job_of y ∷ m) (book_jobs_set l j x)

-- counts and dependents do not show
pub book_jobs_kept : (l : List Job) (j : ℕ) (x : Job) → book_job_of x ≡ book_job_of (get_or l j no_job)
    → book_jobs_of (set l j x) ≡ book_jobs_of l
unfolding book_jobs_of
book_jobs_kept [] j x e = refl
book_jobs_kept (y ∷ l) zero x e = ap (λ z. z ∷ book_jobs_of l) e
book_jobs_kept (y ∷ l) (suc j) x e = ap (λ m. book_job_of y ∷ m) (book_jobs_kept l j x e)

-- ---- the names in the lists
pub listed_append : (l : List BookJob) (x : BookJob) → listed_names (l ++ (x ∷ [])) ≡ listed_names l + length x.list
unfolding listed_names
listed_append [] x = omega arith
listed_append (y ∷ l) x = omega (arith, listed_append l x)

pub listed_kept : (l : List BookJob) (j : ℕ) (x : BookJob) → x.list ≡ (get_or l j no_book_job).list
    → listed_names (set l j x) ≡ listed_names l
unfolding listed_names
listed_kept [] j x e = refl
listed_kept (y ∷ l) zero x e = ap (λ (m : List ℕ). length m + listed_names l) e
listed_kept (y ∷ l) (suc j) x e = ap (λ n. length y.list + n) (listed_kept l j x e)

pub listed_length : (a : Arguments) → length (listed a) ≡ a.count
listed_length a = length_prefix a.count a.names

-- ---- the job of a name
abbrev pub is_found : Found → Bool
is_found (at j) = true
is_found missing = false

-- the book knows a name exactly if the rules find it
pub known_found : (name : ℕ) (l : List Job) (i : ℕ) → known name (book_jobs_of l) ≡ is_found (seek name l i)
unfolding known book_jobs_of seek
known_found name [] i = refl
known_found name (x ∷ l) i = go (known_found name l (suc i)) (eqb x.name name)
  where
    go : known name (book_jobs_of l) ≡ is_found (seek name l (suc i)) → (b : Bool)
        → (b || known name (book_jobs_of l)) ≡ is_found (pick b (at i) (seek name l (suc i)))
    go rest true = refl
    go rest false = rest

-- the job that is found has the name
pub record HasName (l : List Job) (name i j : ℕ) : Type 0 where
  pub place : ℕ
  pub job : j ≡ i + place
  pub there : place < length l
  pub named : (get_or l place no_job).name ≡ name

pub found_name : (name : ℕ) (l : List Job) (i j : ℕ) → seek name l i ≡ at j → HasName l name i j
unfolding seek
found_name name [] i j e = absurd (true≢false (sym (ap is_found e)))
found_name name (x ∷ l) i j e = go (λ z. found_name name l (suc i) j z) (eqb x.name name) refl e
  where
    go : (seek name l (suc i) ≡ at j → HasName l name (suc i) j) → (b : Bool) → eqb x.name name ≡ b
        → pick b (at i) (seek name l (suc i)) ≡ at j → HasName (x ∷ l) name i j
    go later true z e = record {
      place = 0;
      job = let same : j ≡ i = cc in
          omega arith;
      there = omega arith;
      named = eqb-true x.name name z;
    }
    go later false z e =
        let rest = later e in
        record { place = suc rest.place; job = omega arith; there = omega arith; named = rest.named }

-- ---- what is awaited
-- a name is not awaited if every job that has it is finished
not_awaited : (name : ℕ) (l : List Job)
    → ((j : ℕ) → j < length l → (get_or l j no_job).name ≡ name → (get_or l j no_job).label ≡ finished)
    → awaited name (book_jobs_of l) ≡ false
unfolding awaited book_jobs_of
not_awaited name [] all = refl
not_awaited name (x ∷ l) all = go (not_awaited name l (λ j h e. all (suc j) (suc-le-suc h) e)) (eqb x.name name) refl
  where
    go : awaited name (book_jobs_of l) ≡ false → (b : Bool) → eqb x.name name ≡ b
        → ((b && unfinished x.label) || awaited name (book_jobs_of l)) ≡ false
    go rest true z = rw (all zero (suc-le-suc zero-le) (eqb-true x.name name z), rest)
    go rest false z = rest

pub none_awaited : (l : List BookJob) (names : List ℕ)
    → ((i : ℕ) → i < length names → awaited (get_or names i 0) l ≡ false)
    → awaited_names l names ≡ 0
unfolding awaited_names
none_awaited l [] all = refl
none_awaited l (x ∷ names) all =
    rw (all zero (suc-le-suc zero-le), none_awaited l names (λ i h. all (suc i) (suc-le-suc h)))

-- ---- the first unknown place
pub unknown_at : (l : List BookJob) (names : List ℕ) (i k : ℕ) → i < length names
    → ((q : ℕ) → q < i → known (get_or names q 0) l ≡ true)
    → known (get_or names i 0) l ≡ false → first_unknown l names k ≡ book.at (k + i)
unfolding first_unknown
unknown_at l [] i k h all e = absurd (omega arith)
unknown_at l (x ∷ names) zero k h all e = rw e (ap book.at (omega arith))
unknown_at l (x ∷ names) (suc i) k h all e = rw (all zero (suc-le-suc zero-le))
    (unknown_at l names i (suc k) (omega arith) (λ q z. all (suc q) (suc-le-suc z)) e ∙ ap book.at (omega arith))

pub unknown_nowhere : (l : List BookJob) (names : List ℕ) (k : ℕ)
    → ((q : ℕ) → q < length names → known (get_or names q 0) l ≡ true)
    → first_unknown l names k ≡ nowhere
unfolding first_unknown
unknown_nowhere l [] k all = refl
unknown_nowhere l (x ∷ names) k all =
    rw (all zero (suc-le-suc zero-le)) (unknown_nowhere l names (suc k) (λ q z. all (suc q) (suc-le-suc z)))

-- a name whose job is finished is not awaited: names are had once
pub finished_not_awaited : {s : Sizes} {g : Graph} (name : ℕ) → Sound s g → Finished g name
    → awaited name (book_jobs_of g.jobs) ≡ false
finished_not_awaited {s} {g} name S f =
    let had = found_name name g.jobs 0 f.job f.found in
    let place : had.place ≡ f.job = omega arith in
    not_awaited name g.jobs (λ j h e.
    let same : j ≡ had.place = S.names j had.place h had.there (e ∙ sym had.named) in
    rw (same ∙ place) f.finished)
