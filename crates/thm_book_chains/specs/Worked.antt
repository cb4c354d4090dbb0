-- What the plain book works out from its jobs, as facts of single jobs: which names it knows, which it awaits, and of
-- which one failed.
use Rattle.std.specs.Prelude.{◌≡◌, refl, ◌≢◌, Bool, true, false, ◌&&◌, ◌||◌, List, [], ◌∷◌, ℕ, zero, suc, ◌+◌, ◌<◌, eqb, length, get_or}
use Rattle.std.proofs.Common.{arith, eqb-true, eq-eqb}
use Rattle.def_basics.specs.Base.{pick}
use Rattle.def_basics.specs.Laws.{never, or_left, or_right}
use Rattle.def_terms.specs.Terms.{Label, unexecuted, executing, finished}
use Rattle.def_book.specs.Book.{BookJob, no_book_job, known, unfinished, awaited, awaited_names, has_failed}
use Rattle.def_book.specs.Book.{any_failed}
use Rattle.def_book.specs.Book.{first_unknown, nowhere, at}

-- ---- the jobs of a name
pub record JobOf (l : List BookJob) (name : ℕ) : Type 0 where
  pub job : ℕ
  pub there : job < length l
  pub named : (get_or l job no_book_job).name ≡ name

pub known_job : (name : ℕ) (l : List BookJob) → known name l ≡ true → JobOf l name
unfolding known
known_job name [] e = never (cc)
known_job name (x ∷ l) e = go (known_job name l) (eqb x.name name) refl e
  where
    go : (known name l ≡ true → JobOf l name) → (b : Bool) → eqb x.name name ≡ b → (b || known name l) ≡ true
        → JobOf (x ∷ l) name
    go later true z e = record { job = 0; there = omega arith; named = eqb-true x.name name z }
    go later false z e =
        let rest = later e in
        record { job = suc rest.job; there = omega arith; named = rest.named }

pub unknown_job : (name : ℕ) (l : List BookJob) → known name l ≡ false → (k : ℕ) → k < length l
    → (get_or l k no_book_job).name ≢ name
unfolding known
unknown_job name [] e k h z = omega arith
unknown_job name (x ∷ l) e zero h z = never (cc (eq-eqb x.name name z, or_left (eqb x.name name) _ e))
unknown_job name (x ∷ l) e (suc k) h z = unknown_job name l (or_right (eqb x.name name) _ e) k (omega arith) z

-- no place is unknown: each name has a job
pub all_known : (l : List BookJob) (names : List ℕ) (i : ℕ) → first_unknown l names i ≡ nowhere → (q : ℕ)
    → q < length names → known (get_or names q 0) l ≡ true
unfolding first_unknown
all_known l [] i e q h = absurd (omega arith)
all_known l (x ∷ names) i e q h = go (λ z. all_known l names (suc i) z) (known x l) refl q h e
  where
    go : (first_unknown l names (suc i) ≡ nowhere → (q : ℕ) → q < length names → known (get_or names q 0) l ≡ true)
        → (b : Bool) → known x l ≡ b → (q : ℕ) → q < suc (length names)
        → pick b (first_unknown l names (suc i)) (at i) ≡ nowhere → known (get_or (x ∷ names) q 0) l ≡ true
    go later true z zero h e = z
    go later true z (suc q) h e = later e q (omega arith)
    go later false z q h e = never (cc)

-- ---- a name that is not awaited has finished jobs only
not_unfinished : (l : Label) → unfinished l ≡ false → l ≡ finished
not_unfinished unexecuted e = never (cc)
not_unfinished executing e = never (cc)
not_unfinished finished e = refl

name_finished : (name : ℕ) (l : List BookJob) → awaited name l ≡ false → (k : ℕ) → k < length l
    → (get_or l k no_book_job).name ≡ name → (get_or l k no_book_job).label ≡ finished
unfolding awaited
name_finished name [] e k h z = absurd (omega arith)
name_finished name (x ∷ l) e zero h z = not_unfinished x.label
    (rw (eq-eqb x.name name z) at (or_left (eqb x.name name && unfinished x.label) _ e))
name_finished name (x ∷ l) e (suc k) h z =
    name_finished name l (or_right (eqb x.name name && unfinished x.label) _ e) k (omega arith) z

none_one : (b : Bool) (n : ℕ) → pick b 1 0 + n ≡ 0 → (b ≡ false) × (n ≡ 0)
none_one true n e = absurd (omega arith)
none_one false n e = (refl, omega arith)

pub none_left_finished : (l : List BookJob) (names : List ℕ) → awaited_names l names ≡ 0 → (i : ℕ) → i < length names
    → (k : ℕ) → k < length l → (get_or l k no_book_job).name ≡ get_or names i 0 → (get_or l k no_book_job).label ≡ finished
unfolding awaited_names
none_left_finished l [] e i h k t z = absurd (omega arith)
none_left_finished l (x ∷ names) e zero h k t z =
    name_finished x l (none_one (awaited x l) (awaited_names l names) e).0 k t z
none_left_finished l (x ∷ names) e (suc i) h k t z =
    none_left_finished l names (none_one (awaited x l) (awaited_names l names) e).1 i (omega arith) k t z

-- ---- a name of which a job failed, and names among which is one
or-true : (b : Bool) → (b || true) ≡ true
or-true true = refl
or-true false = refl

pub record FailedJob (l : List BookJob) (name : ℕ) : Type 0 where
  pub job : ℕ
  pub there : job < length l
  pub named : (get_or l job no_book_job).name ≡ name
  pub failed : (get_or l job no_book_job).failed ≡ true

failed_job : (name : ℕ) (l : List BookJob) → has_failed name l ≡ true → FailedJob l name
unfolding has_failed
failed_job name [] e = never (cc)
failed_job name (x ∷ l) e = go (failed_job name l) (eqb x.name name) refl x.failed refl e
  where
    shift : FailedJob l name → FailedJob (x ∷ l) name
    shift r = record { job = suc r.job; there = omega arith; named = r.named; failed = r.failed }

    go : (has_failed name l ≡ true → FailedJob l name) → (b : Bool) → eqb x.name name ≡ b → (f : Bool)
        → x.failed ≡ f → ((b && f) || has_failed name l) ≡ true → FailedJob (x ∷ l) name
    go later true z true y e =
        record { job = 0; there = omega arith; named = eqb-true x.name name z; failed = y }
    go later true z false y e = shift (later e)
    go later false z f y e = shift (later e)

has_failed_lem : (name : ℕ) (l : List BookJob) (k : ℕ) → k < length l → (get_or l k no_book_job).name ≡ name
    → (get_or l k no_book_job).failed ≡ true → has_failed name l ≡ true
unfolding has_failed
has_failed_lem name [] k h z e = absurd (omega arith)
has_failed_lem name (x ∷ l) zero h z e = rw (eq-eqb x.name name z, e)
has_failed_lem name (x ∷ l) (suc k) h z e =
    rw (has_failed_lem name l k (omega arith) z e) (or-true (eqb x.name name && x.failed))

pub record FailedIn (l : List BookJob) (names : List ℕ) : Type 0 where
  pub place : ℕ
  pub within : place < length names
  pub by : FailedJob l (get_or names place 0)

pub failed_in : (l : List BookJob) (names : List ℕ) → any_failed l names ≡ true → FailedIn l names
unfolding any_failed
failed_in l [] e = never (cc)
failed_in l (x ∷ names) e = go (failed_in l names) (has_failed x l) refl e
  where
    go : (any_failed l names ≡ true → FailedIn l names) → (b : Bool) → has_failed x l ≡ b
        → (b || any_failed l names) ≡ true → FailedIn l (x ∷ names)
    go later true z e = record { place = 0; within = omega arith; by = failed_job x l z }
    go later false z e =
        let rest = later e in
        record { place = suc rest.place; within = omega arith; by = rest.by }

pub any_failed_lem : (l : List BookJob) (names : List ℕ) (i : ℕ) → i < length names → FailedJob l (get_or names i 0)
    → any_failed l names ≡ true
unfolding any_failed
any_failed_lem l [] i h f = absurd (omega arith)
any_failed_lem l (x ∷ names) zero h f = rw (has_failed_lem x l f.job f.there f.named f.failed)
any_failed_lem l (x ∷ names) (suc i) h f = rw (any_failed_lem l names i (omega arith) f) (or-true (has_failed x l))
