-- The reference model: docs/RULES.md's plain book, which is fed whole calls, one after another. It keeps the jobs in
-- order of entry and each worker's hold; counts and readiness are worked out from the labels.
use Rattle.std.specs.Prelude.{◌≡◌, Bool, true, false, ◌&&◌, ◌||◌, not, List, [], ◌∷◌, ◌++◌, ℕ, suc, ◌+◌, ◌<◌, ltb, leb, eqb, length, get_or, set}
use Rattle.std.proofs.Math.Option.{Option, none, some}
use Rattle.def_numbers.specs.Numbers.{wrong_arguments, unknown_name, name_present, tables_full, already_holding, not_held}
use Rattle.def_numbers.specs.Numbers.{good_for_spoiled}
use Rattle.def_basics.specs.Base.{pick, update}
use Rattle.def_terms.specs.Terms.{Label, unexecuted, executing, finished, Arguments, listed, arguments_wrong, Finish}
use Rattle.def_terms.specs.declared.Sizes.{Sizes}
use Rattle.def_terms.specs.declared.HandOut.{HandOut}

-- "the jobs in order of entry (name, list, class, grower, label)"; the book "is fed the outcome and keeps it with the
-- label": failed, or good, which is also that of a job not finished
pub record BookJob : Type 0 where
  pub name : ℕ
  pub list : List ℕ
  pub class : ℕ
  pub grower : ℕ
  pub label : Label
  pub failed : Bool

-- "and each worker's hold": a job, by its number in order of entry, or none
pub record Book : Type 0 where
  pub jobs : List BookJob
  pub held : ℕ → Option ℕ

unfoldable pub blank : Book
blank = record { jobs = []; held = λ w. none }

abbrev pub book_job_by : ℕ → List ℕ → ℕ → ℕ → Label → Bool → BookJob
book_job_by name list class grower label failed =
    record { name = name; list = list; class = class; grower = grower; label = label; failed = failed }

abbrev pub no_book_job : BookJob
no_book_job = book_job_by 0 [] 0 0 unexecuted false

abbrev pub book_job : Book → ℕ → BookJob
book_job b j = get_or b.jobs j no_book_job

-- ---- what is worked out from the jobs
-- a job has the name
unfoldable pub known : ℕ → List BookJob → Bool
known name [] = false
known name (x ∷ l) = eqb x.name name || known name l

abbrev pub unfinished : Label → Bool
unfinished unexecuted = true
unfinished executing = true
unfinished finished = false

-- the name has a job that is not finished
unfoldable pub awaited : ℕ → List BookJob → Bool
awaited name [] = false
awaited name (x ∷ l) = (eqb x.name name && unfinished x.label) || awaited name l

unfoldable pub awaited_names : List BookJob → List ℕ → ℕ
awaited_names jobs [] = 0
awaited_names jobs (x ∷ l) = pick (awaited x jobs) 1 0 + awaited_names jobs l

-- "A job's remaining count is how many listed names have jobs not finished"
abbrev pub remaining : Book → ℕ → ℕ
remaining b j = awaited_names b.jobs (book_job b j).list

-- the name has a job that failed
unfoldable pub has_failed : ℕ → List BookJob → Bool
has_failed name [] = false
has_failed name (x ∷ l) = (eqb x.name name && x.failed) || has_failed name l

unfoldable pub any_failed : List BookJob → List ℕ → Bool
any_failed jobs [] = false
any_failed jobs (x ∷ l) = has_failed x jobs || any_failed jobs l

-- "has a job spoiled if a prerequisite failed"
abbrev pub spoiled : Book → ℕ → Bool
spoiled b j = any_failed b.jobs (book_job b j).list

-- "it is ready, and waits, if unexecuted with count 0"
pub record Ready (b : Book) (j : ℕ) : Type 0 where
  pub there : j < length b.jobs
  pub unexecuted : (book_job b j).label ≡ unexecuted
  pub none_left : remaining b j ≡ 0

-- ---- whole calls, and how they end
pub data Call : Type 0 where
  add : ℕ → Arguments → Call
  get : ℕ → Call
  finish : ℕ → Finish → Call

pub data End : Type 0 where
  accepted : End
  none_ready : End
  handed : HandOut → End
  refused : ℕ → ℕ → End

-- what holds of a call that was accepted, and what of any other
abbrev pub if_accepted : {A : Type 0} → End → A → A → A
if_accepted accepted a e = a
if_accepted none_ready a e = e
if_accepted (handed h) a e = e
if_accepted (refused n p) a e = e

-- the first place whose name no job has
pub data Place : Type 0 where
  nowhere : Place
  at : ℕ → Place

unfoldable pub first_unknown : List BookJob → List ℕ → ℕ → Place
first_unknown jobs [] i = nowhere
first_unknown jobs (x ∷ l) i = pick (known x jobs) (first_unknown jobs l (suc i)) (at i)

-- the names in the lists of all jobs
unfoldable pub listed_names : List BookJob → ℕ
listed_names [] = 0
listed_names (x ∷ l) = length x.list + listed_names l

-- "8 if R jobs are there or the lists of all jobs and its own together have over A names"
abbrev pub full : Sizes → Book → Arguments → Bool
full s b a = leb s.jobs (length b.jobs) || ltb s.arcs (listed_names b.jobs + length (listed a))

-- "Add: 5 by its arguments; else 6 with the first place whose name no job has; else 7 if its own name is there; else 8"
unfoldable pub add_known : Sizes → Book → Arguments → Place → End
add_known s b a (at i) = refused unknown_name i
add_known s b a nowhere =
    pick (known a.name b.jobs) (refused name_present 0) (pick (full s b a) (refused tables_full 0) accepted)

unfoldable pub add_end : Sizes → Book → Arguments → End
add_end s b a =
    pick (arguments_wrong a) (refused wrong_arguments 0) (add_known s b a (first_unknown b.jobs (listed a) 0))

-- "Finish: 11 unless the worker holds a job of that name"; "19, good for a spoiled job, after 11"
unfoldable pub finish_end : Book → Finish → Option ℕ → End
finish_end b f none = refused not_held 0
finish_end b f (some j) =
    pick (eqb (book_job b j).name f.name)
    (pick (spoiled b j && not f.failed) (refused good_for_spoiled 0) accepted)
    (refused not_held 0)

-- a job as it is handed out
abbrev pub hand_out : Book → ℕ → HandOut
hand_out b j = record { job = j; name = (book_job b j).name; spoiled = spoiled b j }

-- "Get: 10 exactly if the worker holds a job. Else the answer is none ready, or a job ready in the book", under its own
-- name, spoiled or not
pub data GetEnd (b : Book) : Option ℕ → End → Type 0 where
  holding : {j : ℕ} → GetEnd b (some j) (refused already_holding 0)
  nothing : GetEnd b none none_ready
  taken : (j : ℕ) → Ready b j → GetEnd b none (handed (hand_out b j))

-- how the book has a call end
abbrev pub Ends : Sizes → Book → Call → End → Type 0
Ends s b (add w a) e = e ≡ add_end s b a
Ends s b (get w) e = GetEnd b (b.held w) e
Ends s b (finish w f) e = e ≡ finish_end b f (b.held w)

-- ---- what a call leaves; "A refused call changes nothing"
-- a job's label becomes l and its outcome f
abbrev pub labelled : Book → ℕ → Label → Bool → List BookJob
labelled b j l f =
    let x = book_job b j in set b.jobs j (book_job_by x.name x.list x.class x.grower l f)

-- "Otherwise that job becomes finished and the hold ends", with the outcome f
unfoldable pub finished_by : Book → ℕ → Bool → Option ℕ → Book
finished_by b w f none = b
finished_by b w f (some j) = record { jobs = labelled b j finished f; held = update b.held w none }

-- the job of an add enters
abbrev pub new_book_job : Arguments → BookJob
new_book_job a = book_job_by a.name (listed a) a.class a.grower unexecuted false

unfoldable pub next : Book → Call → End → Book
next b (add w a) e = if_accepted e (record { jobs = b.jobs ++ (new_book_job a ∷ []); held = b.held }) b
next b (finish w f) e = if_accepted e (finished_by b w f.failed (b.held w)) b
next b (get w) (handed h) =
    record {
      jobs = labelled b h.job executing (book_job b h.job).failed;
      held = update b.held w (some h.job);
    }
next b (get w) accepted = b
next b (get w) none_ready = b
next b (get w) (refused n p) = b

-- a whole call with how it ended
pub record Ended : Type 0 where
  pub call : Call
  pub end : End

-- fed the calls one after another, the book has each end as it did, and is left as it is
pub data Follows (s : Sizes) : Book → List Ended → Book → Type 0 where
  done : {b : Book} → Follows s b [] b
  feed : {b c : Book} {e : Ended} {l : List Ended} → Ends s b e.call e.end
      → Follows s (next b e.call e.end) l c → Follows s b (e ∷ l) c
