-- What a step stores, by its plan: the worker's record as a list of 43 words, and the other tables. Follows
-- docs/RULES.md, "Steps".
use Rattle.std.specs.Prelude.{List, [], ◌∷◌, ℕ, ◌+◌, eqb, get_or, set}
use Rattle.std.proofs.lemmas.List.Edits.{sets}
use Rattle.def_basics.specs.Base.{pick}
use Rattle.def_words.specs.Columns.{offset, put, put_header}
use Rattle.def_words.specs.Layout.{Tables, tables, none, job_shape, MADE, FIRST, LAST, arc_shape, RESERVED, AFTER}
use Rattle.def_words.specs.Layout.{bucket_shape, PHASE, HELD, OWN_NAME, LIST_COUNT, OWN_CLASS, OWN_GROWER, TALLY, PLACE}
use Rattle.def_words.specs.Layout.{OWN_JOB, OWN_ARC, NOTE, IDLE, LINKING, NOTIFYING, bare_worker, NEWEST}
use Rattle.def_words.specs.Words.{first_arc, noted, put_count, put_outcome, new_arc}
use Rattle.def_words.specs.Index.{put_seat}
use Rattle.def_words.specs.declared.Plan.{Plan}
use Rattle.def_words.specs.declared.Plan.TheVariants.{Refuse, Quit, Pass, Enter, Tally, LinkFirst, LinkAfter, Settle}
use Rattle.def_words.specs.declared.Plan.TheVariants.{SettleQueue, Mark, Notify, NotifyQueue}

-- ---- the record as a plan leaves it
abbrev pub idle_record : List ℕ → List ℕ
idle_record r = bare_worker IDLE (get_or r HELD 0) 0

abbrev pub next_record : List ℕ → List ℕ
next_record r = set r PLACE (get_or r PLACE 0 + 1)

abbrev pub record_by : Plan → List ℕ → List ℕ
record_by (Refuse n) r = r
record_by (Quit n i) r = idle_record r
record_by Pass r = next_record r
record_by (Enter j k h x) r =
    set (set (set (set r PHASE LINKING) PLACE 0) OWN_JOB j) OWN_ARC (first_arc (get_or r LIST_COUNT 0) x)
record_by (Tally o) r = set (set (next_record r) TALLY (get_or r TALLY 0 + 1)) NOTE (noted o (get_or r NOTE 0))
record_by (LinkFirst p x j) r = next_record r
record_by (LinkAfter p l x j) r = next_record r
record_by (Settle j c) r = idle_record r
record_by (SettleQueue j c e) r = idle_record r
record_by (Mark p x) r =
    pick (eqb x none) (bare_worker IDLE none 0) (set (set (set r PHASE NOTIFYING) HELD none) OWN_ARC x)
record_by (Notify j c x) r = pick (eqb x none) (idle_record r) (set r OWN_ARC x)
record_by (NotifyQueue j c x e) r = pick (eqb x none) (idle_record r) (set r OWN_ARC x)

-- ---- the other tables as a plan leaves them
abbrev pub record_job : List ℕ → ℕ → List ℕ
record_job r head =
    get_or r OWN_NAME 0 ∷ 0 ∷ get_or r LIST_COUNT 0 ∷ get_or r OWN_CLASS 0 ∷ get_or r OWN_GROWER 0 ∷ none ∷ none
    ∷ head ∷ 0 ∷ 0 ∷ []

-- a job's count, and its spoiled word by the note of the record
abbrev pub note_count : List ℕ → List ℕ → ℕ → ℕ → List ℕ
note_count r l j c = put_count l j c (get_or r NOTE 0)

unfoldable pub stored_by : Plan → Tables → List ℕ → Tables
stored_by (Refuse n) t r = t
stored_by (Quit n i) t r = t
stored_by Pass t r = t
stored_by (Enter j k h x) t r =
    tables (put_header (sets t.jobs (offset job_shape j 0) (record_job r h)) MADE (j + 1))
    (put_header t.arcs RESERVED (x + get_or r LIST_COUNT 0))
    (put bucket_shape t.buckets k NEWEST j)
    t.queue
    t.workers
stored_by (Tally o) t r = t
stored_by (LinkFirst p x j) t r =
    tables (put job_shape (put job_shape t.jobs p FIRST x) p LAST x) (new_arc t.arcs x j) t.buckets t.queue
    t.workers
stored_by (LinkAfter p l x j) t r =
    tables (put job_shape t.jobs p LAST x) (put arc_shape (new_arc t.arcs x j) l AFTER x) t.buckets t.queue
    t.workers
stored_by (Settle j c) t r = tables (note_count r t.jobs j c) t.arcs t.buckets t.queue t.workers
stored_by (SettleQueue j c e) t r =
    tables (note_count r t.jobs j c) t.arcs t.buckets (put_seat t.queue e j) t.workers
stored_by (Mark p x) t r = tables (put_outcome t.jobs p (get_or r NOTE 0)) t.arcs t.buckets t.queue t.workers
stored_by (Notify j c x) t r = tables (note_count r t.jobs j c) t.arcs t.buckets t.queue t.workers
stored_by (NotifyQueue j c x e) t r =
    tables (note_count r t.jobs j c) t.arcs t.buckets (put_seat t.queue e j) t.workers
