-- For ALL tables: which calls write the outcome, the spoiled word and the note, and which do not, of any machine over
-- the tables, by the words of docs/TABLES.md. Follows docs/RULES.md: "A link to a failed job is noted beside the tally,
-- and settling spoils; a failed finish's step for an arc spoils that arc's dependent". (OutcomeItems.antt shows it of
-- the words' calls; Wrong/Outcomes.antt and Wrong/OutcomeSteps.antt have machines that do otherwise.)
use Rattle.std.specs.Prelude.{◌≡◌, true, ℕ, ◌+◌, ◌*◌, ◌≤◌, ◌<◌, get_or}
use Rattle.def_terms.specs.Terms.{Arguments, Finish, bit}
use Rattle.def_terms.specs.Runs.{Item, post_add, post_finish, step, Result, result_of}
use Rattle.def_terms.specs.declared.Sizes.{Sizes}
use Rattle.def_terms.specs.declared.Answer.{Answer}
use Rattle.def_terms.specs.declared.Answer.TheVariants.{Laid, Loaded, Posted, Going, Ended, NoneReady, Handed, Refused}
use Rattle.def_words.specs.Layout.{Tables, view}
use Rattle.def_words.specs.Words.{name_at}
use Rattle.def_words.specs.declared.Found.TheVariants.{At}
use Rattle.thm_words_tests.specs.Judged.{Admitted}
use Rattle.thm_words_tests.specs.OneWord.{own_word, job_word}
use Rattle.thm_words_refusals.specs.Refusals.{ends}
use Rattle.thm_words_steps.specs.Buckets.{LooksFor}

-- of the spoiled word of job j, from the tables t to the tables u: it is as it was; or j has just been entered, and it
-- is 0; or it is 1, of the job that a settling step of a worker with the note 1 settles, or of the dependent of the arc
-- of such a worker's step
pub data SpoiledAfter (t u : Tables) (j : ℕ) : Item → Type 0 where
  same : {i : Item} → job_word u j 9 ≡ job_word t j 9 → SpoiledAfter t u j i
  entered : {s : Sizes} {w : ℕ} → own_word t w 0 ≡ 1 → own_word t w 3 ≤ own_word t w 7 → get_or t.jobs 4 0 ≡ j
      → job_word u j 9 ≡ 0 → SpoiledAfter t u j (step s w)
  settled : {s : Sizes} {w : ℕ} → own_word t w 0 ≡ 2 → own_word t w 3 ≤ own_word t w 7 → own_word t w 8 ≡ j
      → own_word t w 10 ≡ 1 → job_word u j 9 ≡ 1 → SpoiledAfter t u j (step s w)
  notified : {s : Sizes} {w : ℕ} → own_word t w 0 ≡ 4 → get_or t.arcs (1 + 2 * own_word t w 9) 0 ≡ j
      → own_word t w 10 ≡ 1 → job_word u j 9 ≡ 1 → SpoiledAfter t u j (step s w)

-- of its outcome: as it was; 0 of a job just entered; or of the job that a mark's worker holds, that worker's note
pub data OutcomeAfter (t u : Tables) (j : ℕ) : Item → Type 0 where
  same : {i : Item} → job_word u j 8 ≡ job_word t j 8 → OutcomeAfter t u j i
  entered : {s : Sizes} {w : ℕ} → own_word t w 0 ≡ 1 → own_word t w 3 ≤ own_word t w 7 → get_or t.jobs 4 0 ≡ j
      → job_word u j 8 ≡ 0 → OutcomeAfter t u j (step s w)
  marked : {s : Sizes} {w : ℕ} → own_word t w 0 ≡ 3 → own_word t w 1 ≡ j → job_word u j 8 ≡ own_word t w 10
      → OutcomeAfter t u j (step s w)

-- of the note of worker v, from the tables t to the answer and tables o: as it was; 0 or the outcome after v's post; 1
-- after v's link to a finished job that failed; or 0 after an answer that ends v's call
pub data NoteAfter (t : Tables) (o : Result Tables) (v : ℕ) : Item → Type 0 where
  same : {i : Item} → own_word o.state v 10 ≡ own_word t v 10 → NoteAfter t o v i
  posted_add : {s : Sizes} {a : Arguments} → own_word o.state v 10 ≡ 0 → NoteAfter t o v (post_add s v a)
  posted_finish : {s : Sizes} {f : Finish} → own_word o.state v 10 ≡ bit f.failed
      → NoteAfter t o v (post_finish s v f)
  linked : {s : Sizes} (p : ℕ) → own_word t v 0 ≡ 2 → own_word t v 7 < own_word t v 3
      → LooksFor s t (name_at (view t) v) (At p) → job_word t p 1 ≡ 2 → job_word t p 8 ≡ 1
      → own_word o.state v 10 ≡ 1 → NoteAfter t o v (step s v)
  ended : {s : Sizes} → ends o.answer ≡ true → own_word o.state v 0 ≡ 0 → own_word o.state v 10 ≡ 0
      → NoteAfter t o v (step s v)

-- a step that was made
abbrev pub Served : Answer → Type 0
Served Going = Unit {0}
Served Ended = Unit {0}
Served Laid = ⊥
Served Loaded = ⊥
Served Posted = ⊥
Served NoneReady = ⊥
Served (Handed h) = ⊥
Served (Refused n i) = ⊥

-- "only" these write, and these do write: entering clears the outcome and the spoiled word of its job, a link to a
-- failed job notes it, settling and an arc's step spoil where the note is 1, and a mark keeps the outcome; an outcome
-- that is not 0 or 1 is 9 where a link reads it, with nothing changed
pub record WritesOutcomes (perform : Tables → Item → Result Tables) : Type 0 where
  pub spoiled : (t : Tables) (i : Item) (j : ℕ) → SpoiledAfter t (perform t i).state j i
  pub outcomes : (t : Tables) (i : Item) (j : ℕ) → OutcomeAfter t (perform t i).state j i
  pub notes : (t : Tables) (i : Item) (v : ℕ) → NoteAfter t (perform t i) v i
  pub entering_clears : (s : Sizes) (t : Tables) (w : ℕ) → own_word t w 0 ≡ 1 → own_word t w 3 ≤ own_word t w 7
      → Served (perform t (step s w)).answer
      → (job_word (perform t (step s w)).state (get_or t.jobs 4 0) 8 ≡ 0)
      × (job_word (perform t (step s w)).state (get_or t.jobs 4 0) 9 ≡ 0)
  pub link_notes : (s : Sizes) (t : Tables) (w p : ℕ) → own_word t w 0 ≡ 2 → own_word t w 7 < own_word t w 3
      → LooksFor s t (name_at (view t) w) (At p) → job_word t p 1 ≡ 2 → job_word t p 8 ≡ 1
      → Served (perform t (step s w)).answer
      → own_word (perform t (step s w)).state w 10 ≡ 1
  pub outcome_by_9 : (s : Sizes) (t : Tables) (w p : ℕ) → Admitted s t w → own_word t w 0 ≡ 2
      → own_word t w 7 < own_word t w 3
      → LooksFor s t (name_at (view t) w) (At p) → job_word t p 1 ≡ 2 → 1 < job_word t p 8
      → perform t (step s w) ≡ result_of (Refused 9 0) t
  pub settling_spoils : (s : Sizes) (t : Tables) (w : ℕ) → own_word t w 0 ≡ 2
      → (perform t (step s w)).answer ≡ Ended → own_word t w 10 ≡ 1
      → job_word (perform t (step s w)).state (own_word t w 8) 9 ≡ 1
  pub arc_spoils : (s : Sizes) (t : Tables) (w : ℕ) → own_word t w 0 ≡ 4 → Served (perform t (step s w)).answer
      → own_word t w 10 ≡ 1
      → job_word (perform t (step s w)).state (get_or t.arcs (1 + 2 * own_word t w 9) 0) 9 ≡ 1
  pub mark_keeps : (s : Sizes) (t : Tables) (w : ℕ) → own_word t w 0 ≡ 3 → Served (perform t (step s w)).answer
      → job_word (perform t (step s w)).state (own_word t w 1) 8 ≡ own_word t w 10
