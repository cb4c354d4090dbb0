-- THE PROMISES: what is claimed of the task graph, as docs/CLAIM.md has it in words, each with a one-line proof that
-- names where it was shown. All else that is shown stands in crates/details; nobody need read it to believe this.
-- `docs/PROMISES.md` says which definitions a reader must believe for each part, and how many lines.
-- "Laid out" means: `lay_out s t` answered so, whatever the tables t held before. A call is a single item or a whole
-- call; what is read off calls and replies stands in def_host_calls, specs/CallsDemand.antt.
use Rattle.std.specs.Prelude.{◌≡◌, List, map, ℕ, ◌^◌, take}
use Rattle.def_terms.specs.Runs.{Item, after}
use Rattle.def_terms.specs.declared.Sizes.{Sizes}
use Rattle.def_terms.specs.declared.Answer.TheVariants.{Laid, Refused}
use Rattle.def_words.specs.Layout.{Tables}
use Rattle.def_words.specs.Words.{perform, lay_out}
use Rattle.def_words.specs.Observed.{seen}
use Rattle.def_demand.specs.LongFirst.{TakesLongest}
use Rattle.thm_words_refusals.specs.Numbers.{Fits}
use Rattle.thm_words_refusals.specs.Numbers as list
use Rattle.thm_words_need.specs.Within as within
use Rattle.def_sheets.specs.Job.{Job, Below}
use Rattle.def_sheets.proofs.NumberLaws.{Bytes}
use Rattle.def_sheets.specs.Decode.{decode_sheet, jobs}
use Rattle.def_host_calls.specs.HostCalls.{HostCall, replied, worth, reply_worth, after_calls}
use Rattle.def_host_calls.specs.CallsDemand.{CallsDemand}
use Rattle.thm_calls_history.specs.WordsCalls.{turned_words, answer_words}
use Rattle.thm_calls_history.specs.Worth.{whole_is_worth}
use Rattle.thm_calls_history.proofs.Theorem.{calls_demand}
use Rattle.def_audit.specs.Audit.{Among, answers_in, HandsOutOnce, HandsOutFairly, ForgetsNone}
use Rattle.def_audit.specs.Served.{ServesAll}
use Rattle.thm_calls_audit.specs.AcceptedAdds.{serves_all_lem}
use Rattle.thm_calls_audit.specs.Question as question
use Rattle.def_audit.specs.InTurn.{ByCount}
use Rattle.thm_calls_audit.specs.NeverDamaged.{never_nine}
use Rattle.thm_calls_audit.specs.EachEnds.{EachEnds, each_ends}
use Rattle.thm_calls_audit.specs.InTurn as in_turn_lem
use Rattle.thm_sheets.specs.SheetPromises as sheets
use Rattle.def_sheets.specs.Reading.{SheetReadsExactly}
use Rattle.thm_sheets.specs.Writing.{WritesSheetExactly}
use Rattle.def_sheets.specs.Write.{job_of, entries_of, write_sheet}
use Rattle.def_sheets.specs.declared.SheetWrote.{SheetWrote}
use Rattle.def_room.specs.Room.{room_of}
use Rattle.thm_room.specs.Tells.{TellsRoom, EnoughTold}
use Rattle.thm_room.specs.Settled.{tells_room}
use Rattle.thm_room.specs.Enough.{enough_told}
use Rattle.thm_full_run.specs.SheetRuns.{FullRuns}
use Rattle.thm_full_run.specs.SheetSteps.{full_runs}
use Rattle.thm_words_need.specs.Need.{KeepsToNeed}
use Rattle.thm_pinned.specs.FreshWords.{LaysFresh, lays_fresh}
use Rattle.thm_pinned.specs.PutBack.{Leaves, leaves}
use Rattle.taskgraph_heard.proofs.ToldApart.{ToldApart, told_apart}
use Rattle.taskgraph_answer.specs.WholeAnswers.{whole_of, told_whole}
use Rattle.thm_whole_answers.specs.Stopped.{TellsWhole}
use Rattle.thm_whole_answers.proofs.Stopped.{tells_whole}
use Rattle.def_terms.specs.Terms.{arguments_wrong}
use Rattle.thm_arguments.specs.Judged.{Judges, wrong_means}

-- ---- of every list of calls from tables that were laid out, whatever they held before: single posts, steps, gets and
-- loads, adds and finishes run whole, and sheets of adds, by any workers in any order, refused ones among them
module _ (s : Sizes) (t : Tables) (laid : (lay_out s t).answer ≡ Laid) (calls : List HostCall) where
  -- the fresh graph, and the tables after the calls
  abbrev pub fresh : Tables
  fresh = (lay_out s t).state

  abbrev pub now : Tables
  now = after_calls answer_words fresh calls

  -- ---- THE AUDITOR'S QUESTION: "could a sheet, or the moment at which a worker happens to run, bring a canal split
  -- forward of the reach it rests on, or have it worked twice?" By calls and replies alone.
  -- Each job is handed out at most once, a name is added once, and at most one finish of it is accepted; what was
  -- decided stays so, no call takes the place of one half done, and a call with other sizes or of no worker is refused.
  pub no_job_is_handed_out_twice : HandsOutOnce answer_words s fresh calls
  no_job_is_handed_out_twice = question.once s t laid calls

  -- When a job is handed out, a finish of each of its prerequisites was accepted before, each by the worker that was
  -- handed it, and it is told whether one of them failed; it goes to a worker that asks, is in no call and holds none.
  pub none_is_handed_out_early : HandsOutFairly answer_words s fresh calls
  none_is_handed_out_early = question.fairly s t laid calls

  -- And none is forgotten: a worker that asks is handed a job or told "none ready"; it is told so only if each job was
  -- handed out whose add and whose prerequisites' finishes have ended, also with another worker's call half done; and
  -- with no call half done and no job held, all are finished.
  pub none_is_forgotten : ForgetsNone answer_words s fresh calls
  none_is_forgotten = question.none_forgotten s t laid calls

  -- Nor is an add, a finish or a load refused or taken at will: an add is answered by the adds accepted before it, run
  -- whole and step by step, with 5, 6, 7 or 8 or accepted, a finish by what its worker was handed; and what was taken
  -- is not refused on its way, and ends: an add by its 2d + 2 steps, a finish within A + 1.
  pub nothing_is_refused_at_will : ServesAll answer_words s fresh calls
  nothing_is_refused_at_will = serves_all_lem s t laid calls

  -- ---- DEMAND 3, whole. A call replies what its posts and steps answer, with no other worker's step between. Each
  -- item does and answers what the rules say; no job enters the ready queue twice, none before each of its
  -- prerequisites is marked finished, each once its add and the finishes of its prerequisites have ended; jobs, labels,
  -- outcomes and holds and how each call ended are those of the plain book, and with no call half done counts, spoiled
  -- words and waiting jobs too.
  pub every_list_of_calls_is_right : CallsDemand perform turned_words answer_words seen s fresh calls
  every_list_of_calls_is_right = calls_demand s t laid calls

  -- Number 9, damaged words, never comes.
  pub number_9_never_comes : (c : HostCall) (i : ℕ) → Among (Refused 9 i) (answers_in (answer_words now c).reply) → ⊥
  number_9_never_comes = never_nine s t laid calls

  -- ---- DEMANDS 1 AND 2. Every call ends: an accepted add after 2d + 2 steps, a finish after 1 more than its job has
  -- arcs; and no whole call is cut short.
  pub every_call_ends : EachEnds answer_words seen s fresh calls
  every_call_ends = each_ends s t laid calls

  -- "Get takes the waiting job with the most minutes, equal minutes by earlier entry into the queue", and a job with k
  -- jobs before it in this order is handed out by the (k+1)th get that hands one out, while no heavier job enters.
  pub long_jobs_go_first : TakesLongest perform seen s now
  long_jobs_go_first = in_turn_lem.takes_longest s t laid calls

  pub a_job_is_handed_out_in_its_turn : ByCount answer_words seen now
  a_job_is_handed_out_in_its_turn = in_turn_lem.by_count s t laid calls

-- ---- of ALL tables, damaged ones too. (What each call answers and leaves is settled by the words' definitions, with
-- which the contracts of the `tg_` functions are equations; these say that it keeps to the list.)
module _ (t : Tables) (i : Item) where
  -- "either served or turned away by a number from the paper's list", by kind of item; and a refusal changes nothing,
  -- but for 6, 7 and 8: "worker idle, nothing else changed", which is said of every word, as is how "A call that ends
  -- puts the words of its call back".
  pub every_answer_is_on_the_list : Fits i (perform t i).answer × Leaves perform t i
  every_answer_is_on_the_list = (list.fits t i, leaves t i)

  -- "words past a table's need are never touched": tables that agree in the words needed give one answer and agree in
  -- them afterwards, the rest is as it was, and so is each table's length.
  pub nothing_past_the_need_is_touched : KeepsToNeed perform t i
  nothing_past_the_need_is_touched = within.keeps_to_need t i

-- Laying out succeeds exactly if the sizes lie in their limits and each table is long enough; then the words needed are
-- a fresh graph, each word by its offset and numeral, whatever they were, and the rest is as it was. Else it is refused
-- by 1, and nothing is changed. No table's length is.
pub a_fresh_graph_is_these_words : (s : Sizes) (t : Tables) → LaysFresh lay_out s t
a_fresh_graph_is_these_words = lays_fresh

-- "equal those of the single adds with no other worker's step between": a whole call replies what the items that it is
-- worth answer, and leaves what they leave.
pub a_call_is_its_posts_and_steps : (t : Tables) (c : HostCall)
    → answer_words t c ≡ replied (reply_worth perform turned_words t c) (after perform t (worth perform turned_words t c))
a_call_is_its_posts_and_steps = whole_is_worth

-- Number 5, both ways, by places and numerals.
pub number_5_is_judged_exactly : Judges arguments_wrong
number_5_is_judged_exactly = wrong_means

-- What a sheet's bytes mean: its entries follow each other up to its end, each a job's one spelling, or it is refused
-- by 12, 13 or 14 at the offset of the first fault of the first faulty entry;
pub a_sheet_is_read_exactly : (s : List ℕ) → Bytes s → SheetReadsExactly decode_sheet s
a_sheet_is_read_exactly = sheets.a_sheet_is_read_exactly

-- writing refuses by 1, by 14 at the first field out of range, or by 15, with the output as it was, and else leaves the
-- one spelling in front;
pub a_sheet_is_written_exactly : (rows out : List ℕ) → WritesSheetExactly write_sheet rows out
a_sheet_is_written_exactly = sheets.a_sheet_is_written_exactly

-- so one accepted sheet has one spelling, and "A job sheet written and read back gives the same jobs".
pub one_sheet_one_spelling : (a b : List ℕ) (js : List Job) → Bytes a → Bytes b → decode_sheet a ≡ jobs js
    → decode_sheet b ≡ jobs js → a ≡ b
one_sheet_one_spelling = sheets.one_sheet_one_spelling

pub a_written_sheet_is_read_back : (rows out : List ℕ) (k n : ℕ) → Below (2 ^ 32) rows
    → (write_sheet rows out).answer ≡ SheetWrote.Done k n
    → decode_sheet (take n (write_sheet rows out).out) ≡ jobs (map job_of (entries_of rows))
a_written_sheet_is_read_back = sheets.a_written_sheet_is_read

-- ---- THE ROOM OF A SHEET, before it touches a graph: jobs, arcs and the steps of a full run, if its adds, run in
-- order on a fresh graph of greatest size, would all be accepted; else the first entry turned away; or where the sheet
-- cannot be read. Of every list of bytes, by the adds themselves, whatever b and P are.
pub a_sheets_room_is_told_exactly : (sheet : List ℕ) → TellsRoom room_of sheet
a_sheets_room_is_told_exactly = tells_room

-- With at least so many jobs and arcs each add is accepted, with fewer one is refused by 8; and where none is refused by
-- 8, no larger size changes an answer.
pub enough_room_is_enough : (sheet : List ℕ) → EnoughTold room_of sheet
enough_room_is_enough = enough_told

-- From a fresh graph every run in which all adds end before the first job is handed out, and every job is handed out
-- and finished, takes 4n + 3a steps, and one for each look-up of an add that is refused later: by any workers, in any
-- order. So a full run of a sheet takes the steps told, and wherever there is room there is such a run.
pub a_full_run_takes_the_steps_told : FullRuns room_of
a_full_run_takes_the_steps_told = full_runs

-- ---- THE C INTERFACE. Every struct that C is handed can be read back, by its fields and the numerals of the header,
-- to the answer; fields that say nothing are 0. Single entries, counts and rows are read and written exactly too, and
-- rows are added as the call of their sheet is.
pub what_c_is_told_can_be_heard : ToldApart
what_c_is_told_can_be_heard = told_apart

-- An add or a finish run whole that damage stops half done is told so, exactly where it answers 9 and a table changed.
pub a_stopped_call_is_told_so : TellsWhole (λ t w o. told_whole (whole_of t w o))
a_stopped_call_is_told_so = tells_whole
