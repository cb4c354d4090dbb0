-- When tables are laid out, and what laying out leaves: a fresh graph in the words needed, whatever they were, and the
-- rest as it was. For all tables. Follows docs/RULES.md, "Tables and their measures" ("Laying out makes a fresh graph")
-- and "Turned-away calls" (number 1).
use Rattle.std.specs.Prelude.{◌≡◌, true, List, ◌++◌, ℕ, zero, suc, ◌+◌, ◌*◌, ◌^◌, ◌<◌, leb, length, get_or, drop}
use Rattle.std.proofs.Common.{ap, ◌∙◌, arith, mul-suc, zero-add, length-append, leb-true}
use Rattle.std.proofs.lemmas.List.{length-replicate}
use Rattle.std.proofs.Math.ListN.{get_or-append}
use Rattle.std.proofs.lemmas.List.Edits.{sets, sets-eq}
use Rattle.std.proofs.Math.Seq.{length-sets}
use Rattle.def_numbers.specs.Numbers.{wrong_size}
use Rattle.def_basics.specs.Base.{pick}
use Rattle.def_basics.specs.Laws.{fails}
use Rattle.def_minutes.specs.Minutes.{fixed_minutes}
use Rattle.def_terms.specs.Runs.{Result, result_of}
use Rattle.def_terms.specs.declared.Sizes.{Sizes}
use Rattle.def_terms.specs.declared.Answer.TheVariants.{Laid, Refused}
use Rattle.def_words.specs.Columns.{rows}
use Rattle.def_words.specs.Layout.{none, job_shape, arc_shape, bucket_shape, queue_shape, worker_shape, IDLE, Tables, tables}
use Rattle.def_words.specs.Layout.{need, bare_worker, repeated, fresh_job, fresh_arc, fresh_cell, fresh_jobs, fresh_arcs}
use Rattle.def_words.specs.Layout.{fresh_buckets}
use Rattle.def_words.specs.Layout.{fresh_queue, fresh_workers, fresh_tables, long_enough, room_for}
use Rattle.def_words.specs.Words.{lay_out}
use Rattle.thm_words_tests.specs.Tests.{test, parts, Long, long}
use Rattle.thm_words_tests.specs.Judged.{Roomy, room_means}
use Rattle.thm_words_need.specs.Parts.{rest, joined, lengths}

-- "no jobs, all workers idle and holding nothing, the fixed minutes, unused words 0, every place none"
abbrev pub fresh : Sizes → Tables
fresh s = tables (fresh_jobs s) (fresh_arcs s) (fresh_buckets s) (fresh_queue s) (fresh_workers s)

length_repeated : (n : ℕ) (r : List ℕ) → length (repeated n r) ≡ length r * n
unfolding repeated
length_repeated zero r = omega arith
length_repeated (suc n) r = omega (arith, length-append r (repeated n r), length_repeated n r, mul-suc (length r) n)

lay_table : (x l : List ℕ) (n : ℕ) → length x ≡ n → leb n (length l) ≡ true → sets l 0 x ≡ x ++ drop n l
lay_table x l n e h =
    sets-eq x l 0 (omega (arith, leb-true n (length l) h)) ∙ ap (λ k. x ++ drop k l) (zero-add (length x) ∙ e)

lay_fresh : (s : Sizes) (t : Tables) → Long s t → fresh_tables s t ≡ joined (fresh s) (rest s t)
unfolding fresh_tables rows fixed_minutes
lay_fresh s t h i =
    let jobs = length_repeated s.jobs fresh_job in
    let arcs = length_repeated s.arcs fresh_arc in
    let buckets = length-replicate (2 ^ s.bits) none in
    let queue = length_repeated s.jobs fresh_cell in
    let workers = length_repeated s.workers (bare_worker IDLE none 0) in
    tables (lay_table (fresh_jobs s) t.jobs (need job_shape s.jobs) (omega arith) h.jobs i)
    (lay_table (fresh_arcs s) t.arcs (need arc_shape s.arcs) (omega arith) h.arcs i)
    (lay_table (fresh_buckets s) t.buckets (need bucket_shape (2 ^ s.bits)) (omega arith) h.buckets i)
    (lay_table (fresh_queue s) t.queue (need queue_shape s.jobs) (omega arith) h.queue i)
    (lay_table (fresh_workers s) t.workers (need worker_shape s.workers) (omega arith) h.workers i)

-- laying out: where there is room for the sizes, a fresh graph, the rest as it was; else number 1, and nothing changed
pub laid_out_lem : (s : Sizes) (t : Tables)
    → lay_out s t ≡ pick (room_for s t) (result_of Laid (joined (fresh s) (rest s t))) (result_of (Refused wrong_size 0) t)
unfolding lay_out
laid_out_lem s t = test (room_for s t)
    (λ e. let h : long_enough s t ≡ true = search parts in rw (e, lay_fresh s t (long h)))
    (λ e. rw e)

-- ---- the same of any laying-out, in two cases, by the words alone
pub record LaysOut (lay : Sizes → Tables → Result Tables) (s : Sizes) (t : Tables) : Type 0 where
  pub by_1 : (Roomy s t → ⊥) → lay s t ≡ result_of (Refused wrong_size 0) t
  pub lays : Roomy s t → lay s t ≡ result_of Laid (joined (fresh s) (rest s t))
  pub lengths : lengths (lay s t).state ≡ lengths t
  pub minutes : Roomy s t → (c : ℕ) → c < 16 → get_or (lay s t).state.jobs (5 + c) 0 ≡ get_or fixed_minutes c 0

-- a run of stores keeps each table's length
lay_lengths : (s : Sizes) (t : Tables) → lengths (fresh_tables s t) ≡ lengths t
unfolding fresh_tables
lay_lengths s t =
    rw (
      length-sets t.jobs 0 (fresh_jobs s),
      length-sets t.arcs 0 (fresh_arcs s),
      length-sets t.buckets 0 (fresh_buckets s),
      length-sets t.queue 0 (fresh_queue s),
      length-sets t.workers 0 (fresh_workers s),
    )

fresh_minutes_lem : (s : Sizes) (l : List ℕ) (c : ℕ) → c < 16 → get_or (fresh_jobs s ++ l) (5 + c) 0 ≡ get_or fixed_minutes c 0
unfolding fixed_minutes
fresh_minutes_lem s l c h =
    ap (λ k. get_or (fresh_jobs s ++ l) k 0) {x = 5 + c} {y = suc (suc (suc (suc (suc c))))} (omega arith)
    ∙ get_or-append (fixed_minutes ++ repeated s.jobs fresh_job) l 0 c
    (omega (arith, length-append fixed_minutes (repeated s.jobs fresh_job)))
    ∙ get_or-append fixed_minutes (repeated s.jobs fresh_job) 0 c h

lay_kept : (s : Sizes) (t : Tables) → lengths (lay_out s t).state ≡ lengths t
unfolding lay_out
lay_kept s t = test (room_for s t) (λ e. rw e (lay_lengths s t)) (λ e. rw e)

pub lays_out : (s : Sizes) (t : Tables) → LaysOut lay_out s t
lays_out s t =
    let laid : Roomy s t → lay_out s t ≡ result_of Laid (joined (fresh s) (rest s t)) =
    λ h. rw (laid_out_lem s t, (room_means s t).1 h) in
    record {
      by_1 = λ f. rw (laid_out_lem s t, fails (room_for s t) (room_means s t).0 f);
      lays = laid;
      lengths = lay_kept s t;
      minutes = λ h c o. rw (laid h) (fresh_minutes_lem s (rest s t).jobs c o);
    }
