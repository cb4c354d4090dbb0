-- For ALL tables: the words of a fresh graph, each by its offset and by numerals, of any laying-out; what the sizes do
-- not need is as it was. One laying-out alone does so: the words'. Follows docs/RULES.md, "Tables and their measures"
-- ("Laying out makes a fresh graph: no jobs, all workers idle and holding nothing, unused words 0, every place none")
-- and docs/TABLES.md, "A fresh graph".
use Rattle.std.specs.Prelude.{◌≡◌, refl, ℕ, zero, suc, ◌+◌, ◌*◌, ◌-◌, ◌^◌, ◌≤◌, ◌<◌, ◌/◌, ◌%◌, length, get_or, drop, replicate}
use Rattle.std.proofs.Common.{sym, ap, ◌∙◌, arith, mul-suc, mul-le-mul_left, mul_comm, div-add-mod', div-lt_iff_lt-mul, mod-lt, length-append, ext_get_or, get_or-drop}
use mathlib.Core.List.{List, [], ◌∷◌, ◌++◌}
use Rattle.std.proofs.Math.Decide.{dec_lt}
use Rattle.std.proofs.Math.ListN.{length-replicate, get_or-append}
use Rattle.def_basics.specs.Laws.{never, get_d_past}
use Rattle.def_minutes.specs.Minutes.{fixed_minutes}
use Rattle.def_terms.specs.Runs.{Result, result_of}
use Rattle.def_terms.specs.declared.Sizes.{Sizes}
use Rattle.def_terms.specs.declared.Answer.TheVariants.{Laid, Refused}
use Rattle.def_words.specs.Layout.{Tables, tables, repeated, fresh_jobs, fresh_arcs, fresh_buckets, fresh_queue}
use Rattle.def_words.specs.Layout.{fresh_workers}
use Rattle.def_words.specs.Layout.{fresh_job, fresh_arc, fresh_cell, bare_worker, room_for}
use Rattle.def_words.specs.Words.{lay_out}
use Rattle.thm_words_tests.specs.Tests.{test}
use Rattle.thm_words_tests.specs.Judged.{Roomy, room_means}
use Rattle.thm_words_need.specs.Parts.{lengths, rest, joined}
use Rattle.thm_words_loads.specs.Laying.{fresh, lays_out}

-- ---- the statement
-- from offset i on stand the words r
abbrev pub Words : List ℕ → ℕ → List ℕ → Type 0
Words l i r = (k : ℕ) → k < length r → get_or l (i + k) 0 ≡ get_or r k 0

-- the tables u are a fresh graph for the sizes s, and past its need t
pub record FreshWords (s : Sizes) (t u : Tables) : Type 0 where
  -- the sizes, no jobs, and the minutes of the sixteen classes
  pub heading :
      Words u.jobs 0
      (s.jobs ∷ s.arcs ∷ s.bits ∷ s.workers ∷ 0 ∷ 1 ∷ 2 ∷ 3 ∷ 5 ∷ 8 ∷ 10 ∷ 15 ∷ 20 ∷ 30 ∷ 45 ∷ 60 ∷ 90 ∷ 120 ∷ 180
      ∷ 240 ∷ 480 ∷ [])
  -- name, label, count, class and grower 0; first and last arc and next job none; outcome and spoiled word 0
  pub job : (j : ℕ) → j < s.jobs
      → Words u.jobs (21 + 10 * j)
      (0 ∷ 0 ∷ 0 ∷ 0 ∷ 0 ∷ 4294967295 ∷ 4294967295 ∷ 4294967295 ∷ 0 ∷ 0 ∷ [])
  -- no arc is reserved; each has no dependent and no next
  pub reserved : get_or u.arcs 0 0 ≡ 0
  pub arc : (i : ℕ) → i < s.arcs → Words u.arcs (1 + 2 * i) (4294967295 ∷ 4294967295 ∷ [])
  -- no bucket has a job
  pub bucket : (i : ℕ) → i < 2 ^ s.bits → get_or u.buckets i 0 ≡ 4294967295
  -- none taken and none put; each cell, slot and position none
  pub counters : Words u.queue 0 (0 ∷ 0 ∷ [])
  pub cell : (i : ℕ) → i < s.jobs → Words u.queue (2 + 3 * i) (4294967295 ∷ 4294967295 ∷ 4294967295 ∷ [])
  -- idle, holding none; name, count, class, grower, tally and place 0, job and arc none, note 0; 32 names 0
  pub worker : (w : ℕ) → w < s.workers
      → Words u.workers (43 * w)
      (0 ∷ 4294967295 ∷ 0 ∷ 0 ∷ 0 ∷ 0 ∷ 0 ∷ 0 ∷ 4294967295 ∷ 4294967295 ∷ 0 ∷ [])
  pub names : (w : ℕ) → w < s.workers → (i : ℕ) → i < 32 → get_or u.workers (43 * w + 11 + i) 0 ≡ 0
  -- "words past a table's need are never touched"
  pub jobs_past : (i : ℕ) → 21 + 10 * s.jobs ≤ i → get_or u.jobs i 0 ≡ get_or t.jobs i 0
  pub arcs_past : (i : ℕ) → 1 + 2 * s.arcs ≤ i → get_or u.arcs i 0 ≡ get_or t.arcs i 0
  pub buckets_past : (i : ℕ) → 2 ^ s.bits ≤ i → get_or u.buckets i 0 ≡ get_or t.buckets i 0
  pub queue_past : (i : ℕ) → 2 + 3 * s.jobs ≤ i → get_or u.queue i 0 ≡ get_or t.queue i 0
  pub workers_past : (i : ℕ) → 43 * s.workers ≤ i → get_or u.workers i 0 ≡ get_or t.workers i 0
  pub jobs_long : length u.jobs ≡ length t.jobs
  pub arcs_long : length u.arcs ≡ length t.arcs
  pub buckets_long : length u.buckets ≡ length t.buckets
  pub queue_long : length u.queue ≡ length t.queue
  pub workers_long : length u.workers ≡ length t.workers

-- of any laying-out: where there is room for the sizes a fresh graph, else number 1, and nothing changed
pub record LaysFresh (lay : Sizes → Tables → Result Tables) (s : Sizes) (t : Tables) : Type 0 where
  pub by_1 : (Roomy s t → ⊥) → lay s t ≡ result_of (Refused 1 0) t
  pub lays : Roomy s t → ((lay s t).answer ≡ Laid) × FreshWords s t (lay s t).state

-- ---- records that follow each other
length_repeated : (n : ℕ) (r : List ℕ) → length (repeated n r) ≡ length r * n
unfolding repeated
length_repeated zero r = omega arith
length_repeated (suc n) r = omega (arith, length-append r (repeated n r), length_repeated n r, mul-suc (length r) n)

repeated_at : (n : ℕ) (r : List ℕ) (i k : ℕ) → i < n → k < length r
    → get_or (repeated n r) (length r * i + k) 0 ≡ get_or r k 0
unfolding repeated
repeated_at zero r i k h b = absurd (omega arith)
repeated_at (suc n) r zero k h b =
    ap (λ m. get_or (r ++ repeated n r) m 0) {x = length r * 0 + k} {y = k} (omega arith)
    ∙ get_or-append r (repeated n r) 0 k b
repeated_at (suc n) r (suc i) k h b =
    ap (λ m. get_or (r ++ repeated n r) m 0) {x = length r * suc i + k} {y = length r + (length r * i + k)}
    (omega (arith, mul-suc (length r) i))
    ∙ get_d_past r (repeated n r) (length r * i + k)
    ∙ repeated_at n r i k (omega arith) b

-- a table: a heading, n records, and what follows
module _ (h r : List ℕ) (n : ℕ) (l : List ℕ) where
  abbrev table : List ℕ
  table = (h ++ repeated n r) ++ l

  length_table : length (h ++ repeated n r) ≡ length h + length r * n
  length_table = omega (arith, length-append h (repeated n r), length_repeated n r)

  head_at : (k : ℕ) → k < length h → get_or table k 0 ≡ get_or h k 0
  head_at k b =
      get_or-append (h ++ repeated n r) l 0 k (omega (arith, length-append h (repeated n r)))
      ∙ get_or-append h (repeated n r) 0 k b

  record_at_lem : (i k : ℕ) → i < n → k < length r → get_or table (length h + (length r * i + k)) 0 ≡ get_or r k 0
  record_at_lem i k b c =
      let o : length r * suc i ≤ length r * n = mul-le-mul_left (length r) b in
      get_or-append (h ++ repeated n r) l 0 (length h + (length r * i + k))
      (omega (arith, length_table, mul-suc (length r) i))
      ∙ get_d_past h (repeated n r) (length r * i + k)
      ∙ repeated_at n r i k b c

get_d_replicate : (n x i : ℕ) → i < n → get_or (replicate n x) i 0 ≡ x
get_d_replicate zero x i h = absurd (omega arith)
get_d_replicate (suc n) x zero h = refl
get_d_replicate (suc n) x (suc i) h = get_d_replicate n x i (omega arith)

-- what follows the first m words of a list is what follows others
past_at : (x l : List ℕ) (m i : ℕ) → length x ≡ m → m ≤ i → get_or (x ++ drop m l) i 0 ≡ get_or l i 0
past_at x l m i e h =
    ap (λ k. get_or (x ++ drop m l) k 0) {x = i} {y = length x + (i - m)} (omega arith)
    ∙ get_d_past x (drop m l) (i - m)
    ∙ get_or-drop m l (i - m) 0
    ∙ ap (λ k. get_or l k 0) {x = m + (i - m)} {y = i} (omega arith)

-- ---- the words' laying-out
abbrev heading : Sizes → List ℕ
heading s =
    s.jobs ∷ s.arcs ∷ s.bits ∷ s.workers ∷ 0 ∷ 1 ∷ 2 ∷ 3 ∷ 5 ∷ 8 ∷ 10 ∷ 15 ∷ 20 ∷ 30 ∷ 45 ∷ 60 ∷ 90 ∷ 120 ∷ 180
    ∷ 240 ∷ 480 ∷ []

-- a field of a record, where a table begins with a heading of n words
at : (l : List ℕ) (n m i k : ℕ) → get_or l (n + m * i + k) 0 ≡ get_or l (n + (m * i + k)) 0
at l n m i k = ap (λ x. get_or l x 0) {x = n + m * i + k} {y = n + (m * i + k)} (omega arith)

head_word_lem : (l : List ℕ) (k : ℕ) → get_or l (0 + k) 0 ≡ get_or l k 0
head_word_lem l k = ap (λ x. get_or l x 0) {x = 0 + k} {y = k} (omega arith)

module _ (s : Sizes) (t : Tables) where
  abbrev after : Tables
  after = joined (fresh s) (rest s t)

  abbrev idle : List ℕ
  idle = bare_worker 0 4294967295 0

  fresh_heading : Words after.jobs 0 (heading s)
  unfolding fixed_minutes
  fresh_heading k h = head_word_lem after.jobs k ∙ head_at (heading s) fresh_job s.jobs (rest s t).jobs k h

  fresh_job_lem : (j : ℕ) → j < s.jobs → Words after.jobs (21 + 10 * j) fresh_job
  unfolding fixed_minutes
  fresh_job_lem j h k b =
      at after.jobs 21 10 j k ∙ record_at_lem (heading s) fresh_job s.jobs (rest s t).jobs j k h b

  fresh_arc_lem : (i : ℕ) → i < s.arcs → Words after.arcs (1 + 2 * i) fresh_arc
  fresh_arc_lem i h k b = at after.arcs 1 2 i k ∙ record_at_lem (0 ∷ []) fresh_arc s.arcs (rest s t).arcs i k h b

  fresh_bucket : (i : ℕ) → i < 2 ^ s.bits → get_or after.buckets i 0 ≡ 4294967295
  fresh_bucket i h =
      get_or-append (fresh_buckets s) (rest s t).buckets 0 i
      (omega (arith, length-replicate {A = ℕ} (2 ^ s.bits) 4294967295))
      ∙ get_d_replicate (2 ^ s.bits) 4294967295 i h

  fresh_counters : Words after.queue 0 (0 ∷ 0 ∷ [])
  fresh_counters k h = head_word_lem after.queue k ∙ head_at (0 ∷ 0 ∷ []) fresh_cell s.jobs (rest s t).queue k h

  fresh_cell_lem : (i : ℕ) → i < s.jobs → Words after.queue (2 + 3 * i) fresh_cell
  fresh_cell_lem i h k b = at after.queue 2 3 i k ∙ record_at_lem (0 ∷ 0 ∷ []) fresh_cell s.jobs (rest s t).queue i k h b

  own_word_lem : (w : ℕ) → w < s.workers → (k : ℕ) → k < 43 → get_or after.workers (43 * w + k) 0 ≡ get_or idle k 0
  own_word_lem w h k b =
      ap (λ x. get_or after.workers x 0) {x = 43 * w + k} {y = 0 + (43 * w + k)} (omega arith)
      ∙ record_at_lem [] idle s.workers (rest s t).workers w k h b

  abbrev idle_words : List ℕ
  idle_words = 0 ∷ 4294967295 ∷ 0 ∷ 0 ∷ 0 ∷ 0 ∷ 0 ∷ 0 ∷ 4294967295 ∷ 4294967295 ∷ 0 ∷ []

  fresh_worker : (w : ℕ) → w < s.workers → Words after.workers (43 * w) idle_words
  fresh_worker w h k b =
      own_word_lem w h k (omega arith)
      ∙ get_or-append idle_words (replicate 32 0) 0 k b

  fresh_names : (w : ℕ) → w < s.workers → (i : ℕ) → i < 32 → get_or after.workers (43 * w + 11 + i) 0 ≡ 0
  fresh_names w h i b =
      ap (λ x. get_or after.workers x 0) {x = 43 * w + 11 + i} {y = 43 * w + (11 + i)} (omega arith)
      ∙ own_word_lem w h (11 + i) (omega arith)
      ∙ get_d_past idle_words (replicate 32 0) i
      ∙ get_d_replicate 32 0 i b

  fresh_words : lengths after ≡ lengths t → FreshWords s t after
  unfolding fixed_minutes
  fresh_words e = record {
    heading = fresh_heading;
    job = fresh_job_lem;
    reserved = refl;
    arc = fresh_arc_lem;
    bucket = fresh_bucket;
    counters = fresh_counters;
    cell = fresh_cell_lem;
    worker = fresh_worker;
    names = fresh_names;
    jobs_past = λ i h. past_at (fresh_jobs s) t.jobs (21 + 10 * s.jobs) i
        (length_table (heading s) fresh_job s.jobs []) h;
    arcs_past = λ i h. past_at (fresh_arcs s) t.arcs (1 + 2 * s.arcs) i
        (length_table (0 ∷ []) fresh_arc s.arcs []) h;
    buckets_past = λ i h. past_at (fresh_buckets s) t.buckets (0 + 1 * 2 ^ s.bits) i
        (omega (arith, length-replicate {A = ℕ} (2 ^ s.bits) 4294967295)) (omega arith);
    queue_past = λ i h. past_at (fresh_queue s) t.queue (2 + 3 * s.jobs) i
        (length_table (0 ∷ 0 ∷ []) fresh_cell s.jobs []) h;
    workers_past = λ i h. past_at (fresh_workers s) t.workers (0 + 43 * s.workers) i
        (length_table [] idle s.workers []) (omega arith);
    jobs_long = cc;
    arcs_long = cc;
    buckets_long = cc;
    queue_long = cc;
    workers_long = cc;
  }

pub lays_fresh : (s : Sizes) (t : Tables) → LaysFresh lay_out s t
lays_fresh s t =
    let laid = lays_out s t in
    record {
      by_1 = laid.by_1;
      lays = λ h.
          let e = laid.lays h in
          let l : lengths (after s t) ≡ lengths t = rw e at laid.lengths in
          rw e (refl, fresh_words s t l);
    }

-- ---- one laying-out alone does so
-- what is the same in each record of width m, after a heading of n words, is the same
module _ (u v : List ℕ) (n m R : ℕ) where
  abbrev Same : ℕ → Type 0
  Same x = get_or u x 0 ≡ get_or v x 0

  spread : 0 < m → ((i : ℕ) → i < R → (k : ℕ) → k < m → Same (n + m * i + k))
      → (x : ℕ) → n ≤ x → x < n + m * R → Same x
  spread z f x a b =
      let d = div-add-mod' (x - n) m in
      let e : x ≡ n + m * ((x - n) / m) + (x - n) % m = omega (arith, mul_comm m ((x - n) / m)) in
      let o : (x - n) / m < R = (div-lt_iff_lt-mul z).1 (omega (arith, mul_comm m R)) in
      rw e (f ((x - n) / m) o ((x - n) % m) (mod-lt (x - n) z))

  -- with the heading, and what follows, all is the same
  same_list : 0 < m → length u ≡ length v → ((k : ℕ) → k < n → Same k)
      → ((i : ℕ) → i < R → (k : ℕ) → k < m → Same (n + m * i + k))
      → ((x : ℕ) → n + m * R ≤ x → Same x)
      → u ≡ v
  same_list z l h f g = ext_get_or 0 u v l each
    where
      each : (x : ℕ) → x < length u → Same x
      each x b = elim (dec_lt x n) [
        | yes a ↦ h x a
        | no a ↦ elim (dec_lt x (n + m * R)) [
          | yes c ↦ spread z f x (omega arith) c
          | no c ↦ g x (omega arith)
        ]
      ]

module _ {s : Sizes} {t u v : Tables} (p : FreshWords s t u) (q : FreshWords s t v) where
  same_jobs : u.jobs ≡ v.jobs
  same_jobs =
      same_list u.jobs v.jobs 21 10 s.jobs (omega arith) (p.jobs_long ∙ sym q.jobs_long)
      (λ k h. sym (head_word_lem u.jobs k) ∙ p.heading k h ∙ sym (q.heading k h) ∙ head_word_lem v.jobs k)
      (λ i h k b. p.job i h k b ∙ sym (q.job i h k b))
      (λ x h. p.jobs_past x h ∙ sym (q.jobs_past x h))

  same_arcs : u.arcs ≡ v.arcs
  same_arcs =
      same_list u.arcs v.arcs 1 2 s.arcs (omega arith) (p.arcs_long ∙ sym q.arcs_long)
      (λ k h. let z : k ≡ 0 = omega arith in rw z (p.reserved ∙ sym q.reserved))
      (λ i h k b. p.arc i h k b ∙ sym (q.arc i h k b))
      (λ x h. p.arcs_past x h ∙ sym (q.arcs_past x h))

  same_buckets : u.buckets ≡ v.buckets
  same_buckets =
      same_list u.buckets v.buckets (2 ^ s.bits) 1 0 (omega arith) (p.buckets_long ∙ sym q.buckets_long)
      (λ k h. p.bucket k h ∙ sym (q.bucket k h))
      (λ i h k b. absurd (omega arith))
      (λ x h. p.buckets_past x (omega arith) ∙ sym (q.buckets_past x (omega arith)))

  same_queue : u.queue ≡ v.queue
  same_queue =
      same_list u.queue v.queue 2 3 s.jobs (omega arith) (p.queue_long ∙ sym q.queue_long)
      (λ k h. sym (head_word_lem u.queue k) ∙ p.counters k h ∙ sym (q.counters k h) ∙ head_word_lem v.queue k)
      (λ i h k b. p.cell i h k b ∙ sym (q.cell i h k b))
      (λ x h. p.queue_past x h ∙ sym (q.queue_past x h))

  same_own : (w : ℕ) → w < s.workers → (k : ℕ) → k < 43
      → get_or u.workers (43 * w + k) 0 ≡ get_or v.workers (43 * w + k) 0
  same_own w h k b = elim (dec_lt k 11) [
    | yes c ↦ p.worker w h k c ∙ sym (q.worker w h k c)
    | no c ↦
        let e : 43 * w + k ≡ 43 * w + 11 + (k - 11) = omega arith in
        rw e (p.names w h (k - 11) (omega arith) ∙ sym (q.names w h (k - 11) (omega arith)))
  ]

  same_workers : u.workers ≡ v.workers
  same_workers =
      same_list u.workers v.workers 0 43 s.workers (omega arith) (p.workers_long ∙ sym q.workers_long)
      (λ k h. absurd (omega arith))
      (λ i h k b. let e : 0 + 43 * i + k ≡ 43 * i + k = omega arith in rw e (same_own i h k b))
      (λ x h. p.workers_past x (omega arith) ∙ sym (q.workers_past x (omega arith)))

  pub same_fresh : u ≡ v
  same_fresh i = tables (same_jobs i) (same_arcs i) (same_buckets i) (same_queue i) (same_workers i)

pub lays_alone : (lay : Sizes → Tables → Result Tables) → ((s : Sizes) (t : Tables) → LaysFresh lay s t)
    → (s : Sizes) (t : Tables) → lay s t ≡ lay_out s t
lays_alone lay x s t = test (room_for s t)
    (λ e.
    let h = (room_means s t).0 e in
    let a = (x s t).lays h in
    let b = (lays_fresh s t).lays h in
    λ i. result_of ((a.0 ∙ sym b.0) i) (same_fresh a.1 b.1 i))
    (λ e.
    let h : Roomy s t → ⊥ = λ r. let f = (room_means s t).1 r in never (cc) in
    (x s t).by_1 h ∙ sym ((lays_fresh s t).by_1 h))
