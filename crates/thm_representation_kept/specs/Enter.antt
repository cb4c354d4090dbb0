-- Entering: the new job's words stand for the new job, it is the newest of its bucket, and its arcs are reserved.
-- Follows docs/RULES.md, "Steps": entering "makes the job with remaining count d, and reserves the next d arcs".
use Rattle.std.specs.Prelude.{◌≡◌, refl, ◌≢◌, Bool, true, false, List, [], ◌∷◌, ◌++◌, ℕ, zero, suc, ◌+◌, ◌-◌, ◌^◌, ◌≤◌, ◌<◌, eqb, length, get_or}
use Rattle.std.proofs.Common.{sym, ap, ◌∙◌, arith, length-append, lt-ltb, le-ltb, ne_eqb, eqb-true}
use Rattle.std.proofs.Math.Decide.{ℕ_discrete}
use Rattle.std.proofs.Math.ListN.{get_or-eq_default}
use Rattle.std.proofs.lemmas.List.Edits.{sets}
use Rattle.std.proofs.lemmas.Bool.{eqb-false}
use Rattle.def_numbers.specs.Numbers.{classes}
use Rattle.def_basics.specs.Base.{pick, occurrences}
use Rattle.def_basics.specs.Laws.{update_same, update_at, update_other, length_prefix, snoc_all}
use Rattle.def_bucket.specs.Bucket.{bucket_of}
use Rattle.def_bucket.specs.Laws.{below}
use Rattle.def_terms.specs.Terms.{Arguments, Tally}
use Rattle.def_terms.specs.declared.Sizes.{Sizes}
use Rattle.def_words.specs.Columns.{offset, Rows, columns, columns_put, store}
use Rattle.def_words.specs.Columns.{header, put_header, header_put_header, header_other, rows_put_header, stores}
use Rattle.def_words.specs.Layout.{none, job_shape, JOBS, ARCS, BITS, WORKERS, MADE, NAME, LABEL, COUNT, CLASS, GROWER}
use Rattle.def_words.specs.Layout.{FIRST, LAST, NEXT, arc_shape, bucket_shape, QUEUED, LIST_COUNT, view, sizes_kept}
use Rattle.def_words.specs.Layout.{Tables}
use Rattle.def_words.specs.Layout.{OUTCOME, SPOILED, MINUTES, stored_minutes, View, NEWEST}
use Rattle.def_words.specs.Words.{applied, entered_job}
use Rattle.def_words.specs.declared.Plan.TheVariants.{Enter}
use Rattle.def_rules.specs.Rules.{Job, Graph, no_job, job, new_job, entered}
use Rattle.def_rules.specs.Sound.{Sound}
use Rattle.thm_representation.specs.Rep.{Bucket, Ghost, enter_ghost, Row, Linked, TablesRep, AddWords, Stands}
use Rattle.thm_representation_kept.specs.Lists.{cells_same}
use Rattle.thm_representation_kept.specs.Records.{rows_sets, record_at_lem, record_off, header_record}
use Rattle.thm_representation_kept.specs.Stand.{TablesStand, view_of}
use Rattle.thm_representation_kept.specs.InSlots.{index_kept}
use Rattle.thm_representation_kept.specs.Cells.{cell_occurs}
use Rattle.thm_representation_kept.specs.Change.{started_append}

-- ---- a bucket reads only the jobs below its end
bucket_frame : (next next' bucket bucket' : ℕ → ℕ) (k from n : ℕ) → ((j : ℕ) → j < n → next' j ≡ next j)
    → ((j : ℕ) → j < n → bucket' j ≡ bucket j)
    → Bucket next bucket k from n → Bucket next' bucket' k from n
bucket_frame next next' bucket bucket' k from zero a b h = h
bucket_frame next next' bucket bucket' k from (suc n) a b h =
    rw (b n (omega arith))
    (go (eqb (bucket n) k) (λ x. bucket_frame next next' bucket bucket' k x n (λ j z. a j (omega arith))
    (λ j z. b j (omega arith))) h)
  where
    go : (t : Bool) → ((x : ℕ) → Bucket next bucket k x n → Bucket next' bucket' k x n)
        → pick t ((from ≡ n) × Bucket next bucket k (next n) n) (Bucket next bucket k from n)
        → pick t ((from ≡ n) × Bucket next' bucket' k (next' n) n) (Bucket next' bucket' k from n)
    go true rest z = (z.0, rw (a n (omega arith)) (rest (next n) z.1))
    go false rest z = rest from z

-- the words of the new job, before which the job `head` was the newest of its bucket
pub record NewRow (f : ℕ → ℕ → ℕ) (n head : ℕ) (a : Arguments) : Type 0 where
  pub name : f NAME n ≡ a.name
  pub label : f LABEL n ≡ 0
  pub count : f COUNT n ≡ a.count
  pub class : f CLASS n ≡ a.class
  pub grower : f GROWER n ≡ a.grower
  pub first : f FIRST n ≡ none
  pub last : f LAST n ≡ none
  pub next : f NEXT n ≡ head
  pub outcome : f OUTCOME n ≡ 0
  pub spoiled : f SPOILED n ≡ 0

-- ---- over the maps: f the jobs' columns after
module _ (s : Sizes) (v : View) (g : Graph) (G : Ghost) (R : TablesRep s v g G) (w : ℕ) (a : Arguments)
    (f r : ℕ → ℕ → ℕ)
    (new : NewRow f (length g.jobs) (v.bucket NEWEST (bucket_of a.name s.bits)) a)
    (old : (q k : ℕ) → k ≢ length g.jobs → f q k ≡ v.job q k)
    (queued : (j : ℕ) → 0 < occurrences j g.queue → j < length g.jobs) where
  abbrev n : ℕ
  n = length g.jobs

  abbrev x : Job
  x = new_job a

  abbrev H : Ghost
  H = enter_ghost G n g.reserved

  abbrev bucket : ℕ → ℕ
  bucket z = bucket_of z s.bits

  abbrev heads : ℕ → ℕ → ℕ
  heads = store v.bucket (bucket a.name) NEWEST n

  more : length (g.jobs ++ (x ∷ [])) ≡ suc n
  more = omega (arith, length-append g.jobs (x ∷ []))

  blank : job g n ≡ no_job
  blank = get_or-eq_default g.jobs no_job {n = n} (omega arith)

  bare : length (G.via n) ≡ 0
  bare = R.lengths n ∙ ap (λ y. length y.dependents) blank

  -- a fact of the jobs after: of the new one, and of each that was there
  all : (P : ℕ → Job → Type 0) → P n x → ((k : ℕ) → k ≢ n → P k (job g k)) → (k : ℕ) → P k (job (entered g w a) k)
  all P = snoc_all P g.jobs x no_job

  rows : (j : ℕ) → j < s.jobs → Row f j (G.via j) (job (entered g w a) j)
  rows = all (λ k y. k < s.jobs → Row f k (G.via k) y)
      (λ b. record {
        name = new.name;
        label = new.label;
        count = new.count;
        class = new.class;
        grower = new.grower;
        first = new.first ∙ sym (get_or-eq_default (G.via n) none {n = 0} (omega (arith, bare)));
        last = new.last ∙ sym (get_or-eq_default (G.via n) none {n = length (G.via n) - 1} (omega (arith, bare)));
        outcome = new.outcome;
        spoiled = new.spoiled;
      })
      (λ k e b. let o = R.rows k b in
      record {
        name = old NAME k e ∙ o.name;
        label = old LABEL k e ∙ o.label;
        count = old COUNT k e ∙ o.count;
        class = old CLASS k e ∙ o.class;
        grower = old GROWER k e ∙ o.grower;
        first = old FIRST k e ∙ o.first;
        last = old LAST k e ∙ o.last;
        outcome = old OUTCOME k e ∙ o.outcome;
        spoiled = old SPOILED k e ∙ o.spoiled;
      })

  abbrev Chain : ℕ → ℕ → Type 0
  Chain k from = Bucket (f NEXT) (λ j. bucket (f NAME j)) k from n

  was : (k : ℕ) → k < 2 ^ s.bits → (from : ℕ) → from ≡ v.bucket NEWEST k → Chain k from
  was k b from e =
      rw e
      (bucket_frame (v.job NEXT) (f NEXT) (λ j. bucket (v.job NAME j)) (λ j. bucket (f NAME j)) k
      (v.bucket NEWEST k) n
      (λ j c. old NEXT j (omega arith))
      (λ j c. ap bucket (old NAME j (omega arith)))
      (R.buckets k b))

  chains : (k : ℕ) → k < 2 ^ s.bits → (t : Bool) → eqb (bucket a.name) k ≡ t
      → pick t ((heads 0 k ≡ n) × Chain k (f NEXT n)) (Chain k (heads 0 k))
  chains k b true e =
      let z = eqb-true (bucket a.name) k e in (
        update_at (v.bucket NEWEST) (bucket a.name) n k (sym z),
        was k b (f NEXT n) (new.next ∙ ap (v.bucket NEWEST) z),
      )
  chains k b false e =
      was k b (heads NEWEST k) (update_other (v.bucket NEWEST) (bucket a.name) n k
      (λ z. eqb-false (bucket a.name) k e (sym z)))

  spent : (b : ℕ) → b < g.reserved → b < G.base (G.owner b) + G.linked (G.owner b)
      → b < H.base (H.owner b) + H.linked (H.owner b)
  spent b c e = rw (lt-ltb b g.reserved c) (elim (ℕ_discrete (G.owner b) n) [
    | yes z ↦ omega (arith, update_at G.base n g.reserved (G.owner b) z)
    | no z ↦ rw (update_other G.base n g.reserved (G.owner b) z, update_other G.linked n 0 (G.owner b) z) e
  ])

  arcs : (p i : ℕ) → i < length (G.via p)
      → Linked v.arc H (g.reserved + a.count) p i (get_or (G.via p) i none) (get_or (G.via p) (suc i) none)
      (get_or (job (entered g w a) p).dependents i 0)
  arcs p i = all (λ k y. i < length (G.via k)
      → Linked v.arc H (g.reserved + a.count) k i (get_or (G.via k) i none) (get_or (G.via k) (suc i) none)
      (get_or y.dependents i 0))
      (λ c. absurd (omega (arith, bare)))
      (λ k e c. let o = R.arcs k i c in
      record {
        next = o.next;
        dependent = o.dependent;
        below = omega (arith, o.below);
        source = o.source;
        rank = o.rank;
        spent = spent (get_or (G.via k) i none) o.below o.spent;
      })
      p

  mine : (j i : ℕ) → j < suc n → i < length (job (entered g w a) j).list
      → (H.owner (H.base j + i) ≡ j) × (H.base j + i < g.reserved + a.count)
  mine j i = all (λ k y. k < suc n → i < length y.list
      → (H.owner (H.base k + i) ≡ k) × (H.base k + i < g.reserved + a.count))
      (λ b c. rw (update_same G.base n g.reserved, le-ltb (g.reserved + i) g.reserved (omega arith))
      (refl, omega (arith, length_prefix a.count a.names)))
      (λ k e b c. let o = R.mine k i (omega arith) c in
      rw (update_other G.base n g.reserved k e, lt-ltb (G.base k + i) g.reserved o.1)
      (o.0, omega (arith, o.1)))
      j

  enter_rep : (d : ℕ) → d ≡ a.count
      → TablesRep s (view_of (n + 1) (g.reserved + d) v.taken v.put f v.arc heads v.cell r)
      (entered g w a) H
  enter_rep d e = record {
    made = omega (arith, more);
    reserved = omega arith;
    taken = omega (arith, R.taken, started_append g.jobs x);
    put = R.put;
    queue = R.queue;
    index = index_kept v (length g.queue) R.index _ _ _ f _ _ r
        (λ p b e. old CLASS (v.cell QUEUED p)
        (omega (arith, queued (v.cell QUEUED p) (rw R.queue at (cell_occurs (v.cell QUEUED) v.put p b e)))));
    unused = R.unused;
    rows = rows;
    buckets = λ k b. rw (more, new.name) (chains k b (eqb (bucket a.name) k) refl);
    lengths = all (λ k y. length (G.via k) ≡ length y.dependents) bare (λ k e. R.lengths k);
    arcs = arcs;
    mine = λ j i b c. mine j i (omega (arith, more)) c;
  }

-- ---- over the words: the new record and the number of jobs leave the sizes laid out and the minutes
kept_record : (s : Sizes) (l : List ℕ) (i x : ℕ) (r : List ℕ) → length r ≤ job_shape.width
    → sizes_kept s (put_header (sets l (offset job_shape i 0) r) MADE x) ≡ sizes_kept s l
unfolding sizes_kept
kept_record s l i x r h =
    let a = header_record job_shape 0 l i r h JOBS (omega arith) in
    let b = header_record job_shape 0 l i r h ARCS (omega arith) in
    let c = header_record job_shape 0 l i r h BITS (omega arith) in
    let d = header_record job_shape 0 l i r h WORKERS (omega arith) in
    simp (stores, a, b, c, d)

minutes_record : (l : List ℕ) (i x : ℕ) (r : List ℕ) → length r ≤ job_shape.width
    → stored_minutes (put_header (sets l (offset job_shape i 0) r) MADE x) ≡ stored_minutes l
minutes_record l i x r h =
    cells_same (header l) (header (put_header (sets l (offset job_shape i 0) r) MADE x)) MINUTES classes
    (λ q a b. header_other (sets l (offset job_shape i 0) r) MADE x q (ne_eqb q MADE (omega arith))
    ∙ header_record job_shape 0 l i r h q (omega arith))

module _ (s : Sizes) (t : Tables) (g : Graph) (G : Ghost) (S : Stands s t g G) (w : ℕ) (a : Arguments)
    (ph : ℕ) (ta : Tally) (pl jo ar : ℕ)
    (own : AddWords (view t).worker w a ph ta pl jo ar) (room : length g.jobs < s.jobs)
    (queued : (j : ℕ) → 0 < occurrences j g.queue → j < length g.jobs) where
  abbrev N : ℕ
  N = length g.jobs

  abbrev head : ℕ
  head = (view t).bucket NEWEST (bucket_of a.name s.bits)

  abbrev row : List ℕ
  row = entered_job (view t) w head

  abbrev jobs : List ℕ
  jobs = sets t.jobs (offset job_shape N 0) row

  word : (q : ℕ) → q < job_shape.width → columns job_shape jobs q N ≡ get_or row q 0
  word q h = record_at_lem job_shape s.jobs t.jobs N row (omega arith) S.jobs room q h

  new_row : NewRow (columns job_shape jobs) N head a
  new_row = record {
    name = word NAME (omega arith) ∙ own.name;
    label = word LABEL (omega arith);
    count = word COUNT (omega arith) ∙ own.count;
    class = word CLASS (omega arith) ∙ own.class;
    grower = word GROWER (omega arith) ∙ own.grower;
    first = word FIRST (omega arith);
    last = word LAST (omega arith);
    next = word NEXT (omega arith);
    outcome = word OUTCOME (omega arith);
    spoiled = word SPOILED (omega arith);
  }

  enter_all : TablesStand s (applied (Enter N (bucket_of a.name s.bits) head g.reserved) t w) (entered g w a)
      (enter_ghost G N g.reserved)
  unfolding applied
  enter_all =
      let rj : Rows job_shape s.jobs jobs =
      rows_sets job_shape s.jobs t.jobs (offset job_shape N 0) row ∙ S.jobs in
      let k : bucket_of a.name s.bits < 2 ^ s.bits = below a.name s.bits in
      record {
        kept = kept_record s t.jobs N (N + 1) row (omega arith) ∙ S.kept;
        minutes = minutes_record t.jobs N (N + 1) row (omega arith) ∙ S.minutes;
        jobs = rows_put_header job_shape s.jobs jobs MADE (N + 1) ∙ rj;
        arcs = simp (stores, S.arcs);
        buckets = simp (stores, S.buckets);
        queue = S.queue;
        rep = simp (
          stores,
          header_put_header job_shape s.jobs,
          header_put_header arc_shape s.arcs,
          columns_put bucket_shape (2 ^ s.bits),
          rj,
          S.arcs,
          S.buckets,
          k,
        )
            (enter_rep s (view t) g G S.rep w a (columns job_shape jobs) _ new_row
            (λ q j e. record_off job_shape s.jobs t.jobs N row (omega arith) q j e)
            queued
            ((view t).worker LIST_COUNT w)
            own.count);
      }

module _ (s : Sizes) (t : Tables) (g : Graph) (G : Ghost) (S : Stands s t g G) (O : Sound s g) where
  pub enter_stands : (w : ℕ) (a : Arguments) (ph : ℕ) (ta : Tally) (pl jo ar : ℕ)
      → AddWords (view t).worker w a ph ta pl jo ar
      → length g.jobs < s.jobs
      → g.reserved + a.count ≤ s.arcs
      → TablesStand s
      (applied (Enter (length g.jobs) (bucket_of a.name s.bits)
      ((view t).bucket NEWEST (bucket_of a.name s.bits)) g.reserved) t w)
      (entered g w a)
      (enter_ghost G (length g.jobs) g.reserved)
  enter_stands w a ph ta pl jo ar own room space = enter_all s t g G S w a ph ta pl jo ar own room O.queue_there
