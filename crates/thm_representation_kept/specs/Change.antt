-- One job changed, but not its name, its list and its dependents: the tables stand for the graph after, whatever
-- happens to the queue. Also the number of jobs that were started, and the stores of the jobs table that keep the sizes
-- laid out and the minutes. Follows docs/RULES.md, "Tables and their measures".
use Rattle.std.specs.Prelude.{◌≡◌, refl, ◌≢◌, true, List, [], ◌∷◌, ◌++◌, ℕ, zero, suc, ◌+◌, ◌<◌, ltb, length, get_or, set}
use Rattle.std.proofs.Common.{sym, ap, ◌∙◌, arith, eq-eqb, ne_eqb, lt-ltb, length-set}
use Rattle.std.proofs.Math.Decide.{ℕ_discrete}
use Rattle.def_numbers.specs.Numbers.{classes}
use Rattle.def_basics.specs.Laws.{set_all, update_other}
use Rattle.def_terms.specs.declared.Sizes.{Sizes}
use Rattle.def_words.specs.Columns.{columns, columns_put, put, store, Rows, rows_put, header, header_put, stores}
use Rattle.def_words.specs.Layout.{job_shape, NAME, LABEL, COUNT, CLASS, GROWER, FIRST, LAST, NEXT, queue_shape, QUEUED}
use Rattle.def_words.specs.Layout.{OUTCOME, SPOILED, MADE, TAKEN, PUT, worker_shape, MINUTES, sizes_kept, stored_minutes}
use Rattle.def_words.specs.Layout.{Tables, tables, view, View}
use Rattle.def_words.specs.Observed.{jobs_in}
use Rattle.def_rules.specs.Rules.{Job, Worker, Graph, no_job, job, with_jobs, with_queue, with_workers}
use Rattle.def_rules.specs.Sound.{started, started_by}
use Rattle.thm_representation.specs.Rep.{Ghost, Row, Index, Unused, TablesRep, Stands}
use Rattle.thm_representation_kept.specs.Lists.{cells_same}
use Rattle.thm_representation_kept.specs.Stand.{TablesStand, view_of}

pub kept_put : (s : Sizes) (l : List ℕ) (i k x : ℕ) → sizes_kept s (put job_shape l i k x) ≡ sizes_kept s l
unfolding sizes_kept
kept_put s l i k x = simp stores

-- a store in a job's record leaves the minutes
pub minutes_put : (l : List ℕ) (i k x : ℕ) → stored_minutes (put job_shape l i k x) ≡ stored_minutes l
minutes_put l i k x =
    cells_same (header l) (header (put job_shape l i k x)) MINUTES classes
    (λ q a b. header_put job_shape l i k x q (lt-ltb q job_shape.head (omega arith)))

-- ---- a store in one row
pub store_off : (f : ℕ → ℕ → ℕ) (i k x q u : ℕ) → u ≢ i → store f i k x q u ≡ f q u
store_off f i k x q u e = elim (ℕ_discrete q k) [
  | yes z ↦ rw (eq-eqb q k z) (update_other (f k) i x u e ∙ ap (λ y. f y u) (sym z))
  | no z ↦ rw (ne_eqb q k z)
]

-- leaves the rows of the other jobs
pub row_other : (f : ℕ → ℕ → ℕ) (j q x k : ℕ) → k ≢ j → {l : List ℕ} {y : Job} → Row f k l y
    → Row (store f j q x) k l y
row_other f j q x k h o =
    let same : (r : ℕ) → store f j q x r k ≡ f r k = λ r. store_off f j q x r k h in
    record {
      name = same NAME ∙ o.name;
      label = same LABEL ∙ o.label;
      count = same COUNT ∙ o.count;
      class = same CLASS ∙ o.class;
      grower = same GROWER ∙ o.grower;
      first = same FIRST ∙ o.first;
      last = same LAST ∙ o.last;
      outcome = same OUTCOME ∙ o.outcome;
      spoiled = same SPOILED ∙ o.spoiled;
    }

-- the jobs table n after stores in the records of jobs, f being its columns then: what is not in a record stays
pub record JobsAfter (s : Sizes) (l n : List ℕ) (f : ℕ → ℕ → ℕ) : Type 0 where
  pub kept : sizes_kept s n ≡ sizes_kept s l
  pub minutes : stored_minutes n ≡ stored_minutes l
  pub made : header n MADE ≡ header l MADE
  pub rows : Rows job_shape s.jobs n
  pub columns : columns job_shape n ≡ f

-- none, and one more
pub no_store : (s : Sizes) (l : List ℕ) → Rows job_shape s.jobs l → JobsAfter s l l (columns job_shape l)
no_store s l r = record { kept = refl; minutes = refl; made = refl; rows = r; columns = refl }

pub one_store : {s : Sizes} {l n : List ℕ} {f : ℕ → ℕ → ℕ} (i k x : ℕ) → ltb k job_shape.width ≡ true → i < s.jobs
    → JobsAfter s l n f → JobsAfter s l (put job_shape n i k x) (store f i k x)
one_store {s} {l} {n} {f} i k x e h N = record {
  kept = kept_put s n i k x ∙ N.kept;
  minutes = minutes_put n i k x ∙ N.minutes;
  made = header_put job_shape n i k x MADE refl ∙ N.made;
  rows = rows_put job_shape s.jobs n i k x ∙ N.rows;
  columns = columns_put job_shape s.jobs n i k x e N.rows h ∙ ap (λ c. store c i k x) N.columns;
}

-- the tables after such stores, and with another queue q
pub job_stands : (s : Sizes) (t : Tables) (g : Graph) (G : Ghost) → Stands s t g G
    → {n : List ℕ} {f : ℕ → ℕ → ℕ} → JobsAfter s t.jobs n f → (q l : List ℕ) (h : Graph)
    → Rows queue_shape s.jobs q
    → TablesRep s
    (view_of (view t).made (view t).reserved (header q TAKEN) (header q PUT) f (view t).arc (view t).bucket
    (columns queue_shape q) (columns worker_shape l))
    h
    G
    → h.minutes ≡ g.minutes
    → TablesStand s (tables n t.arcs t.buckets q l) h G
job_stands s t g G S N q l h queue rep same = record {
  kept = N.kept ∙ S.kept;
  minutes = N.minutes ∙ S.minutes ∙ sym same;
  jobs = N.rows;
  arcs = S.arcs;
  buckets = S.buckets;
  queue = queue;
  rep = rw (N.made, N.columns) rep;
}

-- ---- the jobs started
pub started_set : (l : List Job) (j : ℕ) (y : Job) → j < length l
    → started (set l j y) + started_by (get_or l j no_job).label ≡ started l + started_by y.label
unfolding started
started_set [] j y h = absurd (omega arith)
started_set (x ∷ l) zero y h = omega arith
started_set (x ∷ l) (suc j) y h = omega (arith, started_set l j y (omega arith))

pub started_append : (l : List Job) (y : Job) → started (l ++ (y ∷ [])) ≡ started l + started_by y.label
unfolding started
started_append [] y = omega arith
started_append (x ∷ l) y = omega (arith, started_append l y)

-- ---- the change of a job: after it the columns f of the jobs, the queue q in the cells c, the workers' columns r
module _ (s : Sizes) (v : View) (g : Graph) (G : Ghost) (R : TablesRep s v g G) (j : ℕ) (hj : j < length g.jobs)
    (y : Job)
    (lists : y.list ≡ (job g j).list) (dependents : y.dependents ≡ (job g j).dependents)
    (f c : ℕ → ℕ → ℕ) (names : f NAME ≡ v.job NAME) (nexts : f NEXT ≡ v.job NEXT) (taken put : ℕ) (q : List ℕ)
    (r : ℕ → ℕ → ℕ) (h : ℕ → Worker) where
  all : (P : ℕ → Job → Type 0) → P j y → ((k : ℕ) → k ≢ j → P k (job g k)) → (k : ℕ)
      → P k (get_or (set g.jobs j y) k no_job)
  all P = set_all P g.jobs j y no_job hj

  count : length (set g.jobs j y) ≡ length g.jobs
  count = length-set g.jobs j y

  lists_then : (k : ℕ) → (get_or (set g.jobs j y) k no_job).list ≡ (job g k).list
  lists_then = all (λ k z. z.list ≡ (job g k).list) lists (λ k e. refl)

  dependents_then : (k : ℕ) → (get_or (set g.jobs j y) k no_job).dependents ≡ (job g k).dependents
  dependents_then = all (λ k z. z.dependents ≡ (job g k).dependents) dependents (λ k e. refl)

  pub change_rep : (j < s.jobs → Row f j (G.via j) y) → ((k : ℕ) → k ≢ j → k < s.jobs → Row f k (G.via k) (job g k))
      → taken ≡ started (set g.jobs j y) → put ≡ taken + length q
      → jobs_in (c QUEUED) 0 put ≡ q
      → Index (view_of v.made v.reserved taken put f v.arc v.bucket c r) (length q)
      → Unused s.jobs put (length q) c
      → TablesRep s
      (view_of v.made v.reserved taken put f v.arc v.bucket c r)
      (with_jobs (with_queue (with_workers g h) q) (set g.jobs j y))
      G
  change_rep here there a b d I U = record {
    made = R.made ∙ sym count;
    reserved = R.reserved;
    taken = a;
    put = b;
    queue = d;
    index = I;
    unused = U;
    rows = all (λ k z. k < s.jobs → Row f k (G.via k) z) here there;
    buckets = λ k o. rw (count, names, nexts) (R.buckets k o);
    lengths = λ p. R.lengths p ∙ sym (ap length (dependents_then p));
    arcs = λ p i o. rw (dependents_then p) (R.arcs p i o);
    mine = λ k i o e. R.mine k i (rw count at o) (rw (lists_then k) at e);
  }
