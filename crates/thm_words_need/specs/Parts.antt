-- Tables cut in two: the words that given sizes need, and the words past them; and what is read of tables so joined.
-- Follows docs/RULES.md, "Tables and their measures": "words past a table's need are never touched".
use Rattle.std.specs.Prelude.{◌≡◌, refl, Bool, true, false, List, [], ◌∷◌, ◌++◌, ℕ, ◌+◌, ◌*◌, ◌^◌, ◌≤◌, ◌<◌, ltb, leb, length, get_or, take, drop}
use Rattle.std.proofs.Common.{ap, ◌∙◌, append-nil, arith, take-append-drop, drop_of_length-le, length-append, get_or-take, length-take-le, take_all, take_at, drop_at}
use Rattle.std.proofs.Math.Path.{fun_ext}
use Rattle.std.proofs.Math.Decide.{dec_lt}
use Rattle.std.proofs.Math.ListN.{get_or-append}
use borrow.Author.Tests.{ltb-true, leb-true, lt-ltb, le-leb}
use Rattle.def_basics.specs.Base.{pick}
use Rattle.def_terms.specs.declared.Sizes.{Sizes}
use Rattle.def_words.specs.Columns.{Shape, offset, Rows, rows, columns, header, inside}
use Rattle.def_words.specs.Layout.{job_shape, JOBS, ARCS, BITS, WORKERS, MADE, arc_shape, RESERVED, bucket_shape}
use Rattle.def_words.specs.Layout.{queue_shape}
use Rattle.def_words.specs.Layout.{TAKEN, PUT, worker_shape, Tables, tables, View, view, need, long_enough, sizes_kept}
use Rattle.thm_words_tests.specs.Tests.{test, parts, Long}

-- each table cut at its need: the words that the sizes need, and the words past them
abbrev cut_with : (ℕ → List ℕ → List ℕ) → Sizes → Tables → Tables
cut_with f s t =
    tables (f (need job_shape s.jobs) t.jobs) (f (need arc_shape s.arcs) t.arcs)
    (f (need bucket_shape (2 ^ s.bits)) t.buckets)
    (f (need queue_shape s.jobs) t.queue)
    (f (need worker_shape s.workers) t.workers)

abbrev pub needed : Sizes → Tables → Tables
needed = cut_with take

abbrev pub rest : Sizes → Tables → Tables
rest = cut_with drop

-- each table followed by more words
abbrev pub joined : Tables → Tables → Tables
joined t r =
    tables (t.jobs ++ r.jobs) (t.arcs ++ r.arcs) (t.buckets ++ r.buckets) (t.queue ++ r.queue)
    (t.workers ++ r.workers)

-- how long each table is
abbrev pub lengths : Tables → List ℕ
lengths t = length t.jobs ∷ length t.arcs ∷ length t.buckets ∷ length t.queue ∷ length t.workers ∷ []

-- the sizes that the tables keep
abbrev pub laid_out : Tables → Sizes
laid_out t = record {
  jobs = header t.jobs JOBS;
  arcs = header t.jobs ARCS;
  bits = header t.jobs BITS;
  workers = header t.jobs WORKERS;
}

-- ---- a table cut and joined again
-- what is as long as the first part, before the second part, is cut off there again
cut : (n : ℕ) (l m : List ℕ) → length m ≡ length (take n l)
    → (take n (m ++ drop n l) ≡ m) × (drop n (m ++ drop n l) ≡ drop n l)
cut n l m e = elim (dec_lt (length l) n) [
  | yes h ↦
      let d = drop_of_length-le l {i = n} (omega arith) in
      let o : length m ≤ n = rw (e, take_all n l (omega arith)) (omega arith) in
      rw (d, append-nil) (take_all n m o, drop_of_length-le m o)
  | no h ↦ let o : length m ≡ n = e ∙ length-take-le n l (omega arith) in (take_at m _ n o, drop_at m _ n o)
]

long_cut : (n : ℕ) (l : List ℕ) → leb n (length (take n l)) ≡ leb n (length l)
long_cut n l = elim (dec_lt (length l) n) [
  | yes h ↦ rw (take_all n l (omega arith))
  | no h ↦ rw (length-take-le n l (omega arith), le-leb n n (omega arith), le-leb n (length l) (omega arith))
]

-- ---- what is read in the first part
module _ (s : Shape) (R : ℕ) (l m : List ℕ) (r : Rows s R l) where
  pub header_joined : (k : ℕ) → ltb k s.head ≡ true → header (l ++ m) k ≡ header l k
  unfolding header rows
  header_joined k e =
      let fits = leb-true (s.head + s.width * R) (length l) r in
      get_or-append l m 0 k (omega (arith, ltb-true k s.head e))

  pub columns_joined : (k i : ℕ) → ltb i R ≡ true → columns s (l ++ m) k i ≡ columns s l k i
  unfolding columns
  columns_joined k i h = test (ltb k s.width)
      (λ e. rw e
      (get_or-append l m 0 (offset s i k) (inside s R l i k r (ltb-true i R h) (ltb-true k s.width e))))
      (λ e. rw e)

-- ---- what the steps read
-- the fields of the records within the sizes, and 0 past them
abbrev pub clip : Sizes → View → View
clip s v = record {
  made = v.made;
  reserved = v.reserved;
  taken = v.taken;
  put = v.put;
  job = λ k j. pick (ltb j s.jobs) (v.job k j) 0;
  arc = λ k x. pick (ltb x s.arcs) (v.arc k x) 0;
  bucket = λ k i. pick (ltb i (2 ^ s.bits)) (v.bucket k i) 0;
  cell = λ k i. pick (ltb i s.jobs) (v.cell k i) 0;
  worker = λ k w. pick (ltb w s.workers) (v.worker k w) 0;
}

clip_columns : (s : Shape) (R : ℕ) (l m : List ℕ) → Rows s R l
    → ◌≡◌ {A = ℕ → ℕ → ℕ} (λ k i. pick (ltb i R) (columns s (l ++ m) k i) 0) (λ k i. pick (ltb i R) (columns s l k i) 0)
clip_columns s R l m r =
    fun_ext (λ k. fun_ext (λ i. test (ltb i R) (λ e. rw e (columns_joined s R l m r k i e)) (λ e. rw e)))

-- none of it lies past the need
pub clip_joined : (s : Sizes) (t r : Tables) → Long s t → clip s (view (joined t r)) ≡ clip s (view t)
clip_joined s t r h i = record {
  made = header_joined job_shape s.jobs t.jobs r.jobs h.jobs MADE refl i;
  reserved = header_joined arc_shape s.arcs t.arcs r.arcs h.arcs RESERVED refl i;
  taken = header_joined queue_shape s.jobs t.queue r.queue h.queue TAKEN refl i;
  put = header_joined queue_shape s.jobs t.queue r.queue h.queue PUT refl i;
  job = clip_columns job_shape s.jobs t.jobs r.jobs h.jobs i;
  arc = clip_columns arc_shape s.arcs t.arcs r.arcs h.arcs i;
  bucket = clip_columns bucket_shape (2 ^ s.bits) t.buckets r.buckets h.buckets i;
  cell = clip_columns queue_shape s.jobs t.queue r.queue h.queue i;
  worker = clip_columns worker_shape s.workers t.workers r.workers h.workers i;
}

-- ---- two plans are one, which keeps to P
abbrev pub Alike : {A : Type 0} (P : A → Type 0) → A → A → Type 0
Alike P x y = (x ≡ y) × P x

-- what is planned by reading v is planned by reading it within the sizes alone
abbrev pub Reads : {A : Type 0} → Sizes → View → (A → Type 0) → (View → A) → Type 0
Reads s v P f = Alike P (f v) (f (clip s v))

pub choose : {A : Type 0} (P : A → Type 0) (b : Bool) {x y x' y' : A}
    → (b ≡ true → Alike P x x') → (b ≡ false → Alike P y y')
    → Alike P (pick b x y) (pick b x' y')
choose P true f g = f refl
choose P false f g = g refl

-- what lies below a counter in its range lies within its size
pub within : (j c n : ℕ) → leb c n ≡ true → ltb j c ≡ true → ltb j n ≡ true
within j c n a b = lt-ltb j n (omega (arith, leb-true c n a, ltb-true j c b))

-- ---- tables cut and joined again
pub whole : (s : Sizes) (t : Tables) → joined (needed s t) (rest s t) ≡ t
whole s t i =
    tables (take-append-drop (need job_shape s.jobs) t.jobs i)
    (take-append-drop (need arc_shape s.arcs) t.arcs i)
    (take-append-drop (need bucket_shape (2 ^ s.bits)) t.buckets i)
    (take-append-drop (need queue_shape s.jobs) t.queue i)
    (take-append-drop (need worker_shape s.workers) t.workers i)

pub needed_again : (s : Sizes) (t u : Tables) → lengths u ≡ lengths (needed s t)
    → (needed s (joined u (rest s t)) ≡ u) × (rest s (joined u (rest s t)) ≡ rest s t)
needed_again s t u e =
    let a = cut (need job_shape s.jobs) t.jobs u.jobs (ap (λ l. get_or l 0 0) e) in
    let b = cut (need arc_shape s.arcs) t.arcs u.arcs (ap (λ l. get_or l 1 0) e) in
    let c = cut (need bucket_shape (2 ^ s.bits)) t.buckets u.buckets (ap (λ l. get_or l 2 0) e) in
    let d = cut (need queue_shape s.jobs) t.queue u.queue (ap (λ l. get_or l 3 0) e) in
    let f = cut (need worker_shape s.workers) t.workers u.workers (ap (λ l. get_or l 4 0) e) in
    (λ i. tables (a.0 i) (b.0 i) (c.0 i) (d.0 i) (f.0 i), λ i. tables (a.1 i) (b.1 i) (c.1 i) (d.1 i) (f.1 i))

-- ---- the tests of number 1
pub long_needed : (s : Sizes) (t : Tables) → long_enough s (needed s t) ≡ long_enough s t
unfolding long_enough
long_needed s t = simp long_cut

pub kept_needed : (s s' : Sizes) (t : Tables) → sizes_kept s' (needed s t).jobs ≡ sizes_kept s' t.jobs
unfolding sizes_kept header
kept_needed s s' t =
    rw (word JOBS (omega arith), word ARCS (omega arith), word BITS (omega arith), word WORKERS (omega arith))
  where
    word : (k : ℕ) → k < need job_shape s.jobs → get_or (needed s t).jobs k 0 ≡ get_or t.jobs k 0
    word k h = get_or-take (need job_shape s.jobs) t.jobs k 0 h

pub long_joined : (s : Sizes) (t r : Tables) → long_enough s t ≡ true → long_enough s (joined t r) ≡ true
unfolding long_enough
long_joined s t r e = rw (
  longer (need job_shape s.jobs) t.jobs r.jobs (search parts),
  longer (need arc_shape s.arcs) t.arcs r.arcs (search parts),
  longer (need bucket_shape (2 ^ s.bits)) t.buckets r.buckets (search parts),
  longer (need queue_shape s.jobs) t.queue r.queue (search parts),
  longer (need worker_shape s.workers) t.workers r.workers (search parts),
)
  where
    longer : (n : ℕ) (l m : List ℕ) → leb n (length l) ≡ true → leb n (length (l ++ m)) ≡ true
    longer n l m e = le-leb n (length (l ++ m)) (omega (arith, leb-true n (length l) e, length-append l m))

pub kept_joined : (s : Sizes) (t r : Tables) → Long s t → sizes_kept s (t.jobs ++ r.jobs) ≡ sizes_kept s t.jobs
unfolding sizes_kept
kept_joined s t r h = let g = h.jobs in simp (header_joined job_shape s.jobs, g)
