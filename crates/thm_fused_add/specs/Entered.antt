-- The tables with a job entered: a stage for the links. Follows docs/RULES.md, "Steps": entering makes the job at the
-- head of its bucket and reserves its arcs.
use Rattle.std.specs.Prelude.{◌≡◌, true, List, [], ◌∷◌, ℕ, suc, ◌+◌, ◌^◌, ◌<◌, set}
use Rattle.std.proofs.Math.Path.{refl}
use Rattle.std.proofs.Common.{ap, ◌∙◌, arith}
use Rattle.std.proofs.lemmas.List.Edits.{sets}
use Rattle.def_basics.specs.Base.{update}
use Rattle.def_basics.specs.Laws.{update_same, update_other}
use Rattle.def_bucket.specs.Bucket.{bucket_of}
use Rattle.def_bucket.specs.Laws.{below}
use Rattle.def_terms.specs.Terms.{Arguments}
use Rattle.def_terms.specs.declared.Sizes.{Sizes}
use Rattle.def_words.specs.Columns.{Shape, offset, Rows, columns, put, store, columns_put, columns_put_header}
use Rattle.def_words.specs.Columns.{header_put_header, stores}
use Rattle.def_words.specs.Layout.{Tables, View, view, none, job_shape, arc_shape, bucket_shape, MADE, RESERVED, NAME}
use Rattle.def_words.specs.Layout.{LABEL}
use Rattle.def_words.specs.Layout.{COUNT, CLASS, GROWER, FIRST, LAST, NEXT, OUTCOME, SPOILED, LOOKING, sizes_fit, NEWEST}
use Rattle.def_words.specs.declared.Plan.TheVariants.{Enter}
use Rattle.def_fused.specs.FusedWorker.{add_worker}
use Rattle.def_fused.specs.FusedAdd.{new_record, entered_tables}
use Rattle.thm_fused_steps.specs.Deeds.{stored_by}
use Rattle.thm_fused_steps.specs.Kept.{stored_fits}
use Rattle.thm_fused_add.specs.FindStable.{find_entered}
use Rattle.thm_fused_add.specs.Room.{room}
use Rattle.thm_fused_add.specs.Stage.{Stage}

-- ---- a record stored at once is its fields stored one after the other
abbrev puts : Shape → List ℕ → ℕ → ℕ → List ℕ → List ℕ
puts s l i k [] = l
puts s l i k (x ∷ r) = puts s (put s l i k x) i (suc k) r

record_puts : (s : Shape) (l : List ℕ) (i k : ℕ) (r : List ℕ) → sets l (offset s i k) r ≡ puts s l i k r
unfolding put
record_puts s l i k [] = refl
record_puts s l i k (x ∷ r) =
    ap (λ n. sets (set l (offset s i k) x) n r) {x = suc (offset s i k)} {y = offset s i (suc k)} (omega arith)
    ∙ record_puts s (put s l i k x) i (suc k) r

module _ (s : Sizes) (t : Tables) (a : Arguments) (fit : sizes_fit s t ≡ true) (more : (view t).made < s.jobs) where
  abbrev v : View
  v = view t

  abbrev k : ℕ
  k = bucket_of a.name s.bits

  abbrev head : ℕ
  head = v.bucket NEWEST k

  -- the jobs with the new job's record
  stored : List ℕ
  stored = sets t.jobs (offset job_shape v.made 0) (new_record a head)

  stored_puts : stored ≡ puts job_shape t.jobs v.made 0 (new_record a head)
  unfolding stored
  stored_puts = record_puts job_shape t.jobs v.made 0 (new_record a head)

  fits : sizes_fit s (entered_tables s t a) ≡ sizes_fit s t
  unfolding stored_by
  fits = stored_fits s (Enter v.made k head v.reserved) t (add_worker LOOKING 0 a 0 0 0 0 0)

  stored_columns : columns job_shape stored
      ≡ store (store (store (store (store (store (store (store (store (store v.job v.made NAME a.name)
      v.made LABEL 0) v.made COUNT a.count) v.made CLASS a.class) v.made GROWER a.grower)
      v.made FIRST none) v.made LAST none) v.made NEXT head) v.made OUTCOME 0) v.made SPOILED 0
  stored_columns =
      let r = (room s t fit).jobs in
      rw stored_puts (simp (columns_put job_shape s.jobs, stores, r))

  stored_long : Rows job_shape s.jobs stored
  stored_long =
      let r = (room s t fit).jobs in
      rw stored_puts (simp (stores, r))

  job_columns : (view (entered_tables s t a)).job ≡ columns job_shape stored
  unfolding stored
  job_columns = columns_put_header job_shape stored MADE (v.made + 1) refl

  -- a column that was stored in
  column : (q x : ℕ) → columns job_shape stored q ≡ update (v.job q) v.made x
      → (view (entered_tables s t a)).job q ≡ update (v.job q) v.made x
  column q x e = ap (λ (f : ℕ → ℕ → ℕ). f q) job_columns ∙ e

  names : (view (entered_tables s t a)).job NAME ≡ update (v.job NAME) v.made a.name
  names = column NAME a.name (ap (λ (f : ℕ → ℕ → ℕ). f NAME) stored_columns)

  counts : (view (entered_tables s t a)).job COUNT ≡ update (v.job COUNT) v.made a.count
  counts = column COUNT a.count (ap (λ (f : ℕ → ℕ → ℕ). f COUNT) stored_columns)

  nexts : (view (entered_tables s t a)).job NEXT ≡ update (v.job NEXT) v.made head
  nexts = column NEXT head (ap (λ (f : ℕ → ℕ → ℕ). f NEXT) stored_columns)

  pub entered_made : (view (entered_tables s t a)).made ≡ v.made + 1
  unfolding stored
  entered_made = header_put_header job_shape s.jobs stored MADE (v.made + 1) refl stored_long

  pub entered_reserved : (view (entered_tables s t a)).reserved ≡ v.reserved + a.count
  entered_reserved =
      header_put_header arc_shape s.arcs t.arcs RESERVED (v.reserved + a.count) refl (room s t fit).arcs

  heads : (view (entered_tables s t a)).bucket NEWEST ≡ update (v.bucket NEWEST) k v.made
  heads =
      ap (λ (f : ℕ → ℕ → ℕ). f 0)
      (columns_put bucket_shape (2 ^ s.bits) t.buckets k 0 v.made refl (room s t fit).buckets
      (below a.name s.bits))

  at : (q x : ℕ) → (view (entered_tables s t a)).job q ≡ update (v.job q) v.made x
      → (view (entered_tables s t a)).job q v.made ≡ x
  at q x e = ap (λ (f : ℕ → ℕ). f v.made) e ∙ update_same (v.job q) v.made x

  off : (q x : ℕ) → (view (entered_tables s t a)).job q ≡ update (v.job q) v.made x
      → (i : ℕ) → i < v.made → (view (entered_tables s t a)).job q i ≡ v.job q i
  off q x e i h = ap (λ (f : ℕ → ℕ). f i) e ∙ update_other (v.job q) v.made x i (omega arith)

  pub entered_stage : Stage s (view t) a (entered_tables s t a)
  entered_stage = record {
    sizes = fits ∙ fit;
    made = entered_made;
    reserved = entered_reserved;
    count = at COUNT a.count counts;
    finds = find_entered s v (view (entered_tables s t a)) a.name (omega (arith, (room s t fit).few)) entered_made
        heads
        (off NAME a.name names)
        (off NEXT head nexts)
        (at NAME a.name names)
        (at NEXT head nexts);
  }
