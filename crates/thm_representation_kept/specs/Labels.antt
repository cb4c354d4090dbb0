-- Marking and getting: a label stored, with the outcome for a mark; for a get the next job taken from the queue.
-- Follows docs/RULES.md, "Steps": the mark of a finish, and get.
use Rattle.std.specs.Prelude.{◌≡◌, ◌≢◌, Bool, List, set}
use Rattle.std.proofs.Math.Path.{refl}
use Rattle.std.proofs.Common.{ap, arith}
use Prim.Native.Nat.{ℕ, suc, ◌+◌, ◌<◌}
use Rattle.std.proofs.Math.ListN.{length}
use Rattle.def_basics.specs.Laws.{update_same}
use Rattle.def_terms.specs.Terms.{Label, executing, label_number, bit}
use Rattle.def_terms.specs.Order.{without}
use Rattle.def_terms.specs.declared.Sizes.{Sizes}
use Rattle.def_words.specs.Columns.{store}
use Rattle.def_words.specs.Layout.{LABEL, OUTCOME, QUEUED, SLOT, NOTE, view, Tables, View}
use Rattle.def_words.specs.Index.{levels}
use Rattle.def_words.specs.Observed.{jobs_in}
use Rattle.def_words.specs.Words.{applied, applied_get}
use Rattle.def_words.specs.declared.Plan.TheVariants.{Mark}
use Rattle.def_words.specs.declared.GetPlan.TheVariants.{Take}
use Rattle.def_rules.specs.Rules.{Call, Worker, Graph, job, with_label, ended, marked, hand_out, handed_out, with_jobs}
use Rattle.def_rules.specs.Rules.{with_queue, with_workers}
use Rattle.def_rules.specs.Sound.{Sound, started_by}
use Rattle.thm_representation.specs.Rep.{Ghost, Row, Index, Unused, TablesRep, Stands}
use Rattle.thm_representation_kept.specs.Stand.{TablesStand, view_of, limits_of}
use Rattle.thm_representation_kept.specs.Change.{started_set, change_rep, row_other, no_store, one_store}
use Rattle.thm_representation_kept.specs.Change.{job_stands}
use Rattle.thm_representation_kept.specs.InSlots.{slot_has, index_kept}
use Rattle.thm_representation_kept.specs.Unused.{unused_take}
use Rattle.thm_representation_kept.specs.Slots.{seat_take}
use Rattle.thm_representation_kept.specs.Queue.{seat_left, leaving, next_there, next_waits, slots_fit, queue_take}
use Rattle.thm_representation_kept.specs.Queue.{length-take, index_take, slots_within}

-- the graph with job j's label l, and the queue q
abbrev labelled : Graph → ℕ → Label → List ℕ → (ℕ → Worker) → Graph
labelled g j l q h = with_jobs (with_queue (with_workers g h) q) (set g.jobs j (with_label (job g j) l))

-- ---- over the maps
module _ (s : Sizes) (v : View) (g : Graph) (G : Ghost) (R : TablesRep s v g G) (j : ℕ) (hj : j < length g.jobs)
    (l : Label)
    (r : ℕ → ℕ → ℕ) (h : ℕ → Worker) where
  abbrev f : ℕ → ℕ → ℕ
  f = store v.job j LABEL (label_number l)

  here : j < s.jobs → Row f j (G.via j) (with_label (job g j) l)
  here b =
      let o = R.rows j b in
      record {
        name = o.name;
        label = update_same (v.job LABEL) j (label_number l);
        count = o.count;
        class = o.class;
        grower = o.grower;
        first = o.first;
        last = o.last;
        outcome = o.outcome;
        spoiled = o.spoiled;
      }

  there : (k : ℕ) → k ≢ j → k < s.jobs → Row f k (G.via k) (job g k)
  there k e b = row_other v.job j LABEL (label_number l) k e (R.rows k b)

  -- a job that is started, and no more in the queue, which then is q
  take_rep : (taken puts : ℕ) (k : ℕ → ℕ → ℕ) (q : List ℕ) → taken ≡ v.taken + 1 → puts ≡ v.put
      → length g.queue ≡ suc (length q) → started_by (job g j).label ≡ 0 → started_by l ≡ 1
      → jobs_in (k QUEUED) 0 puts ≡ q
      → Index (view_of v.made v.reserved taken puts f v.arc v.bucket k r) (length q)
      → Unused s.jobs v.put (length q) k
      → TablesRep s (view_of v.made v.reserved taken puts f v.arc v.bucket k r) (labelled g j l q h) G
  take_rep taken puts k q a b c x y d I U =
      change_rep s v g G R j hj (with_label (job g j) l) refl refl f k refl refl taken puts q r h here there
      (omega (arith, R.taken, started_set g.jobs j (with_label (job g j) l) hj))
      (omega (arith, R.put))
      d
      I
      (rw b U)

-- the job p, which was handed out, ends: failed, or good
module _ (s : Sizes) (v : View) (g : Graph) (G : Ghost) (R : TablesRep s v g G) (p : ℕ) (hp : p < length g.jobs)
    (fa : Bool) (r : ℕ → ℕ → ℕ) (h : ℕ → Worker) where
  abbrev label : ℕ → ℕ → ℕ
  label = store v.job p LABEL 2

  abbrev outcomes : ℕ → ℕ → ℕ
  outcomes = store label p OUTCOME (bit fa)

  ended_here : p < s.jobs → Row outcomes p (G.via p) (ended (job g p) fa)
  ended_here b =
      let o = R.rows p b in
      record {
        name = o.name;
        label = update_same (v.job LABEL) p 2;
        count = o.count;
        class = o.class;
        grower = o.grower;
        first = o.first;
        last = o.last;
        outcome = update_same (v.job OUTCOME) p (bit fa);
        spoiled = o.spoiled;
      }

  ended_rep : (job g p).label ≡ executing
      → TablesRep s (view_of v.made v.reserved v.taken v.put outcomes v.arc v.bucket v.cell r)
      (with_jobs (with_workers g h) (set g.jobs p (ended (job g p) fa))) G
  ended_rep e =
      change_rep s v g G R p hp (ended (job g p) fa) refl refl outcomes v.cell refl refl v.taken v.put
      g.queue r h ended_here
      (λ k n b. row_other label p OUTCOME (bit fa) k n (row_other v.job p LABEL 2 k n (R.rows k b)))
      (omega (arith, R.taken, started_set g.jobs p (ended (job g p) fa) hp, ap started_by e))
      R.put
      R.queue
      (index_kept v (length g.queue) R.index _ _ _ outcomes _ _ r (λ p b e. refl))
      R.unused

-- ---- over the words
module _ (s : Sizes) (t : Tables) (g : Graph) (G : Ghost) (S : Stands s t g G) (O : Sound s g) where
  abbrev R : TablesRep s (view t) g G
  R = S.rep

  -- the note of the worker is the outcome
  pub mark_stands : (w p x : ℕ) (f : Bool) (c : Call) → (view t).worker NOTE w ≡ bit f → p < length g.jobs
      → (job g p).label ≡ executing
      → TablesStand s (applied (Mark p x) t w) (marked g w p f c) G
  unfolding applied
  mark_stands w p x f c n hp e =
      let b : p < s.jobs = omega (arith, O.jobs) in
      rw n
      (job_stands s t g G S
      (one_store p OUTCOME (bit f) refl b (one_store p LABEL 2 refl b (no_store s t.jobs S.jobs)))
      t.queue _ _ S.queue
      (ended_rep s (view t) g G R p hp f _ _ e)
      refl)

  pub get_stands : (w n : ℕ) (full : length g.queue ≡ suc n)
      → let j = (view t).cell QUEUED ((view t).cell SLOT 0) in
      TablesStand s (applied_get (Take (hand_out g j) (seat_left s t g G S O n full)) t w)
      (handed_out g w j (without j g.queue))
      G
  unfolding applied_get
  get_stands w n full =
      let j : ℕ = (view t).cell QUEUED ((view t).cell SLOT 0) in
      let there : j < length g.jobs = next_there s t g G S O n full in
      let b : j < s.jobs = omega (arith, O.jobs) in
      let fits = slots_fit s t g G S O n full in
      let left : length (without j g.queue) ≡ n = length-take s t g G S O n full in
      let q = seat_take s.jobs t.queue S.queue ((view t).cell SLOT 0) n (leaving s t g G S O n full).at
      fits.0 fits.1 (leaving s t g G S O n full).within
      (rw full at (slots_within s t g G S O)) in
      job_stands s t g G S (one_store j LABEL 1 refl b (no_store s t.jobs S.jobs)) _ _ _ q.rows
      (take_rep s (view t) g G R j there executing _ _ _ _ _ (without j g.queue) q.taken q.puts
      (omega arith)
      (ap started_by (O.queue_unexecuted j (next_waits s t g G S O n full)))
      refl
      (rw (q.puts, q.cells) (queue_take s t g G S O n full))
      (rw left (index_take s t g G S O n full _ q.puts refl q.cells q.slots q.positions))
      (rw left (unused_take s.jobs (view t).put (omega (arith, (limits_of s S.limits).jobs)) (view t).cell _ n
      (leaving s t g G S O n full).at levels ((view t).cell SLOT 0) (rw full at R.unused)
      (leaving s t g G S O n full).within (rw full at (slot_has (view t) (length g.queue) R.index))
      q.cells q.slots q.positions)))
      refl
